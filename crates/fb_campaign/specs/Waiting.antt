-- The plans that wait for their turn while a campaign goes on.
use Rattle.std.specs.Prelude.{◌≡◌, ℕ, Some, List, [], ◌∷◌, ◌++◌, flat_map, slice_get}
use Rattle.fb_index.specs.declared.fault.Fault.{Fault}
use Rattle.fb_campaign.specs.Runs.{Runs, Gives, Choices, AreDistinct, AreLawful, AreChoices}
use Rattle.fb_campaign.specs.Plans.{extensions, plans}
use Rattle.fb_campaign.specs.Reports.{Line, plans_in}
use Rattle.fb_campaign.specs.Campaign.{parent_in}

-- some plans have had their turn, and others wait: together they are the empty plan and what extends those that have
abbrev pub Wait : Runs → Choices → ℕ → List (List Fault) → List (List Fault) → Type 0
Wait runs choices fuel past waiting = past ++ waiting ≡ [] ∷ flat_map (extensions runs choices fuel) past

-- of the plans that are left those that wait come first, and where none waits none is left
pub record ComeNext (waiting rest : List (List Fault)) : Type 0 where
  pub behind : List (List Fault)
  pub first : rest ≡ waiting ++ behind
  pub last : waiting ≡ [] → rest ≡ []

abbrev pub WaitingPlansComeNext : Type 0
WaitingPlansComeNext =
    (gives : Gives) (runs : Runs) (choices : Choices) → AreLawful gives runs → AreChoices gives choices →
    (fuel : ℕ) (past waiting rest : List (List Fault)) → plans runs choices fuel ≡ past ++ rest → Wait runs choices fuel past waiting →
    ComeNext waiting rest

-- where no two lines have one plan, the line with this number is that of the parent of what extends its plan
abbrev pub ParentsAreNumbered : Type 0
ParentsAreNumbered =
    (lines : List Line) (plan : List Fault) (fault : Fault) (number : ℕ) → AreDistinct (plans_in lines) →
    slice_get (plans_in lines) number ≡ Some plan → parent_in lines (plan ++ fault ∷ []) ≡ Some number
