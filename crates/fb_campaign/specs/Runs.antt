-- Runs of a test under plans, as far as a campaign asks for them, and what is asked of them.
use Rattle.std.specs.Prelude.{◌≡◌, ◌⊎◌, ℕ, ◌≤◌, nat_lt, Bool, true, false, Option, Some, None, is_some, List, [], ◌∷◌, ◌++◌, map, length, Contains, if◌then◌else◌}
use Rattle.std.specs.Option.{option_map_or, option_and_then}
use Rattle.fb_base.specs.declared.kind.Kind.{Kind}
use Rattle.fb_base.specs.declared.method.MethodId.{MethodId}
use Rattle.fb_base.specs.declared.reply.Reply.{Reply}
use Rattle.fb_base.specs.declared.reply.Reply.TheVariants as reply
use Rattle.fb_base.specs.Values.{has_kind}
use Rattle.fb_index.specs.Entry.{Occurrence}
use Rattle.fb_index.specs.Plan.{fault_at}
use Rattle.fb_index.specs.declared.fault.Fault.{Fault}
use Rattle.fb_tree.specs.declared.outcome.Outcome.{Outcome}
use Rattle.fb_tree.specs.declared.recorded.Record.{Record}
use Rattle.fb_tree.specs.declared.visit.Visit.{Visit}

-- a run that came to its end: its calls and its invocations, both in the order in which they begin, and how it ended
pub record Went : Type 0 where
  pub visits : List Visit
  pub records : List Record
  pub outcome : Outcome

-- the run with this fuel under this plan, none where it is spent
abbrev pub Runs : Type 0
Runs = ℕ → List Fault → Option Went

-- the kind that a method gives, by its number
abbrev pub Gives : Type 0
Gives = ℕ → Option Kind

-- the replies that are configured for a method
abbrev pub Choices : Type 0
Choices = MethodId → List Reply

-- no item is equal to one behind it
abbrev pub AreDistinct : {A : Type 0} → List A → Type 0
AreDistinct [] = Unit {0}
AreDistinct (item ∷ items) = (¬ (Contains items item)) × AreDistinct items

-- the method may give this reply: an error, or a value of its kind; where there is no such method it gives none
abbrev pub fits : Gives → MethodId → Reply → Bool
fits gives method (reply.Ok value) = option_map_or (has_kind value) (gives method.0) false
fits gives method (reply.Err code) = is_some (gives method.0)

-- a call that a service makes; the test's own calls have an index of one entry
abbrev pub is_between_services : List Occurrence → Bool
is_between_services index = nat_lt 1 (length index)

abbrev pub where_it_fits : Gives → MethodId → Reply → Option Reply
where_it_fits gives callee given = if fits gives callee given then Some given else None

-- the reply with which a plan answers a call in place of its callee
abbrev pub answer_to : Gives → List Fault → List Occurrence → MethodId → Option Reply
answer_to gives plan index callee =
    if is_between_services index then option_and_then (where_it_fits gives callee) (fault_at plan index) else None

-- up to here both runs made the same calls, and then one that they made alike but were answered differently
pub record PartAtFault (first second : List Visit) : Type 0 where
  pub shared : List Visit
  pub here : Visit
  pub there : Visit
  pub after_here : List Visit
  pub after_there : List Visit
  pub first_visits : first ≡ shared ++ here ∷ after_here
  pub second_visits : second ≡ shared ++ there ∷ after_there
  pub same_index : here.index ≡ there.index
  pub same_callee : here.callee ≡ there.callee
  pub other_fault : ¬ (here.fault ≡ there.fault)

pub record AreLawful (gives : Gives) (runs : Runs) : Type 0 where
  -- with more fuel it is the same run
  pub more_fuel : (n m : ℕ) (plan : List Fault) (went : Went) → n ≤ m → runs n plan ≡ Some went → runs m plan ≡ Some went
  -- a call's fault is the plan's answer to it
  pub answered : (n : ℕ) (plan : List Fault) (went : Went) → runs n plan ≡ Some went →
      (visit : Visit) → Contains went.visits visit → visit.fault ≡ answer_to gives plan visit.index visit.callee
  pub indexes_differ : (n : ℕ) (plan : List Fault) (went : Went) → runs n plan ≡ Some went →
      AreDistinct (map (λ visit. visit.index) went.visits)
  -- each call costs a unit of fuel
  pub few_calls : (n : ℕ) (plan : List Fault) (went : Went) → runs n plan ≡ Some went → length went.visits ≤ n
  -- two runs go alike until they are answered differently
  pub alike : (n : ℕ) (p q : List Fault) (first second : Went) → runs n p ≡ Some first → runs n q ≡ Some second →
      (first.visits ≡ second.visits) ⊎ PartAtFault first.visits second.visits

pub record AreChoices (gives : Gives) (choices : Choices) : Type 0 where
  pub fitting : (method : MethodId) (given : Reply) → Contains (choices method) given → fits gives method given ≡ true
  pub differ : (method : MethodId) → AreDistinct (choices method)
