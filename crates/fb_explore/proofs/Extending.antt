-- Plans that extend others: their parents, and that they can be told.
use Rattle.std.proofs.Common.{◌≡◌, ◌⊎◌, inl, inr, ℕ, zero, suc, ◌<◌, Bool, true, false, cond, ltb, Some, List, [], ◌∷◌, ◌++◌, length, flat_map, refl, sym, ap, ◌∙◌, subst, arith}
use Rattle.std.specs.Prelude.{slice_get, Contains}
use Rattle.std.specs.List.{All}
use Rattle.std.proofs.lemmas.Bool.Decides.{nat_tests}
use Rattle.std.proofs.lemmas.List.Elements.{All-append, All-cons, All-contains_itself, All-map, All-nil, All-weaker, Contains-append_left}
use Rattle.fb_base.specs.declared.reply.Reply.{Reply}
use Rattle.fb_base.specs.declared.reply.Reply.TheVariants as reply
use Rattle.fb_index.specs.Fault.{IsAtCall}
use Rattle.fb_index.specs.declared.fault.Fault.{Fault}
use Rattle.fb_tree.specs.declared.visit.Visit.{Visit}
use Rattle.fb_campaign.specs.Campaign.{parent_in}
use Rattle.fb_campaign.specs.Plans.{between_services, begun_after_plan, extensions_at, extensions_of}
use Rattle.fb_campaign.specs.Reports.{Line as CampaignLine, plans_in}
use Rattle.fb_campaign.specs.Runs.{Choices, AreDistinct, is_between_services}
use Rattle.fb_campaign.specs.Waiting.{ParentsAreNumbered}
use Rattle.fb_config.specs.Choices.{choices_for}
use Rattle.fb_config.specs.Fitting.{ChoosesValuesInVersion2}
use Rattle.fb_config.specs.declared.choices.ChoiceTable.{ChoiceTable}
use Rattle.fb_report.specs.Ranges.{IsOfVersion}
use Rattle.fb_worklist.specs.Worklists.{pending_of}
use Rattle.fb_worklist.specs.declared.pending.Pending.{Pending}
use Rattle.fb_explore.specs.Turns.{CanBeTold, parent_by, parent_of}

-- ---- parents

-- it extends the plan with the number of its parent by a fault
pub record IsExtension (past : List (List Fault)) (pending : Pending) : Type 0 where
  pub shorter : List Fault
  pub fault : Fault
  pub plan_is : pending.plan ≡ shorter ++ fault ∷ []
  pub there : slice_get past pending.parent ≡ Some shorter

abbrev pub HasParent : List (List Fault) → Pending → Type 0
HasParent past pending = (pending.plan ≡ []) ⊎ IsExtension past pending

parent_of_longer : (number : ℕ) (shorter : List Fault) (fault : Fault) → parent_by number (shorter ++ fault ∷ []) ≡ Some number
parent_of_longer number [] fault = refl
parent_of_longer number (first ∷ shorter) fault = refl

pub parent_is : ParentsAreNumbered → (lines : List CampaignLine) (pending : Pending) → AreDistinct (plans_in lines) → HasParent (plans_in lines) pending
    → parent_in lines pending.plan ≡ parent_of pending
parent_is law lines pending distinct (inl first) = ap (parent_in lines) first ∙ sym (ap (parent_by pending.parent) first)
parent_is law lines pending distinct (inr is) =
    ap (parent_in lines) is.plan_is ∙ law lines is.shorter is.fault pending.parent distinct is.there
    ∙ sym (ap (parent_by pending.parent) is.plan_is ∙ parent_of_longer pending.parent is.shorter is.fault)

pub distinct_front : (xs ys : List (List Fault)) → AreDistinct (xs ++ ys) → AreDistinct xs
distinct_front [] ys is = tt
distinct_front (x ∷ xs) ys is = ((λ has. is.0 (Contains-append_left xs ys x has)), distinct_front xs ys is.1)

kept_there : {A : Type 0} (xs ys : List A) (n : ℕ) (x : A) → slice_get xs n ≡ Some x → slice_get (xs ++ ys) n ≡ Some x
kept_there [] ys n x is = absurd (cc)
kept_there (y ∷ xs) ys zero x is = is
kept_there (y ∷ xs) ys (suc n) x is = kept_there xs ys n x is

pub still_there : (past more : List (List Fault)) (pending : Pending) → HasParent past pending → HasParent (past ++ more) pending
still_there past more pending (inl first) = inl first
still_there past more pending (inr is) =
    inr (record { shorter = is.shorter; fault = is.fault; plan_is = is.plan_is; there = kept_there past more pending.parent is.shorter is.there })

-- ---- extensions

module _ (choices : Choices) (plan : List Fault) (P : List Fault → Type 0)
    (each : (visit : Visit) (given : Reply) → is_between_services visit.index ≡ true → Contains (choices visit.callee) given →
    P (plan ++ record { index = visit.index; reply = given } ∷ [])) where
  all_at : (visit : Visit) → is_between_services visit.index ≡ true → All P (extensions_at choices plan visit)
  all_at visit between =
      All-map P (λ given. plan ++ record { index = visit.index; reply = given } ∷ []) (choices visit.callee)
      (All-weaker (Contains (choices visit.callee)) (λ given. P (plan ++ record { index = visit.index; reply = given } ∷ [])) (λ given. each visit given between) (choices visit.callee)
      (All-contains_itself (choices visit.callee)))

  all_between : (visits : List Visit) → All P (flat_map (extensions_at choices plan) (between_services visits))
  all_between [] = All-nil P
  all_between (visit ∷ visits) = by (is_between_services visit.index) refl (all_between visits)
    where
      by : (b : Bool) → is_between_services visit.index ≡ b → All P (flat_map (extensions_at choices plan) (between_services visits))
          → All P (flat_map (extensions_at choices plan) (between_services (visit ∷ visits)))
      by true is rest =
          subst (λ b. All P (flat_map (extensions_at choices plan) (cond b (visit ∷ between_services visits) (between_services visits)))) (sym is)
          (All-append P (extensions_at choices plan visit) (flat_map (extensions_at choices plan) (between_services visits)) (all_at visit is) rest)
      by false is rest =
          subst (λ b. All P (flat_map (extensions_at choices plan) (cond b (visit ∷ between_services visits) (between_services visits)))) (sym is) rest

  pub all_extensions : (visits : List Visit) → All P (extensions_of choices visits plan)
  all_extensions visits = all_between (begun_after_plan plan visits)

-- ---- plans that can be told

module _ (faults : ChoiceTable) (values : ChoosesValuesInVersion2 faults) (plan : List Fault) (can : CanBeTold faults.version plan) where
  of_version : (visit : Visit) (given : Reply) → Contains (choices_for faults visit.callee) given → IsOfVersion faults.version given
  of_version visit (reply.Ok v) has = values visit.callee v has
  of_version visit (reply.Err code) has = tt

  longer_can : (visit : Visit) (given : Reply) → is_between_services visit.index ≡ true → Contains (choices_for faults visit.callee) given
      → CanBeTold faults.version (plan ++ record { index = visit.index; reply = given } ∷ [])
  longer_can visit given between has =
      All-append (λ fault. IsAtCall fault × IsOfVersion faults.version fault.reply) plan (record { index = visit.index; reply = given } ∷ []) can
      (All-cons (λ fault. IsAtCall fault × IsOfVersion faults.version fault.reply) (record { index = visit.index; reply = given }) []
      (low (length visit.index) between, of_version visit given has) (All-nil (λ fault. IsAtCall fault × IsOfVersion faults.version fault.reply)))
    where
      low : (n : ℕ) → ltb 1 n ≡ true → 0 < n
      low n is = grind (arith, nat_tests)

  -- so what extends it can
  pub extensions_can : (number : ℕ) (calls : List Visit) (waiting : List Pending) → All (λ other. CanBeTold faults.version other.plan) waiting
      → All (λ other. CanBeTold faults.version other.plan) (waiting ++ pending_of faults plan number calls)
  extensions_can number calls waiting before =
      All-append (λ (other : Pending). CanBeTold faults.version other.plan) waiting (pending_of faults plan number calls) before
      (All-map (λ (other : Pending). CanBeTold faults.version other.plan) (λ longer. record { plan = longer; parent = number }) (extensions_of (choices_for faults) calls plan)
      (all_extensions (choices_for faults) plan (CanBeTold faults.version) longer_can calls))
