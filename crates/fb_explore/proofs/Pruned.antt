-- The line of a plan whose run was derived.
use Rattle.std.proofs.Common.{◌≡◌, ℕ, Bool, false, Option, Some, List, [], ◌∷◌, sym, ap, ◌∙◌, subst, arith}
use Rattle.std.proofs.lemmas.Option.{same_Some}
use Rattle.fb_index.specs.declared.fault.Fault.{Fault}
use Rattle.fb_syntax.specs.Trees.{ServicesTree, TestTree}
use Rattle.fb_tree.specs.declared.outcome.Outcome.{Outcome}
use Rattle.fb_tree.specs.declared.recorded.Record.{Record}
use Rattle.fb_campaign.specs.Campaign.{Progress, prune, uses_of}
use Rattle.fb_campaign.specs.Reports.{has_passed}
use Rattle.fb_campaign.specs.Runs.{Went}
use Rattle.fb_functest.specs.ReportLaws.{OutcomesAreCounted}
use Rattle.fb_functest.specs.ReportLines.{last_fault}
use Rattle.fb_functest.specs.Runs.{runs_of, went_of, went_if_done}
use Rattle.fb_meaning.specs.Spelling.{AreAt}
use Rattle.fb_report.specs.Ranges.{IsCounted}
use Rattle.fb_report.specs.declared.line.Line.{Line}
use Rattle.fb_report.specs.declared.line.Line.TheVariants.{Plan}
use Rattle.fb_stitch.specs.Derivations.{IsDerived}
use Rattle.fb_stitch.specs.declared.derivation.Derived.{Derived}
use Rattle.fb_store.specs.Following.{AreDifferent}
use Rattle.fb_worklist.specs.declared.pending.Pending.{Pending}
use Rattle.fb_explore.specs.declared.error.PutError.{PutError}
use Rattle.fb_explore.specs.declared.known.Known.{Known}
use Rattle.fb_explore.specs.Puts.{HavePutLines}
use Rattle.fb_explore.specs.Tallies.{Tallied, with_line}
use Rattle.fb_explore.specs.Turns.{IsKnownOf, StandsBefore, added_if_pruned, plan_line_of}
use Rattle.fb_explore.proofs.Places.{uses_at}
use Rattle.fb_explore.proofs.TallyLines.{records_push, tallied_push}

-- ---- what is derived is what the run came to

module _ (services : ServicesTree) (test : TestTree) (fuel : ℕ) (known : List Record) (plan : List Fault) (derived : Derived)
    (is : IsDerived services test fuel known plan derived) where
  pub derived_counted : OutcomesAreCounted → IsCounted derived.outcome
  derived_counted law = subst IsCounted (sym is.outcome) (law services test fuel plan (went_of is.run) (ap went_if_done is.done))

  module _ (went : Went) (done : runs_of services test fuel plan ≡ Some went) where
    went_is : went_of is.run ≡ went
    went_is = same_Some (went_of is.run) went (sym (ap went_if_done is.done) ∙ done)

    pub outcome_is : derived.outcome ≡ went.outcome
    outcome_is = is.outcome ∙ ap (λ (w : Went). w.outcome) went_is

    pub uses_are : AreDifferent known → derived.uses ≡ uses_of known went.records
    uses_are different =
        sym (uses_at known different derived.uses went.records (subst (AreAt known derived.uses) (ap (λ (w : Went). w.records) went_is) is.spelled.recorded))

-- ---- the line, and what is known behind it

module _ (progress : Progress) (pending : Pending) (known : Known) (went : Went) (outcome : Outcome) (outcome_is : outcome ≡ went.outcome) where
  module _ (services : ServicesTree) (version : ℕ) (told : List Line) (uses : List ℕ) (uses_are : uses ≡ uses_of known.store went.records)
      (stands : StandsBefore services version progress pending known (added_if_pruned progress pending.plan went) told) where
    told_is : plan_line_of version known.tally.plans pending false uses outcome ∷ [] ≡ told
    told_is =
        (λ i. Plan version (ap (λ (tally : Tallied). tally.plans) (sym stands.knows.plans) i) (sym stands.parent i) (last_fault pending.plan) false
        ((uses_are ∙ ap (λ records. uses_of records went.records) (sym stands.knows.records)) i) (outcome_is i) ∷ [])
        ∙ same_Some _ told stands.told

    pub told_put : (stop : Option PutError) (u v : Option (List ℕ)) (f g : ℕ)
        → HavePutLines (plan_line_of version known.tally.plans pending false uses outcome ∷ []) stop u f v g → HavePutLines told stop u f v g
    told_put stop u v f g put = subst (λ lines. HavePutLines lines stop u f v g) told_is put

  -- a plan that is pruned isn't counted
  not_counted : (tally : Tallied) (passed : Bool) → (with_line tally false passed).run ≡ tally.run
  unfolding with_line
  not_counted tally passed = omega arith

  pub known_is : (tally : Tallied) → tally ≡ with_line known.tally false (has_passed outcome) → IsKnownOf progress known
      → IsKnownOf (prune progress pending.plan went) (record { store = known.store; tally = tally })
  known_is tally tally_is knows = record {
    records = records_push progress.lines _ ∙ knows.records;
    plans = tallied_push progress.lines _ ∙ ap (λ before. with_line before false (has_passed went.outcome)) knows.plans
        ∙ ap (λ how. with_line known.tally false (has_passed how)) (sym outcome_is) ∙ sym tally_is;
    counted = knows.counted ∙ sym (ap (λ (after : Tallied). after.run) tally_is ∙ not_counted known.tally (has_passed outcome));
  }
