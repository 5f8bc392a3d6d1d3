-- Records cover a plan in the words of runs exactly where a campaign finds it covered.
use Rattle.std.proofs.Common.{◌≡◌, ◌↔◌, ℕ, ◌&&◌, Bool, true, Some, List, [], ◌∷◌, Contains, refl, ap, ◌∙◌}
use Rattle.std.specs.List.{list_all}
use Rattle.std.proofs.lemmas.Bool.{and_parts}
use Rattle.std.proofs.lemmas.Map.Views.{Contains-from_any, list_any-from_Contains}
use Rattle.fb_index.specs.declared.fault.Fault.{Fault}
use Rattle.fb_syntax.specs.Trees.{ServicesTree, TestTree}
use Rattle.fb_tree.specs.Records.{records_in}
use Rattle.fb_tree.specs.Sameness.{same_record-Decides, same_record_equiv}
use Rattle.fb_tree.specs.declared.recorded.Record.{Record}
use Rattle.fb_campaign.specs.Runs.{Went}
use Rattle.fb_campaign.specs.Campaign.{is_among, is_covered}
use Rattle.fb_meaning.specs.Each.{HoldsOfEach}
use Rattle.fb_meaning.specs.Runs.{run_of, IsCovered}
use Rattle.fb_functest.specs.Runs.{went_of, went_if_done, runs_of}
use Rattle.fb_functest.specs.ReportLaws.{CoveredIsFound}
use Rattle.fb_functest.proofs.Lawful.{Ended, ended}

all_among : (known records : List Record) → HoldsOfEach (Contains known) records → list_all (is_among known) records ≡ true
all_among known [] each = refl
all_among known (item ∷ records) each = both (is_among known item) (list_all (is_among known) records) (list_any-from_Contains same_record_equiv item known each.0) (all_among known records each.1)
  where
    both : (a b : Bool) → a ≡ true → b ≡ true → (a && b) ≡ true
    both a b one other = rw one other

each_among : (known records : List Record) → list_all (is_among known) records ≡ true → HoldsOfEach (Contains known) records
each_among known [] is = tt
each_among known (item ∷ records) is =
    let parts = and_parts (is_among known item) (list_all (is_among known) records) is in
    (Contains-from_any (λ a b. (same_record-Decides a b).0) item known parts.0, each_among known records parts.1)

pub covered_is_found : CoveredIsFound
covered_is_found services test fuel known plan = (there, back)
  where
    there : IsCovered services test fuel known plan → (went : Went) × (runs_of services test fuel plan ≡ Some went) × (is_covered known went ≡ true)
    there covered = (went_of covered.run, ap went_if_done covered.done, all_among known (records_in covered.run.calls) covered.recorded)

    back : ((went : Went) × (runs_of services test fuel plan ≡ Some went) × (is_covered known went ≡ true)) → IsCovered services test fuel known plan
    back found =
        let e = ended (run_of services test fuel plan) found.0 found.1 in
        record {
          run = e.run;
          left = e.left;
          done = e.done;
          recorded = each_among known (records_in e.run.calls) (ap (λ (w : Went). list_all (is_among known) w.records) e.same ∙ found.2);
        }
