-- What is concluded as valid is valid.
use Rattle.std.proofs.Common.{◌≡◌, ℕ, List, subst}
use Rattle.fb_syntax.specs.Trees.{ServicesTree, TestTree}
use Rattle.fb_campaign.specs.Runs.{Choices}
use Rattle.fb_report.specs.declared.line.Line.{Line}
use Rattle.fb_functest.specs.Reading.{IsReadAs}
use Rattle.fb_valid.specs.Valid.{OfEachLine, IsValid}
use Rattle.fb_valid.specs.Verdict.{KeepsAll}
use Rattle.fb_tally.specs.declared.tally.Totals.{Totals}
use Rattle.fb_audit.specs.Concluded.{IsConcluded, totals_of}
use Rattle.fb_audit.proofs.Above.{in_place, records, parents, trees, outcomes, earlier}

pub concluded_valid : (services : ServicesTree) (test : TestTree) (choices : Choices) (bytes : List ℕ) (lines : List Line) (totals : Totals) → IsReadAs bytes lines → OfEachLine (KeepsAll services test choices) lines → IsConcluded services test choices lines totals
    → (valid : IsValid services test choices bytes) × (totals ≡ totals_of valid.lines)
concluded_valid services test choices bytes lines totals read keeps all =
    let keep = subst (λ ls. OfEachLine (KeepsAll services test choices) ls) all.header keeps in (
      record {
        version = all.version;
        fuel = all.fuel;
        reduction = all.reduction;
        lines = all.below;
        read = subst (IsReadAs bytes) all.header read;
        structure = record { in_place = in_place services test choices all.version all.fuel all.reduction all.below keep; ended = all.ended };
        records = records services test choices all.version all.fuel all.reduction all.below keep;
        parents = parents services test choices all.version all.fuel all.reduction all.below keep;
        trees = trees services test choices all.version all.fuel all.reduction all.below keep;
        outcomes = outcomes services test choices all.version all.fuel all.reduction all.below keep;
        complete = all.complete;
        owners = record { owned = all.owned; earlier = earlier services test choices all.version all.fuel all.reduction all.below keep };
        reduced = all.reduced;
      },
      all.totals_are,
    )
