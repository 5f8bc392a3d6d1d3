-- The book of one line more.
use Rattle.std.proofs.Common.{◌≡◌, ⊎_elim, ℕ, Some, None, List, [], ◌∷◌, ◌++◌, length, refl, sym, ap, ◌∙◌}
use Rattle.fb_syntax.specs.Trees.{ServicesTree, TestTree}
use Rattle.fb_campaign.specs.Runs.{Choices}
use Rattle.fb_report.specs.declared.line.Line.{Line}
use Rattle.fb_functest.specs.PlanLines.{PlanLine, plan_line_in, with_fault}
use Rattle.fb_valid.specs.Rules.{OfPlan, HasParent}
use Rattle.fb_valid.specs.Valid.{OfEachLine}
use Rattle.fb_book.specs.Kept.{HasRow, IsBookOf}
use Rattle.fb_book.specs.Laws.{OtherLinesChangeNoBook}
use Rattle.fb_book.proofs.Lists.{in_none, last_or_front}
use Rattle.fb_book.proofs.Lines.{plan_lines_skip, has_line_left, last_line_cases}

none_plan : {A : Type 0} (line : Line) (tells : PlanLine) → plan_line_in line ≡ None → plan_line_in line ≡ Some tells → A
none_plan line tells none is = absurd (let wrong : None ≡ Some tells = sym none ∙ is in cc)

-- what holds of each plan line holds with a line more that is none
each_skips : (Keeps : List Line → PlanLine → Type 0) (lines : List Line) (line : Line) → plan_line_in line ≡ None → OfEachLine (OfPlan Keeps) lines
    → OfEachLine (OfPlan Keeps) (lines ++ line ∷ [])
each_skips Keeps lines line none each above stands below cut tells is =
    ⊎_elim (λ last. none_plan line tells none (ap plan_line_in last.1 ∙ is))
    (λ early. each above stands early.0 early.1 tells is)
    (last_or_front lines above below line stands cut)

pub other_lines : OtherLinesChangeNoBook
other_lines services test choices fuel lines line book none kept = record {
  counted = kept.counted ∙ ap length (sym (plan_lines_skip lines line none));
  rows = each_skips (HasRow services test choices fuel book.rows) lines line none kept.rows;
  parents = each_skips (HasParent services test choices fuel) lines line none kept.parents;
  within = kept.within;
  told = λ child row call given is. (
    λ has. has_line_left lines (line ∷ []) (with_fault row.plan (call.index, given)) ((kept.told child row call given is).0 has),
    λ has. (kept.told child row call given is).1
        (⊎_elim (λ early. early) (λ last. none_plan line last.0 none last.1) (last_line_cases lines line (with_fault row.plan (call.index, given)) has)),
  );
}

-- ---- no lines

no_cut : {A : Type 0} (above : List Line) (line : Line) (below : List Line) → [] ≡ above ++ line ∷ below → A
no_cut [] line below is = absurd (cc)
no_cut (first ∷ above) line below is = absurd (cc)

pub no_lines : (services : ServicesTree) (test : TestTree) (choices : Choices) (fuel : ℕ) → IsBookOf services test choices fuel [] (record { rows = []; told = [] })
no_lines services test choices fuel = record {
  counted = refl;
  rows = λ above line below is tells of. no_cut above line below is;
  parents = λ above line below is tells of. no_cut above line below is;
  within = λ child has. in_none child has;
  told = λ child row call given is. (let there = is.parent in absurd (cc));
}
