use Rattle.std.proofs.Common.{ap, sym, ◌∙◌, arith}
use Rattle.std.specs.Prelude.{codes}
use Rattle.fb_index.specs.Automaton.{begins_with}
use Rattle.fb_index.specs.Plan.{plan_text}
use Rattle.fb_index.specs.Reading.{word_automaton}
use Rattle.fb_index.proofs.Texts.{read-le}
use Rattle.fb_index.proofs.Plans.{none-refused}
use Rattle.fb_index.proofs.plan.Plan.read_text.Goals as goal

pub whole-requires : goal.whole-requires
whole-requires c =
    let r = rw c.new-scanner.ensures at c.scan_none-plan.ensures.reads in
    omega (arith, read-le (word_automaton (codes "none")) plan_text c.args.bytes.now c.scan_none-plan.new.scanner c.scan_none-plan.result r)

pub returns-in-Err-clause-refused : goal.returns-in-Err-clause-refused
returns-in-Err-clause-refused c =
    let r = rw c.new-scanner.ensures at c.scan_none-plan.ensures.reads in
    let begun = ap (begins_with 110) (sym c.new-scanner.ensures) ∙ sym c.next_is.ensures ∙ c.if-not-next_is.false in
    none-refused c.args.bytes.now c.scan_none-plan.new.scanner c.scan_none-plan.result c.len.result c.in-Err.offset begun r c.len.ensures
    c.in-Err.ensures
