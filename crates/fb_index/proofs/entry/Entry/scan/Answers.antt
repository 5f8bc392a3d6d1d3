use Rattle.std.proofs.Common.{Some, None, refl}
use Rattle.std.specs.Fmt.{decimal}
use Rattle.fb_index.specs.Entry.{entry_text}
use Rattle.fb_index.specs.Reading.{number_automaton}
use Rattle.fb_index.proofs.Sequences.{missed-first, missed-sign, read-both, parts-both}
use Rattle.fb_index.proofs.entry.Entry.scan.Goals as goal

pub returns-in_default : goal.returns-in_default
returns-in_default c =
    missed-first number_automaton 46 number_automaton (λ _. refl) decimal entry_text c.args.scanner.now c.number.new.self c.in_default.ensures.reads

pub returns-then-not-take : goal.returns-then-not-take
returns-then-not-take c =
    missed-sign number_automaton 46 number_automaton (λ _. refl) decimal entry_text c.args.scanner.now c.number.new.self c.take.new.self
    c.in-Some.site c.in-Some.ensures.reads c.if-not-take.ensures

pub returns-in_default-number : goal.returns-in_default-number
returns-in_default-number c =
    read-both number_automaton 46 number_automaton (λ _. refl) decimal entry_text c.args.scanner.now decimal c.number.new.self c.take.new.self
    c.number-2.new.self c.in-Some.site None None c.in-Some.ensures.reads c.if-not-take.ensures c.in_default-number.ensures.reads refl tt

pub returns : goal.returns
returns c =
    read-both number_automaton 46 number_automaton (λ _. refl) decimal entry_text c.args.scanner.now decimal c.number.new.self c.take.new.self
    c.number-2.new.self c.in-Some.site (Some c.in-Some-number.count) _ c.in-Some.ensures.reads c.if-not-take.ensures
    c.in-Some-number.ensures.reads refl
    (parts-both 46 _ _ _ _ _ _ c.in-Some.ensures.reads.spelled c.if-not-take.ensures c.in-Some-number.ensures.reads.spelled)
