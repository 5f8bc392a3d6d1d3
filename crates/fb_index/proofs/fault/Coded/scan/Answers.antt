use Rattle.std.proofs.Common.{ℕ, Some, None, List, refl}
use Rattle.fb_index.specs.Index.{index_text}
use Rattle.fb_index.specs.Fault.{coded_text}
use Rattle.fb_index.specs.Reading.{index_automaton, code_automaton}
use Rattle.fb_index.proofs.Sequences.{missed-first, missed-sign, read-both, parts-both}
use Rattle.fb_index.proofs.Texts.{index-silent}
use Rattle.fb_index.proofs.fault.Coded.scan.Goals as goal

pub returns-in_default-clause-reads : goal.returns-in_default-clause-reads
returns-in_default-clause-reads c =
    let r = rw c.in_default.is at c.in_ok-index.ensures.reads in
    missed-first index_automaton 61 code_automaton index-silent index_text coded_text c.args.scanner.now c.scan.new.scanner r

pub returns-then-not-take-clause-reads : goal.returns-then-not-take-clause-reads
returns-then-not-take-clause-reads c =
    let r = rw c.in-Some.is at c.in_ok-index.ensures.reads in
    missed-sign index_automaton 61 code_automaton index-silent index_text coded_text c.args.scanner.now c.scan.new.scanner c.take.new.self
    c.in-Some.index r c.if-not-take.ensures

pub returns-in_default-code-clause-reads : goal.returns-in_default-code-clause-reads
returns-in_default-code-clause-reads c =
    let r = rw c.in-Some.is at c.in_ok-index.ensures.reads in
    read-both index_automaton 61 code_automaton index-silent index_text coded_text c.args.scanner.now (λ (code : List ℕ). code)
    c.scan.new.scanner c.take.new.self c.code.new.self c.in-Some.index None None r c.if-not-take.ensures c.in_default-code.ensures refl tt

pub returns-clause-reads : goal.returns-clause-reads
returns-clause-reads c =
    let r = rw c.in-Some.is at c.in_ok-index.ensures.reads in
    read-both index_automaton 61 code_automaton index-silent index_text coded_text c.args.scanner.now (λ (code : List ℕ). code)
    c.scan.new.scanner c.take.new.self c.code.new.self c.in-Some.index (Some c.in-Some-code.code) _ r c.if-not-take.ensures
    c.in-Some-code.ensures refl (parts-both 61 _ _ _ _ _ _ r.spelled c.if-not-take.ensures c.in-Some-code.ensures.spelled)
