use Rattle.std.proofs.Common.{◌-◌, Some, None, length, refl, ap, sym, subst, ◌∙◌, arith}
use Rattle.fb_index.specs.Fault.{RefusesFault, coded_text}
use Rattle.fb_index.specs.Reading.{coded_automaton}
use Rattle.fb_index.proofs.Texts.{read-le}
use Rattle.fb_index.specs.Spelling.{IsValueText}
use Rattle.fb_index.proofs.Faults.{fault-missed, value-missing, coded-leads}
use Rattle.fb_index.proofs.fault.Fault.read.Goals as goal

pub refusal-requires-clause-part : goal.refusal-requires-clause-part
refusal-requires-clause-part c =
    let r = rw c.new-scanner.ensures at c.in_ok-coded.ensures.reads in
    omega (arith, read-le coded_automaton coded_text c.args.bytes.now c.scan.new.scanner c.in_ok-coded.field-0 r, c.len.ensures)

pub returns-in_default-clause-refused : goal.returns-in_default-clause-refused
returns-in_default-clause-refused c =
    let r = rw c.in_default.is at (rw c.new-scanner.ensures at c.in_ok-coded.ensures.reads) in
    let at = fault-missed c.args.bytes.now c.scan.new.scanner None c.len.result (length c.args.bytes.now - c.len.result) tt r c.len.ensures refl
    (λ empty. refl) (λ coded rest is. absurd cc) in
    subst (RefusesFault c.args.start c.args.bytes.now) (sym c.refusal.ensures) (length c.args.bytes.now - c.len.result, refl, at)

pub returns-in_default-2-clause-refused : goal.returns-in_default-2-clause-refused
returns-in_default-2-clause-refused c =
    let r = rw c.in-Some.is at (rw c.new-scanner.ensures at c.in_ok-coded.ensures.reads) in
    let call = rw c.in-Some.is at c.in_ok-coded.ensures.call in
    let none = rw c.in_default-2.is at c.in_ok-value.ensures in
    let left = c.len-in_default-2.result in
    let at =
    value-missing c.args.bytes.now c.scan.new.scanner c.takes_value.new.self c.in-Some.coded left (length c.args.bytes.now - left)
    c.proper.ensures.index call r.spelled c.if-takes_value.ensures.0 c.if-takes_value.ensures.1 c.len-in_default-2.ensures refl
    (subst (λ bytes. ¬ (IsValueText bytes)) c.left.ensures none) in
    subst (RefusesFault c.args.start c.args.bytes.now) (sym c.refusal-in_default-2.ensures) (length c.args.bytes.now - left, refl, at)

pub returns-then-len-ne0-clause-refused : goal.returns-then-len-ne0-clause-refused
returns-then-len-ne0-clause-refused c =
    let r = rw c.in-Some.is at (rw c.new-scanner.ensures at c.in_ok-coded.ensures.reads) in
    let left = c.len-then-len-ne0.result in
    let counted = c.len-then-len-ne0.ensures ∙ ap length c.if-takes_value.ensures.0 in
    let at =
    fault-missed c.args.bytes.now c.scan.new.scanner (Some c.in-Some.coded) left (length c.args.bytes.now - left)
    c.proper.ensures.index r counted refl
    (λ empty. absurd (c.if-len-ne0.true (c.len-2.ensures ∙ sym c.len-then-len-ne0.ensures ∙ empty))) (coded-leads c.in-Some.coded c.scan.new.scanner c.if-takes_value.ensures.1) in
    subst (RefusesFault c.args.start c.args.bytes.now) (sym c.refusal-then-len-ne0.ensures) (length c.args.bytes.now - left, refl, at)
