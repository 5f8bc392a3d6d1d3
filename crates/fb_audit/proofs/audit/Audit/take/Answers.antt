use Rattle.std.proofs.Common.{[], sym, ap, ◌∙◌, subst}
use Rattle.std.proofs.lemmas.Result.{IfOk-weaker}
use Rattle.fb_audit.specs.Judged.{basis_of}
use Rattle.fb_audit.specs.Taken.{Audited, IsTakenOf}
use Rattle.fb_audit.proofs.Going.{nothing_taken, first_next, later_next}
use Rattle.fb_audit.proofs.StandingFor.{takes_on}
use Rattle.fb_audit.proofs.audit.Audit.take.Goals as goal

pub invariant_of-self-in-Lines : goal.invariant_of-self-in-Lines
invariant_of-self-in-Lines g c =
    let basis = basis_of c.self.inside.judge in
    (c.self.invariant.0, ([], subst (IsTakenOf basis []) (sym c.replace.ensures.after) (nothing_taken basis)))

pub returns-in-Nothing-clause-taken : goal.returns-in-Nothing-clause-taken
returns-in-Nothing-clause-taken g c =
    let same = ap (λ (a : Audited). a.basis) c.self.view_is in
    let was = ap (λ (a : Audited). a.taken) c.self.view_is in
    IfOk-weaker c.begin.result _ _ (λ rule next services test choices lines stands.
    takes_on services test choices c.args.self.now c.begin.new.self (c.begin.ensures.basis ∙ same) lines c.args.line.now rule stands
    (first_next (basis_of c.self.inside.judge) c.args.self.now.basis same lines c.args.line.now c.args.self.now.taken c.begin.new.self.taken rule stands.taken
    (sym was ∙ sym c.replace.ensures.value ∙ c.in-Nothing.is) next)) c.begin.ensures.taken

pub returns-in-Lines-clause-taken : goal.returns-in-Lines-clause-taken
returns-in-Lines-clause-taken g c =
    let same = ap (λ (a : Audited). a.basis) c.self.view_is in
    let was = ap (λ (a : Audited). a.taken) c.self.view_is in
    IfOk-weaker c.go_on.result _ _ (λ rule next services test choices lines stands.
    takes_on services test choices c.args.self.now c.go_on.new.self (c.go_on.ensures.basis ∙ same) lines c.args.line.now rule stands
    (later_next (basis_of c.self.inside.judge) c.args.self.now.basis same lines c.args.line.now c.args.self.now.taken c.go_on.new.self.taken rule stands.taken
    c.in-Lines.below (sym was ∙ sym c.replace.ensures.value ∙ c.in-Lines.is) next)) c.go_on.ensures.taken
