use Rattle.std.proofs.Common.{[], ◌∷◌, subst}
use Rattle.fb_valid.specs.Verdict.{IsHeader}
use Rattle.fb_audit.specs.Judged.{basis_of}
use Rattle.fb_audit.proofs.Going.{begins, no_header}
use Rattle.fb_audit.proofs.audit.Audit.begin.Goals as goal

pub invariant_of-self : goal.invariant_of-self
invariant_of-self c =
    let basis = basis_of c.self.inside.judge in (
      c.self.invariant.0,
      (
        c.args.line.now ∷ [],
        (begins basis c.args.line.now c.in-Header.version c.in-Header.fuel c.in-Header.reduction c.in_ok-below-in-Header.below c.in-Header.is
            (c.in_ok-below-in-Header.ensures basis)).1,
      ),
    )

pub returns-in_ok-below-in-Header-clause-taken : goal.returns-in_ok-below-in-Header-clause-taken
returns-in_ok-below-in-Header-clause-taken c =
    begins c.args.self.now.basis c.args.line.now c.in-Header.version c.in-Header.fuel c.in-Header.reduction c.in_ok-below-in-Header.below c.in-Header.is
    (c.in_ok-below-in-Header.ensures c.args.self.now.basis)

pub returns-in-Inv-clause-taken : goal.returns-in-Inv-clause-taken
returns-in-Inv-clause-taken c = no_header c.args.self.now.basis c.args.line.now (λ header. subst IsHeader c.in-Inv.is header)

pub returns-in-Plan-clause-taken : goal.returns-in-Plan-clause-taken
returns-in-Plan-clause-taken c = no_header c.args.self.now.basis c.args.line.now (λ header. subst IsHeader c.in-Plan.is header)

pub returns-in-End-clause-taken : goal.returns-in-End-clause-taken
returns-in-End-clause-taken c = no_header c.args.self.now.basis c.args.line.now (λ header. subst IsHeader c.in-End.is header)
