use Rattle.fb_audit.specs.Judged.{basis_of}
use Rattle.fb_audit.proofs.Taking.{plan_refused}
use Rattle.fb_audit.proofs.judge.Judge.take_plan.Goals as goal

pub returns-in-None-clause-judged : goal.returns-in-None-clause-judged
returns-in-None-clause-judged g c =
    λ version above line next.
    plan_refused (basis_of c.args.self.now) version c.args.fuel above c.args.at c.args.known.now line c.args.told.now next c.in_ok-plan_of.field-0 c.in-None.is c.in_ok-plan_of.ensures
