use Rattle.std.proofs.lemmas.Result.{IfOk-weaker}
use Rattle.fb_audit.specs.Judged.{basis_of}
use Rattle.fb_audit.proofs.Taking.{tree_refused, tree_comes}
use Rattle.fb_audit.proofs.judge.Judge.take_child.Goals as goal

pub returns-in-None-clause-judged : goal.returns-in-None-clause-judged
returns-in-None-clause-judged g c =
    λ version above line next.
    tree_refused (basis_of c.args.self.now) version c.args.fuel above c.args.at c.args.known.now line c.args.told.now c.args.plan next c.in_ok-tree_of.field-0 c.in-None.is
    c.in_ok-tree_of.ensures.line

pub returns-in-Some-clause-judged : goal.returns-in-Some-clause-judged
returns-in-Some-clause-judged g c =
    IfOk-weaker c.take_tree.result _ _ (λ rule judged version above line next.
    judged version above line (tree_comes (basis_of c.args.self.now) version c.args.fuel above c.args.at c.args.known.now line c.args.told.now c.args.plan next c.in_ok-tree_of.field-0
    c.in-Some.spelled c.in-Some.is c.in_ok-tree_of.ensures.line)) c.take_tree.ensures
