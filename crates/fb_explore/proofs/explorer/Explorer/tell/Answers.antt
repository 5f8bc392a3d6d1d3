use Rattle.std.proofs.Common.{arith}
use Rattle.std.proofs.lemmas.Bool.Decides.{nat_tests}
use Rattle.fb_explore.proofs.Turning.{not_first, not_without}
use Rattle.fb_explore.proofs.explorer.Explorer.tell.Goals as goal
use Rattle.fb_explore.proofs.explorer.Explorer.tell.Goals.{then-self+else-plans-gt0, else-self}

pub returns-clause-turn : goal.returns-clause-turn
returns-clause-turn g c progress told stands =
    let explorer = c.args.self.now in
    let plan = c.args.pending.now.plan in
    let known = c.args.known.now in
    c.run.ensures.turn progress told
    (elim c.if-self.branch [
      | then-self+else-plans-gt0 w ↦ not_first explorer progress plan known stands.knows (let none = w.if-plans-gt0.false in let is = w.plans.ensures in grind (arith, nat_tests))
      | else-self w ↦ not_without explorer progress plan w.if-self.false
    ])
    stands
