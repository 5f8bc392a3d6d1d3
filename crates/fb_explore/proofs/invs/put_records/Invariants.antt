use Rattle.std.proofs.Common.{◌≡◌, length}
use Rattle.fb_explore.proofs.Adding.{IsSoFar}
use Rattle.fb_explore.proofs.invs.put_records.Given as goal

abbrev pub invariant-loop-item : goal.invariant-loop-item
invariant-loop-item g l = record {
  so_far : IsSoFar l.program.tree l.owner l.fn.store l.fn.records.items l.left.items l.store l.uses (g.W.Lines.written l.fn.lines) (g.W.Lines.faults l.fn.lines) (g.W.Lines.written l.lines) (g.W.Lines.faults l.lines);
  rest : g.W.Lines.rest l.lines ≡ g.W.Lines.rest l.fn.lines;
}

abbrev pub decreases-loop-item : goal.decreases-loop-item
decreases-loop-item g l = length l.left.items
