use Rattle.std.proofs.Common.{◌≡◌, ◌++◌, ◌-◌, None, [], length}
use Rattle.std.specs.List.{All}
use Rattle.std.specs.Option.{option_to_list}
use Rattle.fb_stitch.specs.Sources.{AreTrueOf}
use Rattle.fb_worklist.specs.declared.pending.Pending.{Pending}
use Rattle.fb_explore.specs.Turns.{CanBeTold}
use Rattle.fb_explore.proofs.UnderWay.{IsUnderWay, plans_by}
use Rattle.fb_explore.proofs.exploring.take_turns.Given as goal

abbrev pub invariant-loop-next : goal.invariant-loop-next
invariant-loop-next g l = record {
  under_way : IsUnderWay l.explorer (option_to_list l.next ++ l.waiting) l.known (g.W.Lines.written l.fn.lines) (g.W.Lines.faults l.fn.lines) (g.W.Lines.written l.lines) (g.W.Lines.faults l.lines) l.fn.evals l.evals;
  last : l.next ≡ None → l.waiting ≡ [];
  rest : g.W.Lines.rest l.lines ≡ g.W.Lines.rest l.fn.lines;
  hold : AreTrueOf l.explorer.program.now.tree l.known.store;
  can : All (λ (other : Pending). CanBeTold l.explorer.faults.now.version other.plan) (option_to_list l.next ++ l.waiting);
}

abbrev pub decreases-loop-next : goal.decreases-loop-next
decreases-loop-next g l = length (plans_by l.explorer) - l.known.tally.plans
