use Rattle.std.proofs.Common.{◌≡◌, ◌≤◌, length, Some, slice_get, sym, ap, ◌∙◌, arith}
use Rattle.std.specs.Option.{option_copied}
use Rattle.tests_runs.proofs.Tested.{one_further, agrees_with_each}
use Rattle.tests_runs.proofs.agreeing.agrees_with_all.Goals as goal

pub loop-id-preserved : goal.loop-id-preserved
loop-id-preserved c =
    one_further c.args.item.now c.args.store.now c.loop-id.id c.in-Some.known.now
    (sym c.item.ensures ∙ ap option_copied c.in-Some.is)
    (cc)
    c.loop-id.invariant

pub returns : goal.returns
returns c _ = agrees_with_each c.args.item.now c.args.store.now c.loop-id.id (omega (arith, c.loop-id-test.false, c.len-id-end.ensures)) c.loop-id.invariant
