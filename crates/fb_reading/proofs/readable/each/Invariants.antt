use Rattle.fb_reading.proofs.Items.{IsReadTo}
use Rattle.fb_reading.proofs.readable.each.Given as goal

abbrev pub invariant-loop-item : goal.invariant-loop-item
invariant-loop-item g l = IsReadTo g.T.Readable.fits g.T.Readable.tree l.items l.item-index l.read
