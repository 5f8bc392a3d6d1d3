use Rattle.std.proofs.Common.{[], take, sym, ap, ◌∙◌}
use Rattle.fb_store.specs.Following.{replies_of}
use Rattle.fb_store.specs.Growth.{place_of}
use Rattle.fb_store.proofs.Growing.{first_from_no_place}
use Rattle.fb_store.proofs.Walking.{way_further, left_at, way_to_end}
use Rattle.fb_store.proofs.store.Store.descend.Goals as goal

pub returns-in_default : goal.returns-in_default
returns-in_default c =
    let item = c.args.item.now in
    first_from_no_place c.args.self.now item.method item.args []
    (ap (λ args. place_of c.args.self.now item.method args []) (sym c.as_slice.ensures) ∙ sym c.in_default.ensures)

pub returns-in_default-follow : goal.returns-in_default-follow
returns-in_default-follow c =
    let item = c.args.item.now in
    let i = c.loop-asked.asked-index in
    left_at c.args.self.now item c.loop-asked.place i c.as_slice-asked-items.result.now c.as_slice-asked-items.ensures c.loop-asked.invariant
    c.asked-item.result c.loop-asked-test.true c.asked-item.is (c.in_default-follow.ensures item.method item.args (take i (replies_of item)) c.loop-asked.invariant)

pub loop-asked-preserved : goal.loop-asked-preserved
loop-asked-preserved c =
    let item = c.args.item.now in
    let i = c.loop-asked.asked-index in
    way_further c.args.self.now item c.loop-asked.place i c.as_slice-asked-items.result.now c.as_slice-asked-items.ensures c.loop-asked.invariant
    c.asked-item.result _ c.loop-asked-test.true c.asked-item.is (c.in-Some-follow.ensures item.method item.args (take i (replies_of item)) c.loop-asked.invariant)

pub returns : goal.returns
returns c =
    way_to_end c.args.self.now c.args.item.now c.loop-asked.place c.loop-asked.asked-index c.as_slice-asked-items.result.now c.as_slice-asked-items.ensures
    c.loop-asked.invariant c.loop-asked-test.false
