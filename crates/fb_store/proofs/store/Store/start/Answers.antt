use Rattle.std.proofs.Common.{[], sym, ◌∙◌}
use Rattle.fb_store.proofs.Walking.{is_place, walk_there, no_walk}
use Rattle.fb_store.proofs.store.Store.start.Goals as goal

pub returns-in_err-root : goal.returns-in_err-root
returns-in_err-root c = c.from_residual.ensures ∙ sym (no_walk c.args.self.now c.args.method c.args.args.now [] (sym c.in_err-root.ensures))

pub at_place-requires : goal.at_place-requires
at_place-requires c = is_place c.args.self.now c.args.method c.args.args.now [] c.in_ok-root.field-0 (sym c.in_ok-root.ensures)

pub returns : goal.returns
returns c =
    c.at_place.ensures c.args.method c.args.args.now [] (sym c.in_ok-root.ensures)
    ∙ sym (walk_there c.args.self.now c.args.method c.args.args.now [] c.in_ok-root.field-0 (sym c.in_ok-root.ensures))
