use Rattle.std.proofs.Common.{Some, sym, ap}
use Rattle.fb_store.proofs.Walking.{walk_at}
use Rattle.fb_store.proofs.cursor.Cursor.at_place.Goals as goal

pub returns : goal.returns
returns c method args replies there =
    ap Some (walk_at c.args.store.now method args replies c.args.place c.in_ok-item.item.now there (sym c.in_ok-item.ensures))
