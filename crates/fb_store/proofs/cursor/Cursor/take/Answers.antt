use Rattle.std.proofs.Common.{◌∷◌, ◌++◌, [], take, sym, ap, ◌∙◌}
use Rattle.fb_store.specs.Following.{replies_of}
use Rattle.fb_store.specs.Walks.{Walk, walk_of}
use Rattle.fb_store.proofs.Walking.{is_place, walk_there, no_walk}
use Rattle.fb_store.proofs.cursor.Cursor.take.Goals as goal

pub returns-in_err-place : goal.returns-in_err-place
returns-in_err-place c =
    let inside = c.self.inside in
    let item = inside.item.now in
    let replies = take inside.place.answered (replies_of item) in
    c.from_residual.ensures
    ∙ sym (no_walk inside.store.now item.method item.args (replies ++ c.args.reply.now ∷ [])
    (sym (c.in_err-place.ensures item.method item.args replies c.self.invariant.place_is)))
    ∙ ap (λ (w : Walk). walk_of w.records w.method w.args (w.replies ++ c.args.reply.now ∷ [])) c.self.view_is

pub at_place-requires : goal.at_place-requires
at_place-requires c =
    let inside = c.self.inside in
    let item = inside.item.now in
    let replies = take inside.place.answered (replies_of item) in
    is_place inside.store.now item.method item.args (replies ++ c.args.reply.now ∷ []) c.in_ok-place.place
    (sym (c.in_ok-place.ensures item.method item.args replies c.self.invariant.place_is))

pub returns : goal.returns
returns c =
    let inside = c.self.inside in
    let item = inside.item.now in
    let replies = take inside.place.answered (replies_of item) in
    let there = sym (c.in_ok-place.ensures item.method item.args replies c.self.invariant.place_is) in
    c.at_place.ensures item.method item.args (replies ++ c.args.reply.now ∷ []) there
    ∙ sym (walk_there inside.store.now item.method item.args (replies ++ c.args.reply.now ∷ []) c.in_ok-place.place there)
    ∙ ap (λ (w : Walk). walk_of w.records w.method w.args (w.replies ++ c.args.reply.now ∷ [])) c.self.view_is
