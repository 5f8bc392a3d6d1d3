use Rattle.std.proofs.Common.{◌≡◌, ◌+◌, [], None, take, drop, sym, ap, ◌∙◌, option_map, take-append-drop}
use Rattle.std.proofs.lemmas.List.{take_all}
use Rattle.fb_store.specs.Following.{following, view_next}
use Rattle.fb_store.specs.Walks.{Walk, walk_of}
use Rattle.fb_store.proofs.Walking.{nothing_follows, walk_is, walk_further}
use Rattle.fb_store.proofs.store.Store.next.Goals as goal

pub returns-in_err-cursor : goal.returns-in_err-cursor
returns-in_err-cursor c =
    ap (option_map view_next) c.from_residual.ensures
    ∙ sym (nothing_follows c.args.self.now c.args.method c.args.args.now [] c.args.replies.now (sym c.in_err-cursor.ensures))

pub loop-reply-init : goal.loop-reply-init
loop-reply-init c = walk_is c.args.self.now c.args.method c.args.args.now [] c.in_ok-cursor.cursor c.in_ok-cursor.ensures

pub returns-in_err-cursor-2 : goal.returns-in_err-cursor-2
returns-in_err-cursor-2 c =
    let replies = c.args.replies.now in
    let i = c.loop-reply.reply-index in
    let none : None ≡ walk_of c.args.self.now c.args.method c.args.args.now (take (i + 1) replies) =
    c.in_err-cursor-2.ensures
    ∙ walk_further c.args.self.now c.args.method c.args.args.now replies i c.reply-item.result c.loop-reply.cursor c.loop-reply.invariant
    c.loop-reply-test.true c.reply-item.is in
    ap (option_map view_next) c.from_residual-in_err-cursor-2.ensures
    ∙ sym (nothing_follows c.args.self.now c.args.method c.args.args.now (take (i + 1) replies) (drop (i + 1) replies) (sym none))
    ∙ ap (following c.args.self.now c.args.method c.args.args.now) (take-append-drop (i + 1) replies)

pub loop-reply-preserved : goal.loop-reply-preserved
loop-reply-preserved c =
    let replies = c.args.replies.now in
    let i = c.loop-reply.reply-index in
    walk_is c.args.self.now c.args.method c.args.args.now (take (i + 1) replies) c.in_ok-cursor-2.cursor
    (c.in_ok-cursor-2.ensures
    ∙ walk_further c.args.self.now c.args.method c.args.args.now replies i c.reply-item.result c.loop-reply.cursor c.loop-reply.invariant
    c.loop-reply-test.true c.reply-item.is)

pub returns : goal.returns
returns c =
    c.at.ensures
    ∙ ap (λ (w : Walk). following w.records w.method w.args w.replies) c.loop-reply.invariant
    ∙ ap (following c.args.self.now c.args.method c.args.args.now) (take_all c.loop-reply.reply-index c.args.replies.now c.loop-reply-test.false)
