use Rattle.std.proofs.Common.{Some, None, sym, ap, ◌∙◌}
use Rattle.fb_store.specs.Following.{following}
use Rattle.fb_store.specs.Walks.{Walk}
use Rattle.fb_store.proofs.Walking.{follows_there}
use Rattle.fb_store.proofs.cursor.Cursor.at.Goals as goal

pub returns-in-Some : goal.returns-in-Some
returns-in-Some c =
    let inside = c.self.inside in
    sym (follows_there inside.store.now c.proper.ensures.agreed inside.item.now inside.place c.self.invariant (Some c.in-Some.asked.now) (sym c.in-Some.ensures))
    ∙ ap (λ (w : Walk). following w.records w.method w.args w.replies) c.self.view_is

pub returns-in-None : goal.returns-in-None
returns-in-None c =
    let inside = c.self.inside in
    sym (follows_there inside.store.now c.proper.ensures.agreed inside.item.now inside.place c.self.invariant None (sym c.in-None.ensures))
    ∙ ap (λ (w : Walk). following w.records w.method w.args w.replies) c.self.view_is
