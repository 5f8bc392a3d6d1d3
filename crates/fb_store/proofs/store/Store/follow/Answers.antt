use Rattle.std.proofs.Common.{◌≡◌, ◌+◌, Some, sym, ap, subst, ◌∙◌, option_map, slice_get, true≢false}
use Rattle.std.proofs.lemmas.Option.{slice_get_past, slice_get-get_or}
use Rattle.fb_base.specs.Replies.{same_reply-Decides}
use Rattle.fb_store.specs.Growth.{AreGrown}
use Rattle.fb_store.proofs.Growing.{way_to, no_place_at_end, place_by_own, place_by_branch}
use Rattle.fb_store.proofs.store.Store.follow.Goals as goal

pub returns-in_err-item : goal.returns-in_err-item
returns-in_err-item c method args replies there =
    let way = way_to c.args.self.now method args replies c.args.place there in
    absurd (let wrong = c.in_err-item.ensures ∙ way.first.item_is in cc)

pub returns-in_err-asked : goal.returns-in_err-asked
returns-in_err-asked c method args replies there =
    let grown = subst (λ records. AreGrown records c.self.inside.trees) c.self.view_is c.self.invariant in
    let calls = c.as_slice.ensures in
    c.from_residual-in_err-asked.ensures
    ∙ sym (no_place_at_end c.args.self.now c.self.inside.trees grown method args replies c.args.place c.args.reply.now there c.in_ok-item.item.now
    (sym c.in_ok-item.ensures)
    (ap (λ cs. slice_get cs c.args.place.answered) (sym calls) ∙ slice_get_past c.as_slice.result.now c.args.place.answered c.in_err-asked.ensures.lookup.3))

pub returns-then-eq : goal.returns-then-eq
returns-then-eq c method args replies there =
    let grown = subst (λ records. AreGrown records c.self.inside.trees) c.self.view_is c.self.invariant in
    let asked = c.in_ok-asked.asked.now in
    let asked_is : slice_get c.in_ok-item.item.now.calls c.args.place.answered ≡ Some asked =
    ap (λ cs. slice_get cs c.args.place.answered) (sym c.as_slice.ensures)
    ∙ slice_get-get_or c.as_slice.result.now c.args.place.answered asked c.in_ok-asked.ensures.lookup.3.0 ∙ ap Some (sym c.in_ok-asked.ensures.lookup.1) in
    sym (place_by_own c.args.self.now c.self.inside.trees grown method args replies c.args.place c.args.reply.now there c.in_ok-item.item.now
    (sym c.in_ok-item.ensures) asked asked_is ((same_reply-Decides asked.reply c.args.reply.now).0 (sym c.if-eq.ensures)))

pub returns-in_err-first : goal.returns-in_err-first
returns-in_err-first c method args replies there =
    let grown = subst (λ records. AreGrown records c.self.inside.trees) c.self.view_is c.self.invariant in
    let asked = c.in_ok-asked.asked.now in
    let asked_is : slice_get c.in_ok-item.item.now.calls c.args.place.answered ≡ Some asked =
    ap (λ cs. slice_get cs c.args.place.answered) (sym c.as_slice.ensures)
    ∙ slice_get-get_or c.as_slice.result.now c.args.place.answered asked c.in_ok-asked.ensures.lookup.3.0 ∙ ap Some (sym c.in_ok-asked.ensures.lookup.1) in
    let apart : ¬ (asked.reply ≡ c.args.reply.now) =
    λ same. true≢false (sym ((same_reply-Decides asked.reply c.args.reply.now).1 same) ∙ sym c.if-eq.ensures) in
    c.from_residual-in_err-first.ensures
    ∙ ap (option_map (λ id. record { first = id; answered = c.args.place.answered + 1 })) c.in_err-first.ensures
    ∙ sym (place_by_branch c.args.self.now c.self.inside.trees grown method args replies c.args.place c.args.reply.now there c.in_ok-item.item.now
    (sym c.in_ok-item.ensures) asked asked_is apart)

pub returns : goal.returns
returns c method args replies there =
    let grown = subst (λ records. AreGrown records c.self.inside.trees) c.self.view_is c.self.invariant in
    let asked = c.in_ok-asked.asked.now in
    let asked_is : slice_get c.in_ok-item.item.now.calls c.args.place.answered ≡ Some asked =
    ap (λ cs. slice_get cs c.args.place.answered) (sym c.as_slice.ensures)
    ∙ slice_get-get_or c.as_slice.result.now c.args.place.answered asked c.in_ok-asked.ensures.lookup.3.0 ∙ ap Some (sym c.in_ok-asked.ensures.lookup.1) in
    let apart : ¬ (asked.reply ≡ c.args.reply.now) =
    λ same. true≢false (sym ((same_reply-Decides asked.reply c.args.reply.now).1 same) ∙ sym c.if-eq.ensures) in
    ap (option_map (λ id. record { first = id; answered = c.args.place.answered + 1 })) c.in_ok-first.ensures
    ∙ sym (place_by_branch c.args.self.now c.self.inside.trees grown method args replies c.args.place c.args.reply.now there c.in_ok-item.item.now
    (sym c.in_ok-item.ensures) asked asked_is apart)
