-- When two records are the same.
use Rattle.std.specs.Prelude.{◌≡◌, Bool, ◌&&◌, ◌==◌, refl}
use Rattle.std.proofs.Common.{ap}
use Rattle.std.specs.Bool.{Decides}
use Rattle.std.specs.Cmp.{IsEquivalence, decided}
use Rattle.std.specs.Cmp.Lexicographic.{pointwise}
use Rattle.std.proofs.lemmas.Bool.Decides.{Decides-and, Decides-eqb, Decides-like}
use Rattle.std.proofs.lemmas.Slice.Eq.{slice_eq-Decides}
use Rattle.fb_base.specs.Values.{same_value}
use Rattle.fb_base.specs.SameLaws.{same_value-Decides}
use Rattle.fb_base.specs.Replies.{same_reply, same_reply-Decides}
use Rattle.fb_tree.specs.declared.asked.Asked.{Asked}
use Rattle.fb_tree.specs.declared.recorded.Record.{Record}

abbrev pub same_asked : Asked → Asked → Bool
same_asked a b =
    a.entry.site == b.entry.site && a.entry.count == b.entry.count && a.callee.0 == b.callee.0
    && pointwise same_value a.args b.args && same_reply a.reply b.reply

abbrev pub same_record : Record → Record → Bool
same_record a b =
    a.method.0 == b.method.0 && pointwise same_value a.args b.args && pointwise same_asked a.calls b.calls
    && same_reply a.reply b.reply && a.steps == b.steps

pub same_asked-Decides : (a b : Asked) → Decides (same_asked a b) (a ≡ b)
same_asked-Decides a b =
    let numbers = Decides-and _ _ (Decides-eqb a.entry.site b.entry.site) (Decides-eqb a.entry.count b.entry.count) in
    let callees = Decides-and _ _ numbers (Decides-eqb a.callee.0 b.callee.0) in
    let args = Decides-and _ _ callees (slice_eq-Decides same_value-Decides a.args b.args _ refl) in
    let parts = Decides-and _ _ args (same_reply-Decides a.reply b.reply) in
    Decides-like (same_asked a b)
    (λ e i. record { entry = record { site = e.0.0.0.0 i; count = e.0.0.0.1 i }; callee = record { 0 = e.0.0.1 i }; args = e.0.1 i; reply = e.1 i })
    (λ e. ((((ap (λ x. x.entry.site) e, ap (λ x. x.entry.count) e), ap (λ x. x.callee.0) e), ap (λ x. x.args) e), ap (λ x. x.reply) e)) parts

pub same_record-Decides : (a b : Record) → Decides (same_record a b) (a ≡ b)
same_record-Decides a b =
    let args = slice_eq-Decides same_value-Decides a.args b.args _ refl in
    let requests = Decides-and _ _ (Decides-eqb a.method.0 b.method.0) args in
    let calls = Decides-and _ _ requests (slice_eq-Decides same_asked-Decides a.calls b.calls _ refl) in
    let replies = Decides-and _ _ calls (same_reply-Decides a.reply b.reply) in
    let parts = Decides-and _ _ replies (Decides-eqb a.steps b.steps) in
    Decides-like (same_record a b)
    (λ e i. record { method = record { 0 = e.0.0.0.0 i }; args = e.0.0.0.1 i; calls = e.0.0.1 i; reply = e.0.1 i; steps = e.1 i })
    (λ e. ((((ap (λ x. x.method.0) e, ap (λ x. x.args) e), ap (λ x. x.calls) e), ap (λ x. x.reply) e), ap (λ x. x.steps) e)) parts

pub same_asked_equiv : IsEquivalence same_asked
same_asked_equiv = decided same_asked same_asked-Decides

pub same_record_equiv : IsEquivalence same_record
same_record_equiv = decided same_record same_record-Decides
