use Rattle.std.proofs.Common.{◌≡◌, string_bytes, sym, ap, ◌∙◌}
use Rattle.serde_json.specs.Data.{member}
use Rattle.serde_json.specs.View.{view, members_view}
use Rattle.fb_reading.specs.Keys.{key_text}
use Rattle.fb_reading.proofs.Keys.{same-key}
use Rattle.fb_reading.proofs.fields.take.Goals as goal

pub returns-in-Equal-clause-there : goal.returns-in-Equal-clause-there
returns-in-Equal-clause-there c =
    let key = c.in-Some.key.now in
    let named : string_bytes key ≡ key_text c.args.wanted = sym c.as_str.ensures.value ∙ same-key _ _ (sym c.cmp.ensures ∙ c.in-Equal.is) ∙ c.text.ensures in
    ap members_view c.in-Some.ensures.steps ∙ ap (λ k. member k (view c.in-Some.json.now) (members_view c.next.new.self)) named
