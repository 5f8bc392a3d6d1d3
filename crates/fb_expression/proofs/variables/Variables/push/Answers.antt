use Rattle.std.proofs.Common.{◌≡◌, bytes_eq, cond, length, is_some, Some, None, sym, ap, ◌∙◌, arith}
use Rattle.fb_meaning.specs.Variables.{value_named}
use Rattle.fb_meaning.specs.Evaluations.{NamedValue}
use Rattle.fb_check.proofs.NameOrder.{is_eq-names}
use Rattle.fb_expression.specs.Scopes.{place_named}
use Rattle.fb_expression.proofs.Places.{none_of, same_found, place-pushed, differ-push}
use Rattle.fb_expression.proofs.variables.Variables.push.Goals as goal

pub invariant_of-self-in-Ok : goal.invariant_of-self-in-Ok
invariant_of-self-in-Ok c =
    let before = c.self.inside.stack.items in
    let last : NamedValue = record { name = c.args.name; value = c.args.value } in
    let found : value_named before last.name ≡ None = rw c.self.view_is c.requires in
    let none = none_of (place_named before last.name) (sym (same_found before last.name) ∙ ap is_some found) in
    let place : c.len-place.result ≡ length before = omega (arith, c.len-place.ensures, c.self.inside.stack.ok.0) in
    rw (c.in_ok-push.ensures.items, c.new.ensures) (
      differ-push before last c.self.invariant.0 none,
      λ name. c.in-Ok.ensures.updates.0 name
          ∙ rw (is_eq-names last.name name, place) (ap (cond (bytes_eq name last.name) (Some (length before))) (c.self.invariant.1 name))
          ∙ sym (place-pushed before name last none),
    )
