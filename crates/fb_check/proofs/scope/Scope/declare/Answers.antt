use Rattle.std.proofs.Common.{◌≡◌, bytes_eq, cond, is_some, is_err, false, Some, None, sym, ap, ◌∙◌}
use Rattle.fb_check.specs.Scopes.{kind_named}
use Rattle.fb_check.proofs.NameOrder.{none_from, is_eq-names}
use Rattle.fb_check.proofs.ScopeTables.{done, names_push, kind_named-pushed}
use Rattle.fb_check.proofs.scope.Scope.declare.Goals as goal

pub invariant_of-self-else-is_err : goal.invariant_of-self-else-is_err
invariant_of-self-else-is_err c =
    let before = c.self.inside.bindings.items in
    let last = c.args.binding in
    let found = c.kind_named.ensures ∙ ap (λ scope. kind_named scope last.name) (sym c.self.view_is) in
    let none : kind_named before last.name ≡ None = none_from (kind_named before last.name) (c.if-is_some.ensures ∙ ap is_some found) in
    let inserted : is_err c.insert.result ≡ false = cc in
    let updates = done c.insert.result _ inserted c.insert.ensures.updates in
    rw c.in_ok-push.ensures.items (
      names_push before last c.self.invariant.0 none,
      λ name. updates.0 name
          ∙ rw (is_eq-names last.name name) (ap (cond (bytes_eq name last.name) (Some last.kind)) (c.self.invariant.1 name))
          ∙ sym (kind_named-pushed before name last none),
    )
