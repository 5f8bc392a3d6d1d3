use Rattle.std.proofs.Common.{◌≡◌, ◌+◌, Bool, true, false, is_some, cond, ◌++◌, ◌∷◌, [], Ok, map, drop, sym, ap, ◌∙◌}
use Rattle.fb_syntax.specs.Views.{view_param}
use Rattle.fb_check.specs.declared.binding.Binding.{Binding}
use Rattle.fb_check.specs.Scopes.{Scope, Declares, with_binding, with_parameters}
use Rattle.fb_check.proofs.Items.{items_left}
use Rattle.fb_check.proofs.bodies.scope_of.Goals as goal

declares_is : (binding : Binding) (before after : Scope) (declared : Bool) → Declares binding before after (Ok declared) → after ≡ with_binding before binding
declares_is binding before after true h = h.1 ∙ sym (ap (λ found. cond (is_some found) before (before ++ binding ∷ [])) h.0)
declares_is binding before after false h = h.1 ∙ sym (ap (λ b. cond b before (before ++ binding ∷ [])) h.0)

pub loop-param-preserved : goal.loop-param-preserved
loop-param-preserved c =
    let item = c.param-item.result in
    let left = map view_param (drop (c.loop-param.param-index + 1) c.args.params.now) in
    let before = rw (items_left c.args.params.now c.loop-param.param-index item c.loop-param-test.true c.param-item.is) at c.loop-param.invariant in
    ap (λ scope. with_parameters scope left)
    (declares_is (record { name = item.name; kind = item.kind }) c.loop-param.scope c.declare.new.self c.in_ok-declare.field-0 c.in_ok-declare.ensures)
    ∙ before
