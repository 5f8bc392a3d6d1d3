use Rattle.std.proofs.Common.{Bool, ap, ◌∙◌}
use Rattle.std.specs.List.{position_from}
use Rattle.std.specs.Ordering.{eq_by_cmp}
use Rattle.fb_base.specs.declared.method.MethodName.{MethodName}
use Rattle.fb_base.specs.contracts.method.MethodNameOrd.TheImpl.{ghosts}
use Rattle.fb_check.specs.declared.signature.Signature.{Signature}
use Rattle.fb_check.specs.Declarations.{is_method}
use Rattle.fb_check.proofs.NameOrder.{is_eq-methods}
use Rattle.fb_check.proofs.Lookups.{place-position, place-none}
use Rattle.fb_check.proofs.signatures.Signatures.number.Goals as goal

pub overflow_sub-result : goal.overflow_sub-result
overflow_sub-result c =
    let named : MethodName → Bool = eq_by_cmp ghosts.cmp c.args.name.now in
    (place-position (λ (s : Signature). s.name) named c.self.inside.signatures.items c.in-Some.position (c.in-Some.ensures ∙ ap (position_from named 1) c.self.invariant)).0

pub returns-in-Some : goal.returns-in-Some
returns-in-Some c =
    let name = c.args.name.now in
    let named : MethodName → Bool = eq_by_cmp ghosts.cmp name in
    let signatures = c.self.inside.signatures.items in
    (place-position (λ (s : Signature). s.name) named signatures c.in-Some.position (c.in-Some.ensures ∙ ap (position_from named 1) c.self.invariant)).1
    ∙ (λ j. position_from (λ (s : Signature). is_eq-methods name s.name j) 0 signatures)
    ∙ ap (position_from (is_method name.service name.method) 0) c.self.view_is

pub returns-in-None : goal.returns-in-None
returns-in-None c =
    let name = c.args.name.now in
    let named : MethodName → Bool = eq_by_cmp ghosts.cmp name in
    let signatures = c.self.inside.signatures.items in
    place-none (λ (s : Signature). s.name) named signatures (c.in-None.ensures ∙ ap (position_from named 1) c.self.invariant)
    ∙ (λ j. position_from (λ (s : Signature). is_eq-methods name s.name j) 0 signatures)
    ∙ ap (position_from (is_method name.service name.method) 0) c.self.view_is
