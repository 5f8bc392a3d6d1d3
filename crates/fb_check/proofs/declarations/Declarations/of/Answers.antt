use Rattle.std.proofs.Common.{◌+◌, suc, ◌++◌, ◌∷◌, [], drop, map, length, ap, ◌∙◌, append_assoc, length-append, add-one, arith}
use Rattle.std.proofs.lemmas.List.{length-map}
use Rattle.fb_syntax.specs.Views.{view_service, view_method}
use Rattle.fb_syntax.specs.Kept.{KeepsService}
use Rattle.fb_check.specs.Declarations.{service_names, service_signatures, signatures_from}
use Rattle.fb_check.proofs.DeclarationLemmas.{length-service_signatures}
use Rattle.fb_check.proofs.Items.{items_left, holds_at}
use Rattle.fb_check.proofs.declarations.Declarations.of.Goals as goal

pub with_methods-requires-clause-few : goal.with_methods-requires-clause-few
with_methods-requires-clause-few c =
    let items = c.deref-service-items.result.now in
    let all = rw (← c.deref-service-items.ensures.value) at c.requires.services in
    let kept = holds_at KeepsService view_service items c.loop-service.service-index c.service-item.result all c.loop-service-test.true c.service-item.is in
    rw (c.as_slice.ensures.value, ← length-map c.service-item.result.methods.items view_method) kept.methods_counted

pub loop-service-preserved : goal.loop-service-preserved
loop-service-preserved c =
    let items = c.deref-service-items.result.now in
    let item = c.service-item.result in
    let i = c.loop-service.service-index in
    let left = map view_service (drop (i + 1) items) in
    let methods = map view_method item.methods.items in
    let all = rw (← c.deref-service-items.ensures.value) at c.requires.services in
    let kept = holds_at KeepsService view_service items i item all c.loop-service-test.true c.service-item.is in
    let before = rw (items_left items i item c.loop-service-test.true c.service-item.is) at c.loop-service.invariant in
    let added = rw (c.as_slice.ensures.value, add-one) at c.in_ok-methods.ensures in (
      omega arith,
      omega (arith, before.1, simp length-append at (ap length c.in_ok-names.ensures)),
      omega (arith, before.2, kept.methods_counted, length-service_signatures item.name (suc c.loop-service.position) 1 methods, simp length-append at (ap length added)),
      ap (λ names. names ++ service_names left) c.in_ok-names.ensures ∙ append_assoc c.loop-service.names (item.name ∷ []) (service_names left) ∙ before.3,
      rw add-one (ap (λ signatures. signatures ++ signatures_from (suc (suc c.loop-service.position)) left) added
          ∙ append_assoc c.loop-service.methods (service_signatures item.name (suc c.loop-service.position) 1 methods) (signatures_from (suc (suc c.loop-service.position)) left)
          ∙ before.4),
    )
