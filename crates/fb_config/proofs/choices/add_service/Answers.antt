use Rattle.std.proofs.Common.{◌≡◌, ◌++◌, Bor, OnOk, map, ap, ◌∙◌, subst}
use Rattle.fb_syntax.specs.Views.{view_method}
use Rattle.fb_config.specs.declared.fault_item.FaultItem.{FaultItem}
use Rattle.fb_config.specs.Choices.{choices_in}
use Rattle.fb_config.proofs.Grouping.{choices_kept}
use Rattle.fb_config.proofs.choices.add_service.Goals as goal

pub returns : goal.returns
returns c =
    let service = c.args.service.now in
    let items = map (λ (i : Bor FaultItem). i.now) c.as_slice.result.now in
    let kept = choices_kept c.args.items.now items service.name (map view_method service.methods.items)
    (ap (map (λ (i : Bor FaultItem). i.now)) c.as_slice.ensures.value ∙ c.in_ok-kept.ensures) in
    subst (λ added. OnOk c.add_methods.result (c.add_methods.new.choices ≡ c.args.choices.now ++ added))
    (ap (λ ms. choices_in items service.name (map view_method ms)) c.as_slice-methods.ensures.value ∙ kept) c.add_methods.ensures
