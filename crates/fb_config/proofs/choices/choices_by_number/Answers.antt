use Rattle.std.proofs.Common.{◌≡◌, IfOk, flat_map, map, ap, ◌∙◌, subst}
use Rattle.fb_syntax.specs.Trees.{ServicesTree}
use Rattle.fb_syntax.specs.Views.{view_service}
use Rattle.fb_config.specs.Choices.{choices_by}
use Rattle.fb_config.proofs.Grouping.{by_signature}
use Rattle.fb_config.proofs.choices.choices_by_number.Goals as goal

pub returns : goal.returns
returns c =
    let services = ap (map view_service) c.as_slice.ensures.value ∙ ap (λ (t : ServicesTree). t.services) c.tree.ensures in
    subst (λ defined. IfOk c.choices_of_services.result (λ choices. choices ≡ defined))
    (ap (flat_map (choices_by c.args.items.now)) services ∙ by_signature c.args.items.now 1 c.args.program.now.tree.services) c.choices_of_services.ensures
