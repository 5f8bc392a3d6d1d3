use Rattle.std.proofs.Common.{map, ap, sym, ◌∙◌, subst}
use Rattle.fb_check.specs.declared.signature.Signature.{Signature}
use Rattle.fb_check.specs.Declarations.{declarations_of}
use Rattle.fb_config.specs.Choices.{choices_of}
use Rattle.fb_config.specs.Fitting.{IsChoiceTable}
use Rattle.fb_config.proofs.FitLaws.{is_choice_table, table_is}
use Rattle.fb_config.proofs.faults.Faults.of.Goals as goal

pub invariant_of-result : goal.invariant_of-result
invariant_of-result c =
    let tree = c.args.program.now.tree in
    let kinds = c.of-kinds.ensures ∙ c.in_ok-from_slice.ensures.items ∙ c.kinds.ensures in
    let choices = c.in_ok-choices.ensures ∙ ap (λ items. map (λ (s : Signature). choices_of items s.name) (declarations_of tree).methods) c.as_slice.ensures in
    subst IsChoiceTable (sym (table_is tree c.args.file c.of-kinds.result c.in_ok-choices.choices kinds choices))
    (is_choice_table tree c.args.file c.requires.fitting c.requires.versions)
