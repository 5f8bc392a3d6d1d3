use Rattle.std.proofs.Common.{◌≡◌, [], ap, ◌∙◌}
use Rattle.std.proofs.lemmas.Result.{IfOk-weaker}
use Rattle.fb_base.specs.declared.method.MethodId.{MethodId}
use Rattle.fb_config.specs.declared.choices.ChoiceTable.{ChoiceTable}
use Rattle.fb_config.specs.Choices.{choices_for, choice_table}
use Rattle.fb_config.proofs.FitLaws.{none_chosen}
use Rattle.fb_config.proofs.faults.Faults.none.Goals as goal

pub returns-clause-empty : goal.returns-clause-empty
returns-clause-empty c =
    IfOk-weaker c.of.result _ (λ faults. (method : MethodId) → choices_for faults method ≡ [])
    (λ faults is method. ap (λ (t : ChoiceTable). choices_for t method) is
    ∙ none_chosen c.args.program.now.tree (record { version = 1; items = c.new.result }) c.new.ensures method) c.of.ensures.table
