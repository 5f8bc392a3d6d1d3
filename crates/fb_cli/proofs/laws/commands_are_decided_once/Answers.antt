use Rattle.fb_cli.proofs.Once.{reads-once, words-once}
use Rattle.fb_cli.proofs.laws.commands_are_decided_once.Goals as goal

pub returns-clause-words : goal.returns-clause-words
returns-clause-words c = words-once c.plan_of_text.ensures c.refusals_have_one_offset.ensures.plan c.verdicts_are_exact.ensures

pub returns-clause-plan : goal.returns-clause-plan
returns-clause-plan c = reads-once c.plan_of_text.ensures c.refusals_have_one_offset.ensures.plan
