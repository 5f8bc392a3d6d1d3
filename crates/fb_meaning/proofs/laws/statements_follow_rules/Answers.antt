use Rattle.fb_meaning.proofs.RuleLaws.{follows_rules}
use Rattle.fb_meaning.proofs.laws.statements_follow_rules.Goals as goal

pub returns : goal.returns
returns c = follows_rules
