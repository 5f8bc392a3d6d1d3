use Rattle.fb_meaning.proofs.PartingRuns.{runs_go_alike as law, plans_only_fail}
use Rattle.fb_meaning.proofs.VisitsPart.{visits_part_too}
use Rattle.fb_meaning.proofs.laws.runs_go_alike.Goals as goal

pub returns-clause-calls : goal.returns-clause-calls
returns-clause-calls c = law

pub returns-clause-visits : goal.returns-clause-visits
returns-clause-visits c = visits_part_too

pub returns-clause-plans : goal.returns-clause-plans
returns-clause-plans c = plans_only_fail
