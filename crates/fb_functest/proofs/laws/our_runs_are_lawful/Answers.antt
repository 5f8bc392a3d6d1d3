use Rattle.fb_functest.proofs.Lawful.{lawful}
use Rattle.fb_functest.proofs.laws.our_runs_are_lawful.Goals as goal

pub returns : goal.returns
returns c = lawful c.more_fuel_same_run.ensures.test c.runs_are_lawful.ensures c.runs_go_alike.ensures.calls c.runs_go_alike.ensures.visits c.runs_go_alike.ensures.plans
