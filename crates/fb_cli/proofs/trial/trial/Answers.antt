use Rattle.fb_cli.specs.TestInputs.{inputs_seen}
use Rattle.fb_cli.proofs.Rehearsed.{EndsTrial-ended, EndsTrial-ungenerated, IsTextOf-ended, IsTextOf-ungenerated, IsTrialAnswer-ended, IsTrialAnswer-ungenerated}
use Rattle.fb_cli.proofs.trial.trial.Goals as goal

pub returns-in-Ok-clause-ends : goal.returns-in-Ok-clause-ends
returns-in-Ok-clause-ends c = EndsTrial-ended (inputs_seen c.in-Ok.inputs) c.ending_of.result c.ending_of.ensures

pub returns-in-Ok-clause-answer : goal.returns-in-Ok-clause-answer
returns-in-Ok-clause-answer c =
    IsTrialAnswer-ended c.args.number c.args.size (inputs_seen c.in-Ok.inputs) c.ending_of.result c.in-Ok.ensures.content c.ending_of.ensures

pub returns-in-Ok-clause-text : goal.returns-in-Ok-clause-text
returns-in-Ok-clause-text c held =
    IsTextOf-ended c.args.number c.args.size (inputs_seen c.in-Ok.inputs) c.ending_of.result held c.in-Ok.ensures.content c.ending_of.ensures

pub returns-in-Err-clause-ends : goal.returns-in-Err-clause-ends
returns-in-Err-clause-ends c = EndsTrial-ungenerated c.in-Err.status c.in-Err.ensures.ends

pub returns-in-Err-clause-answer : goal.returns-in-Err-clause-answer
returns-in-Err-clause-answer c =
    IsTrialAnswer-ungenerated c.args.number c.args.size c.in-Err.status c.in-Err.ensures.ends c.in-Err.ensures.content

pub returns-in-Err-clause-text : goal.returns-in-Err-clause-text
returns-in-Err-clause-text c held = IsTextOf-ungenerated c.args.number c.args.size held c.in-Err.status c.in-Err.ensures.ends
