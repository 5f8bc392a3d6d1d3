-- The text of a plan, which a command is handed among its words.
use Rattle.std.specs.Prelude.{◌≡◌, ◌≢◌, ℕ, ◌≤◌, ◌<◌, List, All, length, Option, Some, None, Result, Ok, Err}
use Rattle.fb_index.specs.declared.fault.Fault.{Fault}
use Rattle.fb_index.specs.Fault.{IsSpelledFault}
use Rattle.fb_index.specs.Plan.{IsPlanRefusedAt, plan_text}
use Rattle.fb_job.specs.declared.job.Job.{Job}
use Rattle.fb_job.specs.declared.job.Job.TheVariants.{Test, Check, Replay, Fmt, Trial}
use Rattle.fb_cli.specs.declared.status.Role.TheVariants as role
use Rattle.fb_cli.specs.declared.status.Why.{Why}
use Rattle.fb_cli.specs.declared.status.Why.TheVariants as why
use Rattle.fb_cli.specs.declared.status.Status.{Status}
use Rattle.fb_cli.specs.declared.status.Status.TheVariants.{WriteFault, Memory}
use Rattle.fb_cli.specs.Inputs.{limit_of, refused}

-- the plan that a text spells, or why it is refused
abbrev pub PlanRead : Type 0
PlanRead = Result (List Fault) Why

-- what a text is read as
abbrev pub ReadsPlan : List ℕ → PlanRead → Type 0
ReadsPlan text (Ok plan) = (length text ≤ limit_of role.Plan) × (text ≡ plan_text plan) × All IsSpelledFault plan
ReadsPlan text (Err why.TooLong) = limit_of role.Plan < length text
ReadsPlan text (Err (why.Plan offset)) = (length text ≤ limit_of role.Plan) × IsPlanRefusedAt text offset
ReadsPlan text (Err other) = ⊥

-- the text is refused, and this is how that ends the command
abbrev pub RefusesText : List ℕ → Status → Type 0
RefusesText text status = (found : Why) × ReadsPlan text (Err found) × (status ≡ refused role.Plan found)

-- what reading a text answers; want of memory says nothing
abbrev pub IsPlanReading : List ℕ → Result (List Fault) Status → Type 0
IsPlanReading text (Ok plan) = ReadsPlan text (Ok plan)
IsPlanReading text (Err Memory) = Unit {0}
IsPlanReading text (Err status) = RefusesText text status

-- a plan that was read isn't refused, and a refused one is the answer
abbrev pub AnswersRead : PlanRead → Status → Type 0
AnswersRead (Ok plan) answer = (found : Why) → answer ≢ refused role.Plan found
AnswersRead (Err found) answer = answer ≡ refused role.Plan found

-- the text of a plan is refused exactly where it is no plan's or too long, but for an output that failed and for want of
-- memory; the words alone decide it
abbrev pub AnswersText : List ℕ → Status → Type 0
AnswersText text WriteFault = Unit {0}
AnswersText text Memory = Unit {0}
AnswersText text answer = (read : PlanRead) × ReadsPlan text read × AnswersRead read answer

abbrev pub AnswersPlan : Option Job → Status → Type 0
AnswersPlan None answer = Unit {0}
AnswersPlan (Some (Test job)) answer = Unit {0}
AnswersPlan (Some (Check job)) answer = Unit {0}
AnswersPlan (Some (Fmt services)) answer = Unit {0}
AnswersPlan (Some (Trial number size)) answer = Unit {0}
AnswersPlan (Some (Replay job)) answer = AnswersText job.plan answer
