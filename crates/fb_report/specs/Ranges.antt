-- What holds of the parts of a line that a program has, and which lines can be written.
use Rattle.std.specs.Prelude.{◌≡◌, ◌⊎◌, ℕ, ◌^◌, ◌<◌, ◌≤◌, List, All, length, Option, Some, None, IfSome}
use Rattle.fb_base.specs.declared.method.MethodName.{MethodName}
use Rattle.fb_base.specs.declared.reply.Reply.{Reply}
use Rattle.fb_base.specs.declared.reply.Reply.TheVariants as reply
use Rattle.fb_base.specs.Name.{IsName}
use Rattle.fb_base.specs.Replies.{IsProperReply}
use Rattle.fb_base.specs.Values.{IsProper}
use Rattle.fb_index.specs.Entry.{Occurrence, IsEntry}
use Rattle.fb_index.specs.Fault.{IsAtCall}
use Rattle.fb_index.specs.Index.{IsIndex}
use Rattle.fb_index.specs.Plan.{IsPlan}
use Rattle.fb_index.specs.declared.fault.Fault.{Fault}
use Rattle.fb_tree.specs.declared.outcome.Outcome.{Outcome}
use Rattle.fb_tree.specs.declared.outcome.Outcome.TheVariants as outcome
use Rattle.fb_report.specs.declared.line.Line.{Line}
use Rattle.fb_report.specs.declared.line.Line.TheVariants.{Header, Inv, Plan, End}
use Rattle.fb_report.specs.declared.named.NamedAsked.{NamedAsked}
use Rattle.fb_report.specs.declared.named.NamedRecord.{NamedRecord}

-- ---- what holds of each

abbrev pub IsLong : ℕ → Type 0
IsLong n = n < 2 ^ 64

abbrev pub IsMethodName : MethodName → Type 0
IsMethodName name = IsName name.service × IsName name.method

pub record IsProperCall (asked : NamedAsked) : Type 0 where
  pub entry : IsEntry asked.entry
  pub callee : IsMethodName asked.callee
  pub args : All IsProper asked.args
  pub reply : IsProperReply asked.reply

pub record IsProperRecord (made : NamedRecord) : Type 0 where
  pub method : IsMethodName made.method
  pub args : All IsProper made.args
  pub calls : All IsProperCall made.calls
  pub reply : IsProperReply made.reply
  pub steps : IsLong made.steps

-- ---- lines

abbrev pub IsVersion : ℕ → Type 0
IsVersion version = (version ≡ 1) ⊎ (version ≡ 2)

-- the first number of an outcome is 1
abbrev pub IsCounted : Outcome → Type 0
IsCounted outcome.Passed = Unit {0}
IsCounted (outcome.AssertFailed n) = 1 ≤ n
IsCounted (outcome.CallFailed site code) = 1 ≤ site
IsCounted (outcome.Fault n) = 1 ≤ n

-- in version 1 a fault is a code
abbrev pub IsOfVersion : ℕ → Reply → Type 0
IsOfVersion version (reply.Ok v) = version ≡ 2
IsOfVersion version (reply.Err code) = Unit {0}

abbrev pub IsFaultInRange : ℕ → Option (List Occurrence × Reply) → Type 0
IsFaultInRange version None = Unit {0}
IsFaultInRange version (Some fault) = (0 < length fault.0) × IsOfVersion version fault.1

-- what has to hold of a line for it to be written
unfoldable pub IsInRange : Line → Type 0
IsInRange (Header version fuel reduction) = IsVersion version × (1 ≤ fuel) × (fuel ≤ 1000000)
IsInRange (Inv id plan made) = Unit {0}
IsInRange (Plan version id parent fault run uses outcome) = IsVersion version × IsFaultInRange version fault × IsCounted outcome
IsInRange (End cause plans run pruned failed invs stopped) = IfSome stopped (All IsAtCall)

-- ---- what holds of each line that a program has

-- each number of an outcome, and its code
abbrev pub IsProperOutcome : Outcome → Type 0
IsProperOutcome outcome.Passed = Unit {0}
IsProperOutcome (outcome.AssertFailed n) = n < 2 ^ 32
IsProperOutcome (outcome.CallFailed site code) = (site < 2 ^ 32) × IsName code
IsProperOutcome (outcome.Fault n) = n < 2 ^ 32

pub record IsProperPlanLine (version id : ℕ) (parent : Option ℕ) (fault : Option (List Occurrence × Reply)) (uses : List ℕ) (outcome : Outcome) : Type 0 where
  pub version_fits : version < 2 ^ 32
  pub id_fits : IsLong id
  pub parent_fits : IfSome parent IsLong
  pub fault_fits : IfSome fault (λ f. IsIndex f.0 × IsProperReply f.1)
  pub uses_fits : All IsLong uses
  pub outcome_fits : IsProperOutcome outcome

pub record IsProperEnd (plans run pruned failed invs : ℕ) (stopped : Option (List Fault)) : Type 0 where
  pub plans_fits : IsLong plans
  pub run_fits : IsLong run
  pub pruned_fits : IsLong pruned
  pub failed_fits : IsLong failed
  pub invs_fits : IsLong invs
  pub stopped_fits : IfSome stopped IsPlan

unfoldable pub IsProperLine : Line → Type 0
IsProperLine (Header version fuel reduction) = (version < 2 ^ 32) × IsLong fuel
IsProperLine (Inv id plan made) = IsLong id × IsLong plan × IsProperRecord made
IsProperLine (Plan version id parent fault run uses outcome) = IsProperPlanLine version id parent fault uses outcome
IsProperLine (End cause plans run pruned failed invs stopped) = IsProperEnd plans run pruned failed invs stopped
