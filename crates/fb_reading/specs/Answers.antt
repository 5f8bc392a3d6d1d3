-- What reading bytes answers.
use Rattle.std.specs.Prelude.{◌≡◌, ℕ, Bool, List, All, Option, Some, None, is_some, Result, Ok, Err, IfSome, IsUtf8}
use Rattle.serde_json.specs.Data.{Data, object, Members}
use Rattle.serde_json.specs.Read.{read}
use Rattle.fb_base.specs.declared.reply.Reply.{Reply}
use Rattle.fb_index.specs.Entry.{Occurrence}
use Rattle.fb_report.specs.declared.line.Line.{Line}
use Rattle.fb_report.specs.Ranges.{IsInRange, IsLong, IsProperLine}
use Rattle.fb_report.specs.Trees.{line_tree, plan_members}
use Rattle.fb_reading.specs.declared.key.LineError.{LineError}
use Rattle.fb_reading.specs.declared.key.LineError.TheVariants.{NotJson, Memory}
use Rattle.fb_reading.specs.declared.readable.Misfit.{Misfit}
use Rattle.fb_reading.specs.declared.readable.Misfit.TheVariants as misfit
use Rattle.fb_reading.specs.declared.read_lines.RestOfPlan.{RestOfPlan}
use Rattle.fb_reading.specs.Refusals.{IsRefused}
use Rattle.fb_reading.specs.Shapes.{IsCallIndex, IsOutcome}

-- serde_json reads this tree from the bytes
abbrev pub IsTreeOf : List ℕ → Data → Type 0
IsTreeOf bytes d = IsUtf8 bytes × (read bytes ≡ Some d)

-- a line that a program may have and write
abbrev pub IsLine : Line → Type 0
IsLine line = IsProperLine line × IsInRange line

-- the line whose JSON the bytes are, and else the refusal; want of memory says nothing
abbrev pub IsAnswer : List ℕ → Result Line LineError → Type 0
IsAnswer bytes (Ok line) = IsLine line × IsTreeOf bytes (line_tree line)
IsAnswer bytes (Err NotJson) = (d : Data) → ¬ (IsTreeOf bytes d)
IsAnswer bytes (Err Memory) = Unit {0}
IsAnswer bytes (Err e) = (d : Data) × IsTreeOf bytes d × IsRefused d e

-- ---- for private clauses

-- a line with these members
abbrev pub IsLineOf : Members → Line → Type 0
IsLineOf ms line = IsLine line × (object ms ≡ line_tree line)

-- an index and a reply, where both are there
abbrev pub fault_of : Option (List Occurrence) → Option Reply → Option (List Occurrence × Reply)
fault_of (Some index) (Some reply) = Some (index, reply)
fault_of _ _ = None

-- the part of a plan line behind its fault's code or reply, where there is a fault or not
pub record IsRestOfPlan (faulted : Bool) (ms : Members) (rest : RestOfPlan) : Type 0 where
  pub id_fits : IsLong rest.id
  pub index_there : is_some rest.index ≡ faulted
  pub index_fits : IfSome rest.index IsCallIndex
  pub outcome_fits : IsOutcome rest.outcome
  pub parent_fits : IfSome rest.parent IsLong
  pub uses_fits : All IsLong rest.uses
  pub members : ms ≡ plan_members rest.id rest.parent rest.index rest.run rest.uses rest.outcome

-- why a call that stands inside a line isn't read
abbrev pub misfit_of : LineError → Misfit
misfit_of Memory = misfit.Memory
misfit_of _ = misfit.Shape
