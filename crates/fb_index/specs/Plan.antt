-- Plans, which are lists of faults.
use Rattle.std.specs.Prelude.{◌≡◌, ℕ, ◌+◌, Option, List, [], ◌∷◌, ◌++◌, All, length, map, find, codes}
use Rattle.std.specs.Option.{option_map}
use Rattle.std.specs.List.{flat_map, join_with_byte}
use Rattle.fb_base.specs.declared.reply.Reply.{Reply}
use Rattle.fb_index.specs.Refusal.{IsTextOf, IsRefusedOrLacks}
use Rattle.fb_index.specs.declared.error.PlanError.{PlanError}
use Rattle.fb_index.specs.declared.error.PlanError.TheVariants.{BadPlan, Memory}
use Rattle.fb_index.specs.Pieces.{up_to}
use Rattle.fb_index.specs.Entry.{Occurrence}
use Rattle.fb_index.specs.Index.{same_index}
use Rattle.fb_index.specs.Fault.{IsFault, IsSpelledFault, LacksValueAt, fault_text}
use Rattle.fb_index.specs.declared.fault.Fault.{Fault}

-- each fault can be spelled
abbrev pub IsPlan : List Fault → Type 0
IsPlan plan = All IsFault plan

-- the reply of the first fault at this index
abbrev pub fault_at : List Fault → List Occurrence → Option Reply
fault_at plan index = option_map (λ fault. fault.reply) (find (λ fault. same_index fault.index index) plan)

-- `none`, or the faults joined by `,`
abbrev pub plan_text : List Fault → List ℕ
plan_text [] = codes "none"
plan_text (fault ∷ faults) = join_with_byte 44 (map fault_text (fault ∷ faults))

-- the text of some plan whose faults are all at calls
abbrev pub IsPlanText : List ℕ → Type 0
IsPlanText bytes = IsTextOf (All IsSpelledFault) plan_text bytes

-- whole faults stand before, each with a `,` behind it, and in what follows up to the next `,` or the end a VALUE is missing
pub record PlanLacksValueAt (bytes : List ℕ) (place : ℕ) : Type 0 where
  pub faults : List Fault
  pub each : All IsSpelledFault faults
  pub rest : List ℕ
  pub parts : bytes ≡ flat_map (λ fault. fault_text fault ++ 44 ∷ []) faults ++ rest
  pub inside : ℕ
  pub missing : LacksValueAt (up_to 44 rest) inside
  pub placed : place ≡ length (flat_map (λ fault. fault_text fault ++ 44 ∷ []) faults) + inside

abbrev pub IsPlanRefusedAt : List ℕ → ℕ → Type 0
IsPlanRefusedAt = IsRefusedOrLacks IsPlanText PlanLacksValueAt

-- what a refusal of these bytes says; want of memory says nothing
abbrev pub RefusesPlan : List ℕ → PlanError → Type 0
RefusesPlan bytes (BadPlan offset) = IsPlanRefusedAt bytes offset
RefusesPlan bytes Memory = Unit {0}
