-- The faults of a plan.
use Rattle.std.specs.Prelude.{◌≡◌, ℕ, ◌+◌, ◌<◌, List, ◌∷◌, ◌++◌, length, codes}
use Rattle.fb_base.specs.Replies.{IsProperReply}
use Rattle.fb_index.specs.Entry.{Occurrence}
use Rattle.fb_index.specs.Index.{IsIndex, index_text}
use Rattle.fb_index.specs.Refusal.{IsTextOf, IsRefusedOrLacks}
use Rattle.fb_index.specs.Spelling.{IsValueText, reply_text}
use Rattle.fb_index.specs.declared.error.PlanError.{PlanError}
use Rattle.fb_index.specs.declared.error.PlanError.TheVariants.{BadPlan, Memory}
use Rattle.fb_index.specs.declared.fault.Coded.{Coded}
use Rattle.fb_index.specs.declared.fault.Fault.{Fault}

-- its parts can be spelled
abbrev pub IsFault : Fault → Type 0
IsFault fault = IsIndex fault.index × IsProperReply fault.reply

-- it is at a call and not at the root
abbrev pub IsAtCall : Fault → Type 0
IsAtCall fault = 0 < length fault.index

-- a fault as texts have it
abbrev pub IsSpelledFault : Fault → Type 0
IsSpelledFault fault = IsFault fault × IsAtCall fault

-- INDEX=CODE, or INDEX=ok:VALUE
abbrev pub fault_text : Fault → List ℕ
fault_text fault = index_text fault.index ++ 61 ∷ reply_text fault.reply

abbrev pub IsFaultText : List ℕ → Type 0
IsFaultText bytes = IsTextOf IsSpelledFault fault_text bytes

-- INDEX=CODE, whatever the code
abbrev pub coded_text : Coded → List ℕ
coded_text coded = index_text coded.index ++ 61 ∷ coded.code

-- `INDEX=ok:` of a call, and then bytes that are no VALUE, from this place to the end
pub record LacksValueAt (bytes : List ℕ) (place : ℕ) : Type 0 where
  pub index : List Occurrence
  pub is_index : IsIndex index
  pub at_call : 0 < length index
  pub rest : List ℕ
  pub parts : bytes ≡ (index_text index ++ codes "=ok:") ++ rest
  pub placed : place ≡ length (index_text index ++ codes "=ok:")
  pub no_value : ¬ (IsValueText rest)

abbrev pub IsFaultRefusedAt : List ℕ → ℕ → Type 0
IsFaultRefusedAt = IsRefusedOrLacks IsFaultText LacksValueAt

-- what a refusal of these bytes says, which stand behind as many others; want of memory says nothing
abbrev pub RefusesFault : ℕ → List ℕ → PlanError → Type 0
RefusesFault start bytes (BadPlan offset) = (place : ℕ) × (offset ≡ start + place) × IsFaultRefusedAt bytes place
RefusesFault start bytes Memory = Unit {0}
