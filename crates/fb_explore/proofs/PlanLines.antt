-- What the line of a plan tells of it.
use Rattle.std.proofs.Common.{◌≡◌, ℕ, Option, Some, None, List, [], ◌∷◌, refl}
use Rattle.std.specs.Prelude.{IfSome, option_map, All}
use Rattle.std.specs.List.{last_or}
use Rattle.std.proofs.lemmas.List.Elements.{All-head, All-tail}
use Rattle.fb_index.specs.Fault.{IsAtCall}
use Rattle.fb_index.specs.declared.fault.Fault.{Fault}
use Rattle.fb_report.specs.Ranges.{IsFaultInRange, IsOfVersion}
use Rattle.fb_functest.specs.ReportLines.{last_fault}
use Rattle.fb_explore.specs.Turns.{CanBeTold, parent_by}

-- ---- the last fault

-- the last of items that all have a property has it
last_holds : {A : Type 0} (P : A → Type 0) (o : Option A) (xs : List A) → IfSome o P → All P xs → IfSome (last_or o xs) P
last_holds P o [] before each = before
last_holds P o (x ∷ xs) before each = last_holds P (Some x) xs (All-head P x xs each) (All-tail P x xs each)

pub last_in_range : (version : ℕ) (plan : List Fault) → CanBeTold version plan → IsFaultInRange version (last_fault plan)
last_in_range version plan told = by (last_or None plan) (last_holds (λ fault. IsAtCall fault × IsOfVersion version fault.reply) None plan tt told)
  where
    by : (o : Option Fault) → IfSome o (λ fault. IsAtCall fault × IsOfVersion version fault.reply) → IsFaultInRange version (option_map (λ fault. (fault.index, fault.reply)) o)
    by None is = tt
    by (Some fault) is = is

-- ---- its parent

-- a plan that has a last fault extends one
pub extends : (number : ℕ) (plan : List Fault) (last : Fault) → last_or None plan ≡ Some last → parent_by number plan ≡ Some number
extends number [] last is = absurd (cc)
extends number (fault ∷ faults) last is = refl
