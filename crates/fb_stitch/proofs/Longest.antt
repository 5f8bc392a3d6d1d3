-- How far a walk may go.
use Rattle.std.proofs.Common.{◌≡◌, ◌≤◌, ◌+◌, ℕ, zero, suc, List, [], ◌∷◌, length, slice_get, Some, subst, arith}
use Rattle.std.proofs.lemmas.Option.{same_Some}
use Rattle.fb_tree.specs.declared.recorded.Record.{Record}

-- the calls of all records, as many as any record's at least
unfoldable pub all_calls : List Record → ℕ
all_calls [] = 0
all_calls (item ∷ records) = length item.calls + all_calls records

pub few_calls : (records : List Record) (k : ℕ) (item : Record) → slice_get records k ≡ Some item → length item.calls ≤ all_calls records
unfolding all_calls
few_calls [] k item is = absurd (cc)
few_calls (first ∷ records) zero item is = subst (λ (r : Record). length r.calls ≤ length first.calls + all_calls records) (same_Some first item is) (omega arith)
few_calls (first ∷ records) (suc k) item is = omega (arith, few_calls records k item is)
