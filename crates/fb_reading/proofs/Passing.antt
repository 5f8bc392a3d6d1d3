-- Refusals that come behind keys that are right.
use Rattle.std.proofs.Common.{◌≡◌, ℕ, ◌≤◌, Bool, true, false, List, Option, Some, None, is_some, inl, inr, refl, arith}
use Rattle.std.specs.Prelude.{IfSome}
use Rattle.std.specs.List.{All}
use Rattle.std.proofs.lemmas.Bool.{cases_lt}
use Rattle.serde_json.specs.Data.{Data, Members, member}
use Rattle.fb_index.specs.Entry.{Occurrence}
use Rattle.fb_index.specs.Fault.{IsAtCall}
use Rattle.fb_index.specs.Plan.{IsPlan}
use Rattle.fb_index.specs.declared.fault.Fault.{Fault}
use Rattle.fb_report.specs.Ranges.{IsLong, IsVersion}
use Rattle.fb_report.specs.Trees.{index_tree, optional_tree}
use Rattle.fb_reading.specs.declared.key.Key.{Key}
use Rattle.fb_reading.specs.declared.key.LineError.{LineError}
use Rattle.fb_reading.specs.declared.key.LineError.TheVariants.{NotJson, BadShape, BadNumber, Memory}
use Rattle.fb_reading.specs.Keys.{key_text}
use Rattle.fb_reading.specs.Refusals.{Misses, OrMemory, at_key}
use Rattle.fb_reading.specs.Shapes.{IsCallIndex, IsCallPlan, IsIndexBeside, greatest}

module _ (wanted : Key) (IsRight : Data → Type 0) (wrong : Key → Data → LineError) (Refuses : Data → Members → LineError → Type 0) (ms : Members) where
  missing : (e : LineError) → Misses wanted IsRight wrong ms e → at_key wanted IsRight wrong Refuses ms e
  unfolding at_key
  missing e h = inl h

  passing : (d : Data) (rest : Members) (e : LineError) → ms ≡ member (key_text wanted) d rest → IsRight d → Refuses d rest e → at_key wanted IsRight wrong Refuses ms e
  unfolding at_key
  passing d rest e same right refused = inr (d, rest, same, right, refused)

  pub missed : (e : LineError) → OrMemory (Misses wanted IsRight wrong ms) e → OrMemory (at_key wanted IsRight wrong Refuses ms) e
  missed NotJson h = missing NotJson h
  missed (BadShape key) h = missing (BadShape key) h
  missed (BadNumber key) h = missing (BadNumber key) h
  missed Memory h = tt

  pub passed : (d : Data) (rest : Members) (e : LineError) → ms ≡ member (key_text wanted) d rest → IsRight d → OrMemory (Refuses d rest) e → OrMemory (at_key wanted IsRight wrong Refuses ms) e
  passed d rest NotJson same right h = passing d rest NotJson same right h
  passed d rest (BadShape key) same right h = passing d rest (BadShape key) same right h
  passed d rest (BadNumber key) same right h = passing d rest (BadNumber key) same right h
  passed d rest Memory same right h = tt

pub version-of : (v : ℕ) → 1 ≤ v → v ≤ 2 → IsVersion v
version-of v low high = elim (cases_lt v 2) [ inl one ↦ inl (omega arith) | inr two ↦ inr (omega arith) ]

pub long-to : (n : ℕ) → n ≤ greatest → IsLong n
long-to n high = omega arith

pub plan-of : (stopped : Option (List Fault)) → IfSome stopped IsCallPlan → IfSome stopped IsPlan
plan-of None h = tt
plan-of (Some plan) h = h.0

pub calls-of : (stopped : Option (List Fault)) → IfSome stopped IsCallPlan → IfSome stopped (All IsAtCall)
calls-of None h = tt
calls-of (Some plan) h = h.1

pub index-beside : (faulted : Bool) (index : Option (List Occurrence)) → is_some index ≡ faulted → IfSome index IsCallIndex → IsIndexBeside faulted (optional_tree index_tree index)
index-beside true (Some index) same h = (index, h, refl)
index-beside false None same h = refl
index-beside true None same h = absurd cc
index-beside false (Some index) same h = absurd cc
