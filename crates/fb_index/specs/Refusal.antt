-- Which texts are refused, and where.
use Rattle.std.specs.Prelude.{◌≡◌, ◌⊎◌, ℕ, ◌≤◌, List, length, take}
use Rattle.fb_base.specs.Front.{IsFrontOf}

-- the text of some item
abbrev pub IsTextOf : {Item : Type 0} → (Item → Type 0) → (Item → List ℕ) → List ℕ → Type 0
IsTextOf {Item} IsItem text bytes = (item : Item) × IsItem item × (bytes ≡ text item)

-- some such text begins with these bytes
abbrev pub BeginsSome : (List ℕ → Type 0) → List ℕ → Type 0
BeginsSome IsText bytes = (text : List ℕ) × IsText text × IsFrontOf bytes text

-- the bytes are no such text, and this is the length of their longest front that begins one
pub record IsRefusedAt (IsText : List ℕ → Type 0) (bytes : List ℕ) (offset : ℕ) : Type 0 where
  pub no_text : ¬ (IsText bytes)
  pub within : offset ≤ length bytes
  pub begins : BeginsSome IsText (take offset bytes)
  pub longest : (n : ℕ) → n ≤ length bytes → BeginsSome IsText (take n bytes) → n ≤ offset

-- the bytes are no such text, and a value is missing at this place; or one is missing at no place, and the longest front counts
abbrev pub IsRefusedOrLacks : (List ℕ → Type 0) → (List ℕ → ℕ → Type 0) → List ℕ → ℕ → Type 0
IsRefusedOrLacks IsText LacksAt bytes offset =
    (¬ (IsText bytes) × LacksAt bytes offset)
    ⊎ (((place : ℕ) → ¬ (LacksAt bytes place)) × IsRefusedAt IsText bytes offset)
