-- The automata of numbers, codes and indexes, and what reads whole bytes.
use Rattle.std.specs.Prelude.{◌≡◌, ℕ, ◌+◌, ◌-◌, ◌*◌, ◌^◌, ◌⊎◌, ◌&&◌, ◌==◌, nat_lt, Bool, true, false, Option, Some, None, List, [], ◌∷◌, if◌then◌else◌}
use Rattle.std.specs.Char.{is_ascii_digit, is_ascii_lowercase}
use Rattle.fb_base.specs.Name.{is_name_byte, longest_name}
use Rattle.fb_index.specs.Automaton.{Automaton, sequence, list_of}
use Rattle.fb_index.specs.Refusal.{IsTextOf}

-- the number with one more digit, where it still is one; it is 0 before its first digit
abbrev pub with_digit : ℕ → ℕ → Option ℕ
with_digit number byte =
    let next = number * 10 + (byte - 48) in
    if is_ascii_digit byte && nat_lt 0 next && nat_lt next (2 ^ 32) then Some next else None

abbrev pub number_automaton : Automaton ℕ
number_automaton = record { start = 0; step = with_digit; is_final = nat_lt 0 }

-- the length of a code with one more byte, where it still is one
abbrev pub with_name_byte : ℕ → ℕ → Option ℕ
with_name_byte length byte =
    if nat_lt length longest_name && (if length == 0 then is_ascii_lowercase byte else is_name_byte byte)
    then Some (length + 1) else None

abbrev pub code_automaton : Automaton ℕ
code_automaton = record { start = 0; step = with_name_byte; is_final = nat_lt 0 }

abbrev pub entry_automaton : Automaton (ℕ ⊎ ℕ)
entry_automaton = sequence number_automaton 46 number_automaton

abbrev pub index_automaton : Automaton (ℕ ⊎ ℕ)
index_automaton = list_of entry_automaton 47

abbrev pub coded_automaton : Automaton ((ℕ ⊎ ℕ) ⊎ ℕ)
coded_automaton = sequence index_automaton 61 code_automaton

-- the word, byte for byte; its states are what is still to come
abbrev pub word_step : List ℕ → ℕ → Option (List ℕ)
word_step [] byte = None
word_step (next ∷ rest) byte = if byte == next then Some rest else None

abbrev pub is_nothing : List ℕ → Bool
is_nothing [] = true
is_nothing (next ∷ rest) = false

abbrev pub word_automaton : List ℕ → Automaton (List ℕ)
word_automaton word = record { start = word; step = word_step; is_final = is_nothing }

-- what all of these bytes are read as: the item that they spell, or none where they spell none
abbrev pub IsReadAs : {Item : Type 0} → (Item → Type 0) → (Item → List ℕ) → List ℕ → Option Item → Type 0
IsReadAs IsItem text bytes (Some item) = IsItem item × (bytes ≡ text item)
IsReadAs IsItem text bytes None = ¬ (IsTextOf IsItem text bytes)
