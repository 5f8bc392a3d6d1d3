-- Automata over bytes, by which texts are read.
use Rattle.std.specs.Prelude.{◌≡◌, ℕ, Bool, false, Option, Some, None, List, [], ◌∷◌, ◌++◌, ◌&&◌, ◌==◌, ◌⊎◌, if◌then◌else◌, IfSome, is_some}
use Rattle.std.proofs.Common.{inl, inr}
use Rattle.std.specs.Option.{option_map, option_map_or, option_or}

-- it goes from state to state, and stops where none follows; in a final state the bytes so far are a whole text
pub record Automaton (State : Type 0) : Type 0 where
  pub start : State
  pub step : State → ℕ → Option State
  pub is_final : State → Bool

module _ {State : Type 0} (automaton : Automaton State) where
  -- the state in which it stops, and the bytes that are left
  abbrev pub run_from : State → List ℕ → State × List ℕ
  run_from state [] = (state, [])
  run_from state (byte ∷ bytes) =
      option_map_or (λ next. run_from next bytes) (automaton.step state byte) (state, byte ∷ bytes)

  abbrev pub run : List ℕ → State × List ℕ
  run bytes = run_from automaton.start bytes

-- a read of one text: it takes the bytes that the automaton takes, and gives an item where they are whole
pub record Reads {State Item : Type 0} (automaton : Automaton State) (text : Item → List ℕ) (before : List ℕ)
    (item : Option Item) (after : List ℕ) : Type 0 where
  pub stopped : (run automaton before).1 ≡ after
  pub whole : automaton.is_final (run automaton before).0 ≡ is_some item
  pub spelled : IfSome item (λ found. before ≡ text found ++ after)

abbrev pub begins_with : ℕ → List ℕ → Bool
begins_with sign [] = false
begins_with sign (byte ∷ bytes) = byte == sign

-- one text, the sign, and another text
module _ {First Second : Type 0} (first : Automaton First) (sign : ℕ) (second : Automaton Second) where
  abbrev sequence_step : First ⊎ Second → ℕ → Option (First ⊎ Second)
  sequence_step (inl state) byte =
      option_or (option_map inl (first.step state byte))
      (if byte == sign && first.is_final state then Some (inr second.start) else None)
  sequence_step (inr state) byte = option_map inr (second.step state byte)

  abbrev sequence_is_final : First ⊎ Second → Bool
  sequence_is_final (inl state) = false
  sequence_is_final (inr state) = second.is_final state

  abbrev pub sequence : Automaton (First ⊎ Second)
  sequence = record { start = inl first.start; step = sequence_step; is_final = sequence_is_final }

-- one or more texts, with the sign between each two
module _ {State : Type 0} (item : Automaton State) (sign : ℕ) where
  abbrev list_step : State → ℕ → Option State
  list_step state byte =
      option_or (item.step state byte) (if byte == sign && item.is_final state then Some item.start else None)

  abbrev pub list_of : Automaton State
  list_of = record { start = item.start; step = list_step; is_final = item.is_final }
