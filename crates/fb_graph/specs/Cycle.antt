-- Methods that call themselves through calls.
use Rattle.std.specs.Prelude.{ℕ, ◌<◌, Option, Some, None, List}
use Rattle.fb_graph.specs.declared.cycle.Cycle.{Cycle}
use Rattle.fb_graph.specs.Graph.{Graph}
use Rattle.fb_graph.specs.Walk.{IsWalk, IsFirstWalk}

-- the method calls itself through these
abbrev pub IsCycle : Graph → ℕ → List ℕ → Type 0
IsCycle graph m through = IsWalk graph m through m

-- the shortest cycle of the method, and the first in dictionary order of those
abbrev pub IsFirstCycle : Graph → ℕ → List ℕ → Type 0
IsFirstCycle graph m through = IsFirstWalk graph m through m

abbrev pub IsOnNoCycle : Graph → ℕ → Type 0
IsOnNoCycle graph m = (through : List ℕ) → ¬ (IsCycle graph m through)

-- none where no method is on a cycle, else the first method that is, with its first cycle
abbrev pub TellsFirstCycle : Graph → Option Cycle → Type 0
TellsFirstCycle graph None = (m : ℕ) → IsOnNoCycle graph m
TellsFirstCycle graph (Some cycle) =
    IsFirstCycle graph cycle.first cycle.through × ((m : ℕ) → m < cycle.first → IsOnNoCycle graph m)
