-- Which methods call which.
use Rattle.std.specs.Prelude.{ℕ, ◌^◌, ◌<◌, List, [], Contains, length, slice_index_or}

-- for each method, by its number from 0, the methods that it calls, in the order of its call sites
abbrev pub Graph : Type 0
Graph = List (List ℕ)

-- the methods' numbers have 32 bits
abbrev pub IsNumbered : Graph → Type 0
IsNumbered graph = length graph < 2 ^ 32

-- what a method calls; a number beyond the last one calls nothing
abbrev pub callees : Graph → ℕ → List ℕ
callees graph m = slice_index_or graph m []

abbrev pub Calls : Graph → ℕ → ℕ → Type 0
Calls graph m n = Contains (callees graph m) n
