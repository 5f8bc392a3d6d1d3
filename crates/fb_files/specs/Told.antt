-- What an object of the outside tells of itself, or doesn't: a real file tells nothing of its content.
use Rattle.std.specs.Prelude.{Option, Some, None}

-- what is told before is told after, and the two are related so; what isn't told stays untold
abbrev pub BothTold : {A : Type 0} → (A → A → Type 0) → Option A → Option A → Type 0
BothTold related None None = Unit {0}
BothTold related (Some before) (Some after) = related before after
BothTold related None (Some after) = ⊥
BothTold related (Some before) None = ⊥
