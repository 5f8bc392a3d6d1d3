-- On with a value, where there is one.
use Rattle.std.specs.Prelude.{Option}
use Rattle.fb_meaning.specs.Expressions.{◌>>=◌}

abbrev pub then_with : {A B : Type 0} → Option A → (A → Option B) → Option B
then_with found more = found >>= more
