-- What the evaluation of one body by a script gives.
use Rattle.std.specs.Prelude.{◌≡◌, ℕ, Result, Ok, Err}
use Rattle.fb_tree.specs.Runs.{Tree}
use Rattle.fb_tree.specs.Records.{record_of}
use Rattle.fb_tree.specs.declared.recorded.Record.{Record}
use Rattle.fb_meaning.specs.Evaluations.{Evaluation, Spent, Missing, Done}
use Rattle.fb_eval.specs.declared.stop.Stop.{Stop}
use Rattle.fb_eval.specs.declared.stop.Stop.TheVariants as stop

-- the record of the tree, with as much fuel left; want of memory says nothing
abbrev pub EndsWithRecord : Evaluation Tree ℕ → ℕ → Result Record Stop → Type 0
EndsWithRecord means left (Ok item) = (tree : Tree) × (means ≡ Done tree left) × (record_of tree ≡ item)
EndsWithRecord means left (Err stop.Spent) = means ≡ Spent
EndsWithRecord means left (Err stop.Missing) = means ≡ Missing
EndsWithRecord means left (Err stop.Memory) = Unit {0}
