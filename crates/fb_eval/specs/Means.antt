-- The meanings of what is evaluated, in words that don't open: each is the word of fb_meaning, with these services, this
-- source and this frame.
use Rattle.std.specs.Prelude.{ℕ, Bool, List, Option, Some, None}
use Rattle.fb_base.specs.declared.method.MethodId.{MethodId}
use Rattle.fb_base.specs.declared.value.Value.{Value}
use Rattle.fb_base.specs.declared.reply.Reply.{Reply}
use Rattle.fb_index.specs.Entry.{Occurrence}
use Rattle.fb_syntax.specs.Trees.{Expression, Expressions, Statement, Statements, Handlers, ServicesTree}
use Rattle.fb_tree.specs.Runs.{Tree}
use Rattle.fb_transport.specs.Sources.{Source}
use Rattle.fb_meaning.specs.Evaluations.{Evaluation, Done, Next, State, Going}
use Rattle.fb_meaning.specs.Expressions.{◌>>=◌}
use Rattle.fb_meaning.specs.Positions.{Position, past, block_counts}
use Rattle.fb_meaning.specs.Bodies.{Frame, Meaning, PreparedCall, statements_go, block_goes, repeat_goes, turn_goes, for_goes, handled, method_goes, decided, let_goes, assign_goes, return_goes, fail_goes, assert_goes, if_goes, for_each_goes, call_goes, taken, act, value_here, truth_of, items_of}
use Rattle.fb_meaning.specs.Meaning.{meaning}

-- what is the same for a whole body
pub record Here : Type 0 where
  pub services : ServicesTree
  pub source : Source
  pub frame : Frame

abbrev pub meaning_of : Here → Meaning
meaning_of here = meaning here.services here.source

unfoldable pub statement_means : Here → Position → Statement → State → Going
statement_means here = meaning_of here here.frame

-- a statement whose unit is taken
unfoldable pub act_means : Here → Position → Statement → State → Going
act_means here = act here.services here.source (meaning_of here) here.frame

unfoldable pub statements_mean : Here → Position → Statements → State → Going
statements_mean here = statements_go (meaning_of here) here.frame

unfoldable pub block_means : Here → Position → Statements → State → Going
block_means here = block_goes (meaning_of here) here.frame

-- what is done where the condition doesn't hold
abbrev pub otherwise : Here → Position → Statements → Option Statements → State → Going
otherwise here inside body None = Done Next
otherwise here inside body (Some other) = block_means here (past inside (block_counts body)) other

unfoldable pub if_means : Here → Position → Position → Expression → Statements → Option Statements → State → Going
if_means here at inside cond body other =
    if_goes here.services here.source (meaning_of here) here.frame at inside cond body (otherwise here inside body other)

unfoldable pub repeat_means : Here → Position → Statements → ℕ → State → Going
repeat_means here = repeat_goes (meaning_of here) here.frame

unfoldable pub for_each_means : Here → Position → Position → List ℕ → Expression → Statements → State → Going
for_each_means here = for_each_goes here.services here.source (meaning_of here) here.frame

unfoldable pub for_means : Here → Position → Position → List ℕ → Statements → List Value → State → Going
for_means here = for_goes (meaning_of here) here.frame

unfoldable pub turn_means : Here → Position → Position → List ℕ → Statements → Value → State → Going
turn_means here = turn_goes (meaning_of here) here.frame

unfoldable pub call_means : Here → Position → Position → List ℕ → List ℕ → List ℕ → Expressions → Handlers → State → Going
call_means here = call_goes here.services here.source (meaning_of here) here.frame

unfoldable pub decided_means : Here → PreparedCall → State → Evaluation Reply State
decided_means here = decided here.services here.source (meaning_of here) here.frame

-- the reply of the call at a position is taken
unfoldable pub taken_means : Here → Position → Position → List ℕ → Handlers → Reply → State → Going
taken_means here = taken (meaning_of here) here.frame

unfoldable pub handled_means : Here → ℕ → Position → List ℕ → Handlers → State → Going
handled_means here = handled (meaning_of here) here.frame

unfoldable pub invocation_means : ServicesTree → Source → MethodId → List Value → List Occurrence → ℕ → Evaluation Tree ℕ
invocation_means services source = method_goes services (meaning services source)

-- ---- statements without blocks

unfoldable pub let_means : Here → Position → List ℕ → Expression → State → Going
let_means here = let_goes here.services here.source (meaning_of here) here.frame

unfoldable pub assign_means : Here → Position → List ℕ → Expression → State → Going
assign_means here = assign_goes here.services here.source (meaning_of here) here.frame

unfoldable pub return_means : Here → Position → Expression → State → Going
return_means here = return_goes here.services here.source (meaning_of here) here.frame

unfoldable pub fail_means : Here → Position → List ℕ → State → Going
fail_means here = fail_goes here.services here.source (meaning_of here) here.frame

unfoldable pub assert_means : Here → Position → Expression → State → Going
assert_means here = assert_goes here.services here.source (meaning_of here) here.frame

-- ---- conditions and lists

abbrev pub condition_here : Here → State → Expression → Option Bool
condition_here here state cond = value_here here.services here.frame.whose state cond >>= truth_of

abbrev pub items_here : Here → State → Expression → Option (List Value)
items_here here state over = value_here here.services here.frame.whose state over >>= items_of
