-- Bodies of the code, as the meaning has them.
use Rattle.std.specs.Prelude.{◌≡◌, ℕ, ◌+◌, ◌<◌, ◌≤◌, Bool, List, [], ◌∷◌, ◌++◌, length, unwrap_or, Option, Some, None, Result, Ok, Err}
use Rattle.std.specs.Option.{option_map}
use Rattle.std.specs.BTreeMap.{BTreeMap, get}
use Rattle.std.specs.Ordering.{nat_cmp}
use Rattle.fb_base.specs.declared.method.MethodId.{MethodId}
use Rattle.fb_base.specs.declared.value.Value.{Value}
use Rattle.fb_syntax.specs.Trees.{Expression, MethodTree, ServicesTree}
use Rattle.fb_check.specs.Counts.{entries_of}
use Rattle.fb_check.specs.Programs.{method_at}
use Rattle.fb_tree.specs.Runs.{CallList}
use Rattle.fb_tree.specs.Records.{records_in}
use Rattle.fb_tree.specs.Calls.{calls_at, injected_by}
use Rattle.fb_tree.specs.Views.{view_calls, view_how}
use Rattle.fb_tree.specs.declared.node.Made.{Made}
use Rattle.fb_transport.specs.Sources.{Source}
use Rattle.fb_meaning.specs.Evaluations.{Evaluation, Spent, Missing, Done, Flow, Next, Broke, Gave, Ended, NamedValue, State, Going}
use Rattle.fb_meaning.specs.Variables.{parameters_with}
use Rattle.fb_meaning.specs.Expressions.{◌>>=◌}
use Rattle.fb_meaning.specs.Bodies.{Whose, OfMethod, OfTest, questions, value_here, truth_of, items_of}
use Rattle.fb_eval.specs.declared.body.Body.{Body}
use Rattle.fb_eval.specs.declared.body.Whose.{Whose as WhoseOf}
use Rattle.fb_eval.specs.declared.body.Whose.TheVariants as whose
use Rattle.fb_eval.specs.declared.flow.Flow.{Flow as FlowOf}
use Rattle.fb_eval.specs.declared.flow.Flow.TheVariants as flow
use Rattle.fb_eval.specs.declared.progress.Progress.{Progress}
use Rattle.fb_eval.specs.declared.stop.Stop.{Stop}
use Rattle.fb_eval.specs.declared.stop.Stop.TheVariants as stop
use Rattle.fb_eval.specs.Units.{most_units}
use Rattle.fb_eval.specs.Means.{Here}

abbrev pub whose_of : WhoseOf → Whose
whose_of whose.Method = OfMethod
whose_of whose.Test = OfTest

abbrev pub flow_of : FlowOf → Flow
flow_of flow.Next = Next
flow_of flow.Broke = Broke
flow_of (flow.Gave reply) = Gave reply
flow_of (flow.Ended outcome) = Ended outcome

abbrev pub calls_of : Progress → CallList
calls_of progress = view_calls progress.calls.items

abbrev pub state_of : Progress → ℕ → State
state_of progress fuel = record { variables = progress.variables; calls = calls_of progress; fuel = fuel; steps = progress.steps }

abbrev pub here_of : Body → Source → Here
here_of body source =
    record { services = body.program.now.tree; source = source; frame = record { whose = whose_of body.whose; index = body.index } }

-- the body is that of a method, with its counts
pub record IsBodyOf (body : Body) (method : MethodId) : Type 0 where
  pub whose : body.whose ≡ whose.Method
  pub counts : option_map (λ m. entries_of m.body) (method_at body.program.now.tree method.0) ≡ Some body.counts.now

-- ---- what a body reads

abbrev pub value_now : Body → Progress → Expression → Option Value
value_now body progress = value_here body.program.now.tree (whose_of body.whose) (state_of progress 0)

abbrev pub condition_now : Body → Progress → Expression → Option Bool
condition_now body progress cond = value_now body progress cond >>= truth_of

abbrev pub items_now : Body → Progress → Expression → Option (List Value)
items_now body progress over = value_now body progress over >>= items_of

-- ---- the beginning of a body

pub record Begins (first : List NamedValue) (told : Option (List MethodId)) (progress : Progress) : Type 0 where
  pub variables : progress.variables ≡ first
  pub injected : progress.injected ≡ told
  pub calls : progress.calls.items ≡ []
  pub sites : (site : ℕ) → unwrap_or (get nat_cmp progress.sites site) 0 ≡ 0
  pub steps : progress.steps ≡ 0

-- that of a method on arguments
pub record BeginsMethod (services : ServicesTree) (method : MethodId) (args : List Value) (progress : Progress) : Type 0 where
  pub tree : MethodTree
  pub there : method_at services method.0 ≡ Some tree
  pub begins : Begins (parameters_with tree.params args) None progress

-- ---- what is kept beside the calls

-- how often each site has called
abbrev pub CountsSites : Progress → Type 0
CountsSites progress = (site : ℕ) → unwrap_or (get nat_cmp progress.sites site) 0 ≡ calls_at site (calls_of progress)

-- the callees injected so far are those of which the body may ask
abbrev pub IsTold : Body → Progress → Type 0
IsTold body progress = progress.injected ≡ questions (whose_of body.whose) (calls_of progress)

abbrev pub told_with : Option (List MethodId) → Made → Option (List MethodId)
told_with told made = option_map (λ callees. callees ++ injected_by made.callee (view_how made.how)) told

-- a call more
pub record KeepsCall (before : Progress) (made : Made) (after : Progress) : Type 0 where
  pub calls : after.calls.items ≡ before.calls.items ++ made ∷ []
  pub injected : after.injected ≡ told_with before.injected made
  pub variables : after.variables ≡ before.variables
  pub steps : after.steps ≡ before.steps

-- What is kept beside the calls is right. The units that are left and those taken are no more than are handed out, and
-- each call took one.
pub record IsKept (whose : Whose) (calls : List Made) (sites : BTreeMap ℕ ℕ) (injected : Option (List MethodId)) (steps fuel : ℕ) : Type 0 where
  pub counted : (site : ℕ) → unwrap_or (get nat_cmp sites site) 0 ≡ calls_at site (view_calls calls)
  pub told : injected ≡ questions whose (view_calls calls)
  pub taken : steps + fuel ≤ most_units
  pub few : length calls + fuel ≤ most_units

abbrev pub IsReady : Body → Progress → ℕ → Type 0
IsReady body progress fuel = IsKept (whose_of body.whose) progress.calls.items progress.sites progress.injected progress.steps fuel

-- the same, where the unit of a call is taken
abbrev pub IsReadyToCall : Body → Progress → ℕ → Type 0
IsReadyToCall body progress fuel = IsReady body progress fuel × (length progress.calls.items + fuel < most_units)

-- ---- ends

-- an evaluation stops for this cause as it means; want of memory says nothing
abbrev pub Stops : {W S : Type 0} → Evaluation W S → Stop → Type 0
Stops means stop.Spent = means ≡ Spent
Stops means stop.Missing = means ≡ Missing
Stops means stop.Memory = Unit {0}

-- it ends as it means
abbrev pub Ends : {A W S : Type 0} → Evaluation W S → (A → Evaluation W S) → Result A Stop → Type 0
Ends means done (Ok x) = means ≡ done x
Ends means done (Err why) = Stops means why

abbrev pub went : Progress → ℕ → FlowOf → Going
went progress fuel how = Done (flow_of how) (state_of progress fuel)

-- the invocations below a body so far
abbrev pub invocations : Progress → ℕ
invocations progress = length (records_in (calls_of progress))
