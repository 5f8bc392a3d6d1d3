-- Which records are true, and which plans they cover.
use Rattle.std.specs.Prelude.{◌≡◌, ℕ, ⊤, Bool, List, [], ◌∷◌, find, Option, Some, None}
use Rattle.std.specs.Option.{option_map}
use Rattle.fb_base.specs.declared.kind.Kind.{Kind}
use Rattle.fb_base.specs.declared.value.Value.{Value}
use Rattle.fb_base.specs.declared.reply.Reply.{Reply}
use Rattle.fb_base.specs.declared.reply.Reply.TheVariants as reply
use Rattle.fb_base.specs.Values.{HasKind}
use Rattle.fb_index.specs.Entry.{Occurrence, same_entry}
use Rattle.fb_syntax.specs.Trees.{MethodTree, ServicesTree}
use Rattle.fb_check.specs.Declarations.{kinds_of_parameters}
use Rattle.fb_check.specs.Programs.{method_at, callee_at}
use Rattle.fb_tree.specs.Runs.{Tree, CallList}
use Rattle.fb_meaning.specs.Each.{HoldsOfEach}
use Rattle.fb_meaning.specs.CallLaws.{Answer, answers_of}
use Rattle.fb_tree.specs.Records.{record_of, steps_below}
use Rattle.fb_tree.specs.Calls.{injected_by}
use Rattle.fb_tree.specs.declared.asked.Asked.{Asked}
use Rattle.fb_tree.specs.declared.recorded.Record.{Record}
use Rattle.fb_transport.specs.Sources.{Source}
use Rattle.fb_transport.specs.declared.decision.Decision.{Decision}
use Rattle.fb_transport.specs.declared.decision.Decision.TheVariants.{Known}
use Rattle.fb_meaning.specs.Evaluations.{Done}
use Rattle.fb_meaning.specs.Meaning.{method_meaning}

-- ---- sources that know the replies of one body's calls

-- what is known of the first call with this entry
abbrev pub known_at : List Occurrence → (Occurrence → Option Decision) → Option Decision
known_at (entry ∷ []) known = known entry
known_at other known = None

abbrev pub has_entry : Occurrence → Asked → Bool
has_entry entry asked = same_entry asked.entry entry

-- the source of a record knows the reply of each of its calls
abbrev pub known_reply : List Asked → Occurrence → Option Decision
known_reply calls entry = option_map (λ asked. Known asked.reply 0 []) (find (has_entry entry) calls)

abbrev pub record_source : Record → Source
record_source item index callee args = known_at index (known_reply item.calls)

-- the source of a run's parts knows the reply, the steps and the injected callees of each call of the test
abbrev pub known_part : Answer → Decision
known_part answer = Known answer.0.reply (steps_below answer.1) (injected_by answer.0.callee answer.1)

abbrev pub parts_source : CallList → Source
parts_source calls index callee args = known_at index (λ entry. option_map known_part (find (λ answer. has_entry entry answer.0) (answers_of calls)))

-- ---- true records

abbrev pub HaveKinds : List Value → List Kind → Type 0
HaveKinds [] [] = ⊤
HaveKinds (v ∷ vs) (kind ∷ kinds) = HasKind v kind × HaveKinds vs kinds
HaveKinds vs kinds = ⊥

abbrev pub IsOkOfKind : Kind → Reply → Type 0
IsOkOfKind kind (reply.Ok v) = HasKind v kind
IsOkOfKind kind (reply.Err code) = ⊤

-- a call of the method is one of its sites', and its Ok has the kind of the callee there
pub record IsCallOf (services : ServicesTree) (method : ℕ) (asked : Asked) : Type 0 where
  pub callee : MethodTree
  pub at_site : callee_at services method asked.entry.site ≡ Some asked.callee.0
  pub there : method_at services asked.callee.0 ≡ Some callee
  pub fits : IsOkOfKind callee.gives asked.reply

-- a record that an evaluation of its method makes, with so much fuel, where its calls get its replies
pub record IsTrueRecord (services : ServicesTree) (fuel : ℕ) (item : Record) : Type 0 where
  pub method : MethodTree
  pub there : method_at services item.method.0 ≡ Some method
  pub args_fit : HaveKinds item.args (kinds_of_parameters method.params)
  pub calls_fit : HoldsOfEach (IsCallOf services item.method.0) item.calls
  pub tree : Tree
  pub left : ℕ
  pub evaluated : method_meaning services (record_source item) fuel item.method item.args [] ≡ Done tree left
  pub recorded : record_of tree ≡ item
