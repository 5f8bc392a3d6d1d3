-- What a replay prints of a run.
use Rattle.std.specs.Prelude.{ℕ, Option, Some, None, List, [], ◌∷◌, ◌++◌, codes}
use Rattle.std.specs.List.{flat_map}
use Rattle.serde_json.specs.Written.{compact_text}
use Rattle.fb_base.specs.declared.method.MethodName.{MethodName}
use Rattle.fb_base.specs.declared.reply.Reply.{Reply}
use Rattle.fb_base.specs.declared.reply.Reply.TheVariants as reply
use Rattle.fb_index.specs.Index.{index_text}
use Rattle.fb_report.specs.Names.{name_of}
use Rattle.fb_report.specs.Trees.{value_tree, method_text, outcome_text}
use Rattle.fb_syntax.specs.Trees.{ServicesTree}
use Rattle.fb_tree.specs.Calls.{PlacedCall, calls_of}
use Rattle.fb_tree.specs.Runs.{TestRun}
use Rattle.fb_tree.specs.declared.outcome.Outcome.{Outcome}

-- the parts one after another
abbrev pub joined : List (List ℕ) → List ℕ
joined parts = flat_map (λ part. part) parts

-- `ok VALUE` or `err CODE`
abbrev pub reply_text : Reply → List ℕ
reply_text (reply.Ok value) = codes "ok " ++ compact_text (value_tree value)
reply_text (reply.Err code) = codes "err " ++ code

-- `fault ok VALUE` or `fault CODE`, of a reply that was injected
abbrev pub fault_text : Reply → List ℕ
fault_text (reply.Ok value) = codes "fault ok " ++ compact_text (value_tree value)
fault_text (reply.Err code) = codes "fault " ++ code

abbrev pub answer_text : Reply → Option Reply → List ℕ
answer_text got None = reply_text got
answer_text got (Some injected) = fault_text injected

-- `SERVICE.METHOD`
abbrev pub name_text : Option MethodName → List ℕ
name_text None = []
name_text (Some name) = method_text name

-- `INDEX SERVICE.METHOD` and the reply, on a line
unfoldable pub call_text : ServicesTree → PlacedCall → List ℕ
call_text services call =
    joined (index_text call.index ∷ codes " " ∷ name_text (name_of services call.asked.callee) ∷ codes " " ∷ answer_text call.asked.reply call.fault
    ∷ codes "\n" ∷ [])

abbrev pub calls_text : ServicesTree → List PlacedCall → List ℕ
calls_text services calls = flat_map (call_text services) calls

-- `outcome OUTCOME`, on a line
abbrev pub ended_text : Outcome → List ℕ
ended_text outcome = codes "outcome " ++ (outcome_text outcome ++ codes "\n")

-- each call in the order in which calls begin, and how the test ended
unfoldable pub replay_text : ServicesTree → TestRun → List ℕ
replay_text services run = calls_text services (calls_of run) ++ ended_text run.outcome
