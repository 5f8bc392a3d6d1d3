-- The JSON of each line of a report, its keys in the order of their bytes.
use Rattle.std.specs.Prelude.{ℕ, Bool, Option, Some, None, List, [], ◌∷◌, ◌++◌, codes, if◌then◌else◌, ◌==◌}
use Rattle.std.specs.Fmt.{decimal}
use Rattle.serde_json.specs.Data.{Data, null, boolean, number, unsigned, string, array, object, Items, no_items, item, Members, no_members, member}
use Rattle.serde_json.specs.Find.{of_integer}
use Rattle.fb_base.specs.declared.items.Items.{Items as ItemsOf}
use Rattle.fb_base.specs.declared.items.Items.TheVariants as items
use Rattle.fb_base.specs.declared.method.MethodName.{MethodName}
use Rattle.fb_base.specs.declared.value.Value.{Value}
use Rattle.fb_base.specs.declared.value.Value.TheVariants as value
use Rattle.fb_base.specs.declared.reply.Reply.{Reply}
use Rattle.fb_base.specs.declared.reply.Reply.TheVariants as reply
use Rattle.fb_index.specs.Entry.{Occurrence}
use Rattle.fb_index.specs.Index.{index_text}
use Rattle.fb_index.specs.Plan.{plan_text}
use Rattle.fb_index.specs.declared.fault.Fault.{Fault}
use Rattle.fb_tree.specs.declared.outcome.Outcome.{Outcome}
use Rattle.fb_tree.specs.declared.outcome.Outcome.TheVariants as outcome
use Rattle.fb_report.specs.declared.line.Cause.{Cause}
use Rattle.fb_report.specs.declared.line.Cause.TheVariants as cause
use Rattle.fb_report.specs.declared.line.Line.{Line}
use Rattle.fb_report.specs.declared.line.Line.TheVariants.{Header, Inv, Plan, End}
use Rattle.fb_report.specs.declared.named.NamedAsked.{NamedAsked}
use Rattle.fb_report.specs.declared.named.NamedRecord.{NamedRecord}

-- ---- parts

abbrev pub number_tree : ℕ → Data
number_tree n = number (unsigned n)

-- the items of a list
abbrev pub trees_of : {A : Type 0} → (A → Data) → List A → Items
trees_of tree [] = no_items
trees_of tree (x ∷ xs) = item (tree x) (trees_of tree xs)

abbrev pub list_tree : {A : Type 0} → (A → Data) → List A → Data
list_tree tree xs = array (trees_of tree xs)

-- what is there, or null
abbrev pub optional_tree : {A : Type 0} → (A → Data) → Option A → Data
optional_tree tree None = null
optional_tree tree (Some x) = tree x

abbrev pub items_tree : ItemsOf → Data
items_tree items.Empty = array no_items
items_tree (items.Ints xs) = list_tree (λ n. number (of_integer n)) xs
items_tree (items.Bools xs) = list_tree boolean xs
items_tree (items.Texts xs) = list_tree string xs

abbrev pub value_tree : Value → Data
value_tree (value.Int n) = number (of_integer n)
value_tree (value.Bool b) = boolean b
value_tree (value.Text bytes) = string bytes
value_tree (value.List xs) = items_tree xs

abbrev pub reply_tree : Reply → Data
reply_tree (reply.Ok v) = object (member (codes "ok") (value_tree v) no_members)
reply_tree (reply.Err code) = object (member (codes "err") (string code) no_members)

-- SERVICE.METHOD
abbrev pub method_text : MethodName → List ℕ
method_text name = name.service ++ 46 ∷ name.method

abbrev pub method_tree : MethodName → Data
method_tree name = string (method_text name)

abbrev pub call_tree : NamedAsked → Data
call_tree asked =
    object (member (codes "args") (list_tree value_tree asked.args)
    (member (codes "callee") (method_tree asked.callee)
    (member (codes "count") (number_tree asked.entry.count)
    (member (codes "reply") (reply_tree asked.reply)
    (member (codes "site") (number_tree asked.entry.site) no_members)))))

abbrev pub outcome_text : Outcome → List ℕ
outcome_text outcome.Passed = codes "passed"
outcome_text (outcome.AssertFailed n) = codes "assert_failed " ++ decimal n
outcome_text (outcome.CallFailed site code) = codes "call_failed " ++ (decimal site ++ 32 ∷ code)
outcome_text (outcome.Fault n) = codes "fault " ++ decimal n

abbrev pub outcome_tree : Outcome → Data
outcome_tree outcome = string (outcome_text outcome)

abbrev pub cause_text : Cause → List ℕ
cause_text cause.Completed = codes "completed"
cause_text cause.Fuel = codes "fuel"
cause_text cause.Budget = codes "budget"

abbrev pub cause_tree : Cause → Data
cause_tree cause = string (cause_text cause)

abbrev pub index_tree : List Occurrence → Data
index_tree index = string (index_text index)

abbrev pub plan_tree : List Fault → Data
plan_tree plan = string (plan_text plan)

-- ---- lines

abbrev pub header_tree : ℕ → ℕ → Bool → Data
header_tree version fuel reduction =
    object (member (codes "fuel") (number_tree fuel)
    (member (codes "kind") (string (codes "header"))
    (member (codes "reduction") (boolean reduction)
    (member (codes "version") (number_tree version) no_members))))

abbrev pub inv_tree : ℕ → ℕ → NamedRecord → Data
inv_tree id plan made =
    object (member (codes "args") (list_tree value_tree made.args)
    (member (codes "calls") (list_tree call_tree made.calls)
    (member (codes "id") (number_tree id)
    (member (codes "kind") (string (codes "inv"))
    (member (codes "method") (method_tree made.method)
    (member (codes "plan") (number_tree plan)
    (member (codes "reply") (reply_tree made.reply)
    (member (codes "steps") (number_tree made.steps) no_members))))))))

-- the index and the reply of a fault, where there is one
abbrev pub faulted_index : Option (List Occurrence × Reply) → Option (List Occurrence)
faulted_index None = None
faulted_index (Some fault) = Some fault.0

abbrev pub faulted_reply : Option (List Occurrence × Reply) → Option Reply
faulted_reply None = None
faulted_reply (Some fault) = Some fault.1

-- the code of an error, none of a value
abbrev pub code_of : Option Reply → Option (List ℕ)
code_of None = None
code_of (Some (reply.Ok v)) = None
code_of (Some (reply.Err code)) = Some code

-- the keys of a plan line behind that of its reply
abbrev pub plan_members : ℕ → Option ℕ → Option (List Occurrence) → Bool → List ℕ → Outcome → Members
plan_members id parent index run uses outcome =
    member (codes "id") (number_tree id)
    (member (codes "index") (optional_tree index_tree index)
    (member (codes "kind") (string (codes "plan"))
    (member (codes "outcome") (outcome_tree outcome)
    (member (codes "parent") (optional_tree number_tree parent)
    (member (codes "run") (boolean run)
    (member (codes "uses") (list_tree number_tree uses) no_members))))))

-- version 2 has the whole reply of a fault, any other its code
abbrev pub fault_key : ℕ → List ℕ
fault_key version = if version == 2 then codes "fault" else codes "code"

abbrev pub fault_tree : ℕ → Option Reply → Data
fault_tree version reply = if version == 2 then optional_tree reply_tree reply else optional_tree string (code_of reply)

abbrev pub plan_line_tree : ℕ → ℕ → Option ℕ → Option (List Occurrence × Reply) → Bool → List ℕ → Outcome → Data
plan_line_tree version id parent fault run uses outcome =
    object (member (fault_key version) (fault_tree version (faulted_reply fault))
    (plan_members id parent (faulted_index fault) run uses outcome))

abbrev pub end_tree : Cause → ℕ → ℕ → ℕ → ℕ → ℕ → Option (List Fault) → Data
end_tree cause plans run pruned failed invs stopped =
    object (member (codes "cause") (cause_tree cause)
    (member (codes "failed") (number_tree failed)
    (member (codes "invs") (number_tree invs)
    (member (codes "kind") (string (codes "end"))
    (member (codes "plans") (number_tree plans)
    (member (codes "pruned") (number_tree pruned)
    (member (codes "run") (number_tree run)
    (member (codes "stopped") (optional_tree plan_tree stopped) no_members))))))))

unfoldable pub line_tree : Line → Data
line_tree (Header version fuel reduction) = header_tree version fuel reduction
line_tree (Inv id plan made) = inv_tree id plan made
line_tree (Plan version id parent fault run uses outcome) = plan_line_tree version id parent fault run uses outcome
line_tree (End cause plans run pruned failed invs stopped) = end_tree cause plans run pruned failed invs stopped
