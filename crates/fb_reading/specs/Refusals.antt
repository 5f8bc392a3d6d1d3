-- Which JSON is no line, and with which key.
use Rattle.std.specs.Prelude.{◌≡◌, ◌⊎◌, Bool, not, is_some, bytes_eq, option_and_then, All, IfSome, Option, Some, None, List, codes, if◌then◌else◌, ℕ}
use Rattle.std.specs.declared.cmp.Ordering.{Ordering}
use Rattle.std.specs.declared.cmp.Ordering.TheVariants.{Less, Equal, Greater}
use Rattle.std.specs.Ordering.{nat_cmp}
use Rattle.std.specs.Cmp.Lexicographic.{slice_cmp}
use Rattle.serde_json.specs.Data.{Data, number, string, Members, no_members, member}
use Rattle.serde_json.specs.Find.{get, as_str, as_object}
use Rattle.fb_base.specs.Name.{IsName}
use Rattle.fb_base.specs.Replies.{IsProperReply}
use Rattle.fb_base.specs.Values.{IsProper}
use Rattle.fb_report.specs.Ranges.{IsLong, IsMethodName, IsProperCall}
use Rattle.fb_report.specs.Trees.{number_tree, list_tree, optional_tree, value_tree, reply_tree, method_tree, call_tree, outcome_tree, cause_tree, plan_tree}
use Rattle.fb_reading.specs.declared.key.Key.{Key}
use Rattle.fb_reading.specs.declared.key.Key.TheVariants as key
use Rattle.fb_reading.specs.declared.key.LineError.{LineError}
use Rattle.fb_reading.specs.declared.key.LineError.TheVariants.{BadShape, BadNumber, Memory}
use Rattle.fb_reading.specs.declared.sort.Sort.{Sort}
use Rattle.fb_reading.specs.declared.sort.Sort.TheVariants as sort
use Rattle.fb_reading.specs.Keys.{key_text}
use Rattle.fb_reading.specs.Shapes.{Anything, IsTree, IsInteger, IsWord, IsFlag, IsParent, IsIndexBeside, IsOutcome, IsCallPlan, greatest, greatest_of_call, is_null}

-- ---- values

-- what is refused of a wrong value: where a number is wanted, another number is told from anything else
abbrev pub wrong_shape : Key → Data → LineError
wrong_shape named d = BadShape named

abbrev pub wrong_number : Key → Data → LineError
wrong_number named (number n) = BadNumber named
wrong_number named d = BadShape named

-- ---- objects, key by key

-- by the order of the key that is there and the one that is wanted
abbrev pub LacksBy : Ordering → Key → LineError → Type 0
LacksBy Less wanted e = e ≡ BadShape key.Other
LacksBy Equal wanted e = ⊥
LacksBy Greater wanted e = e ≡ BadShape wanted

-- the next key isn't the one that is wanted: an unwanted one comes before it, or it is absent
abbrev pub Lacks : Key → Members → LineError → Type 0
Lacks wanted no_members e = e ≡ BadShape wanted
Lacks wanted (member there d ms) e = LacksBy (slice_cmp nat_cmp there (key_text wanted)) wanted e

-- the wanted key is next and its value is wrong
abbrev pub IsWrong : Key → (Data → Type 0) → (Key → Data → LineError) → Members → LineError → Type 0
IsWrong wanted IsRight wrong ms e = (d : Data) × (rest : Members) × (ms ≡ member (key_text wanted) d rest) × (¬ (IsRight d)) × (e ≡ wrong wanted d)

-- the wanted key is next, its value is right, and what follows is refused
abbrev pub IsPassed : Key → (Data → Type 0) → (Data → Members → LineError → Type 0) → Members → LineError → Type 0
IsPassed wanted IsRight Refuses ms e = (d : Data) × (rest : Members) × (ms ≡ member (key_text wanted) d rest) × IsRight d × Refuses d rest e

-- the wanted key isn't next, or its value is wrong
abbrev pub Misses : Key → (Data → Type 0) → (Key → Data → LineError) → Members → LineError → Type 0
Misses wanted IsRight wrong ms e = Lacks wanted ms e ⊎ IsWrong wanted IsRight wrong ms e

-- what is refused from a wanted key on
unfoldable pub at_key : Key → (Data → Type 0) → (Key → Data → LineError) → (Data → Members → LineError → Type 0) → Members → LineError → Type 0
at_key wanted IsRight wrong Refuses ms e = Misses wanted IsRight wrong ms e ⊎ IsPassed wanted IsRight Refuses ms e

abbrev pub value_at : Key → (Data → Type 0) → (Members → LineError → Type 0) → Members → LineError → Type 0
value_at wanted IsRight Refuses = at_key wanted IsRight wrong_shape (λ d. Refuses)

abbrev pub number_at : Key → (Data → Type 0) → (Members → LineError → Type 0) → Members → LineError → Type 0
number_at wanted IsRight Refuses = at_key wanted IsRight wrong_number (λ d. Refuses)

-- no further key is wanted
abbrev pub at_end : Members → LineError → Type 0
at_end no_members e = ⊥
at_end (member there d ms) e = e ≡ BadShape key.Other

-- it is this refusal, or want of memory, which says nothing
abbrev pub OrMemory : (LineError → Type 0) → LineError → Type 0
OrMemory Refused Memory = Unit {0}
OrMemory Refused e = Refused e

-- ---- lines, by their sorts

abbrev pub header_refused : Members → LineError → Type 0
header_refused =
    number_at key.Fuel (IsInteger 1 1000000)
    (value_at key.Kind (IsWord (codes "header"))
    (value_at key.Reduction IsFlag
    (number_at key.Version (IsInteger 1 2) at_end)))

abbrev pub inv_refused : Members → LineError → Type 0
inv_refused =
    value_at key.Args (IsTree (All IsProper) (list_tree value_tree))
    (value_at key.Calls (IsTree (All IsProperCall) (list_tree call_tree))
    (number_at key.Id (IsInteger 0 greatest)
    (value_at key.Kind (IsWord (codes "inv"))
    (value_at key.Method (IsTree IsMethodName method_tree)
    (number_at key.Plan (IsInteger 0 greatest)
    (value_at key.Reply (IsTree IsProperReply reply_tree)
    (number_at key.Steps (IsInteger 0 greatest) at_end)))))))

-- the keys of a plan line behind that of its fault's code or reply, where there is a fault or not
abbrev pub plan_refused : Bool → Members → LineError → Type 0
plan_refused faulted =
    number_at key.Id (IsInteger 0 greatest)
    (value_at key.Index (IsIndexBeside faulted)
    (value_at key.Kind (IsWord (codes "plan"))
    (value_at key.Outcome (IsTree IsOutcome outcome_tree)
    (number_at key.Parent IsParent
    (value_at key.Run IsFlag
    (value_at key.Uses (IsTree (All IsLong) (list_tree number_tree)) at_end))))))

abbrev pub code_plan_refused : Members → LineError → Type 0
code_plan_refused = at_key key.Code (IsTree (λ code. IfSome code IsName) (optional_tree string)) wrong_shape (λ d. plan_refused (not (is_null d)))

abbrev pub reply_plan_refused : Members → LineError → Type 0
reply_plan_refused = at_key key.Fault (IsTree (λ reply. IfSome reply IsProperReply) (optional_tree reply_tree)) wrong_shape (λ d. plan_refused (not (is_null d)))

abbrev pub end_refused : Members → LineError → Type 0
end_refused =
    value_at key.Cause (IsTree Anything cause_tree)
    (number_at key.Failed (IsInteger 0 greatest)
    (number_at key.Invs (IsInteger 0 greatest)
    (value_at key.Kind (IsWord (codes "end"))
    (number_at key.Plans (IsInteger 0 greatest)
    (number_at key.Pruned (IsInteger 0 greatest)
    (number_at key.Run (IsInteger 0 greatest)
    (value_at key.Stopped (IsTree (λ plan. IfSome plan IsCallPlan) (optional_tree plan_tree)) at_end)))))))

-- a plan line with a key `fault` has version 2
abbrev pub plan_sort : Data → Sort
plan_sort d = if is_some (get (codes "fault") d) then sort.ReplyPlan else sort.CodePlan

-- the sort that a word names, if it names one
abbrev pub sort_named : Data → List ℕ → Option Sort
sort_named d word =
    if bytes_eq word (codes "header") then Some sort.Header
    else if bytes_eq word (codes "inv") then Some sort.Inv
    else if bytes_eq word (codes "plan") then Some (plan_sort d)
    else if bytes_eq word (codes "end") then Some sort.End
    else None

-- the sort that the value of `kind` names
unfoldable pub sort_of : Data → Option Sort
sort_of d = option_and_then (sort_named d) (option_and_then as_str (get (codes "kind") d))

abbrev pub sort_refused : Sort → Members → LineError → Type 0
sort_refused sort.Header = header_refused
sort_refused sort.Inv = inv_refused
sort_refused sort.CodePlan = code_plan_refused
sort_refused sort.ReplyPlan = reply_plan_refused
sort_refused sort.End = end_refused

abbrev pub members_refused : Option Sort → Option Members → LineError → Type 0
members_refused (Some told) (Some ms) e = sort_refused told ms e
members_refused _ _ e = e ≡ BadShape key.Kind

-- the refusal of a JSON that is no line
unfoldable pub IsRefused : Data → LineError → Type 0
IsRefused d e = members_refused (sort_of d) (as_object d) e

-- ---- calls in a line

abbrev pub call_refused : Members → LineError → Type 0
call_refused =
    value_at key.Args (IsTree (All IsProper) (list_tree value_tree))
    (value_at key.Callee (IsTree IsMethodName method_tree)
    (number_at key.Count (IsInteger 1 greatest_of_call)
    (value_at key.Reply (IsTree IsProperReply reply_tree)
    (number_at key.Site (IsInteger 1 greatest_of_call) at_end))))
