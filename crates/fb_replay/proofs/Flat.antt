-- The calls of a body and their lines, call by call.
use Rattle.std.proofs.Common.{◌≡◌, ℕ, List, [], ◌∷◌, ◌++◌, refl, sym, ap, ◌∙◌, append_assoc, append-nil}
use Rattle.std.specs.List.{flat_map}
use Rattle.std.proofs.lemmas.Grind.{flat_map-append}
use Rattle.fb_syntax.specs.Trees.{ServicesTree}
use Rattle.fb_index.specs.Entry.{Occurrence}
use Rattle.fb_tree.specs.declared.node.Made.{Made}
use Rattle.fb_tree.specs.declared.node.Node.{Node, out-Node}
use Rattle.fb_tree.specs.Runs.{CallList, NoCalls, AndCall, Ran}
use Rattle.fb_tree.specs.Calls.{calls_within, calls_below}
use Rattle.fb_tree.specs.Views.{view_node, view_how, view_asked, view_calls, calls_and}
use Rattle.fb_tree.specs.ViewEquations.{view_node_opened}
use Rattle.fb_replay.specs.Callees.{calls_from}
use Rattle.fb_replay.specs.ReplayText.{call_text, calls_text}

within_and : (index : List Occurrence) (before : CallList) (calls : List Made)
    → calls_within index (calls_and before calls) ≡ calls_within index before ++ flat_map (calls_from index) calls
unfolding calls_within calls_and
within_and index before [] = sym (append-nil (calls_within index before))
within_and index before (made ∷ rest) =
    within_and index (AndCall before (view_asked made) (view_how made.how)) rest
    ∙ append_assoc (calls_within index before) (calls_from index made) (flat_map (calls_from index) rest)

pub within_each : (index : List Occurrence) (calls : List Made) → calls_within index (view_calls calls) ≡ flat_map (calls_from index) calls
unfolding calls_within
within_each index calls = within_and index NoCalls calls

pub below_each : (index : List Occurrence) (node : Node) → calls_below index (Ran (view_node node)) ≡ flat_map (calls_from index) (out-Node node).calls.items
unfolding calls_below
below_each index node = ap (λ tree. calls_below index (Ran tree)) (view_node_opened node) ∙ within_each index (out-Node node).calls.items

-- what is made of all that the items give is made item by item
flat_map_each : {A B C : Type 0} (g : B → List C) (f : A → List B) (xs : List A) → flat_map g (flat_map f xs) ≡ flat_map (λ x. flat_map g (f x)) xs
flat_map_each g f [] = refl
flat_map_each g f (x ∷ xs) = flat_map-append g (f x) (flat_map f xs) ∙ ap (λ rest. flat_map g (f x) ++ rest) (flat_map_each g f xs)

-- the lines of a call and of all below it
abbrev pub lines_from : ServicesTree → List Occurrence → Made → List ℕ
lines_from services index made = calls_text services (calls_from index made)

pub within_lines : (services : ServicesTree) (index : List Occurrence) (calls : List Made)
    → flat_map (lines_from services index) calls ≡ calls_text services (calls_within index (view_calls calls))
within_lines services index calls =
    sym (ap (calls_text services) (within_each index calls) ∙ flat_map_each (call_text services) (calls_from index) calls)

pub below_lines : (services : ServicesTree) (index : List Occurrence) (node : Node)
    → flat_map (lines_from services index) (out-Node node).calls.items ≡ calls_text services (calls_below index (Ran (view_node node)))
below_lines services index node =
    sym (ap (calls_text services) (below_each index node) ∙ flat_map_each (call_text services) (calls_from index) (out-Node node).calls.items)
