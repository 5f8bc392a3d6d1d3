-- The plain tree of a node, by the items of its vector of calls.
use Rattle.std.proofs.Common.{◌≡◌, List, [], ◌∷◌, ◌++◌, refl, sym, ap, ◌∙◌}
use Rattle.fb_tree.specs.declared.node.Node as node
use Rattle.fb_tree.specs.declared.node.Node.{Node, roll-Node, out-Node, Row_of-Made, end_of-Made, more_of-Made, items-the_row-Made}
use Rattle.fb_tree.specs.declared.node.How.TheBlock.{items_shown-the_row-Made-0}
use Rattle.fb_tree.specs.declared.node.How.TheViews.{out-roll-Node}
use Rattle.fb_tree.specs.declared.node.Made.{Made}
use Rattle.fb_tree.specs.declared.node.How as how
use Rattle.fb_tree.specs.Runs.{CallList, NoCalls, AndCall, Ran, Invocation}
use Rattle.fb_tree.specs.Views.{view_node, view_how, view_row, view_asked, view_calls, calls_and}

row_calls : {n : _} (before : CallList) (row : Row_of-Made n) → view_row before row ≡ calls_and before (items-the_row-Made n row)
unfolding view_node view_how view_row calls_and
row_calls before end_of-Made = refl
row_calls before (more_of-Made entry callee args h reply rest) =
    row_calls (AndCall before (record { entry = entry; callee = callee; args = args; reply = reply }) (view_how h)) rest

-- a call that is made after others
pub calls_and_one : (before : CallList) (calls : List Made) (made : Made)
    → calls_and before (calls ++ made ∷ []) ≡ AndCall (calls_and before calls) (view_asked made) (view_how made.how)
unfolding calls_and
calls_and_one before [] made = refl
calls_and_one before (first ∷ calls) made = calls_and_one (AndCall before (view_asked first) (view_how first.how)) calls made

-- a node by its fields
pub view_node_opened : (n : Node) → view_node n ≡ Invocation (out-Node n).method (out-Node n).args (view_calls (out-Node n).calls.items) (out-Node n).reply (out-Node n).steps
unfolding view_node view_how view_row out-Node calls_and denote.Hole.Carrier.out
view_node_opened (node.Node' method args shape calls reply steps) =
    ap (λ cs. Invocation method args cs reply steps) (row_calls NoCalls calls ∙ sym (ap (calls_and NoCalls) (items_shown-the_row-Made-0 shape calls)))

pub view_node_made : (method args calls reply steps : _) → view_node (roll-Node (record { method = method; args = args; calls = calls; reply = reply; steps = steps })) ≡ Invocation method args (view_calls calls.items) reply steps
view_node_made method args calls reply steps = simp (view_node_opened, out-roll-Node)

pub view_ran : (n : _) → view_how (how.Ran n) ≡ Ran (view_node n.value)
unfolding view_node view_how view_row
view_ran n = refl
