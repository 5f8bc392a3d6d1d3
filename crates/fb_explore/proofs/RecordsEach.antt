-- The records of a body's calls, call by call.
use Rattle.std.proofs.Common.{◌≡◌, List, [], ◌∷◌, ◌++◌, sym, ap, ◌∙◌, append_assoc, append-nil}
use Rattle.std.specs.List.{flat_map}
use Rattle.fb_tree.specs.declared.node.Made.{Made}
use Rattle.fb_tree.specs.declared.node.Node.{Node, out-Node}
use Rattle.fb_tree.specs.declared.recorded.Record.{Record}
use Rattle.fb_tree.specs.Runs.{CallList, NoCalls, AndCall, Invocation}
use Rattle.fb_tree.specs.Records.{record_of, records_of, records_in, records_below}
use Rattle.fb_tree.specs.Views.{view_node, view_how, view_asked, view_calls, calls_and}
use Rattle.fb_tree.specs.ViewEquations.{view_node_opened}

-- those of what a call invoked
abbrev pub records_from : Made → List Record
records_from made = records_below (view_how made.how)

records_and : (before : CallList) (calls : List Made) → records_in (calls_and before calls) ≡ records_in before ++ flat_map records_from calls
unfolding records_of calls_and
records_and before [] = sym (append-nil (records_in before))
records_and before (made ∷ rest) =
    records_and (AndCall before (view_asked made) (view_how made.how)) rest ∙ append_assoc (records_in before) (records_from made) (flat_map records_from rest)

pub in_each : (calls : List Made) → flat_map records_from calls ≡ records_in (view_calls calls)
unfolding records_of
in_each calls = sym (records_and NoCalls calls)

pub of_each : (node : Node) → record_of (view_node node) ∷ flat_map records_from (out-Node node).calls.items ≡ records_of (view_node node)
unfolding records_of
of_each node =
    ap (λ tree. record_of tree ∷ flat_map records_from (out-Node node).calls.items) (view_node_opened node)
    ∙ ap (λ records. record_of (Invocation (out-Node node).method (out-Node node).args (view_calls (out-Node node).calls.items) (out-Node node).reply (out-Node node).steps) ∷ records) (in_each (out-Node node).calls.items)
    ∙ sym (ap records_of (view_node_opened node))
