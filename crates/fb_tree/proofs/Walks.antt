-- What is told of the calls of a vector, from the first one on.
use Rattle.std.proofs.Common.{◌<◌, ◌+◌, length, take, get_or, ◌≡◌, ℕ, List, [], ◌∷◌, ◌++◌, map, refl, sym, ap, ◌∙◌, append_assoc, append-nil}
use Rattle.std.proofs.lemmas.List.{take_more}
use Rattle.fb_base.specs.declared.method.MethodId.{MethodId}
use Rattle.fb_tree.specs.declared.node.Made.{Made}
use Rattle.fb_tree.specs.declared.node.Node.{Node, out-Node}
use Rattle.fb_tree.specs.Runs.{CallList, NoCalls, AndCall}
use Rattle.fb_tree.specs.Records.{asked_of, record_of}
use Rattle.fb_tree.specs.Calls.{injected_in, injected_by, injected_of}
use Rattle.fb_tree.specs.Views.{view_node, view_how, view_asked, view_calls, calls_and}
use Rattle.fb_tree.specs.ViewEquations.{calls_and_one, view_node_opened}

pub asked_of_and : (before : CallList) (calls : List Made) → asked_of (calls_and before calls) ≡ asked_of before ++ map view_asked calls
unfolding calls_and
asked_of_and before [] = sym (append-nil (asked_of before))
asked_of_and before (made ∷ rest) = asked_of_and (AndCall before (view_asked made) (view_how made.how)) rest ∙ simp append_assoc

pub injected_none : injected_in (view_calls []) ≡ []
unfolding injected_in calls_and
injected_none = refl

pub injected_one : (calls : List Made) (made : Made)
    → injected_in (view_calls (calls ++ made ∷ [])) ≡ injected_in (view_calls calls) ++ injected_by made.callee (view_how made.how)
unfolding injected_in
injected_one calls made = ap injected_in (calls_and_one NoCalls calls made)

pub injected_of_opened : (n : Node) → injected_of (view_node n) ≡ injected_in (view_calls (out-Node n).calls.items)
unfolding injected_of
injected_of_opened n = ap injected_of (view_node_opened n)

pub record_of_opened : (n : Node) → record_of (view_node n) ≡ record { method = (out-Node n).method; args = (out-Node n).args; calls = map view_asked (out-Node n).calls.items; reply = (out-Node n).reply; steps = (out-Node n).steps }
record_of_opened n =
    ap record_of (view_node_opened n)
    ∙ ap (λ asked. record { method = (out-Node n).method; args = (out-Node n).args; calls = asked; reply = (out-Node n).reply; steps = (out-Node n).steps })
    (asked_of_and NoCalls (out-Node n).calls.items)

-- a walk that has added what one more call tells
pub injected_more : (found start : List MethodId) (calls : List Made) (i : ℕ) (made : Made) → i < length calls → made ≡ get_or calls i made
    → found ≡ start ++ injected_in (view_calls (take i calls))
    → found ++ injected_by made.callee (view_how made.how) ≡ start ++ injected_in (view_calls (take (i + 1) calls))
injected_more found start calls i made low is so_far =
    rw (take_more calls i made low, ← is, injected_one (take i calls) made, so_far)
    (append_assoc start (injected_in (view_calls (take i calls))) (injected_by made.callee (view_how made.how)))
