-- What is left of a walk through the calls of a run.
use Rattle.std.proofs.Common.{◌<◌, ◌≤◌, length, drop, get_or, arith, ◌≡◌, List, [], ◌∷◌, ◌++◌, map, refl, sym, ap, ◌∙◌, append_assoc, append-nil}
use Rattle.std.proofs.lemmas.List.{map-append}
use Rattle.fb_index.specs.Entry.{Occurrence}
use Rattle.fb_tree.specs.declared.node.Made.{Made}
use Rattle.fb_tree.specs.declared.node.Node.{Node, out-Node}
use Rattle.fb_tree.specs.declared.visit.Visit.{Visit}
use Rattle.fb_tree.specs.declared.preorder.Frame.{Frame}
use Rattle.fb_tree.specs.Runs.{CallList, NoCalls, AndCall, Ran}
use Rattle.fb_tree.specs.Calls.{calls_within, calls_below, call_at, visit_of, PlacedCall}
use Rattle.fb_tree.specs.Views.{view_node, view_how, view_asked, view_calls, calls_and}
use Rattle.fb_tree.specs.ViewEquations.{view_node_opened}
use Rattle.fb_tree.specs.Walk.{visits_left, visits_of_frames, visit_at, visits_below}

-- the calls from one on come behind those before it
within_and : (index : List Occurrence) (before : CallList) (calls : List Made)
    → calls_within index (calls_and before calls) ≡ calls_within index before ++ calls_within index (view_calls calls)
unfolding calls_within calls_and
within_and index before [] = sym (append-nil (calls_within index before))
within_and index before (made ∷ rest) =
    let asked = view_asked made in
    let how = view_how made.how in
    let placed : List PlacedCall = call_at (index ++ asked.entry ∷ []) asked how ∷ calls_below (index ++ asked.entry ∷ []) how in
    within_and index (AndCall before asked how) rest
    ∙ append_assoc (calls_within index before) placed (calls_within index (view_calls rest))
    ∙ ap (λ behind. calls_within index before ++ behind) (sym (within_and index (AndCall NoCalls asked how) rest))

pub visits_of_none : (frame : Frame) → length frame.calls.now < 1 → visits_left frame ≡ []
unfolding calls_within calls_and
visits_of_none frame few = none frame.calls.now few
  where
    none : (calls : List Made) → length calls < 1 → map visit_of (calls_within frame.index (view_calls calls)) ≡ []
    none [] few = refl
    none (made ∷ rest) few = absurd (omega arith)

pub visits_of_first : (frame : Frame) (made : Made) (rest : List Made) → 1 ≤ length frame.calls.now → made ≡ get_or frame.calls.now 0 made
    → rest ≡ drop 1 frame.calls.now
    → visits_left frame
    ≡ visit_at frame.index made ∷ (visits_below (frame.index ++ made.entry ∷ []) made.how ++ map visit_of (calls_within frame.index (view_calls rest)))
unfolding calls_within calls_and
visits_of_first frame made rest some is behind = rw behind (first frame.calls.now made some is)
  where
    first : (calls : List Made) (made : Made) → 1 ≤ length calls → made ≡ get_or calls 0 made
        → map visit_of (calls_within frame.index (view_calls calls))
        ≡ visit_at frame.index made ∷ (visits_below (frame.index ++ made.entry ∷ []) made.how ++ map visit_of (calls_within frame.index (view_calls (drop 1 calls))))
    first [] made some is = absurd (omega arith)
    first (it ∷ rest) made some is =
        let asked = view_asked it in
        let how = view_how it.how in
        rw is
        (ap (map visit_of) (within_and frame.index (AndCall NoCalls asked how) rest)
        ∙ map-append visit_of (call_at (frame.index ++ asked.entry ∷ []) asked how ∷ calls_below (frame.index ++ asked.entry ∷ []) how)
        (calls_within frame.index (view_calls rest)))

pub visits_of_no_frames : (frames : List Frame) → length frames ≡ 0 → visits_of_frames frames ≡ []
unfolding visits_of_frames
visits_of_no_frames [] few = refl
visits_of_no_frames (frame ∷ frames) few = absurd (omega arith)

pub visits_of_frames_one : (frames : List Frame) (frame : Frame) → visits_of_frames (frames ++ frame ∷ []) ≡ visits_left frame ++ visits_of_frames frames
unfolding visits_of_frames
visits_of_frames_one [] frame = sym (append-nil (visits_left frame))
visits_of_frames_one (outer ∷ frames) frame =
    ap (λ inner. inner ++ visits_left outer) (visits_of_frames_one frames frame)
    ∙ append_assoc (visits_left frame) (visits_of_frames frames) (visits_left outer)

pub calls_below_ran : (index : List Occurrence) (node : Node) → calls_below index (Ran (view_node node)) ≡ calls_within index (view_calls (out-Node node).calls.items)
unfolding calls_below
calls_below_ran index node = ap (λ tree. calls_below index (Ran tree)) (view_node_opened node)

-- what is left where a body's calls are taken
pub visits_popped : (frames outer : List Frame) (frame : Frame) → frames ≡ outer ++ frame ∷ [] → visits_of_frames frames ≡ visits_left frame ++ visits_of_frames outer
visits_popped frames outer frame is = ap visits_of_frames is ∙ visits_of_frames_one outer frame

pub visits_moved : (visit : Visit) (below behind outer : List Visit) → (visit ∷ (below ++ behind)) ++ outer ≡ visit ∷ (below ++ (behind ++ outer))
visits_moved visit below behind outer = ap (λ visits. visit ∷ visits) (append_assoc below behind outer)
