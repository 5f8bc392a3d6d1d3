-- A walk through the calls of a run.
use Rattle.std.specs.Prelude.{◌≡◌, Option, Some, None, List, [], ◌∷◌, ◌++◌, map, Result, Ok, Err}
use Rattle.std.specs.declared.alloc.AllocError.{AllocError}
use Rattle.fb_index.specs.Entry.{Occurrence}
use Rattle.fb_tree.specs.declared.node.How.{How}
use Rattle.fb_tree.specs.declared.node.Made.{Made}
use Rattle.fb_tree.specs.declared.visit.Visit.{Visit}
use Rattle.fb_tree.specs.declared.preorder.Frame.{Frame}
use Rattle.fb_tree.specs.Calls.{calls_within, calls_below, call_at, visit_of}
use Rattle.fb_tree.specs.Views.{view_calls, view_asked, view_how}

-- what is left of a body's calls
abbrev pub visits_left : Frame → List Visit
visits_left frame = map visit_of (calls_within frame.index (view_calls frame.calls.now))

-- what is left of all bodies, the innermost one last
unfoldable pub visits_of_frames : List Frame → List Visit
visits_of_frames [] = []
visits_of_frames (frame ∷ inner) = visits_of_frames inner ++ visits_left frame

-- the visit of a call that the body at this index makes, and those of the calls below it
abbrev pub visit_at : List Occurrence → Made → Visit
visit_at index made = visit_of (call_at (index ++ made.entry ∷ []) (view_asked made) (view_how made.how))

abbrev pub visits_below : List Occurrence → How → List Visit
visits_below index how = map visit_of (calls_below index (view_how how))

-- a step gives the first of the visits and leaves the rest, and none where nothing is left; after want of memory
-- nothing is left
abbrev pub GivesNext : List Visit → Option (Result Visit AllocError) → List Visit → Type 0
GivesNext before None after = (before ≡ []) × (after ≡ [])
GivesNext before (Some (Ok visit)) after = before ≡ visit ∷ after
GivesNext before (Some (Err e)) after = (¬ (before ≡ [])) × (after ≡ [])
