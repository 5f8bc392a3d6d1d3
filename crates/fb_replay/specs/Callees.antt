-- Calls of the services' own methods.
use Rattle.fb_syntax.specs.Trees.{ServicesTree}
use Rattle.fb_report.specs.Names.{IsMethodOf}
use Rattle.fb_index.specs.Entry.{Occurrence}
use Rattle.fb_meaning.specs.Each.{HoldsOfEach}
use Rattle.fb_tree.specs.Calls.{PlacedCall, call_at, calls_below}
use Rattle.fb_tree.specs.Views.{view_asked, view_how}
use Rattle.fb_tree.specs.declared.node.Made.{Made}
use Rattle.std.specs.Prelude.{List, [], ◌∷◌, ◌++◌}

abbrev pub IsCallOf : ServicesTree → PlacedCall → Type 0
IsCallOf services call = IsMethodOf services call.asked.callee

abbrev pub AreCallsOf : ServicesTree → List PlacedCall → Type 0
AreCallsOf services calls = HoldsOfEach (IsCallOf services) calls

-- a call that the body at this index makes, and all below it
abbrev pub calls_from : List Occurrence → Made → List PlacedCall
calls_from index made =
    call_at (index ++ made.entry ∷ []) (view_asked made) (view_how made.how) ∷ calls_below (index ++ made.entry ∷ []) (view_how made.how)
