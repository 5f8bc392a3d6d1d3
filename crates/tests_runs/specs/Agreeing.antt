-- Whether two records agree, as a test of their calls.
use Rattle.std.specs.Prelude.{Bool, ◌&&◌, ◌==◌, true, false, List, [], ◌∷◌, if◌then◌else◌}
use Rattle.std.specs.Cmp.Lexicographic.{pointwise}
use Rattle.fb_base.specs.Values.{same_value}
use Rattle.fb_base.specs.Replies.{same_reply}
use Rattle.fb_tree.specs.declared.asked.Asked.{Asked}
use Rattle.fb_tree.specs.declared.recorded.Record.{Record}

unfoldable pub asks_alike : Asked → Asked → Bool
asks_alike a b =
    a.entry.site == b.entry.site && a.entry.count == b.entry.count && a.callee.0 == b.callee.0
    && pointwise same_value a.args b.args

-- as long as they get the same, both ask the same, or both are at their end and this holds
unfoldable pub calls_agree : Bool → List Asked → List Asked → Bool
calls_agree holds [] [] = holds
calls_agree holds [] (b ∷ bs) = false
calls_agree holds (a ∷ rest) [] = false
calls_agree holds (a ∷ rest) (b ∷ bs) =
    if asks_alike a b then (if same_reply a.reply b.reply then calls_agree holds rest bs else true) else false

unfoldable pub records_agree : Record → Record → Bool
records_agree a b =
    if a.method.0 == b.method.0 && pointwise same_value a.args b.args
    then calls_agree (same_reply a.reply b.reply && a.steps == b.steps) a.calls b.calls
    else true
