-- The calls at which a plan is extended, and where the one at an index stands among them.
use Rattle.std.specs.Prelude.{ℕ, ◌<◌, Bool, Option, List, map, length}
use Rattle.std.specs.List.{position_from}
use Rattle.fb_index.specs.Entry.{Occurrence}
use Rattle.fb_index.specs.declared.fault.Fault.{Fault}
use Rattle.fb_tree.specs.declared.visit.Visit.{Visit}
use Rattle.fb_campaign.specs.Plans.{begun_after_plan, between_services}
use Rattle.fb_config.specs.declared.choices.ChoiceTable.{ChoiceTable}
use Rattle.fb_book.specs.declared.call.Call.{Call}
use Rattle.fb_book.specs.Keys.{is_same_key}

abbrev pub called : Visit → Call
called visit = record { index = visit.index; callee = visit.callee }

-- those that services make and that begin after the plan's last fault
abbrev pub calls_for : List Fault → List Visit → List Call
calls_for plan visits = map called (between_services (begun_after_plan plan visits))

abbrev pub is_at : List Occurrence → Call → Bool
is_at index call = is_same_key index call.index

-- where the first call at this index stands
abbrev pub place_of : List Occurrence → List Call → Option ℕ
place_of index calls = position_from (is_at index) 0 calls

-- the callee is a method of the faults' program
abbrev pub HasMethod : ChoiceTable → Call → Type 0
HasMethod faults call = call.callee.0 < length faults.kinds
