-- What waits in a work list.
use Rattle.std.specs.Prelude.{ℕ, ◌<◌, List, [], ◌∷◌, ◌++◌, map, length, if◌then◌else◌}
use Rattle.fb_base.specs.declared.reply.Reply.{Reply}
use Rattle.fb_index.specs.Entry.{Occurrence}
use Rattle.fb_index.specs.declared.fault.Fault.{Fault}
use Rattle.fb_tree.specs.declared.visit.Visit.{Visit}
use Rattle.fb_campaign.specs.Runs.{is_between_services}
use Rattle.fb_campaign.specs.Plans.{extensions_of}
use Rattle.fb_config.specs.declared.choices.ChoiceTable.{ChoiceTable}
use Rattle.fb_config.specs.Choices.{choices_for}
use Rattle.fb_worklist.specs.declared.pending.Pending.{Pending}

-- the callee is a method of the faults' program
abbrev pub HasMethod : ChoiceTable → Visit → Type 0
HasMethod faults call = call.callee.0 < length faults.kinds

-- the extensions of a plan, each with the plan's number as that of its parent
abbrev pub pending_of : ChoiceTable → List Fault → ℕ → List Visit → List Pending
pending_of faults plan number calls = map (λ longer. record { plan = longer; parent = number }) (extensions_of (choices_for faults) calls plan)

-- the extension by a reply at an index
abbrev pub pending_at : List Fault → ℕ → List Occurrence → Reply → Pending
pending_at plan number index given = record { plan = plan ++ record { index = index; reply = given } ∷ []; parent = number }

-- the extensions at a call
abbrev pub pending_by : ChoiceTable → List Fault → ℕ → Visit → List Pending
pending_by faults plan number call =
    if is_between_services call.index then map (pending_at plan number call.index) (choices_for faults call.callee) else []
