-- Sources, which decide what calls are answered.
use Rattle.std.specs.Prelude.{◌≡◌, ℕ, Bool, true, IsTrue, Option, Some, None, List, [], length, find, nat_lt, slice_get, Result, Ok, Err, if◌then◌else◌}
use Rattle.std.specs.Option.{option_map, option_and_then}
use Rattle.std.specs.List.{last_or}
use Rattle.fb_base.specs.declared.kind.Kind.{Kind}
use Rattle.fb_base.specs.declared.value.Value.{Value}
use Rattle.fb_base.specs.declared.reply.Reply.{Reply}
use Rattle.fb_base.specs.declared.reply.Reply.TheVariants as reply
use Rattle.fb_base.specs.Values.{has_kind}
use Rattle.fb_index.specs.Entry.{Occurrence, same_entry}
use Rattle.fb_index.specs.Plan.{fault_at}
use Rattle.fb_index.specs.declared.fault.Fault.{Fault as FaultOf}
use Rattle.fb_transport.specs.declared.decision.Decision.{Decision}
use Rattle.fb_transport.specs.declared.decision.Decision.TheVariants.{Forward, Fault, Known}
use Rattle.fb_transport.specs.declared.decision.Halt.{Halt}
use Rattle.fb_transport.specs.declared.decision.Halt.TheVariants.{Missing, Memory}

-- the decision at an index, for a callee's number and arguments, or none where the source lacks an answer
abbrev pub Source : Type 0
Source = List Occurrence → ℕ → List Value → Option Decision

-- an answer is the source's decision, and Missing exactly where there is none; want of memory says nothing
abbrev pub Answers : Option Decision → Result Decision Halt → Type 0
Answers given (Ok decision) = given ≡ Some decision
Answers given (Err Missing) = given ≡ None
Answers given (Err Memory) = Unit {0}

-- only a transport that forwards answers so
abbrev pub MayForward : Bool → Result Decision Halt → Type 0
MayForward forwards (Ok Forward) = IsTrue forwards
MayForward forwards _ = Unit {0}

-- ---- the source of a plan

-- whether a method of this kind may give the reply
abbrev pub fits_kind : Reply → Kind → Bool
fits_kind (reply.Ok value) kind = has_kind value kind
fits_kind (reply.Err code) kind = true

abbrev pub if_fits : Kind → Reply → Option Reply
if_fits kind answer = if fits_kind answer kind then Some answer else None

-- the reply that a plan injects: that of its first fault at the index, where it fits the kind that the callee gives; no
-- call of the test itself is injected, nor a callee without a kind
abbrev pub injected_at : List Kind → List FaultOf → List Occurrence → ℕ → Option Reply
injected_at kinds plan index callee =
    if nat_lt (length index) 2 then None
    else option_and_then (λ kind. option_and_then (if_fits kind) (fault_at plan index)) (slice_get kinds callee)

abbrev pub fault_or_forward : Option Reply → Decision
fault_or_forward None = Forward
fault_or_forward (Some answer) = Fault answer

abbrev pub plan_source : List Kind → List FaultOf → Source
plan_source kinds plan index callee args = Some (fault_or_forward (injected_at kinds plan index callee))

-- ---- the source of a script

-- the first reply at an entry
abbrev pub reply_at : List (Occurrence × Reply) → Occurrence → Option Reply
reply_at replies entry = option_map (λ pair. pair.1) (find (λ pair. same_entry pair.0 entry) replies)

-- a known reply, with nothing evaluated or injected below
abbrev pub scripted : Reply → Decision
scripted answer = Known answer 0 []

-- a reply is found by the last entry of the index; the root has none
abbrev pub source_by_entry : (Occurrence → Option Reply) → Source
source_by_entry reply_of index callee args = option_map scripted (option_and_then reply_of (last_or None index))

abbrev pub script_source : List (Occurrence × Reply) → Source
script_source replies = source_by_entry (reply_at replies)
