-- How calls are decided, as far as an evaluation can tell.
use Rattle.std.specs.Prelude.{◌≡◌, Bool, true, false, Option, Some, None, Result, Err}
use Rattle.fb_transport.specs.declared.decision.Halt.{Halt}
use Rattle.fb_transport.specs.declared.decision.Halt.TheVariants as halt
use Rattle.fb_transport.specs.declared.request.Request.{Request}
use Rattle.fb_transport.specs.Sources.{Source}
use Rattle.fb_eval.specs.declared.stop.Stop.{Stop}
use Rattle.fb_eval.specs.declared.stop.Stop.TheVariants as stop

-- the decisions, and whether a callee may be evaluated; no call changes either
pub record Ways : Type 0 where
  pub gives : Source
  pub forwards : Bool

-- ---- the last request that had no answer

abbrev pub lacks_decision : {A : Type 0} → Result A Halt → Bool
lacks_decision (Err halt.Missing) = true
lacks_decision _ = false

abbrev pub lacks_answer : {A : Type 0} → Result A Stop → Bool
lacks_answer (Err stop.Missing) = true
lacks_answer _ = false

-- it is another one only after an answer was missing
abbrev pub WantedAfter : Bool → Option Request → Option Request → Type 0 → Type 0
WantedAfter true before after has_lacked = has_lacked
WantedAfter false before after has_lacked = after ≡ before

-- there is one, and it has no answer
abbrev pub IsLacked : Source → Option Request → Type 0
IsLacked gives None = ⊥
IsLacked gives (Some request) = gives request.at request.callee.0 request.args ≡ None
