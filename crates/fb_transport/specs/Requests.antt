-- Requests, and what is kept of them.
use Rattle.std.specs.Prelude.{◌≡◌, ◌⊎◌, Option, Some, List, [], ◌∷◌, ◌++◌, Result, Err}
use Rattle.fb_base.specs.declared.method.MethodId.{MethodId}
use Rattle.fb_base.specs.declared.value.Value.{Value}
use Rattle.fb_index.specs.Entry.{Occurrence}
use Rattle.fb_transport.specs.declared.decision.Decision.{Decision}
use Rattle.fb_transport.specs.declared.decision.Halt.{Halt}
use Rattle.fb_transport.specs.declared.decision.Halt.TheVariants.{Missing, Memory}
use Rattle.fb_transport.specs.declared.request.Request.{Request}

abbrev pub request_of : List Occurrence → MethodId → List Value → Request
request_of at callee args = record { at = at; callee = callee; args = args }

-- the last request that had no answer, after this one
abbrev pub wanted_after : Option Request → Request → Result Decision Halt → Option Request
wanted_after before request (Err Missing) = Some request
wanted_after before request _ = before

-- the requests so far, and this one; after want of memory it is there or not
abbrev pub KeepsRequest : List Request → Request → Result Decision Halt → List Request → Type 0
KeepsRequest before request (Err Memory) after = (after ≡ before) ⊎ (after ≡ before ++ request ∷ [])
KeepsRequest before request _ after = after ≡ before ++ request ∷ []
