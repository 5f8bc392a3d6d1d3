-- Objects are sent member by member, and texts where they were made.
use Rattle.std.proofs.Common.{◌≡◌, ℕ, List, String, Global, string_bytes, subst}
use Rattle.std.specs.Prelude.{Result, Ok, Err, IfOk, IsOkAnd}
use Rattle.std.specs.declared.alloc.AllocError.{AllocError}
use Rattle.serde.specs.Event.{Log}
use Rattle.serde_json.specs.Data.{Data, string, Members, member}
use Rattle.serde_json.specs.Events.{SendsValue, SendsMembers}
use Rattle.fb_report.specs.Sending.{SendsMember}

pub sent : (key : List ℕ) (d : Data) (ms : Members) (old mid new : Log) → SendsMember key d old mid → SendsMembers ms mid new → SendsMembers (member key d ms) old new
sent key d ms old mid new first rest = (first.0, mid, first.1, first.2, rest)

pub text-sent : (bytes : List ℕ) (made : Result (String Global) AllocError) (old new : Log) → IfOk made (λ text. string_bytes text ≡ bytes)
    → IsOkAnd made (λ text. SendsValue (string (string_bytes text)) old new) → SendsValue (string bytes) old new
text-sent bytes (Ok text) old new same sends = subst (λ b. SendsValue (string b) old new) same sends
text-sent bytes (Err e) old new same sends = absurd sends
