-- What the replies of its calls make of a record.
use Rattle.std.specs.Prelude.{◌≡◌, ℕ, List, map}
use Rattle.fb_base.specs.declared.method.MethodId.{MethodId}
use Rattle.fb_base.specs.declared.value.Value.{Value}
use Rattle.fb_base.specs.declared.reply.Reply.{Reply}
use Rattle.fb_index.specs.Entry.{Occurrence}
use Rattle.fb_syntax.specs.Trees.{ServicesTree}
use Rattle.fb_tree.specs.Runs.{Tree}
use Rattle.fb_tree.specs.Records.{record_of}
use Rattle.fb_tree.specs.Agreement.{RecordsAgree}
use Rattle.fb_tree.specs.declared.recorded.Record.{Record}
use Rattle.fb_transport.specs.Sources.{Source}
use Rattle.fb_meaning.specs.Evaluations.{Done}
use Rattle.fb_meaning.specs.Meaning.{method_meaning}
use Rattle.fb_meaning.specs.Records.{IsTrueRecord}
use Rattle.fb_meaning.specs.Each.{AreApart}

-- the replies of an invocation's own calls
abbrev pub replies_of : Record → List Reply
replies_of item = map (λ asked. asked.reply) item.calls

-- two evaluations of a method on the same arguments whose calls get the same replies have the same record, whatever
-- their fuels, indexes and sources
abbrev pub SameRepliesSameRecord : Type 0
SameRepliesSameRecord =
    (services : ServicesTree) (method : MethodId) (args : List Value)
    (one other : Source) (fuel also : ℕ) (here there : List Occurrence) (first second : Tree) (left rest : ℕ) →
    method_meaning services one fuel method args here ≡ Done first left → method_meaning services other also method args there ≡ Done second rest →
    replies_of (record_of first) ≡ replies_of (record_of second) → record_of first ≡ record_of second

-- records that are true of the same services, each with some fuel, agree
abbrev pub TrueRecordsAgree : Type 0
TrueRecordsAgree =
    (services : ServicesTree) (fuel also : ℕ) (first second : Record) → IsTrueRecord services fuel first → IsTrueRecord services also second
    → RecordsAgree first second

-- no two calls of a true record have one entry
abbrev pub TrueEntriesDiffer : Type 0
TrueEntriesDiffer = (services : ServicesTree) (fuel : ℕ) (item : Record) → IsTrueRecord services fuel item → AreApart (map (λ asked. asked.entry) item.calls)
