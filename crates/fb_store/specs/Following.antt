-- What follows in a list of records, once some calls of an invocation are answered.
use Rattle.std.specs.Prelude.{◌≡◌, ℕ, Bool, ◌&&◌, ◌==◌, Option, Some, List, [], ◌∷◌, ◌++◌, length, take, map, position, slice_get, if◌then◌else◌}
use Rattle.std.specs.List.{find, list_any, position_or_len}
use Rattle.std.specs.Option.{option_map, option_and_then, option_or}
use Rattle.std.specs.Cmp.Lexicographic.{pointwise}
use Rattle.fb_base.specs.declared.method.MethodId.{MethodId}
use Rattle.fb_base.specs.declared.value.Value.{Value}
use Rattle.fb_base.specs.declared.reply.Reply.{Reply}
use Rattle.fb_base.specs.Values.{same_value}
use Rattle.fb_base.specs.Replies.{same_reply}
use Rattle.fb_tree.specs.declared.asked.Asked.{Asked}
use Rattle.fb_tree.specs.declared.recorded.Record.{Record}
use Rattle.fb_tree.specs.Agreement.{RecordsAgree}
use Rattle.fb_tree.specs.Sameness.{same_record}
use Rattle.fb_store.specs.declared.next.Next.{Next}
use Rattle.fb_store.specs.declared.next.Next.TheVariants as next

-- the replies that a record's calls got
abbrev pub replies_of : Record → List Reply
replies_of item = map (λ asked. asked.reply) item.calls

-- whether it is an invocation of the method on the arguments whose replies begin with these
unfoldable pub begins : MethodId → List Value → List Reply → Record → Bool
begins method args replies item =
    item.method.0 == method.0 && pointwise same_value item.args args
    && pointwise same_reply (take (length replies) (replies_of item)) replies

-- whether it is such an invocation with exactly these replies
unfoldable pub ends : MethodId → List Value → List Reply → Record → Bool
ends method args replies item =
    item.method.0 == method.0 && pointwise same_value item.args args && pointwise same_reply (replies_of item) replies

-- a call, as one of the records has it, or the number of the record that is at its end
pub data Following : Type 0 where
  Asks : Asked → Following
  Ends : ℕ → Following

-- the record that has exactly these replies, or else the next call of the first that begins with them
unfoldable pub following : List Record → MethodId → List Value → List Reply → Option Following
following records method args replies =
    option_or (option_map Ends (position (ends method args replies) records))
    (option_and_then (λ item. option_map Asks (slice_get item.calls (length replies))) (find (begins method args replies) records))

abbrev pub view_next : Next → Following
view_next (next.Call asked) = Asks asked.now
view_next (next.Done id) = Ends id

-- any two records agree
abbrev pub AreAgreed : List Record → Type 0
AreAgreed records = (i j : ℕ) (a b : Record) → slice_get records i ≡ Some a → slice_get records j ≡ Some b → RecordsAgree a b

-- no record stands at two places
abbrev pub AreDifferent : List Record → Type 0
AreDifferent records = (i j : ℕ) (item : Record) → slice_get records i ≡ Some item → slice_get records j ≡ Some item → i ≡ j

-- the place of a record among those that are known, or that of the next one
unfoldable pub number_of : List Record → Record → ℕ
number_of records item = position_or_len (same_record item) records

-- with the record, which comes last where it is new
unfoldable pub with_record : List Record → Record → List Record
with_record records item = if list_any (same_record item) records then records else records ++ item ∷ []
