-- Records that begin with some replies, and what follows in them.
use Rattle.std.proofs.Common.{◌≡◌, ℕ, List, length, take, Option, Some, None, slice_get, is_some, option_map, option_and_then, Decides, refl, sym, ap, subst, if◌then◌else◌}
use Rattle.std.specs.Option.{option_or}
use Rattle.std.specs.List.{find, position}
use Rattle.std.proofs.lemmas.Bool.Decides.{Decides-and, Decides-eqb, Decides-like, not_from_Decides}
use Rattle.std.proofs.lemmas.Slice.Eq.{slice_eq-Decides}
use Rattle.std.proofs.lemmas.Option.{same_Some}
use Rattle.fb_base.specs.declared.method.MethodId.{MethodId}
use Rattle.fb_base.specs.declared.value.Value.{Value}
use Rattle.fb_base.specs.declared.reply.Reply.{Reply}
use Rattle.fb_base.specs.SameLaws.{same_value-Decides}
use Rattle.fb_base.specs.Replies.{same_reply-Decides}
use Rattle.fb_tree.specs.declared.asked.Asked.{Asked}
use Rattle.fb_tree.specs.declared.recorded.Record.{Record}
use Rattle.fb_store.specs.Following.{begins, ends, replies_of, Following, Asks, Ends, following}
use Rattle.fb_store.specs.Walks.{Walk, walk_of}
use Rattle.fb_stitch.proofs.Lists.{IsItem, passing_at, none_passes, found_item}

-- an invocation of the method on the arguments whose first replies are these
pub record BeginsSo (method : MethodId) (args : List Value) (replies : List Reply) (item : Record) : Type 0 where
  pub method_is : item.method ≡ method
  pub args_are : item.args ≡ args
  pub replies_are : take (length replies) (replies_of item) ≡ replies

pub record EndsSo (method : MethodId) (args : List Value) (replies : List Reply) (item : Record) : Type 0 where
  pub method_is : item.method ≡ method
  pub args_are : item.args ≡ args
  pub replies_are : replies_of item ≡ replies

begins-Decides : (method : MethodId) (args : List Value) (replies : List Reply) (item : Record)
    → Decides (begins method args replies item) (BeginsSo method args replies item)
unfolding begins
begins-Decides method args replies item =
    Decides-like (begins method args replies item)
    (λ e. record { method_is = (λ i. record { 0 = e.0.0 i }); args_are = e.0.1; replies_are = e.1 })
    (λ b. ((ap (λ m. m.0) b.method_is, b.args_are), b.replies_are))
    (Decides-and _ _ (Decides-and _ _ (Decides-eqb item.method.0 method.0) (slice_eq-Decides same_value-Decides item.args args _ refl))
    (slice_eq-Decides same_reply-Decides (take (length replies) (replies_of item)) replies _ refl))

ends-Decides : (method : MethodId) (args : List Value) (replies : List Reply) (item : Record)
    → Decides (ends method args replies item) (EndsSo method args replies item)
unfolding ends
ends-Decides method args replies item =
    Decides-like (ends method args replies item)
    (λ e. record { method_is = (λ i. record { 0 = e.0.0 i }); args_are = e.0.1; replies_are = e.1 })
    (λ b. ((ap (λ m. m.0) b.method_is, b.args_are), b.replies_are))
    (Decides-and _ _ (Decides-and _ _ (Decides-eqb item.method.0 method.0) (slice_eq-Decides same_value-Decides item.args args _ refl))
    (slice_eq-Decides same_reply-Decides (replies_of item) replies _ refl))

module _ (records : List Record) (method : MethodId) (args : List Value) (replies : List Reply) where
  -- ---- walks

  abbrev here : Walk
  here = record { records = records; method = method; args = args; replies = replies }

  pub record IsWalk (walk : Walk) : Type 0 where
    pub stands : walk ≡ record { records = records; method = method; args = args; replies = replies }
    pub first : Record
    pub there : IsItem records first
    pub begun : BeginsSo method args replies first

  pub walk_found : (walk : Walk) → walk_of records method args replies ≡ Some walk → IsWalk walk
  unfolding walk_of
  walk_found walk e = by (position (begins method args replies) records) refl e
    where
      by : (found : Option ℕ) → position (begins method args replies) records ≡ found → (if is_some found then Some here else None) ≡ Some walk → IsWalk walk
      by None at e = absurd (cc)
      by (Some i) at e =
          let passing = passing_at (begins method args replies) records i at in
          record {
            stands = sym (same_Some here walk e);
            first = passing.item;
            there = (i, passing.item_is);
            begun = (begins-Decides method args replies passing.item).0 passing.passes;
          }

  pub none_begins : walk_of records method args replies ≡ None → (j : ℕ) (item : Record) → slice_get records j ≡ Some item → ¬ (BeginsSo method args replies item)
  unfolding walk_of
  none_begins e j item is = by (position (begins method args replies) records) refl e
    where
      by : (found : Option ℕ) → position (begins method args replies) records ≡ found → (if is_some found then Some here else None) ≡ None → ¬ (BeginsSo method args replies item)
      by (Some i) at e = absurd (cc)
      by None at e = not_from_Decides _ (begins-Decides method args replies item) (none_passes (begins method args replies) records at j item is)

  -- ---- what follows

  -- the record of that number has exactly these replies
  pub record IsEnd (id : ℕ) : Type 0 where
    pub item : Record
    pub item_is : slice_get records id ≡ Some item
    pub ended : EndsSo method args replies item

  -- some record that begins so goes on with the call, and none ends so
  pub record IsNext (asked : Asked) : Type 0 where
    pub first : Record
    pub there : IsItem records first
    pub begun : BeginsSo method args replies first
    pub next : slice_get first.calls (length replies) ≡ Some asked
    pub none_ends : (j : ℕ) (item : Record) → slice_get records j ≡ Some item → ¬ (EndsSo method args replies item)

  abbrev pub FollowsSo : Following → Type 0
  FollowsSo (Asks asked) = IsNext asked
  FollowsSo (Ends id) = IsEnd id

  next_found : (none : (j : ℕ) (item : Record) → slice_get records j ≡ Some item → ¬ (EndsSo method args replies item)) (next : Following)
      → (first : Record) → IsItem records first → BeginsSo method args replies first → (call : Option Asked) → slice_get first.calls (length replies) ≡ call
      → option_map Asks call ≡ Some next → FollowsSo next
  next_found none next first there begun None is e = absurd (cc)
  next_found none next first there begun (Some asked) is e =
      subst FollowsSo (same_Some (Asks asked) next e) (record { first = first; there = there; begun = begun; next = is; none_ends = none })

  follows_first : (none : (j : ℕ) (item : Record) → slice_get records j ≡ Some item → ¬ (EndsSo method args replies item)) (next : Following)
      → (found : Option Record) → find (begins method args replies) records ≡ found
      → option_and_then (λ item. option_map Asks (slice_get item.calls (length replies))) found ≡ Some next → FollowsSo next
  follows_first none next None at e = absurd (cc)
  follows_first none next (Some first) at e =
      let item = found_item (begins method args replies) records first at in
      next_found none next first (item.0, item.1) ((begins-Decides method args replies first).0 item.2) (slice_get first.calls (length replies)) refl e

  pub what_follows : (next : Following) → following records method args replies ≡ Some next → FollowsSo next
  unfolding following
  what_follows next e = by (position (ends method args replies) records) refl e
    where
      by : (found : Option ℕ) → position (ends method args replies) records ≡ found
          → option_or (option_map Ends found) (option_and_then (λ item. option_map Asks (slice_get item.calls (length replies))) (find (begins method args replies) records)) ≡ Some next
          → FollowsSo next
      by (Some id) at e =
          let passing = passing_at (ends method args replies) records id at in
          subst FollowsSo (same_Some (Ends id) next e)
          (record { item = passing.item; item_is = passing.item_is; ended = (ends-Decides method args replies passing.item).0 passing.passes })
      by None at e =
          follows_first (λ j item is. not_from_Decides _ (ends-Decides method args replies item) (none_passes (ends method args replies) records at j item is))
          next (find (begins method args replies) records) refl e
