-- Walks, where they stand and what follows there.
use Rattle.std.proofs.Common.{◌≡◌, ◌<◌, ◌≤◌, ◌+◌, ℕ, List, [], ◌∷◌, ◌++◌, length, take, get_or, Option, Some, None, slice_get, is_some, refl, sym, ap, ◌∙◌, arith, length-take, if◌then◌else◌}
use Rattle.std.proofs.lemmas.Option.{same_Some, slice_get-get_or}
use Rattle.std.proofs.lemmas.List.{take_more, get_or-map, take_all}
use Rattle.fb_base.specs.declared.method.MethodId.{MethodId}
use Rattle.fb_base.specs.declared.value.Value.{Value}
use Rattle.fb_base.specs.declared.reply.Reply.{Reply}
use Rattle.fb_tree.specs.declared.asked.Asked.{Asked}
use Rattle.fb_tree.specs.declared.recorded.Record.{Record}
use Rattle.fb_store.specs.declared.place.Place.{Place}
use Rattle.fb_store.specs.Following.{replies_of, following, AreAgreed}
use Rattle.fb_store.specs.Ending.{IsLeftAt}
use Rattle.fb_store.specs.Growth.{first_of, place_of, StandsAt, IsPlace}
use Rattle.fb_store.specs.Walks.{Walk, walk_of}
use Rattle.fb_store.proofs.Beginnings.{none_longer, length-replies_of}
use Rattle.fb_store.proofs.Agreed.{what_follows, following_at, following_none}
use Rattle.fb_store.proofs.Growing.{way_to, way_of_item, stands_at, first_from_place, first_from_no_place}

-- what follows where a record stands first
pub follows_there : (records : List Record) → AreAgreed records → (item : Record) (at : Place) → StandsAt records item at
    → (next : Option Asked) → slice_get item.calls at.answered ≡ next
    → following records item.method item.args (take at.answered (replies_of item)) ≡ Some (what_follows next at.first)
follows_there records agreed item at stands next is =
    let replies = take at.answered (replies_of item) in
    let way = way_to records item.method item.args replies at stands.place_is in
    let same : way.first.item ≡ item = same_Some _ _ (sym way.first.item_is ∙ stands.item_is) in
    following_at records agreed item.method item.args replies at.first way.first
    ∙ ap (λ further. Some (what_follows further at.first))
    (ap (λ it. slice_get it.calls (length replies)) same ∙ ap (slice_get item.calls) way.answered ∙ is)

module _ (records : List Record) (method : MethodId) (args : List Value) (replies : List Reply) where
  pub is_place : (at : Place) → place_of records method args replies ≡ Some at → IsPlace records at
  is_place at there =
      let way = way_to records method args replies at there in
      (way.first.item, stands_at records method args replies at way there)

  -- a walk through the record at the place has come this way
  pub walk_at : (at : Place) (item : Record) → place_of records method args replies ≡ Some at → slice_get records at.first ≡ Some item
      → ◌≡◌ {A = Walk} (record { records = records; method = item.method; args = item.args; replies = take at.answered (replies_of item) })
      (record { records = records; method = method; args = args; replies = replies })
  walk_at at item there is =
      let way = way_to records method args replies at there in
      let same : way.first.item ≡ item = same_Some _ _ (sym way.first.item_is ∙ is) in
      let method_is : item.method ≡ method = ap (λ it. it.method) (sym same) ∙ way.first.begins_so.method_is in
      let args_are : item.args ≡ args = ap (λ it. it.args) (sym same) ∙ way.first.begins_so.args_are in
      let replies_are : take at.answered (replies_of item) ≡ replies = ap (λ it. take at.answered (replies_of it)) (sym same) ∙ way_of_item records method args replies at way in
      λ i. record { records = records; method = method_is i; args = args_are i; replies = replies_are i }

  pub walk_there : (at : Place) → place_of records method args replies ≡ Some at
      → walk_of records method args replies ≡ Some (record { records = records; method = method; args = args; replies = replies })
  unfolding walk_of first_of
  walk_there at there =
      ap (λ found. if is_some found then Some (record { records = records; method = method; args = args; replies = replies }) else None)
      (first_from_place records method args replies at there).0

  pub no_walk : place_of records method args replies ≡ None → walk_of records method args replies ≡ None
  unfolding walk_of first_of
  no_walk none =
      ap (λ found. if is_some found then Some (record { records = records; method = method; args = args; replies = replies }) else None)
      (first_from_no_place records method args replies none)

  -- no walk, so nothing follows, after more replies too
  pub nothing_follows : (more : List Reply) → walk_of records method args replies ≡ None → following records method args (replies ++ more) ≡ None
  unfolding walk_of first_of
  nothing_follows more none = following_none records method args (replies ++ more) (none_longer records method args replies more (by (first_of records method args replies) refl))
    where
      by : (found : Option ℕ) → first_of records method args replies ≡ found → first_of records method args replies ≡ None
      by (Some id) e = absurd (
          let some = ap (λ at. if is_some at then Some (record { records = records; method = method; args = args; replies = replies }) else None) e in
          let wrong = sym some ∙ none in cc)
      by None e = e

-- one more of a list's replies
pub reply_more : (item : Record) (i : ℕ) (asked : Asked) → i < length item.calls → asked ≡ get_or item.calls i asked
    → take (i + 1) (replies_of item) ≡ take i (replies_of item) ++ asked.reply ∷ []
reply_more item i asked low is =
    take_more (replies_of item) i asked.reply (omega (arith, length-replies_of item))
    ∙ ap (λ reply. take i (replies_of item) ++ reply ∷ [])
    (get_or-map (λ call. call.reply) item.calls i asked asked.reply low ∙ ap (λ call. call.reply) (sym is))

module _ (records : List Record) (item : Record) (at : Place) (i : ℕ) (calls : List Asked) (calls_are : calls ≡ item.calls)
    (there : place_of records item.method item.args (take i (replies_of item)) ≡ Some at) where
  -- the way so far
  pub way_so_far : i < length calls → i ≡ at.answered
  way_so_far low =
      let both = first_from_place records item.method item.args (take i (replies_of item)) at there in
      omega (arith, both.1, length-take i (replies_of item), length-replies_of item, ap length calls_are)

  -- one reply further
  pub way_further : (asked : Asked) (further : Option Place) → i < length calls → asked ≡ get_or calls i asked
      → further ≡ place_of records item.method item.args (take i (replies_of item) ++ asked.reply ∷ [])
      → place_of records item.method item.args (take (i + 1) (replies_of item)) ≡ further
  way_further asked further low is next =
      ap (place_of records item.method item.args)
      (reply_more item i asked (omega (arith, low, ap length calls_are)) (is ∙ ap (λ cs. get_or cs i asked) calls_are))
      ∙ sym next

  -- where none goes on
  pub left_at : (asked : Asked) → i < length calls → asked ≡ get_or calls i asked
      → None ≡ place_of records item.method item.args (take i (replies_of item) ++ asked.reply ∷ []) → IsLeftAt records item at
  left_at asked low is none =
      let here = way_so_far low in
      let reached : place_of records item.method item.args (take at.answered (replies_of item)) ≡ Some at =
      ap (λ n. place_of records item.method item.args (take n (replies_of item))) (sym here) ∙ there in
      record {
        asked = asked;
        asked_is =
            ap (slice_get item.calls) (sym here)
            ∙ slice_get-get_or item.calls i asked (omega (arith, low, ap length calls_are))
            ∙ ap Some (sym (is ∙ ap (λ cs. get_or cs i asked) calls_are));
        reached = reached;
        unknown =
            ap (λ n. first_of records item.method item.args (take n (replies_of item) ++ asked.reply ∷ [])) (sym here)
            ∙ first_from_no_place records item.method item.args (take i (replies_of item) ++ asked.reply ∷ []) (sym none);
      }

  pub way_to_end : length calls ≤ i → first_of records item.method item.args (replies_of item) ≡ Some at.first
  way_to_end high =
      ap (first_of records item.method item.args) (sym (take_all i (replies_of item) (omega (arith, high, length-replies_of item, ap length calls_are))))
      ∙ (first_from_place records item.method item.args (take i (replies_of item)) at there).0

-- a walk is where it has come to
pub walk_is : (records : List Record) (method : MethodId) (args : List Value) (replies : List Reply) (walk : Walk) → Some walk ≡ walk_of records method args replies
    → walk ≡ record { records = records; method = method; args = args; replies = replies }
unfolding walk_of first_of
walk_is records method args replies walk e = by (first_of records method args replies) refl
  where
    by : (found : Option ℕ) → first_of records method args replies ≡ found → walk ≡ record { records = records; method = method; args = args; replies = replies }
    by (Some id) is =
        same_Some _ _ (e ∙ ap (λ at. if is_some at then Some (record { records = records; method = method; args = args; replies = replies }) else None) is)
    by None is =
        absurd (let wrong = e ∙ ap (λ at. if is_some at then Some (record { records = records; method = method; args = args; replies = replies }) else None) is in cc)

-- one reply more of a list
pub walk_further : (records : List Record) (method : MethodId) (args : List Value) (replies : List Reply) (i : ℕ) (reply : Reply) (walk : Walk)
    → walk ≡ record { records = records; method = method; args = args; replies = take i replies } → i < length replies → reply ≡ get_or replies i reply
    → walk_of walk.records walk.method walk.args (walk.replies ++ reply ∷ []) ≡ walk_of records method args (take (i + 1) replies)
walk_further records method args replies i reply walk here low is =
    ap (λ (w : Walk). walk_of w.records w.method w.args (w.replies ++ reply ∷ [])) here
    ∙ ap (walk_of records method args) (sym (take_more replies i reply low ∙ ap (λ r. take i replies ++ r ∷ []) (sym is)))
