-- How the trees stand to the records, and how they stand to one record more.
use Rattle.std.proofs.Common.{◌≡◌, ◌<◌, ◌≤◌, ◌+◌, ℕ, List, [], ◌∷◌, ◌++◌, length, take, drop, Option, Some, None, slice_get, option_map, ◌⊎◌, inl, inr, refl, sym, ap, ◌∙◌, subst, arith, length-append, take-append-drop}
use Rattle.std.proofs.lemmas.Option.{slice_get_within, same_Some}
use Rattle.fb_base.specs.declared.method.MethodId.{MethodId}
use Rattle.fb_base.specs.declared.value.Value.{Value}
use Rattle.fb_base.specs.declared.reply.Reply.{Reply}
use Rattle.fb_tree.specs.declared.asked.Asked.{Asked}
use Rattle.fb_tree.specs.declared.recorded.Record.{Record}
use Rattle.fb_store.specs.declared.place.Place.{Place}
use Rattle.fb_store.specs.declared.trees.Trees.{Trees}
use Rattle.fb_store.specs.Following.{replies_of, AreDifferent}
use Rattle.fb_store.specs.Trees.{root_in, branch_in, AreAlike}
use Rattle.fb_store.specs.Growth.{first_of, place_of, StandsAt, AreGrown}
use Rattle.fb_store.proofs.Firsts.{slice_get_one_more}
use Rattle.fb_store.proofs.Beginnings.{BeginsSo, FirstSo, begins_shorter, next_from_longer, first_so, none_so, none_is, first_kept, none_kept, first_goes_on, none_longer}
use Rattle.fb_store.proofs.Agreed.{none_goes_on}

-- ---- places

module _ (records : List Record) (method : MethodId) (args : List Value) (replies : List Reply) where
  pub place_from_first : (id : ℕ) → first_of records method args replies ≡ Some id → place_of records method args replies ≡ Some (record { first = id; answered = length replies })
  unfolding place_of
  place_from_first id e = ap (option_map (λ id. record { first = id; answered = length replies })) e

  pub no_place : first_of records method args replies ≡ None → place_of records method args replies ≡ None
  unfolding place_of
  no_place e = ap (option_map (λ id. record { first = id; answered = length replies })) e

  pub first_from_place : (at : Place) → place_of records method args replies ≡ Some at → (first_of records method args replies ≡ Some at.first) × (length replies ≡ at.answered)
  unfolding place_of
  first_from_place at e = by (first_of records method args replies) refl
    where
      by : (found : Option ℕ) → first_of records method args replies ≡ found → (first_of records method args replies ≡ Some at.first) × (length replies ≡ at.answered)
      by (Some id) is =
          let same : record { first = id; answered = length replies } ≡ at = same_Some _ _ (sym (place_from_first id is) ∙ e) in
          (is ∙ ap (λ p. Some p.first) same, ap (λ p. p.answered) same)
      by None is = absurd (let wrong = sym (no_place is) ∙ e in cc)

  pub first_from_no_place : place_of records method args replies ≡ None → first_of records method args replies ≡ None
  first_from_no_place e = by (first_of records method args replies) refl
    where
      by : (found : Option ℕ) → first_of records method args replies ≡ found → first_of records method args replies ≡ None
      by (Some id) is = absurd (let wrong = sym (place_from_first id is) ∙ e in cc)
      by None is = is

-- the record that stands first at a place, with the way to it
pub record WayTo (records : List Record) (method : MethodId) (args : List Value) (replies : List Reply) (at : Place) : Type 0 where
  pub first : FirstSo records method args replies at.first
  pub answered : length replies ≡ at.answered

pub way_to : (records : List Record) (method : MethodId) (args : List Value) (replies : List Reply) (at : Place)
    → place_of records method args replies ≡ Some at → WayTo records method args replies at
way_to records method args replies at e =
    let both = first_from_place records method args replies at e in
    record { first = first_so records method args replies at.first both.0; answered = both.1 }

module _ (records : List Record) (method : MethodId) (args : List Value) (replies : List Reply) (at : Place) (way : WayTo records method args replies at) where
  -- the way is that of the record
  pub way_of_item : take at.answered (replies_of way.first.item) ≡ replies
  way_of_item = ap (λ n. take n (replies_of way.first.item)) (sym way.answered) ∙ way.first.begins_so.replies_are

  pub place_of_item : place_of records method args replies ≡ Some at → place_of records way.first.item.method way.first.item.args (take at.answered (replies_of way.first.item)) ≡ Some at
  place_of_item e = rw (way.first.begins_so.method_is, way.first.begins_so.args_are, way_of_item) e

  pub stands_at : place_of records method args replies ≡ Some at → StandsAt records way.first.item at
  stands_at e = record { item_is = way.first.item_is; place_is = place_of_item e }

-- ---- one reply further

module _ (records : List Record) (trees : Trees) (grown : AreGrown records trees) (method : MethodId) (args : List Value) (replies : List Reply) (at : Place) (answer : Reply)
    (there : place_of records method args replies ≡ Some at) (item : Record) (item_is : slice_get records at.first ≡ Some item) where
  way : WayTo records method args replies at
  way = way_to records method args replies at there

  same_item : way.first.item ≡ item
  same_item = same_Some _ _ (sym way.first.item_is ∙ item_is)

  call_is : (next : Option Asked) → slice_get item.calls at.answered ≡ next → slice_get way.first.item.calls (length replies) ≡ next
  call_is next is = ap (λ it. slice_get it.calls (length replies)) same_item ∙ ap (slice_get item.calls) way.answered ∙ is

  pub no_place_at_end : slice_get item.calls at.answered ≡ None → place_of records method args (replies ++ answer ∷ []) ≡ None
  no_place_at_end over =
      no_place records method args (replies ++ answer ∷ [])
      (none_goes_on records grown.agreed method args replies at.first way.first answer (call_is None over))

  pub place_by_own : (asked : Asked) → slice_get item.calls at.answered ≡ Some asked → asked.reply ≡ answer
      → place_of records method args (replies ++ answer ∷ []) ≡ Some (record { first = at.first; answered = at.answered + 1 })
  place_by_own asked is same =
      place_from_first records method args (replies ++ answer ∷ []) at.first
      (ap (λ reply. first_of records method args (replies ++ reply ∷ [])) (sym same)
      ∙ first_goes_on records method args replies at.first asked way.first (call_is (Some asked) is))
      ∙ ap (λ n. Some (record { first = at.first; answered = n })) (omega (arith, length-append replies (answer ∷ []), way.answered))

  pub place_by_branch : (asked : Asked) → slice_get item.calls at.answered ≡ Some asked → ¬ (asked.reply ≡ answer)
      → place_of records method args (replies ++ answer ∷ []) ≡ option_map (λ id. record { first = id; answered = at.answered + 1 }) (branch_in trees at answer)
  place_by_branch asked is apart = by (first_of records method args (replies ++ answer ∷ [])) refl
    where
      branch : branch_in trees at answer ≡ first_of records method args (replies ++ answer ∷ [])
      branch =
          grown.branches at way.first.item asked answer (stands_at records method args replies at way there)
          (ap (slice_get way.first.item.calls) (sym way.answered) ∙ call_is (Some asked) is) apart
          ∙ rw (way.first.begins_so.method_is, way.first.begins_so.args_are, way_of_item records method args replies at way) refl

      by : (found : Option ℕ) → first_of records method args (replies ++ answer ∷ []) ≡ found
          → place_of records method args (replies ++ answer ∷ []) ≡ option_map (λ id. record { first = id; answered = at.answered + 1 }) (branch_in trees at answer)
      by (Some id) e =
          place_from_first records method args (replies ++ answer ∷ []) id e
          ∙ ap (λ n. Some (record { first = id; answered = n })) (omega (arith, length-append replies (answer ∷ []), way.answered))
          ∙ sym (ap (option_map (λ id. record { first = id; answered = at.answered + 1 })) (branch ∙ e))
      by None e =
          no_place records method args (replies ++ answer ∷ []) e
          ∙ sym (ap (option_map (λ id. record { first = id; answered = at.answered + 1 })) (branch ∙ e))

-- ---- none and the same

pub grown_none : (trees : Trees) → ((method : MethodId) (args : List Value) → root_in trees method args ≡ None)
    → ((at : Place) (other : Reply) → branch_in trees at other ≡ None) → AreGrown [] trees
grown_none trees roots branches =
    record {
      agreed = λ i j a b is_a is_b. absurd (no_item is_a);
      different = λ i j item is_i is_j. absurd (no_item is_i);
      roots = λ method args. roots method args ∙ sym (none_is [] method args [] (λ j other is. absurd (no_item is)));
      branches = λ at item asked other stands is apart. absurd (no_item stands.item_is);
      no_more = λ at other high. branches at other;
    }
  where
    no_item : {item : Record} → ¬ (◌≡◌ {A = Option Record} None (Some item))
    no_item is = cc

pub grown_alike : (records : List Record) (trees after : Trees) → AreGrown records trees → AreAlike trees after → AreGrown records after
grown_alike records trees after grown alike =
    record {
      agreed = grown.agreed;
      different = grown.different;
      roots = λ method args. alike.roots method args ∙ grown.roots method args;
      branches = λ at item asked other stands is apart. alike.branches at other ∙ grown.branches at item asked other stands is apart;
      no_more = λ at other high. alike.branches at other ∙ grown.no_more at other high;
    }

-- ---- one record more

module _ (records : List Record) (new : Record) where
  pub different_one_more : AreDifferent records → ((j : ℕ) → ¬ (slice_get records j ≡ Some new)) → AreDifferent (records ++ new ∷ [])
  different_one_more different unknown i j item is_i is_j =
      by (slice_get_one_more records new item i is_i) (slice_get_one_more records new item j is_j)
    where
      by : ((i < length records) × (slice_get records i ≡ Some item)) ⊎ ((i ≡ length records) × (item ≡ new))
          → ((j < length records) × (slice_get records j ≡ Some item)) ⊎ ((j ≡ length records) × (item ≡ new)) → i ≡ j
      by (inl x) (inl y) = different i j item x.1 y.1
      by (inl x) (inr y) = absurd (unknown i (x.1 ∙ ap Some y.1))
      by (inr x) (inl y) = absurd (unknown j (y.1 ∙ ap Some x.1))
      by (inr x) (inr y) = x.0 ∙ sym y.0

  module _ (method : MethodId) (args : List Value) (replies : List Reply) (id : ℕ) where
    -- what was the first before
    pub first_before : first_of (records ++ new ∷ []) method args replies ≡ Some id → id < length records → first_of records method args replies ≡ Some id
    first_before e low = by (first_of records method args replies) refl
      where
        by : (found : Option ℕ) → first_of records method args replies ≡ found → first_of records method args replies ≡ Some id
        by (Some old) is = is ∙ sym (first_kept records method args replies old new is) ∙ e
        by None is = is ∙ absurd (
            let first = first_so (records ++ new ∷ []) method args replies id e in
            elim (slice_get_one_more records new first.item id first.item_is) [
              | inl h ↦ none_so records method args replies is id first.item h.1 first.begins_so
              | inr h ↦ omega (arith, h.0)
            ])

    pub none_before : first_of (records ++ new ∷ []) method args replies ≡ Some id → length records ≤ id → first_of records method args replies ≡ None
    none_before e high = by (first_of records method args replies) refl
      where
        by : (found : Option ℕ) → first_of records method args replies ≡ found → first_of records method args replies ≡ None
        by (Some old) is = absurd (
            let first = first_so records method args replies old is in
            let same : old ≡ id = same_Some _ _ (sym (first_kept records method args replies old new is) ∙ e) in
            omega (arith, slice_get_within records old first.item first.item_is))
        by None is = is

  -- the branches of the new record's places are none
  pub none_at_new : (at : Place) (asked : Asked) (other : Reply) → StandsAt (records ++ new ∷ []) new at → length records ≤ at.first
      → slice_get new.calls at.answered ≡ Some asked → ¬ (asked.reply ≡ other)
      → first_of (records ++ new ∷ []) new.method new.args (take at.answered (replies_of new) ++ other ∷ []) ≡ None
  none_at_new at asked other stands high is apart =
      let replies = take at.answered (replies_of new) in
      let place_is = first_from_place (records ++ new ∷ []) new.method new.args replies at stands.place_is in
      let none = none_before new.method new.args replies at.first place_is.0 high in
      none_kept records new.method new.args (replies ++ other ∷ []) new (none_longer records new.method new.args replies (other ∷ []) none)
      (λ b. apart (next_from_longer new.method new.args replies new asked other (ap (slice_get new.calls) place_is.1 ∙ is) b))

-- it stands at the place as before
pub stands_before : (records : List Record) (new item : Record) (at : Place) → StandsAt (records ++ new ∷ []) item at
    → slice_get records at.first ≡ Some item → StandsAt records item at
stands_before records new item at stands is =
    let replies = take at.answered (replies_of item) in
    let both = first_from_place (records ++ new ∷ []) item.method item.args replies at stands.place_is in
    record {
      item_is = is;
      place_is =
          place_from_first records item.method item.args replies at.first
          (first_before records new item.method item.args replies at.first both.0 (slice_get_within records at.first item is))
          ∙ ap (λ n. Some (record { first = at.first; answered = n })) both.1;
    }

-- any front of the replies
pub begins_front : (method : MethodId) (args : List Value) (replies : List Reply) (item : Record) (k : ℕ) → BeginsSo method args replies item
    → BeginsSo method args (take k replies) item
begins_front method args replies item k b =
    begins_shorter method args (take k replies) item (drop k replies) (subst (λ all. BeginsSo method args all item) (sym (take-append-drop k replies)) b)
