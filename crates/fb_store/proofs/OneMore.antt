-- The trees after one record more.
use Rattle.std.proofs.Common.{◌≡◌, ◌<◌, ◌≤◌, ◌+◌, ℕ, Bool, true, false, ◌&&◌, List, [], ◌∷◌, ◌++◌, length, take, Some, None, slice_get, All, Decides, ◌⊎◌, inl, inr, refl, sym, ap, ◌∙◌, subst, arith, length-append, length-take, true≢false, if◌then◌else◌}
use Rattle.std.specs.Cmp.Lexicographic.{pointwise}
use Rattle.std.proofs.lemmas.Bool.Decides.{Decides-and, Decides-eqb, Decides-like}
use Rattle.std.proofs.lemmas.Slice.Eq.{slice_eq-Decides}
use Rattle.std.proofs.lemmas.Option.{slice_get_within, same_Some}
use Rattle.std.proofs.lemmas.List.{take-take}
use Rattle.std.proofs.lemmas.Bool.{cases_order}
use Rattle.fb_base.specs.declared.method.MethodId.{MethodId}
use Rattle.fb_base.specs.declared.value.Value.{Value}
use Rattle.fb_base.specs.declared.reply.Reply.{Reply}
use Rattle.fb_base.specs.Values.{same_value}
use Rattle.fb_base.specs.Replies.{same_reply, same_reply-Decides}
use Rattle.fb_base.specs.SameLaws.{same_value-Decides}
use Rattle.fb_tree.specs.declared.asked.Asked.{Asked}
use Rattle.fb_tree.specs.declared.recorded.Record.{Record}
use Rattle.fb_tree.specs.Agreement.{RecordsAgree}
use Rattle.fb_store.specs.declared.place.Place.{Place}
use Rattle.fb_store.specs.declared.trees.Trees.{Trees}
use Rattle.fb_store.specs.Following.{replies_of}
use Rattle.fb_store.specs.Trees.{root_in, branch_in, same_method, same_place, AddsRoot, AddsBranch}
use Rattle.fb_store.specs.Growth.{first_of, place_of, StandsAt, AreGrown}
use Rattle.fb_store.specs.Ending.{IsLeftAt}
use Rattle.fb_store.proofs.Firsts.{slice_get_one_more}
use Rattle.fb_store.proofs.Beginnings.{BeginsSo, begins_next, begins_shorter, begins_own, next_from_longer, take_one_more, reply_at, length-replies_of, none_so, first_new, first_unchanged}
use Rattle.fb_store.proofs.Agreed.{agreed_one_more, each_agrees}
use Rattle.fb_store.proofs.Growing.{first_from_place, WayTo, way_to, way_of_item, different_one_more, none_at_new, stands_before, begins_front}

-- the first reply that is asked of a record begins so with none
begins_none : (item : Record) → BeginsSo item.method item.args [] item
begins_none item = record { method_is = refl; args_are = refl; replies_are = refl }

begins_at_root : (method : MethodId) (args : List Value) (replies : List Reply) (item : Record) → BeginsSo method args replies item → BeginsSo method args [] item
begins_at_root method args replies item b = record { method_is = b.method_is; args_are = b.args_are; replies_are = refl }

same_request-Decides : (m n : MethodId) (a b : List Value) → Decides (same_method m n && pointwise same_value b a) ((m ≡ n) × (b ≡ a))
same_request-Decides m n a b =
    Decides-like _ (λ e. (λ i. record { 0 = e.0 i }, e.1)) (λ e. (ap (λ x. x.0) e.0, e.1))
    (Decides-and _ _ (Decides-eqb m.0 n.0) (slice_eq-Decides same_value-Decides b a _ refl))

same_branch-Decides : (p q : Place) (a b : Reply) → Decides (same_place p q && same_reply a b) ((p ≡ q) × (a ≡ b))
same_branch-Decides p q a b =
    Decides-like _ (λ e. (λ i. record { first = e.0.0 i; answered = e.0.1 i }, e.1)) (λ e. ((ap (λ x. x.first) e.0, ap (λ x. x.answered) e.0), e.1))
    (Decides-and _ _ (Decides-and _ _ (Decides-eqb p.first q.first) (Decides-eqb p.answered q.answered)) (same_reply-Decides a b))

-- the same under equal names
begins_as : {m n : MethodId} {a b : List Value} {rs ss : List Reply} {item : Record} → BeginsSo m a rs item → m ≡ n → a ≡ b → rs ≡ ss → BeginsSo n b ss item
begins_as {item = item} so same_method_is same_args same_replies =
    record {
      method_is = so.method_is ∙ same_method_is;
      args_are = so.args_are ∙ same_args;
      replies_are = subst (λ rs. take (length rs) (replies_of item) ≡ rs) same_replies so.replies_are;
    }

module _ (records : List Record) (trees after : Trees) (new : Record) (grown : AreGrown records trees)
    (agrees : (j : ℕ) (other : Record) → slice_get records j ≡ Some other → RecordsAgree new other) where
  -- ---- the first of its method and arguments
  module _ (outside : first_of records new.method new.args [] ≡ None) (adds : AddsRoot trees after new.method new.args (length records)) where
    no_relative : (j : ℕ) (other : Record) → slice_get records j ≡ Some other → other.method ≡ new.method → ¬ (other.args ≡ new.args)
    no_relative j other is same_method_is same_args =
        none_so records new.method new.args [] outside j other is (record { method_is = same_method_is; args_are = same_args; replies_are = refl })

    roots_after : (method : MethodId) (args : List Value) → root_in after method args ≡ first_of (records ++ new ∷ []) method args []
    roots_after method args = adds.roots method args ∙ by (same_method new.method method && pointwise same_value args new.args) refl
      where
        by : (b : Bool) → (same_method new.method method && pointwise same_value args new.args) ≡ b
            → (if b then Some (length records) else root_in trees method args) ≡ first_of (records ++ new ∷ []) method args []
        by true e =
            let same = (same_request-Decides new.method method new.args args).0 e in
            sym (rw (← same.0, same.1) (first_new records new.method new.args [] new outside (begins_none new)))
        by false e =
            grown.roots method args
            ∙ sym (first_unchanged records method args [] new (λ _ b. absurd (true≢false (
            sym ((same_request-Decides new.method method new.args args).1 (b.method_is, sym b.args_are)) ∙ e))))

    branches_after : (at : Place) (item : Record) (asked : Asked) (other : Reply) → StandsAt (records ++ new ∷ []) item at
        → slice_get item.calls at.answered ≡ Some asked → ¬ (asked.reply ≡ other)
        → branch_in after at other ≡ first_of (records ++ new ∷ []) item.method item.args (take at.answered (replies_of item) ++ other ∷ [])
    branches_after at item asked other stands is apart = adds.branches at other ∙ by (slice_get_one_more records new item at.first stands.item_is)
      where
        by : ((at.first < length records) × (slice_get records at.first ≡ Some item)) ⊎ ((at.first ≡ length records) × (item ≡ new))
            → branch_in trees at other ≡ first_of (records ++ new ∷ []) item.method item.args (take at.answered (replies_of item) ++ other ∷ [])
        by (inl old) =
            grown.branches at item asked other (stands_before records new item at stands old.1) is apart
            ∙ sym (first_unchanged records item.method item.args (take at.answered (replies_of item) ++ other ∷ []) new
            (λ _ b. no_relative at.first item old.1 (sym b.method_is) (sym b.args_are)))
        by (inr last) =
            grown.no_more at other (omega (arith, last.0))
            ∙ sym (subst (λ it. first_of (records ++ new ∷ []) it.method it.args (take at.answered (replies_of it) ++ other ∷ []) ≡ None) (sym last.1)
            (none_at_new records new at asked other (subst (λ it. StandsAt (records ++ new ∷ []) it at) last.1 stands) (omega (arith, last.0))
            (ap (λ it. slice_get it.calls at.answered) (sym last.1) ∙ is) apart))

    pub grown_by_root : AreGrown (records ++ new ∷ []) after
    grown_by_root = record {
      agreed = agreed_one_more records new grown.agreed agrees;
      different = different_one_more records new grown.different (λ j is. no_relative j new is refl refl);
      roots = roots_after;
      branches = branches_after;
      no_more = λ at other high. adds.branches at other ∙ grown.no_more at other (omega (arith, length-append records (new ∷ [])));
    }

  -- ---- with a new reply at a place
  module _ (left : Place) (leaves : IsLeftAt records new left) (adds : AddsBranch trees after left leaves.asked.reply (length records)) where
    calls_within : left.answered < length new.calls
    calls_within = slice_get_within new.calls left.answered leaves.asked leaves.asked_is

    way : WayTo records new.method new.args (take left.answered (replies_of new)) left
    way = way_to records new.method new.args (take left.answered (replies_of new)) left leaves.reached

    new_goes_on : BeginsSo new.method new.args (take left.answered (replies_of new) ++ leaves.asked.reply ∷ []) new
    new_goes_on =
        begins_next new.method new.args (take left.answered (replies_of new)) new leaves.asked (begins_own new left.answered (omega (arith, calls_within)))
        (ap (slice_get new.calls) way.answered ∙ leaves.asked_is)

    unknown_to : (j : ℕ) (other : Record) → slice_get records j ≡ Some other
        → ¬ (BeginsSo new.method new.args (take left.answered (replies_of new) ++ leaves.asked.reply ∷ []) other)
    unknown_to = none_so records new.method new.args (take left.answered (replies_of new) ++ leaves.asked.reply ∷ []) leaves.unknown

    roots_kept : (method : MethodId) (args : List Value) → root_in after method args ≡ first_of (records ++ new ∷ []) method args []
    roots_kept method args =
        adds.roots method args ∙ grown.roots method args
        ∙ sym (first_unchanged records method args [] new (λ none b.
        none_so records method args [] none left.first way.first.item way.first.item_is (record {
          method_is = way.first.begins_so.method_is ∙ b.method_is;
          args_are = way.first.begins_so.args_are ∙ b.args_are;
          replies_are = refl;
        })))

    -- only at the place that it leaves the new record is the first that goes on
    only_there : (at : Place) (item : Record) (other : Reply) → StandsAt records item at
        → first_of records item.method item.args (take at.answered (replies_of item) ++ other ∷ []) ≡ None
        → BeginsSo item.method item.args (take at.answered (replies_of item) ++ other ∷ []) new
        → (left ≡ at) × (other ≡ leaves.asked.reply)
    only_there at item other stands none b =
        elim (cases_order at.answered left.answered) [ inl same ↦ (same_place_is same, sym (other_is same)) | inr (inl below) ↦ absurd (not_before below) | inr (inr above) ↦ absurd (not_behind above) ]
      where
        place_is : (first_of records item.method item.args (take at.answered (replies_of item)) ≡ Some at.first) × (length (take at.answered (replies_of item)) ≡ at.answered)
        place_is = first_from_place records item.method item.args (take at.answered (replies_of item)) at stands.place_is

        own_path : take at.answered (replies_of new) ≡ take at.answered (replies_of item)
        own_path =
            ap (λ n. take n (replies_of new)) (sym place_is.1)
            ∙ (begins_shorter item.method item.args (take at.answered (replies_of item)) new (other ∷ []) b).replies_are

        own_longer : take (at.answered + 1) (replies_of new) ≡ take at.answered (replies_of item) ++ other ∷ []
        own_longer =
            ap (λ n. take n (replies_of new)) (omega (arith, length-append (take at.answered (replies_of item)) (other ∷ []), place_is.1))
            ∙ b.replies_are

        not_before : ¬ (at.answered < left.answered)
        not_before below =
            let longer : take (at.answered + 1) (take left.answered (replies_of new)) ≡ take at.answered (replies_of item) ++ other ∷ [] =
            take-take (at.answered + 1) left.answered (replies_of new) (omega arith) ∙ own_longer in
            let so = begins_front new.method new.args (take left.answered (replies_of new)) way.first.item (at.answered + 1) way.first.begins_so in
            none_so records item.method item.args (take at.answered (replies_of item) ++ other ∷ []) none left.first way.first.item way.first.item_is
            (begins_as so b.method_is b.args_are longer)

        not_behind : ¬ (left.answered < at.answered)
        not_behind above =
            let longer : take (left.answered + 1) (take at.answered (replies_of item)) ≡ take left.answered (replies_of new) ++ leaves.asked.reply ∷ [] =
            ap (take (left.answered + 1)) (sym own_path)
            ∙ take-take (left.answered + 1) at.answered (replies_of new) (omega arith)
            ∙ take_one_more (replies_of new) left.answered leaves.asked.reply (reply_at new left.answered leaves.asked leaves.asked_is) in
            let enough : at.answered ≤ length item.calls = omega (arith, length-take at.answered (replies_of item), place_is.1, length-replies_of item) in
            let so = begins_front item.method item.args (take at.answered (replies_of item)) item (left.answered + 1) (begins_own item at.answered enough) in
            unknown_to at.first item stands.item_is (begins_as so (sym b.method_is) (sym b.args_are) longer)

        same_place_is : at.answered ≡ left.answered → left ≡ at
        same_place_is same =
            let here : place_of records new.method new.args (take left.answered (replies_of new)) ≡ Some at =
            rw (b.method_is, b.args_are, ← same, own_path) stands.place_is in
            same_Some _ _ (sym leaves.reached ∙ here)

        other_is : at.answered ≡ left.answered → leaves.asked.reply ≡ other
        other_is same =
            next_from_longer item.method item.args (take at.answered (replies_of item)) new leaves.asked other
            (ap (slice_get new.calls) (place_is.1 ∙ same) ∙ leaves.asked_is) b

    -- where the new record is the first that goes on
    goes_there : (at : Place) (item : Record) (other : Reply) → slice_get records at.first ≡ Some item → left ≡ at → other ≡ leaves.asked.reply
        → first_of (records ++ new ∷ []) item.method item.args (take at.answered (replies_of item) ++ other ∷ []) ≡ Some (length records)
    goes_there at item other is same_at same_other =
        let same_item : way.first.item ≡ item = same_Some _ _ (sym way.first.item_is ∙ ap (λ p. slice_get records p.first) same_at ∙ is) in
        let path : take at.answered (replies_of item) ≡ take left.answered (replies_of new) =
        ap (λ p. take p.answered (replies_of item)) (sym same_at)
        ∙ ap (λ it. take left.answered (replies_of it)) (sym same_item)
        ∙ way_of_item records new.method new.args (take left.answered (replies_of new)) left way in
        rw (path, same_other, ← same_item, way.first.begins_so.method_is, way.first.begins_so.args_are)
        (first_new records new.method new.args (take left.answered (replies_of new) ++ leaves.asked.reply ∷ []) new leaves.unknown new_goes_on)

    branches_with : (at : Place) (item : Record) (asked : Asked) (other : Reply) → StandsAt (records ++ new ∷ []) item at
        → slice_get item.calls at.answered ≡ Some asked → ¬ (asked.reply ≡ other)
        → branch_in after at other ≡ first_of (records ++ new ∷ []) item.method item.args (take at.answered (replies_of item) ++ other ∷ [])
    branches_with at item asked other stands is apart =
        adds.branches at other
        ∙ by (slice_get_one_more records new item at.first stands.item_is) (same_place left at && same_reply other leaves.asked.reply) refl
      where
        by : ((at.first < length records) × (slice_get records at.first ≡ Some item)) ⊎ ((at.first ≡ length records) × (item ≡ new))
            → (here : Bool) → (same_place left at && same_reply other leaves.asked.reply) ≡ here
            → (if here then Some (length records) else branch_in trees at other) ≡ first_of (records ++ new ∷ []) item.method item.args (take at.answered (replies_of item) ++ other ∷ [])
        by (inl old) true e =
            let same = (same_branch-Decides left at other leaves.asked.reply).0 e in
            sym (goes_there at item other old.1 same.0 same.1)
        by (inl old) false e =
            let before = stands_before records new item at stands old.1 in
            grown.branches at item asked other before is apart
            ∙ sym (first_unchanged records item.method item.args (take at.answered (replies_of item) ++ other ∷ []) new
            (λ none b. absurd (true≢false (sym ((same_branch-Decides left at other leaves.asked.reply).1 (only_there at item other before none b)) ∙ e))))
        by (inr last) true e =
            let same = (same_branch-Decides left at other leaves.asked.reply).0 e in
            absurd (omega (arith, slice_get_within records left.first way.first.item way.first.item_is, ap (λ p. p.first) same.0, last.0))
        by (inr last) false e =
            grown.no_more at other (omega (arith, last.0))
            ∙ sym (subst (λ it. first_of (records ++ new ∷ []) it.method it.args (take at.answered (replies_of it) ++ other ∷ []) ≡ None) (sym last.1)
            (none_at_new records new at asked other (subst (λ it. StandsAt (records ++ new ∷ []) it at) last.1 stands) (omega (arith, last.0))
            (ap (λ it. slice_get it.calls at.answered) (sym last.1) ∙ is) apart))

    no_more_with : (at : Place) (other : Reply) → length (records ++ new ∷ []) ≤ at.first → branch_in after at other ≡ None
    no_more_with at other high = adds.branches at other ∙ by (same_place left at && same_reply other leaves.asked.reply) refl
      where
        by : (here : Bool) → (same_place left at && same_reply other leaves.asked.reply) ≡ here → (if here then Some (length records) else branch_in trees at other) ≡ None
        by true e =
            let same = (same_branch-Decides left at other leaves.asked.reply).0 e in
            absurd (omega (arith, slice_get_within records left.first way.first.item way.first.item_is, ap (λ p. p.first) same.0, high, length-append records (new ∷ [])))
        by false e = grown.no_more at other (omega (arith, high, length-append records (new ∷ [])))

    pub grown_by_branch : AreGrown (records ++ new ∷ []) after
    grown_by_branch = record {
      agreed = agreed_one_more records new grown.agreed agrees;
      different = different_one_more records new grown.different (λ j is. unknown_to j new is new_goes_on);
      roots = roots_kept;
      branches = branches_with;
      no_more = no_more_with;
    }

-- the same, as the code has the lists
pub grown_with_root : (inside now more : List Record) (trees after : Trees) (new : Record) (id : ℕ) → inside ≡ now → more ≡ inside ++ new ∷ [] → id ≡ length inside
    → AreGrown inside trees → All (RecordsAgree new) now → first_of now new.method new.args [] ≡ None → AddsRoot trees after new.method new.args id → AreGrown more after
grown_with_root inside now more trees after new id now_is more_is id_is grown agrees outside adds =
    subst (λ records. AreGrown records after) (sym more_is)
    (grown_by_root inside trees after new grown (each_agrees inside new (subst (All (RecordsAgree new)) (sym now_is) agrees))
    (subst (λ records. first_of records new.method new.args [] ≡ None) (sym now_is) outside)
    (subst (AddsRoot trees after new.method new.args) id_is adds))

pub grown_with_branch : (inside now more : List Record) (trees after : Trees) (new : Record) (id : ℕ) (left : Place) (asked : Asked)
    → inside ≡ now → more ≡ inside ++ new ∷ [] → id ≡ length inside
    → AreGrown inside trees → All (RecordsAgree new) now → IsLeftAt now new left → slice_get new.calls left.answered ≡ Some asked
    → AddsBranch trees after left asked.reply id → AreGrown more after
grown_with_branch inside now more trees after new id left asked now_is more_is id_is grown agrees leaves asked_is adds =
    let here : IsLeftAt inside new left = subst (λ records. IsLeftAt records new left) (sym now_is) leaves in
    let same : asked ≡ here.asked = same_Some _ _ (sym asked_is ∙ here.asked_is) in
    subst (λ records. AreGrown records after) (sym more_is)
    (grown_by_branch inside trees after new grown (each_agrees inside new (subst (All (RecordsAgree new)) (sym now_is) agrees)) left here
    (subst (λ n. AddsBranch trees after left here.asked.reply n) id_is (subst (λ call. AddsBranch trees after left call.reply id) same adds)))
