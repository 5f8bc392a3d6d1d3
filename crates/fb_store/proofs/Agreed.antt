-- What follows in records that agree.
use Rattle.std.proofs.Common.{eq-or-lt_of_le, length-append, ◌≡◌, ◌<◌, ◌≤◌, ℕ, zero, suc, List, [], ◌∷◌, ◌++◌, length, take, Option, Some, None, slice_get, position, find, option_map, option_and_then, All, ◌⊎◌, inl, inr, refl, sym, ap, ◌∙◌, subst, arith}
use Rattle.std.specs.Option.{option_or}
use Rattle.std.proofs.lemmas.Option.{slice_get_within, slice_get_past, get_or_from_slice_get}
use Rattle.std.proofs.lemmas.List.{take-map, take_all}
use Rattle.fb_base.specs.declared.method.MethodId.{MethodId}
use Rattle.fb_base.specs.declared.value.Value.{Value}
use Rattle.fb_base.specs.declared.reply.Reply.{Reply}
use Rattle.fb_tree.specs.declared.asked.Asked.{Asked}
use Rattle.fb_tree.specs.declared.recorded.Record.{Record}
use Rattle.fb_tree.specs.Agreement.{RecordsAgree, AreApart, AskTheSame, EndTheSame, replies_before}
use Rattle.fb_store.specs.Following.{begins, ends, replies_of, Following, Asks, Ends, following, AreAgreed}
use Rattle.fb_store.specs.Growth.{first_of}
use Rattle.fb_store.proofs.Firsts.{position_from_first, position_from_nowhere, find_from_position, find_from_nowhere, slice_get_one_more}
use Rattle.fb_store.proofs.Beginnings.{BeginsSo, EndsSo, FirstSo, ends-Decides, false_from_Decides, calls_enough, begins_shorter, begins_own, first_so, first_is, none_so, none_is, length-replies_of}

-- the requirement on a new record, at each known one
pub each_agrees : (records : List Record) (new : Record) → All (RecordsAgree new) records
    → (j : ℕ) (other : Record) → slice_get records j ≡ Some other → RecordsAgree new other
each_agrees records new all j other is =
    subst (RecordsAgree new) (get_or_from_slice_get records j other other is) (all j other (slice_get_within records j other is))

module _ (method : MethodId) (args : List Value) (replies : List Reply) where
  -- two records that begin so go on alike
  pub go_on_alike : (a b : Record) → RecordsAgree a b → BeginsSo method args replies a → BeginsSo method args replies b
      → AskTheSame (length replies) a b ⊎ EndTheSame (length replies) a b
  go_on_alike a b agree of_a of_b = elim (agree (length replies)) [ inl apart ↦ absurd (together apart) | inr alike ↦ alike ]
    where
      before : (item : Record) → BeginsSo method args replies item → replies_before (length replies) item ≡ replies
      before item b = sym (take-map (λ asked. asked.reply) (length replies) item.calls) ∙ b.replies_are

      together : ¬ (AreApart (length replies) a b)
      together (inl e) = e (of_a.method_is ∙ sym of_b.method_is)
      together (inr (inl e)) = e (of_a.args_are ∙ sym of_b.args_are)
      together (inr (inr (inl few))) = omega (arith, calls_enough method args replies a of_a)
      together (inr (inr (inr (inl few)))) = omega (arith, calls_enough method args replies b of_b)
      together (inr (inr (inr (inr e)))) = e (before a of_a ∙ sym (before b of_b))

  -- where one of them has a further call, so has the other
  pub both_go_on : (a b : Record) (asked : Asked) → RecordsAgree a b → BeginsSo method args replies a → BeginsSo method args replies b
      → slice_get b.calls (length replies) ≡ Some asked → (mine : Asked) × (slice_get a.calls (length replies) ≡ Some mine)
  both_go_on a b asked agree of_a of_b is = elim (go_on_alike a b agree of_a of_b) [ inl ask ↦ (ask.first, ask.first_asked) | inr end ↦ (asked, ap (λ item. slice_get item.calls (length replies)) end.1 ∙ is) ]

  -- where one of them is at its end, they are equal
  pub both_end : (a b : Record) → RecordsAgree a b → BeginsSo method args replies a → BeginsSo method args replies b
      → slice_get a.calls (length replies) ≡ None → a ≡ b
  both_end a b agree of_a of_b over = elim (go_on_alike a b agree of_a of_b) [ inl ask ↦ absurd (let e = sym over ∙ ask.first_asked in cc) | inr end ↦ end.1 ]

-- a record that ends so begins so, and has no further call
pub begins_from_ends : (method : MethodId) (args : List Value) (replies : List Reply) (item : Record) → EndsSo method args replies item → BeginsSo method args replies item
begins_from_ends method args replies item e =
    record {
      method_is = e.method_is;
      args_are = e.args_are;
      replies_are = take_all (length replies) (replies_of item) (omega (arith, ap length e.replies_are)) ∙ e.replies_are;
    }

pub ends_from_begins : (method : MethodId) (args : List Value) (replies : List Reply) (item : Record) → BeginsSo method args replies item
    → length item.calls ≤ length replies → EndsSo method args replies item
ends_from_begins method args replies item b few =
    record {
      method_is = b.method_is;
      args_are = b.args_are;
      replies_are = sym (take_all (length replies) (replies_of item) (omega (arith, length-replies_of item))) ∙ b.replies_are;
    }

no_call_past : (item : Record) (k : ℕ) → slice_get item.calls k ≡ None → length item.calls ≤ k
no_call_past item k over = by item.calls k over
  where
    by : (calls : List Asked) (k : ℕ) → slice_get calls k ≡ None → length calls ≤ k
    by [] k over = omega arith
    by (asked ∷ calls) zero over = cc
    by (asked ∷ calls) (suc k) over = omega (arith, by calls k over)

-- what a place of the first record that begins so has next
abbrev pub what_follows : Option Asked → ℕ → Following
what_follows (Some asked) id = Asks asked
what_follows None id = Ends id

module _ (records : List Record) (agreed : AreAgreed records) (method : MethodId) (args : List Value) (replies : List Reply) where
  none_ends : (id : ℕ) (first : FirstSo records method args replies id) (asked : Asked) → slice_get first.item.calls (length replies) ≡ Some asked
      → position (ends method args replies) records ≡ None
  none_ends id first asked is =
      position_from_nowhere (ends method args replies) records
      (λ j other at. false_from_Decides (ends-Decides method args replies other)
      (λ e.
      let b = begins_from_ends method args replies other e in
      let more = both_go_on method args replies other first.item asked (agreed j id other first.item at first.item_is) b first.begins_so is in
      let past : length replies ≡ length other.calls = sym (ap length e.replies_are) ∙ length-replies_of other in
      omega (arith, slice_get_within other.calls (length replies) more.0 more.1)))

  pub following_at : (id : ℕ) (first : FirstSo records method args replies id)
      → following records method args replies ≡ Some (what_follows (slice_get first.item.calls (length replies)) id)
  unfolding following first_of
  following_at id first = by (slice_get first.item.calls (length replies)) refl
    where
      found : position (begins method args replies) records ≡ Some id
      found = first_is records method args replies id first

      by : (next : Option Asked) → slice_get first.item.calls (length replies) ≡ next
          → following records method args replies ≡ Some (what_follows next id)
      by (Some asked) is =
          ap (λ done. option_or (option_map Ends done) (option_and_then (λ item. option_map Asks (slice_get item.calls (length replies))) (find (begins method args replies) records)))
          (none_ends id first asked is)
          ∙ ap (option_and_then (λ item. option_map Asks (slice_get item.calls (length replies))))
          (find_from_position (begins method args replies) records id found ∙ first.item_is)
          ∙ ap (option_map Asks) is
      by None over =
          ap (λ done. option_or (option_map Ends done) (option_and_then (λ item. option_map Asks (slice_get item.calls (length replies))) (find (begins method args replies) records)))
          (position_from_first (ends method args replies) records id (record {
            item = first.item;
            item_is = first.item_is;
            passes = (ends-Decides method args replies first.item).1
                (ends_from_begins method args replies first.item first.begins_so (no_call_past first.item (length replies) over));
            before = λ j other low at. false_from_Decides (ends-Decides method args replies other)
                (λ e. first.before j other low at (begins_from_ends method args replies other e));
          }))

  -- the first is at its end, so none goes on
  pub none_goes_on : (id : ℕ) (first : FirstSo records method args replies id) (answer : Reply) → slice_get first.item.calls (length replies) ≡ None
      → first_of records method args (replies ++ answer ∷ []) ≡ None
  none_goes_on id first answer over =
      none_is records method args (replies ++ answer ∷ [])
      (λ j other at b.
      let same = both_end method args replies first.item other (agreed id j first.item other first.item_is at) first.begins_so
      (begins_shorter method args replies other (answer ∷ []) b) over in
      let past = no_call_past first.item (length replies) over in
      omega (arith, calls_enough method args (replies ++ answer ∷ []) other b, length-append replies (answer ∷ []), ap (λ item. length item.calls) same))

-- nothing follows where none begins so
pub following_none : (records : List Record) (method : MethodId) (args : List Value) (replies : List Reply)
    → first_of records method args replies ≡ None → following records method args replies ≡ None
unfolding following first_of
following_none records method args replies e =
    ap (λ done. option_or (option_map Ends done) (option_and_then (λ item. option_map Asks (slice_get item.calls (length replies))) (find (begins method args replies) records)))
    (position_from_nowhere (ends method args replies) records
    (λ j other at. false_from_Decides (ends-Decides method args replies other)
    (λ ended. none_so records method args replies e j other at (begins_from_ends method args replies other ended))))
    ∙ ap (option_and_then (λ item. option_map Asks (slice_get item.calls (length replies)))) (find_from_nowhere (begins method args replies) records e)

-- the record to which all of a record's replies lead is that record
pub known_is : (records : List Record) (item : Record) (id : ℕ) → ((j : ℕ) (other : Record) → slice_get records j ≡ Some other → RecordsAgree item other)
    → first_of records item.method item.args (replies_of item) ≡ Some id → slice_get records id ≡ Some item
known_is records item id agree e =
    let first = first_so records item.method item.args (replies_of item) id e in
    let whole : take (length item.calls) (replies_of item) ≡ replies_of item = take_all (length item.calls) (replies_of item) (omega (arith, length-replies_of item)) in
    let own = subst (λ replies. BeginsSo item.method item.args replies item) whole (begins_own item (length item.calls) (omega arith)) in
    let same = both_end item.method item.args (replies_of item) item first.item (agree id first.item first.item_is) own first.begins_so
    (slice_get_past item.calls (length (replies_of item)) (omega (arith, length-replies_of item))) in
    first.item_is ∙ ap Some (sym same)

-- agreement goes both ways, and each record agrees with itself
pub agree_back : (a b : Record) → RecordsAgree a b → RecordsAgree b a
agree_back a b agree k = elim (agree k) [ inl apart ↦ inl (back apart) | inr (inl ask) ↦ inr (inl (asked ask)) | inr (inr end) ↦ inr (inr (sym (ap (λ item. length item.calls) end.1) ∙ end.0, sym end.1)) ]
  where
    back : AreApart k a b → AreApart k b a
    back (inl e) = inl (λ same. e (sym same))
    back (inr (inl e)) = inr (inl (λ same. e (sym same)))
    back (inr (inr (inl few))) = inr (inr (inr (inl few)))
    back (inr (inr (inr (inl few)))) = inr (inr (inl few))
    back (inr (inr (inr (inr e)))) = inr (inr (inr (inr (λ same. e (sym same)))))

    asked : AskTheSame k a b → AskTheSame k b a
    asked ask = record {
      first = ask.second;
      second = ask.first;
      first_asked = ask.second_asked;
      second_asked = ask.first_asked;
      same_entry = sym ask.same_entry;
      same_callee = sym ask.same_callee;
      same_args = sym ask.same_args;
    }

pub agrees_with_itself : (item : Record) → RecordsAgree item item
agrees_with_itself item k = by (slice_get item.calls k) refl
  where
    by : (next : Option Asked) → slice_get item.calls k ≡ next → AreApart k item item ⊎ AskTheSame k item item ⊎ EndTheSame k item item
    by (Some asked) is = inr (inl (record { first = asked; second = asked; first_asked = is; second_asked = is; same_entry = refl; same_callee = refl; same_args = refl }))
    by None over = elim (eq-or-lt_of_le (no_call_past item k over)) [ inl same ↦ inr (inr (same, refl)) | inr few ↦ inl (inr (inr (inl few))) ]

-- with a record that agrees with each of them
pub agreed_one_more : (records : List Record) (new : Record) → AreAgreed records → ((j : ℕ) (other : Record) → slice_get records j ≡ Some other → RecordsAgree new other)
    → AreAgreed (records ++ new ∷ [])
agreed_one_more records new agreed agrees i j a b is_a is_b =
    by (slice_get_one_more records new a i is_a) (slice_get_one_more records new b j is_b)
  where
    by : ((i < length records) × (slice_get records i ≡ Some a)) ⊎ ((i ≡ length records) × (a ≡ new))
        → ((j < length records) × (slice_get records j ≡ Some b)) ⊎ ((j ≡ length records) × (b ≡ new)) → RecordsAgree a b
    by (inl x) (inl y) = agreed i j a b x.1 y.1
    by (inl x) (inr y) = subst (RecordsAgree a) (sym y.1) (agree_back new a (agrees i a x.1))
    by (inr x) (inl y) = subst (λ item. RecordsAgree item b) (sym x.1) (agrees j b y.1)
    by (inr x) (inr y) = subst (RecordsAgree a) (x.1 ∙ sym y.1) (agrees_with_itself a)
