-- The first extension that isn't told, among those at one call, of one row, and of all rows.
use Rattle.std.proofs.Common.{◌≡◌, ℕ, zero, suc, ◌+◌, Bool, true, false, cond, Option, Some, None, List, [], ◌∷◌, ◌++◌, length, slice_get, refl, sym, ap, ◌∙◌, arith}
use Rattle.std.specs.Option.{option_or}
use Rattle.std.proofs.lemmas.Option.{same_Some}
use Rattle.fb_base.specs.declared.reply.Reply.{Reply}
use Rattle.fb_campaign.specs.Runs.{Choices}
use Rattle.fb_book.specs.declared.call.Call.{Call}
use Rattle.fb_book.specs.declared.child.Child.{Child}
use Rattle.fb_book.specs.declared.row.Row.{Row}
use Rattle.fb_book.specs.Books.{missing_call, missing_row}
use Rattle.fb_book.specs.Children.{is_told, first_missing}

-- ---- the first that is given, by the places of items

module _ {A B : Type 0} (f : ℕ → A → Option B) where
  abbrev seek : ℕ → List A → Option B
  seek i [] = None
  seek i (x ∷ xs) = option_or (f i x) (seek (i + 1) xs)

  second_none : (o rest : Option B) → option_or o rest ≡ None → (o ≡ None) × (rest ≡ None)
  second_none None rest is = (refl, is)
  second_none (Some y) rest is = absurd (cc)

  pub seek_none : (i : ℕ) (xs : List A) → seek i xs ≡ None → (k : ℕ) (x : A) → slice_get xs k ≡ Some x → f (i + k) x ≡ None
  seek_none i [] none k x there = absurd (cc)
  seek_none i (y ∷ xs) none zero x there =
      let same : i + 0 ≡ i = omega arith in
      ap (λ n. f n x) same ∙ ap (f i) (sym (same_Some y x there)) ∙ (second_none (f i y) (seek (i + 1) xs) none).0
  seek_none i (y ∷ xs) none (suc k) x there =
      let same : i + suc k ≡ i + 1 + k = omega arith in
      ap (λ n. f n x) same ∙ seek_none (i + 1) xs (second_none (f i y) (seek (i + 1) xs) none).1 k x there

  pub record SoughtAt (i : ℕ) (xs : List A) (y : B) : Type 0 where
    pub before : List A
    pub item : A
    pub after : List A
    pub is : xs ≡ before ++ item ∷ after
    pub gives : f (i + length before) item ≡ Some y
    pub earlier : (k : ℕ) (x : A) → slice_get before k ≡ Some x → f (i + k) x ≡ None

  sought_next : (i : ℕ) (x : A) (xs : List A) (y : B) (o : Option B) → f i x ≡ o → option_or o (seek (i + 1) xs) ≡ Some y
      → (seek (i + 1) xs ≡ Some y → SoughtAt (i + 1) xs y) → SoughtAt i (x ∷ xs) y
  sought_next i x xs y (Some z) gives is later = record {
    before = [];
    item = x;
    after = xs;
    is = refl;
    gives = (let same : i + 0 ≡ i = omega arith in ap (λ n. f n x) same ∙ gives ∙ is);
    earlier = λ k x there. absurd (cc);
  }
  sought_next i x xs y None gives is later =
      let rest = later is in
      record {
        before = x ∷ rest.before;
        item = rest.item;
        after = rest.after;
        is = ap (λ ys. x ∷ ys) rest.is;
        gives = (let same : i + suc (length rest.before) ≡ i + 1 + length rest.before = omega arith in ap (λ n. f n rest.item) same ∙ rest.gives);
        earlier = earlier_too rest.before rest.earlier;
      }
    where
      earlier_too : (before : List A) → ((k : ℕ) (z : A) → slice_get before k ≡ Some z → f (i + 1 + k) z ≡ None)
          → (k : ℕ) (z : A) → slice_get (x ∷ before) k ≡ Some z → f (i + k) z ≡ None
      earlier_too before each zero z there =
          let same : i + 0 ≡ i = omega arith in
          ap (λ n. f n z) same ∙ ap (f i) (sym (same_Some x z there)) ∙ gives
      earlier_too before each (suc k) z there =
          let same : i + suc k ≡ i + 1 + k = omega arith in
          ap (λ n. f n z) same ∙ each k z there

  pub seek_some : (i : ℕ) (xs : List A) (y : B) → seek i xs ≡ Some y → SoughtAt i xs y
  seek_some i [] y is = absurd (cc)
  seek_some i (x ∷ xs) y is = sought_next i x xs y (f i x) refl is (seek_some (i + 1) xs y)

module _ (told : List Child) where
  abbrev child_at : ℕ → ℕ → ℕ → Child
  child_at parent call choice = record { parent = parent; call = call; choice = choice }

  abbrev fresh_child : Bool → Child → Option Child
  fresh_child known child = cond known None (Some child)

  abbrev fresh : ℕ → ℕ → ℕ → Reply → Option Child
  fresh parent call choice given = fresh_child (is_told told (child_at parent call choice)) (child_at parent call choice)

  choices_seek : (parent call choice : ℕ) (choices : List Reply) → first_missing told parent call choice choices ≡ seek (fresh parent call) choice choices
  choices_seek parent call choice [] = refl
  choices_seek parent call choice (given ∷ choices) = by (is_told told (child_at parent call choice)) (choices_seek parent call (choice + 1) choices) where
    by : (b : Bool) → first_missing told parent call (choice + 1) choices ≡ seek (fresh parent call) (choice + 1) choices
        → cond b (first_missing told parent call (choice + 1) choices) (Some (child_at parent call choice))
        ≡ option_or (fresh_child b (child_at parent call choice)) (seek (fresh parent call) (choice + 1) choices)
    by true rest = rest
    by false rest = refl

  known_child : (b : Bool) (child : Child) → fresh_child b child ≡ None → b ≡ true
  known_child true child is = refl
  known_child false child is = absurd (cc)

  unknown_child : (b : Bool) (child other : Child) → fresh_child b child ≡ Some other → (b ≡ false) × (child ≡ other)
  unknown_child true child other is = absurd (cc)
  unknown_child false child other is = (refl, same_Some child other is)

  pub choices_told : (parent call choice : ℕ) (given : Reply) (choices : List Reply) → first_missing told parent call 0 choices ≡ None → slice_get choices choice ≡ Some given
      → is_told told (child_at parent call choice) ≡ true
  choices_told parent call choice given choices none there =
      let same : 0 + choice ≡ choice = omega arith in
      known_child (is_told told (child_at parent call choice)) (child_at parent call choice)
      (ap (λ n. fresh parent call n given) (sym same) ∙ seek_none (fresh parent call) 0 choices (sym (choices_seek parent call 0 choices) ∙ none) choice given there)

  -- the choice for the first one, and those before it
  pub record ChoiceAt (parent call : ℕ) (choices : List Reply) (child : Child) : Type 0 where
    pub before : List Reply
    pub given : Reply
    pub after : List Reply
    pub is : choices ≡ before ++ given ∷ after
    pub child_is : child_at parent call (length before) ≡ child
    pub unknown : is_told told child ≡ false
    pub earlier : (choice : ℕ) (other : Reply) → slice_get before choice ≡ Some other → is_told told (child_at parent call choice) ≡ true

  pub choice_at : (parent call : ℕ) (choices : List Reply) (child : Child) → first_missing told parent call 0 choices ≡ Some child → ChoiceAt parent call choices child
  choice_at parent call choices child is =
      let at = seek_some (fresh parent call) 0 choices child (sym (choices_seek parent call 0 choices) ∙ is) in
      let same : 0 + length at.before ≡ length at.before = omega arith in
      let new = unknown_child (is_told told (child_at parent call (length at.before))) (child_at parent call (length at.before)) child
      (ap (λ n. fresh parent call n at.item) (sym same) ∙ at.gives) in
      record {
        before = at.before;
        given = at.item;
        after = at.after;
        is = at.is;
        child_is = new.1;
        unknown = ap (is_told told) (sym new.1) ∙ new.0;
        earlier = λ choice other there.
            let at_zero : 0 + choice ≡ choice = omega arith in
            known_child (is_told told (child_at parent call choice)) (child_at parent call choice)
            (ap (λ n. fresh parent call n other) (sym at_zero) ∙ at.earlier choice other there);
      }

  module _ (choices : Choices) where
    abbrev fresh_at : ℕ → ℕ → Call → Option Child
    fresh_at parent place call = first_missing told parent place 0 (choices call.callee)

    calls_seek : (parent place : ℕ) (calls : List Call) → missing_call told choices parent place calls ≡ seek (fresh_at parent) place calls
    calls_seek parent place [] = refl
    calls_seek parent place (call ∷ calls) = ap (option_or (fresh_at parent place call)) (calls_seek parent (place + 1) calls)

    pub calls_told : (parent place choice : ℕ) (call : Call) (given : Reply) (calls : List Call) → missing_call told choices parent 0 calls ≡ None → slice_get calls place ≡ Some call
        → slice_get (choices call.callee) choice ≡ Some given → is_told told (child_at parent place choice) ≡ true
    calls_told parent place choice call given calls none there chosen =
        let same : 0 + place ≡ place = omega arith in
        choices_told parent place choice given (choices call.callee)
        (ap (λ n. fresh_at parent n call) (sym same) ∙ seek_none (fresh_at parent) 0 calls (sym (calls_seek parent 0 calls) ∙ none) place call there) chosen

    -- the call of the first one, and those before it
    pub record CallAt (parent : ℕ) (calls : List Call) (child : Child) : Type 0 where
      pub before : List Call
      pub call : Call
      pub after : List Call
      pub is : calls ≡ before ++ call ∷ after
      pub choice : ChoiceAt parent (length before) (choices call.callee) child
      pub earlier : (place : ℕ) (other : Call) → slice_get before place ≡ Some other → first_missing told parent place 0 (choices other.callee) ≡ None

    pub call_at : (parent : ℕ) (calls : List Call) (child : Child) → missing_call told choices parent 0 calls ≡ Some child → CallAt parent calls child
    call_at parent calls child is =
        let at = seek_some (fresh_at parent) 0 calls child (sym (calls_seek parent 0 calls) ∙ is) in
        let same : 0 + length at.before ≡ length at.before = omega arith in
        record {
          before = at.before;
          call = at.item;
          after = at.after;
          is = at.is;
          choice = choice_at parent (length at.before) (choices at.item.callee) child (ap (λ n. fresh_at parent n at.item) (sym same) ∙ at.gives);
          earlier = λ place other there.
              let at_zero : 0 + place ≡ place = omega arith in
              ap (λ n. fresh_at parent n other) (sym at_zero) ∙ at.earlier place other there;
        }

    abbrev fresh_in : ℕ → Row → Option Child
    fresh_in parent row = missing_call told choices parent 0 row.calls

    rows_seek : (parent : ℕ) (rows : List Row) → missing_row told choices parent rows ≡ seek fresh_in parent rows
    rows_seek parent [] = refl
    rows_seek parent (row ∷ rows) = ap (option_or (fresh_in parent row)) (rows_seek (parent + 1) rows)

    pub rows_told : (number : ℕ) (row : Row) (rows : List Row) → missing_row told choices 0 rows ≡ None → slice_get rows number ≡ Some row → missing_call told choices number 0 row.calls ≡ None
    rows_told number row rows none there =
        let same : 0 + number ≡ number = omega arith in
        ap (λ n. fresh_in n row) (sym same) ∙ seek_none fresh_in 0 rows (sym (rows_seek 0 rows) ∙ none) number row there

    -- the row of the first one, and those before it
    pub record RowOf (rows : List Row) (child : Child) : Type 0 where
      pub before : List Row
      pub row : Row
      pub after : List Row
      pub is : rows ≡ before ++ row ∷ after
      pub call : CallAt (length before) row.calls child
      pub earlier : (number : ℕ) (other : Row) → slice_get before number ≡ Some other → missing_call told choices number 0 other.calls ≡ None

    pub row_of : (rows : List Row) (child : Child) → missing_row told choices 0 rows ≡ Some child → RowOf rows child
    row_of rows child is =
        let at = seek_some fresh_in 0 rows child (sym (rows_seek 0 rows) ∙ is) in
        let same : 0 + length at.before ≡ length at.before = omega arith in
        record {
          before = at.before;
          row = at.item;
          after = at.after;
          is = at.is;
          call = call_at (length at.before) at.item.calls child (ap (λ n. fresh_in n at.item) (sym same) ∙ at.gives);
          earlier = λ number other there.
              let at_zero : 0 + number ≡ number = omega arith in
              ap (λ n. fresh_in n other) (sym at_zero) ∙ at.earlier number other there;
        }
