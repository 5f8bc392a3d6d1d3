-- The records that are known and their numbers, one by one and all at once.
use Rattle.std.proofs.Common.{◌≡◌, ℕ, suc, ◌+◌, ◌<◌, ◌≤◌, Bool, true, false, not, cond, eqb, ltb, Option, Some, None, List, [], ◌∷◌, ◌++◌, length, filter_map, position, refl, sym, ap, ◌∙◌, arith, append_assoc, append-nil, length-append}
use Rattle.std.specs.List.{list_any, prefix_len, position_or_len}
use Rattle.std.proofs.lemmas.Bool.Decides.{nat_tests}
use Rattle.std.proofs.lemmas.List.Folds.{prefix_len-append}
use Rattle.fb_tree.specs.Sameness.{same_record, same_record-Decides}
use Rattle.fb_tree.specs.declared.recorded.Record.{Record}
use Rattle.fb_campaign.specs.Campaign.{new_records, uses_of}
use Rattle.fb_store.specs.Following.{number_of, with_record}
use Rattle.fb_explore.specs.Recording.{numbers, with_records}

-- ---- places

head_in : {A : Type 0} (p : A → Bool) (x : A) (xs : List A) (b : Bool) → p x ≡ b → (list_any p xs ≡ true → position_or_len p xs < length xs)
    → list_any p (x ∷ xs) ≡ true → position_or_len p (x ∷ xs) < length (x ∷ xs)
head_in p x xs true here later is = rw here (omega arith)
head_in p x xs false here later is =
    let more : list_any p xs ≡ true = rw here at is in
    let low = later more in
    rw here (omega (arith, low))

pub place_in : {A : Type 0} (p : A → Bool) (xs : List A) → list_any p xs ≡ true → position_or_len p xs < length xs
place_in p [] is = absurd (cc)
place_in p (x ∷ xs) is = head_in p x xs (p x) refl (place_in p xs) is

head_out : {A : Type 0} (p : A → Bool) (x : A) (xs : List A) (b : Bool) → p x ≡ b → (list_any p xs ≡ false → position_or_len p xs ≡ length xs)
    → list_any p (x ∷ xs) ≡ false → position_or_len p (x ∷ xs) ≡ length (x ∷ xs)
head_out p x xs true here later is = absurd (let wrong = rw here at is in cc)
head_out p x xs false here later is =
    let none : list_any p xs ≡ false = rw here at is in
    let same = later none in
    rw here (omega (arith, same))

pub place_out : {A : Type 0} (p : A → Bool) (xs : List A) → list_any p xs ≡ false → position_or_len p xs ≡ length xs
place_out p [] is = refl
place_out p (x ∷ xs) is = head_out p x xs (p x) refl (place_out p xs) is

-- what stands in front keeps its place
pub kept_place : {A : Type 0} (p : A → Bool) (xs ys : List A) → list_any p xs ≡ true → position p (xs ++ ys) ≡ Some (position_or_len p xs)
kept_place p xs ys is =
    let low = place_in p xs is in
    let longer = length-append xs ys in
    found (position_or_len p (xs ++ ys)) (length (xs ++ ys)) (position_or_len p xs)
    (prefix_len-append (λ x. not (p x)) xs ys ∙ ap (λ b. cond b (length xs + prefix_len (λ x. not (p x)) ys) (position_or_len p xs)) (other (position_or_len p xs) (length xs) low))
    (omega (arith, low, longer))
  where
    other : (a b : ℕ) → a < b → eqb a b ≡ false
    other a b low = grind (arith, nat_tests)

    found : (at size wanted : ℕ) → at ≡ wanted → wanted < size → cond (ltb at size) (Some at) None ≡ Some wanted
    found at size wanted is low = (let inside : ltb at size ≡ true = grind (arith, nat_tests) in ap (λ b. cond b (Some at) None) inside ∙ ap Some is)

-- and what is new stands behind it
pub new_place : {A : Type 0} (p : A → Bool) (xs ys : List A) (x : A) → list_any p xs ≡ false → p x ≡ true → position p ((xs ++ x ∷ []) ++ ys) ≡ Some (length xs)
new_place p xs ys x out here =
    let same = place_out p xs out in
    let longer = length-append xs (x ∷ ys) in
    ap (position p) (append_assoc xs (x ∷ []) ys)
    ∙ found (position_or_len p (xs ++ x ∷ ys)) (length (xs ++ x ∷ ys)) (length xs)
    (prefix_len-append (λ y. not (p y)) xs (x ∷ ys)
    ∙ ap (λ b. cond b (length xs + prefix_len (λ y. not (p y)) (x ∷ ys)) (position_or_len p xs)) (equal (position_or_len p xs) (length xs) same)
    ∙ first here)
    (omega (arith, longer))
  where
    equal : (a b : ℕ) → a ≡ b → eqb a b ≡ true
    equal a b same = grind (arith, nat_tests)

    first : p x ≡ true → length xs + prefix_len (λ y. not (p y)) (x ∷ ys) ≡ length xs
    first here = rw here (omega arith)

    found : (at size wanted : ℕ) → at ≡ wanted → wanted < size → cond (ltb at size) (Some at) None ≡ Some wanted
    found at size wanted is low = (let inside : ltb at size ≡ true = grind (arith, nat_tests) in ap (λ b. cond b (Some at) None) inside ∙ ap Some is)

-- ---- what is known

pub with_known : (known : List Record) (item : Record) → list_any (same_record item) known ≡ true → with_record known item ≡ known
unfolding with_record
with_known known item is = ap (λ b. cond b known (known ++ item ∷ [])) is

pub with_new : (known : List Record) (item : Record) → list_any (same_record item) known ≡ false → with_record known item ≡ known ++ item ∷ []
unfolding with_record
with_new known item is = ap (λ b. cond b known (known ++ item ∷ [])) is

pub new_where_known : (known items : List Record) (item : Record) → list_any (same_record item) known ≡ true → new_records known (item ∷ items) ≡ new_records known items
new_where_known known items item is = ap (λ b. cond b (new_records known items) (item ∷ new_records (known ++ item ∷ []) items)) is

pub new_where_new : (known items : List Record) (item : Record) → list_any (same_record item) known ≡ false
    → new_records known (item ∷ items) ≡ item ∷ new_records (known ++ item ∷ []) items
new_where_new known items item is = ap (λ b. cond b (new_records known items) (item ∷ new_records (known ++ item ∷ []) items)) is

-- what was known, and what is new
pub grown : (known items : List Record) → known ++ new_records known items ≡ with_records known items
grown known [] = append-nil known
grown known (item ∷ items) = by (list_any (same_record item) known) refl (grown known items) (grown (known ++ item ∷ []) items)
  where
    by : (b : Bool) → list_any (same_record item) known ≡ b → known ++ new_records known items ≡ with_records known items
        → (known ++ item ∷ []) ++ new_records (known ++ item ∷ []) items ≡ with_records (known ++ item ∷ []) items
        → known ++ new_records known (item ∷ items) ≡ with_records known (item ∷ items)
    by true is without with =
        ap (λ new. known ++ new) (new_where_known known items item is) ∙ without ∙ ap (λ front. with_records front items) (sym (with_known known item is))
    by false is without with =
        ap (λ new. known ++ new) (new_where_new known items item is) ∙ sym (append_assoc known (item ∷ []) (new_records (known ++ item ∷ []) items))
        ∙ with ∙ ap (λ front. with_records front items) (sym (with_new known item is))

-- ---- numbers

number_stays : (known more : List Record) (item : Record) → position (same_record item) (with_record known item ++ more) ≡ Some (number_of known item)
unfolding number_of
number_stays known more item = by (list_any (same_record item) known) refl
  where
    by : (b : Bool) → list_any (same_record item) known ≡ b → position (same_record item) (with_record known item ++ more) ≡ Some (position_or_len (same_record item) known)
    by true is = ap (λ front. position (same_record item) (front ++ more)) (with_known known item is) ∙ kept_place (same_record item) known more is
    by false is =
        ap (λ front. position (same_record item) (front ++ more)) (with_new known item is)
        ∙ new_place (same_record item) known more item is ((same_record-Decides item item).1 refl)
        ∙ ap Some (sym (place_out (same_record item) known is))

number_first : {A B : Type 0} (f : A → Option B) (x : A) (xs : List A) (y : B) → f x ≡ Some y → filter_map f (x ∷ xs) ≡ y ∷ filter_map f xs
number_first f x xs y is = rw is

pub uses_are_numbers : (known items later : List Record) → uses_of (with_records known items ++ later) items ≡ numbers known items
uses_are_numbers known [] later = refl
uses_are_numbers known (item ∷ items) later =
    let all = with_records (with_record known item) items ++ later in
    let whole : all ≡ with_record known item ++ (new_records (with_record known item) items ++ later) =
    ap (λ front. front ++ later) (sym (grown (with_record known item) items)) ∙ append_assoc (with_record known item) (new_records (with_record known item) items) later in
    number_first (λ item. position (same_record item) all) item items (number_of known item)
    (ap (position (same_record item)) whole ∙ number_stays known (new_records (with_record known item) items ++ later) item)
    ∙ ap (λ rest. number_of known item ∷ rest) (uses_are_numbers (with_record known item) items later)

pub length-numbers : (known items : List Record) → length (numbers known items) ≡ length items
length-numbers known [] = refl
length-numbers known (item ∷ items) = ap suc (length-numbers (with_record known item) items)

-- ---- is it new

-- the number is that of the next one exactly where it isn't known
pub number_of_new : (known : List Record) (item : Record) → length known ≤ number_of known item
    → (list_any (same_record item) known ≡ false) × (number_of known item ≡ length known)
unfolding number_of
number_of_new known item high = by (list_any (same_record item) known) refl
  where
    by : (b : Bool) → list_any (same_record item) known ≡ b → (list_any (same_record item) known ≡ false) × (position_or_len (same_record item) known ≡ length known)
    by true among = absurd (let low = place_in (same_record item) known among in omega (arith, low, high))
    by false among = (among, place_out (same_record item) known among)

pub number_known : (known : List Record) (item : Record) → ¬ (number_of known item ≡ length known) → list_any (same_record item) known ≡ true
unfolding number_of
number_known known item other = by (list_any (same_record item) known) refl
  where
    by : (b : Bool) → list_any (same_record item) known ≡ b → list_any (same_record item) known ≡ true
    by true among = among
    by false among = absurd (other (place_out (same_record item) known among))
