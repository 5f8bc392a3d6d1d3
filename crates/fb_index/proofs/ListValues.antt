-- Lists as the values that they are made of.
use Rattle.std.proofs.Common.{◌≡◌, ◌≢◌, ℕ, ◌<◌, ◌≤◌, ℤ, Bool, true, false, Option, Some, None, List, [], ◌∷◌, ◌++◌, map, cond, leb, length, refl, ap, sym, ◌∙◌, subst, arith}
use Rattle.std.specs.Option.{option_map, option_and_then}
use Rattle.std.specs.List.{All, join_with_byte}
use Rattle.std.proofs.lemmas.Bool.Decides.{nat_tests}
use Rattle.std.proofs.lemmas.List.{append_cancel_right, length_push, same_from_push}
use Rattle.std.proofs.lemmas.List.Elements.{All-nil, All-map, All-head}
use Rattle.fb_base.specs.declared.items.Items.{Items}
use Rattle.fb_base.specs.declared.items.Items.TheVariants as items
use Rattle.fb_base.specs.declared.value.Value.{Value}
use Rattle.fb_base.specs.declared.value.Value.TheVariants as value
use Rattle.fb_base.specs.Operators.{value_of_list, parts_of, int_of, bool_of, text_of}
use Rattle.fb_base.specs.Values.{IsProper, AreProper, weight_of_text}
use Rattle.fb_base.specs.Weight.{heaviest, weight_of_list, light_list, IsWeighed}
use Rattle.fb_index.specs.Pieces.{IsFree}
use Rattle.fb_index.specs.Spelling.{IsItem, IsValueText, items_spelling, value_spelling}
use Rattle.fb_index.proofs.Free.{IsFree-append, no-split, joined-unique, joined-free}
use Rattle.fb_index.proofs.Lists.{joined, map-map}
use Rattle.fb_index.proofs.Values.{comma-other, semicolon-other, item-free, item-unique, item-some, kind_at, kind_number, kind-told, same-kind}

-- the values in a list
abbrev pub values_of : Items → List Value
values_of items.Empty = []
values_of (items.Ints xs) = map value.Int xs
values_of (items.Bools xs) = map value.Bool xs
values_of (items.Texts xs) = map value.Text xs

abbrev pub spelled_items : List Value → List ℕ
spelled_items = joined 59 value_spelling

pub as-values : (xs : Items) → items_spelling xs ≡ spelled_items (values_of xs)
as-values items.Empty = refl
as-values (items.Ints xs) = ap (join_with_byte 59) (map-map value_spelling value.Int xs)
as-values (items.Bools xs) = ap (join_with_byte 59) (map-map value_spelling value.Bool xs)
as-values (items.Texts xs) = ap (join_with_byte 59) (map-map value_spelling value.Text xs)

pub are-items : (xs : Items) → AreProper xs → All IsItem (values_of xs)
are-items items.Empty are = All-nil IsItem
are-items (items.Ints xs) are = All-map IsItem value.Int xs are.each
are-items (items.Bools xs) are = All-map IsItem value.Bool xs are.each
are-items (items.Texts xs) are = All-map IsItem value.Text xs are.each

-- ---- what they are the list of

parts-made : {A : Type 0} (make : A → Value) (part : Value → Option A) → ((x : A) → part (make x) ≡ Some x) → (xs : List A) →
    parts_of part (map make xs) ≡ Some xs
parts-made make part back [] = refl
parts-made make part back (x ∷ xs) = rw (back x, parts-made make part back xs) refl

light : {A : Type 0} (weight : A → ℕ) (proper : A → Type 0) (xs : List A) → IsWeighed weight proper xs → light_list weight xs ≡ Some xs
light weight proper xs is =
    let test : leb (weight_of_list weight xs) heaviest ≡ true = within _ _ is.light in
    rw test refl
  where
    within : (m n : ℕ) → m ≤ n → leb m n ≡ true
    within m n small = grind (arith, nat_tests)

pub list-made : (xs : Items) → AreProper xs → value_of_list (values_of xs) ≡ Some (value.List xs)
unfolding value_of_list
list-made items.Empty are = refl
list-made (items.Ints []) are = absurd (omega (arith, are.some))
list-made (items.Ints (x ∷ xs)) are =
    rw (parts-made value.Int int_of (λ n. refl) (x ∷ xs), light (λ _. 1) _ (x ∷ xs) are) refl
list-made (items.Bools []) are = absurd (omega (arith, are.some))
list-made (items.Bools (x ∷ xs)) are =
    rw (parts-made value.Bool bool_of (λ b. refl) (x ∷ xs), light (λ _. 1) _ (x ∷ xs) are) refl
list-made (items.Texts []) are = absurd (omega (arith, are.some))
list-made (items.Texts (x ∷ xs)) are =
    rw (parts-made value.Text text_of (λ b. refl) (x ∷ xs), light weight_of_text _ (x ∷ xs) are) refl

parts-back : {A : Type 0} (make : A → Value) (part : Value → Option A) → ((v : Value) (x : A) → part v ≡ Some x → v ≡ make x) →
    (vs : List Value) (xs : List A) → parts_of part vs ≡ Some xs → vs ≡ map make xs
parts-back make part back [] [] told = refl
parts-back make part back [] (x ∷ xs) told = absurd cc
parts-back {A} make part back (v ∷ vs) xs told =
    by (part v) (parts_of part vs) refl (λ ys are. parts-back make part back vs ys are) told
  where
    by : (o : Option A) (p : Option (List A)) → part v ≡ o → ((ys : List A) → p ≡ Some ys → vs ≡ map make ys) →
        option_and_then (λ x. option_map (λ ys. x ∷ ys) p) o ≡ Some xs → v ∷ vs ≡ map make xs
    by None p is rest told = absurd cc
    by (Some x) None is rest told = absurd cc
    by (Some x) (Some ys) is rest told =
        let alike : x ∷ ys ≡ xs = cc in
        (λ i. back v x is i ∷ rest ys refl i) ∙ ap (map make) alike

-- a list that is made of some parts
record IsMadeOf {A : Type 0} (make : List A → Items) (parts : Option (List A)) (v : Value) : Type 0 where
  xs : List A
  are : parts ≡ Some xs
  is : v ≡ value.List (make xs)

made-of : {A : Type 0} (make : List A → Items) (weight : A → ℕ) (parts : Option (List A)) (v : Value) →
    option_map (λ xs. value.List (make xs)) (option_and_then (light_list weight) parts) ≡ Some v → IsMadeOf make parts v
made-of make weight None v told = absurd cc
made-of {A} make weight (Some xs) v told = by _ told
  where
    by : (t : Bool) → option_map (λ ys. value.List (make ys)) (cond t (Some xs) None) ≡ Some v → IsMadeOf make (Some xs) v
    by true told = record { xs = xs; are = refl; is = cc }
    by false told = absurd cc

int-back : (v : Value) (n : ℤ) → int_of v ≡ Some n → v ≡ value.Int n
int-back (value.Int m) n told = let same : m ≡ n = cc in ap value.Int same
int-back (value.Bool b) n told = absurd cc
int-back (value.Text bytes) n told = absurd cc
int-back (value.List xs) n told = absurd cc

bool-back : (v : Value) (b : Bool) → bool_of v ≡ Some b → v ≡ value.Bool b
bool-back (value.Int m) b told = absurd cc
bool-back (value.Bool a) b told = let same : a ≡ b = cc in ap value.Bool same
bool-back (value.Text bytes) b told = absurd cc
bool-back (value.List xs) b told = absurd cc

text-back : (v : Value) (bytes : List ℕ) → text_of v ≡ Some bytes → v ≡ value.Text bytes
text-back (value.Int m) bytes told = absurd cc
text-back (value.Bool a) bytes told = absurd cc
text-back (value.Text others) bytes told = let same : others ≡ bytes = cc in ap value.Text same
text-back (value.List xs) bytes told = absurd cc

-- the values that a list is made of
record IsListOf (vs : List Value) (v : Value) : Type 0 where
  xs : Items
  are : vs ≡ values_of xs
  is : v ≡ value.List xs

list-of : {A : Type 0} (make : A → Value) (part : Value → Option A) (make_items : List A → Items) (vs : List Value) (v : Value) →
    ((w : Value) (x : A) → part w ≡ Some x → w ≡ make x) → ((xs : List A) → values_of (make_items xs) ≡ map make xs) →
    IsMadeOf make_items (parts_of part vs) v → IsListOf vs v
list-of make part make_items vs v back are made =
    record { xs = make_items made.xs; are = parts-back make part back vs made.xs made.are ∙ sym (are made.xs); is = made.is }

list-told : (vs : List Value) (v : Value) → value_of_list vs ≡ Some v → IsListOf vs v
unfolding value_of_list
list-told [] v told = record { xs = items.Empty; are = refl; is = cc }
list-told (value.Int n ∷ vs) v told =
    list-of value.Int int_of items.Ints (value.Int n ∷ vs) v int-back (λ xs. refl) (made-of items.Ints (λ _. 1) _ v told)
list-told (value.Bool b ∷ vs) v told =
    list-of value.Bool bool_of items.Bools (value.Bool b ∷ vs) v bool-back (λ xs. refl) (made-of items.Bools (λ _. 1) _ v told)
list-told (value.Text bytes ∷ vs) v told =
    list-of value.Text text_of items.Texts (value.Text bytes ∷ vs) v text-back (λ xs. refl) (made-of items.Texts weight_of_text _ v told)
list-told (value.List xs ∷ vs) v told = absurd cc

-- the list of some values is spelled by them
pub list-spelled : (vs : List Value) (v : Value) → value_of_list vs ≡ Some v → 91 ∷ spelled_items vs ++ 93 ∷ [] ≡ value_spelling v
list-spelled vs v told =
    let made = list-told vs v told in
    ap (λ ws. 91 ∷ spelled_items ws ++ 93 ∷ []) made.are ∙ ap (λ bytes. 91 ∷ bytes ++ 93 ∷ []) (sym (as-values made.xs))
    ∙ ap value_spelling (sym made.is)

-- ---- no two have one text

joined-some : (v : Value) (vs : List Value) → IsItem v → [] ≡ spelled_items (v ∷ vs) → ⊥
joined-some v [] is same = item-some v is same
joined-some v (w ∷ vs) is same = no-split 59 [] (value_spelling v) (spelled_items (w ∷ vs)) tt same

pub spelled-unique : (vs ws : List Value) → All IsItem vs → All IsItem ws → spelled_items vs ≡ spelled_items ws → vs ≡ ws
spelled-unique [] [] are also same = refl
spelled-unique [] (w ∷ ws) are also same = absurd (joined-some w ws (All-head IsItem w ws also) same)
spelled-unique (v ∷ vs) [] are also same = absurd (joined-some v vs (All-head IsItem v vs are) (sym same))
spelled-unique (v ∷ vs) (w ∷ ws) are also same =
    joined-unique 59 value_spelling IsItem (item-free 59 semicolon-other) item-unique (v ∷ vs) (w ∷ ws) (omega arith) (omega arith) are also same

items-unique : (xs ys : Items) → AreProper xs → AreProper ys → items_spelling xs ≡ items_spelling ys → xs ≡ ys
items-unique xs ys are also same =
    let values : values_of xs ≡ values_of ys =
    spelled-unique (values_of xs) (values_of ys) (are-items xs are) (are-items ys also) (sym (as-values xs) ∙ same ∙ as-values ys) in
    let lists : Some (value.List xs) ≡ Some (value.List ys) = sym (list-made xs are) ∙ ap value_of_list values ∙ list-made ys also in
    cc

no-list : (v : Value) → IsProper v → kind_number v ≢ 1 → IsItem v
no-list (value.Int n) is other = is
no-list (value.Bool b) is other = tt
no-list (value.Text bytes) is other = is
no-list (value.List xs) is other = absurd (other refl)

value-unique-by : (a b : Value) → IsProper a → IsProper b → kind_number a ≡ kind_number b → value_spelling a ≡ value_spelling b → a ≡ b
value-unique-by (value.Int a) b is_a is_b kind same = item-unique (value.Int a) b is_a (no-list b is_b (λ is. omega (arith, is, kind))) same
value-unique-by (value.Bool a) b is_a is_b kind same = item-unique (value.Bool a) b tt (no-list b is_b (λ is. omega (arith, is, kind))) same
value-unique-by (value.Text a) b is_a is_b kind same = item-unique (value.Text a) b is_a (no-list b is_b (λ is. omega (arith, is, kind))) same
value-unique-by (value.List xs) (value.List ys) is_a is_b kind same =
    let inside : items_spelling xs ++ 93 ∷ [] ≡ items_spelling ys ++ 93 ∷ [] = cc in
    ap value.List (items-unique xs ys is_a is_b (append_cancel_right (items_spelling xs) (items_spelling ys) (93 ∷ []) inside))
value-unique-by (value.List xs) (value.Int b) is_a is_b kind same = absurd (omega (arith, kind))
value-unique-by (value.List xs) (value.Bool b) is_a is_b kind same = absurd (omega (arith, kind))
value-unique-by (value.List xs) (value.Text b) is_a is_b kind same = absurd (omega (arith, kind))

pub value-unique : (a b : Value) → IsProper a → IsProper b → value_spelling a ≡ value_spelling b → a ≡ b
value-unique a b is_a is_b same = value-unique-by a b is_a is_b (same-kind a b is_a is_b same) same

-- ---- values have no comma

between-free : (inside : List ℕ) → IsFree 44 inside → IsFree 44 (91 ∷ inside ++ 93 ∷ [])
between-free inside free = ((λ same. omega (arith, same)), IsFree-append 44 inside (93 ∷ []) free ((λ same. omega (arith, same)), tt))

pub value-free : (v : Value) → IsProper v → IsFree 44 (value_spelling v)
value-free (value.Int n) is = item-free 44 comma-other (value.Int n) is
value-free (value.Bool b) is = item-free 44 comma-other (value.Bool b) tt
value-free (value.Text bytes) is = item-free 44 comma-other (value.Text bytes) is
value-free (value.List xs) is =
    let inside = joined-free 44 59 (λ same. omega (arith, same)) value_spelling IsItem (item-free 44 comma-other) (values_of xs) (are-items xs is) in
    between-free (items_spelling xs) (subst (IsFree 44) (sym (as-values xs)) inside)

-- ---- what spells a list

-- what follows the `[` of a list
pub record IsListText (rest : List ℕ) : Type 0 where
  pub xs : Items
  pub are : AreProper xs
  pub parts : rest ≡ spelled_items (values_of xs) ++ 93 ∷ []

pub list-text : (rest : List ℕ) → IsValueText (91 ∷ rest) → IsListText rest
list-text rest (v, is, same) = by v is same
  where
    by : (v : Value) → IsProper v → 91 ∷ rest ≡ value_spelling v → IsListText rest
    by (value.Int n) is same = absurd (omega (arith, ap kind_at same, kind-told (value.Int n) is))
    by (value.Bool b) is same = absurd (omega (arith, ap kind_at same, kind-told (value.Bool b) is))
    by (value.Text bytes) is same = absurd (omega (arith, ap kind_at same))
    by (value.List xs) is same =
        let rests : rest ≡ items_spelling xs ++ 93 ∷ [] = cc in
        record { xs = xs; are = is; parts = rests ∙ ap (λ bytes. bytes ++ 93 ∷ []) (as-values xs) }

-- bytes that are no items are no list between brackets
pub no-items-no-list : (inside : List ℕ) → ((vs : List Value) → All IsItem vs → inside ≢ spelled_items vs) → ¬ (IsValueText (91 ∷ inside ++ 93 ∷ []))
no-items-no-list inside none is =
    let text = list-text (inside ++ 93 ∷ []) is in
    none (values_of text.xs) (are-items text.xs text.are) (append_cancel_right inside _ (93 ∷ []) text.parts)

-- nor are items that make no list
pub no-list-of : (inside : List ℕ) (vs : List Value) → All IsItem vs → inside ≡ spelled_items vs → value_of_list vs ≡ None →
    ¬ (IsValueText (91 ∷ inside ++ 93 ∷ []))
no-list-of inside vs are same none is =
    let text = list-text (inside ++ 93 ∷ []) is in
    let alike : vs ≡ values_of text.xs =
    spelled-unique vs (values_of text.xs) are (are-items text.xs text.are)
    (sym same ∙ append_cancel_right inside _ (93 ∷ []) text.parts) in
    let made : None ≡ Some (value.List text.xs) = sym none ∙ ap value_of_list alike ∙ list-made text.xs text.are in
    cc

-- it ends in `]`
pub list-some : (rest : List ℕ) → IsListText rest → 0 < length rest
list-some rest text = omega (arith, ap length text.parts, length_push (spelled_items (values_of text.xs)) 93)

pub list-ends : (rest items : List ℕ) (last : ℕ) → rest ≡ items ++ last ∷ [] → IsListText rest → last ≡ 93
list-ends rest items last parts text = (same_from_push items (spelled_items (values_of text.xs)) last 93 (sym parts ∙ text.parts)).1
