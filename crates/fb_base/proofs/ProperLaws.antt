-- The operators keep what holds of each value that a program has.
use Rattle.std.proofs.Common.{ℕ, ℤ, pos, negsuc, neg_ℤ, zero, suc, ◌+ℤ◌, ◌-ℤ◌, ◌*ℤ◌, ◌<◌, ◌≤◌, List, [], ◌∷◌, ◌++◌, length, Bool, not, Option, Some, None, IfSome, All, FitsSigned, nat_le, slice_get, arith, lit≤, lit<}
use Rattle.std.specs.Int.{w64}
use Rattle.std.specs.Option.{option_map, option_and_then}
use Rattle.std.proofs.lemmas.Option.{IfSome_then}
use Rattle.std.proofs.lemmas.Int.{fits_signed_from_abs}
use Rattle.std.proofs.lemmas.Str.{IsUtf8-append}
use Rattle.std.proofs.lemmas.List.Elements.{All-head, All-tail, All-cons, All-nil}
use borrow.Author.Tests.{leb-true}
use Rattle.fb_base.specs.declared.items.Items.{Items}
use Rattle.fb_base.specs.declared.items.Items.TheVariants as items
use Rattle.fb_base.specs.declared.value.Value.{Value}
use Rattle.fb_base.specs.declared.value.Value.TheVariants as value
use Rattle.fb_base.specs.declared.operator.Op1.TheVariants.{Neg, Not, Len}
use Rattle.fb_base.specs.declared.operator.Op2.TheVariants.{Add, Sub, Mul, Div, Rem, Eq, Ne, Lt, Le, Gt, Ge, Join, At}
use Rattle.fb_base.specs.Text.{IsText}
use Rattle.fb_base.specs.Weight.{heaviest, weight_of_list, IsWeighed, light_list}
use Rattle.fb_base.specs.Values.{IsProper, AreProper, weight_of_text, weight_of_items, length_of_items}
use Rattle.fb_base.specs.Operators.{ints_of, in_i64, quotient, remainder, value_of_ints, value_of_order, equality_of, light_items, joined_items, value_of_join, item_at, value_at, value_of_place, value_of_binary, value_of_unary, value_of_list, parts_of, int_of, bool_of, text_of}
use Rattle.fb_base.specs.Laws.{HasBoundedWeight, BinaryKeepsProper, UnaryKeepsProper, ListKeepsProper}
use Rattle.fb_base.proofs.Given.{IfSome-map, IfSome-map_all, IfSome-then, IfSome-cond}
use Rattle.fb_base.proofs.Division.{in_i64_fits, quotient_fits, remainder_fits}
use Rattle.fb_base.proofs.Weights.{IsWeighed-append, length-le-sum_by}

pub bounded_weight : (v : Value) → IsProper v → HasBoundedWeight v
bounded_weight (value.Int n) p = (lit≤ tt, lit≤ tt)
bounded_weight (value.Bool b) p = (lit≤ tt, lit≤ tt)
bounded_weight (value.Text bytes) p = (omega arith, omega arith)
bounded_weight (value.List items.Empty) p = (lit≤ tt, lit≤ tt)
bounded_weight (value.List (items.Ints xs)) p = (omega arith, omega arith)
bounded_weight (value.List (items.Bools xs)) p = (omega arith, omega arith)
bounded_weight (value.List (items.Texts xs)) p = (omega arith, omega arith)

proper_ints : (f : ℤ → ℤ → Option ℤ) (a b : Value) → ((m n : ℤ) → FitsSigned w64 n → IfSome (f m n) (FitsSigned w64)) →
    IsProper b → IfSome (value_of_ints f a b) IsProper
proper_ints f (value.Int m) (value.Int n) h q = IfSome-map IsProper value.Int (f m n) (h m n q)
proper_ints f _ _ h q = tt

proper_order : (test : ℤ → ℤ → Bool) (a b : Value) → IfSome (value_of_order test a b) IsProper
proper_order test a b = IfSome-map_all IsProper (λ p. value.Bool (test p.0 p.1)) (ints_of a b) (λ p. tt)

proper_equality : (answer : Bool → Bool) (a b : Value) → IfSome (option_map (λ same. value.Bool (answer same)) (equality_of a b)) IsProper
proper_equality answer a b = IfSome-map_all IsProper (λ same. value.Bool (answer same)) (equality_of a b) (λ same. tt)

proper_light : (zs : Items) → (weight_of_items zs ≤ heaviest → AreProper zs) → IfSome (light_items zs) AreProper
proper_light zs h = IfSome-cond AreProper (nat_le (weight_of_items zs) heaviest) zs (λ light. h (leb-true (weight_of_items zs) heaviest light))

proper_joined : (xs ys : Items) → AreProper xs → AreProper ys → IfSome (option_and_then light_items (joined_items xs ys)) AreProper
proper_joined items.Empty ys p q = proper_light ys (λ _. q)
proper_joined (items.Ints xs) items.Empty p q = proper_light (items.Ints xs) (λ _. p)
proper_joined (items.Bools xs) items.Empty p q = proper_light (items.Bools xs) (λ _. p)
proper_joined (items.Texts xs) items.Empty p q = proper_light (items.Texts xs) (λ _. p)
proper_joined (items.Ints xs) (items.Ints ys) p q =
    proper_light (items.Ints (xs ++ ys)) (IsWeighed-append (λ _. 1) (FitsSigned w64) xs ys p q)
proper_joined (items.Bools xs) (items.Bools ys) p q =
    proper_light (items.Bools (xs ++ ys)) (IsWeighed-append (λ _. 1) (λ _. Unit {0}) xs ys p q)
proper_joined (items.Texts xs) (items.Texts ys) p q =
    proper_light (items.Texts (xs ++ ys)) (IsWeighed-append weight_of_text IsText xs ys p q)
proper_joined _ _ p q = tt

proper_join : (a b : Value) → IsProper a → IsProper b → IfSome (value_of_join a b) IsProper
proper_join (value.Text a) (value.Text b) p q =
    IfSome-cond IsProper (nat_le (weight_of_text (a ++ b)) heaviest) (value.Text (a ++ b))
    (λ light. let small = leb-true (weight_of_text (a ++ b)) heaviest light in (IsUtf8-append a b p.0 q.0, omega arith))
proper_join (value.List xs) (value.List ys) p q =
    IfSome-map IsProper value.List (option_and_then light_items (joined_items xs ys)) (proper_joined xs ys p q)
proper_join _ _ p q = tt

-- an item at a place is one of the items
proper_get : {A : Type 0} (P : A → Type 0) (xs : List A) (k : ℕ) → All P xs → IfSome (slice_get xs k) P
proper_get P [] k h = tt
proper_get P (x ∷ xs) zero h = All-head P x xs h
proper_get P (x ∷ xs) (suc k) h = proper_get P xs k (All-tail P x xs h)

proper_item : {A : Type 0} (P : A → Type 0) (xs : List A) (place : ℤ) → All P xs → IfSome (item_at xs place) P
proper_item P xs (pos k) h = proper_get P xs k h
proper_item P xs (negsuc k) h = tt

proper_at : (xs : Items) (place : ℤ) → AreProper xs → IfSome (value_at xs place) IsProper
proper_at items.Empty place p = tt
proper_at (items.Ints xs) place p = IfSome-map IsProper value.Int (item_at xs place) (proper_item (FitsSigned w64) xs place p.each)
proper_at (items.Bools xs) place p = IfSome-map_all IsProper value.Bool (item_at xs place) (λ b. tt)
proper_at (items.Texts xs) place p = IfSome-map IsProper value.Text (item_at xs place) (proper_item IsText xs place p.each)

proper_place : (a b : Value) → IsProper a → IfSome (value_of_place a b) IsProper
proper_place (value.List xs) (value.Int place) p = proper_at xs place p
proper_place _ _ p = tt

pub binary_keeps_proper : BinaryKeepsProper
unfolding value_of_binary
binary_keeps_proper Add a b p q = proper_ints _ a b (λ m n _. in_i64_fits (m +ℤ n)) q
binary_keeps_proper Sub a b p q = proper_ints _ a b (λ m n _. in_i64_fits (m -ℤ n)) q
binary_keeps_proper Mul a b p q = proper_ints _ a b (λ m n _. in_i64_fits (m *ℤ n)) q
binary_keeps_proper Div a b p q = proper_ints quotient a b (λ m n _. quotient_fits m n) q
binary_keeps_proper Rem a b p q = proper_ints remainder a b remainder_fits q
binary_keeps_proper Eq a b p q = proper_equality (λ same. same) a b
binary_keeps_proper Ne a b p q = proper_equality not a b
binary_keeps_proper Lt a b p q = proper_order _ a b
binary_keeps_proper Le a b p q = proper_order _ a b
binary_keeps_proper Gt a b p q = proper_order _ a b
binary_keeps_proper Ge a b p q = proper_order _ a b
binary_keeps_proper Join a b p q = proper_join a b p q
binary_keeps_proper At a b p q = proper_place a b p

length_fits : (n : ℕ) → n ≤ heaviest → FitsSigned w64 (pos n)
length_fits n small = fits_signed_from_abs w64 (pos n) (omega arith)

-- a list has fewer items than it weighs
pub length_below_weight : (xs : Items) → length_of_items xs < weight_of_items xs
length_below_weight items.Empty = lit< tt
length_below_weight (items.Ints xs) = omega (arith, length-le-sum_by (λ _. 1) (λ _. lit< tt) xs)
length_below_weight (items.Bools xs) = omega (arith, length-le-sum_by (λ _. 1) (λ _. lit< tt) xs)
length_below_weight (items.Texts xs) = omega (arith, length-le-sum_by weight_of_text (λ bytes. omega arith) xs)

proper_length : (a : Value) → IsProper a → IfSome (value_of_unary Len a) IsProper
unfolding value_of_unary
proper_length (value.Text bytes) p = length_fits (length bytes) (omega arith)
proper_length (value.List xs) p =
    length_fits (length_of_items xs) (omega (arith, length_below_weight xs, (bounded_weight (value.List xs) p).1))
proper_length _ p = tt

proper_negation : (a : Value) → IfSome (value_of_unary Neg a) IsProper
unfolding value_of_unary
proper_negation (value.Int n) = IfSome-map IsProper value.Int (in_i64 (neg_ℤ n)) (in_i64_fits (neg_ℤ n))
proper_negation _ = tt

proper_not : (a : Value) → IfSome (value_of_unary Not a) IsProper
unfolding value_of_unary
proper_not (value.Bool b) = tt
proper_not _ = tt

pub unary_keeps_proper : UnaryKeepsProper
unary_keeps_proper Neg a p = proper_negation a
unary_keeps_proper Not a p = proper_not a
unary_keeps_proper Len a p = proper_length a p

-- the parts of values are as the values
proper_front : {A : Type 0} (P : A → Type 0) (first : Option A) (rest : Option (List A)) →
    IfSome first P → IfSome rest (All P) → IfSome (option_and_then (λ x. option_map (λ xs. x ∷ xs) rest) first) (λ xs. (0 < length xs) × All P xs)
proper_front P None rest p q = tt
proper_front P (Some x) None p q = tt
proper_front P (Some x) (Some xs) p q = (omega arith, All-cons P x xs p q)

proper_rest : {A : Type 0} (P : A → Type 0) (part : Value → Option A) → ((v : Value) → IsProper v → IfSome (part v) P) →
    (vs : List Value) → All IsProper vs → IfSome (parts_of part vs) (All P)
proper_rest P part keeps [] h = All-nil P
proper_rest P part keeps (v ∷ vs) h =
    IfSome_then (parts_of part (v ∷ vs))
    (proper_front P (part v) (parts_of part vs) (keeps v (All-head IsProper v vs h)) (proper_rest P part keeps vs (All-tail IsProper v vs h)))
    (λ xs both. both.1)

proper_parts : {A : Type 0} (P : A → Type 0) (part : Value → Option A) → ((v : Value) → IsProper v → IfSome (part v) P) →
    (v : Value) (vs : List Value) → All IsProper (v ∷ vs) → IfSome (parts_of part (v ∷ vs)) (λ xs. (0 < length xs) × All P xs)
proper_parts P part keeps v vs h =
    proper_front P (part v) (parts_of part vs) (keeps v (All-head IsProper v vs h)) (proper_rest P part keeps vs (All-tail IsProper v vs h))

proper_light_list : {A : Type 0} (weight : A → ℕ) (P : A → Type 0) (xs : List A) → (0 < length xs) × All P xs →
    IfSome (light_list weight xs) (IsWeighed weight P)
proper_light_list weight P xs h =
    IfSome-cond (IsWeighed weight P) (nat_le (weight_of_list weight xs) heaviest) xs
    (λ light. record { some = h.0; light = leb-true (weight_of_list weight xs) heaviest light; each = h.1 })

proper_literal : {A : Type 0} (weight : A → ℕ) (P : A → Type 0) (make : List A → Items) (o : Option (List A)) →
    ((xs : List A) → IsWeighed weight P xs → AreProper (make xs)) → IfSome o (λ xs. (0 < length xs) × All P xs) →
    IfSome (option_map (λ xs. value.List (make xs)) (option_and_then (light_list weight) o)) IsProper
proper_literal weight P make o keeps h =
    IfSome-map IsProper (λ xs. value.List (make xs)) (option_and_then (light_list weight) o)
    (IfSome_then (option_and_then (light_list weight) o)
    (IfSome-then (IsWeighed weight P) (light_list weight) o (IfSome_then o h (proper_light_list weight P)))
    keeps)

int_part : (v : Value) → IsProper v → IfSome (int_of v) (FitsSigned w64)
int_part (value.Int n) p = p
int_part _ p = tt

bool_part : (v : Value) → IsProper v → IfSome (bool_of v) (λ _. Unit {0})
bool_part (value.Bool b) p = tt
bool_part _ p = tt

text_part : (v : Value) → IsProper v → IfSome (text_of v) IsText
text_part (value.Text bytes) p = p
text_part _ p = tt

proper_list : (v : Value) (vs : List Value) → All IsProper (v ∷ vs) → IfSome (value_of_list (v ∷ vs)) IsProper
unfolding value_of_list
proper_list (value.Int n) vs h =
    proper_literal (λ _. 1) (FitsSigned w64) items.Ints (parts_of int_of (value.Int n ∷ vs)) (λ xs w. w)
    (proper_parts (FitsSigned w64) int_of int_part (value.Int n) vs h)
proper_list (value.Bool b) vs h =
    proper_literal (λ _. 1) (λ _. Unit {0}) items.Bools (parts_of bool_of (value.Bool b ∷ vs)) (λ xs w. w)
    (proper_parts (λ _. Unit {0}) bool_of bool_part (value.Bool b) vs h)
proper_list (value.Text bytes) vs h =
    proper_literal weight_of_text IsText items.Texts (parts_of text_of (value.Text bytes ∷ vs)) (λ xs w. w)
    (proper_parts IsText text_of text_part (value.Text bytes) vs h)
proper_list (value.List xs) vs h = tt

proper_empty : IfSome (value_of_list []) IsProper
unfolding value_of_list
proper_empty = tt

pub list_keeps_proper : ListKeepsProper
list_keeps_proper [] h = proper_empty
list_keeps_proper (v ∷ vs) h = proper_list v vs h
