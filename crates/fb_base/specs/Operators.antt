-- The operators: the value that each gives for its operands, or none where it faults.
-- Operands whose kinds don't fit an operator have no value either.
use Rattle.std.specs.Prelude.{◌≡◌, ◌∷◌, [], ℕ, ℤ, pos, negsuc, ◌+ℤ◌, ◌-ℤ◌, ◌*ℤ◌, ◌^◌, ◌++◌, Bool, true, false, not, if◌then◌else◌, List, length, nat_lt, nat_le, int_lt, int_le, int_div, neg_ℤ, slice_get, Option, Some, None, Result, Ok, Err, option_and_then}
use Rattle.std.specs.Ordering.{int_eq}
use Rattle.std.specs.Option.{option_map}
use Rattle.fb_base.specs.declared.items.Items.{Items}
use Rattle.fb_base.specs.declared.items.Items.TheVariants as items
use Rattle.fb_base.specs.declared.value.Value.{Value}
use Rattle.fb_base.specs.declared.value.Value.TheVariants as value
use Rattle.fb_base.specs.declared.operator.Op1.{Op1}
use Rattle.fb_base.specs.declared.operator.Op1.TheVariants.{Neg, Not, Len}
use Rattle.fb_base.specs.declared.operator.Op2.{Op2}
use Rattle.fb_base.specs.declared.operator.Op2.TheVariants.{Add, Sub, Mul, Div, Rem, Eq, Ne, Lt, Le, Gt, Ge, Join, At}
use Rattle.fb_base.specs.declared.operator.OpError.{OpError}
use Rattle.fb_base.specs.declared.operator.OpError.TheVariants.{Fault, Memory}
use Rattle.fb_base.specs.Values.{weight_of, weight_of_text, weight_of_items, length_of_items, same_value}
use Rattle.fb_base.specs.Weight.{heaviest, light_list}

-- a call answered what is defined: the value, or a fault where there is none; want of memory is free
abbrev pub Answered : {A : Type 0} → Option A → Result A OpError → Type 0
Answered defined (Ok v) = defined ≡ Some v
Answered defined (Err Fault) = defined ≡ None
Answered defined (Err Memory) = Unit {0}

-- the integer where 64 bits hold it: from -2^63 to 2^63 - 1
abbrev pub in_i64 : ℤ → Option ℤ
in_i64 (pos n) = if nat_lt n (2 ^ 63) then Some (pos n) else None
in_i64 (negsuc n) = if nat_lt n (2 ^ 63) then Some (negsuc n) else None

-- toward zero
abbrev pub quotient : ℤ → ℤ → Option ℤ
quotient a b = if int_eq b (pos 0) then None else in_i64 (int_div a b)

-- what the quotient leaves of the dividend
abbrev pub remainder : ℤ → ℤ → Option ℤ
remainder a b = option_map (λ q. a -ℤ q *ℤ b) (quotient a b)

abbrev pub ints_of : Value → Value → Option (ℤ × ℤ)
ints_of (value.Int a) (value.Int b) = Some (a, b)
ints_of _ _ = None

abbrev pub value_of_ints : (ℤ → ℤ → Option ℤ) → Value → Value → Option Value
value_of_ints f a b = option_and_then (λ p. option_map value.Int (f p.0 p.1)) (ints_of a b)

abbrev pub value_of_order : (ℤ → ℤ → Bool) → Value → Value → Option Value
value_of_order test a b = option_map (λ p. value.Bool (test p.0 p.1)) (ints_of a b)

abbrev pub share_list_kind : Items → Items → Bool
share_list_kind items.Empty _ = true
share_list_kind _ items.Empty = true
share_list_kind (items.Ints _) (items.Ints _) = true
share_list_kind (items.Bools _) (items.Bools _) = true
share_list_kind (items.Texts _) (items.Texts _) = true
share_list_kind _ _ = false

-- whether two values have a kind in common
abbrev pub share_kind : Value → Value → Bool
share_kind (value.Int _) (value.Int _) = true
share_kind (value.Bool _) (value.Bool _) = true
share_kind (value.Text _) (value.Text _) = true
share_kind (value.List xs) (value.List ys) = share_list_kind xs ys
share_kind _ _ = false

-- whether two values of one kind are equal
abbrev pub equality_of : Value → Value → Option Bool
equality_of a b = if share_kind a b then Some (same_value a b) else None

-- the value where it isn't too heavy
abbrev pub within_weight : Value → Option Value
within_weight v = if nat_le (weight_of v) heaviest then Some v else None

abbrev pub light_items : Items → Option Items
light_items xs = if nat_le (weight_of_items xs) heaviest then Some xs else None

abbrev pub joined_items : Items → Items → Option Items
joined_items items.Empty ys = Some ys
joined_items xs items.Empty = Some xs
joined_items (items.Ints xs) (items.Ints ys) = Some (items.Ints (xs ++ ys))
joined_items (items.Bools xs) (items.Bools ys) = Some (items.Bools (xs ++ ys))
joined_items (items.Texts xs) (items.Texts ys) = Some (items.Texts (xs ++ ys))
joined_items _ _ = None

abbrev pub value_of_join : Value → Value → Option Value
value_of_join (value.Text a) (value.Text b) = within_weight (value.Text (a ++ b))
value_of_join (value.List xs) (value.List ys) = option_map value.List (option_and_then light_items (joined_items xs ys))
value_of_join _ _ = None

-- the item at a place, from 0
abbrev pub item_at : {A : Type 0} → List A → ℤ → Option A
item_at xs (pos place) = slice_get xs place
item_at xs (negsuc _) = None

abbrev pub value_at : Items → ℤ → Option Value
value_at items.Empty place = None
value_at (items.Ints xs) place = option_map value.Int (item_at xs place)
value_at (items.Bools xs) place = option_map value.Bool (item_at xs place)
value_at (items.Texts xs) place = option_map value.Text (item_at xs place)

abbrev pub value_of_place : Value → Value → Option Value
value_of_place (value.List xs) (value.Int place) = value_at xs place
value_of_place _ _ = None

-- the table of the operators of two operands
unfoldable pub value_of_binary : Op2 → Value → Value → Option Value
value_of_binary Add = value_of_ints (λ a b. in_i64 (a +ℤ b))
value_of_binary Sub = value_of_ints (λ a b. in_i64 (a -ℤ b))
value_of_binary Mul = value_of_ints (λ a b. in_i64 (a *ℤ b))
value_of_binary Div = value_of_ints quotient
value_of_binary Rem = value_of_ints remainder
value_of_binary Eq = λ a b. option_map value.Bool (equality_of a b)
value_of_binary Ne = λ a b. option_map (λ same. value.Bool (not same)) (equality_of a b)
value_of_binary Lt = value_of_order int_lt
value_of_binary Le = value_of_order int_le
value_of_binary Gt = value_of_order (λ a b. int_lt b a)
value_of_binary Ge = value_of_order (λ a b. int_le b a)
value_of_binary Join = value_of_join
value_of_binary At = value_of_place

-- the table of the operators of one operand
unfoldable pub value_of_unary : Op1 → Value → Option Value
value_of_unary Neg (value.Int a) = option_map value.Int (in_i64 (neg_ℤ a))
value_of_unary Not (value.Bool b) = Some (value.Bool (not b))
value_of_unary Len (value.Text bytes) = Some (value.Int (pos (length bytes)))
value_of_unary Len (value.List xs) = Some (value.Int (pos (length_of_items xs)))
value_of_unary _ _ = None

-- the parts of all values, or none where a value has none
abbrev pub parts_of : {A : Type 0} → (Value → Option A) → List Value → Option (List A)
parts_of part [] = Some []
parts_of part (v ∷ vs) = option_and_then (λ x. option_map (λ xs. x ∷ xs) (parts_of part vs)) (part v)

abbrev pub int_of : Value → Option ℤ
int_of (value.Int n) = Some n
int_of _ = None

abbrev pub bool_of : Value → Option Bool
bool_of (value.Bool b) = Some b
bool_of _ = None

abbrev pub text_of : Value → Option (List ℕ)
text_of (value.Text bytes) = Some bytes
text_of _ = None

-- the list of values of one kind, which the first of them tells
unfoldable pub value_of_list : List Value → Option Value
value_of_list [] = Some (value.List items.Empty)
value_of_list (value.Int n ∷ vs) =
    option_map (λ xs. value.List (items.Ints xs)) (option_and_then (light_list (λ _. 1)) (parts_of int_of (value.Int n ∷ vs)))
value_of_list (value.Bool b ∷ vs) =
    option_map (λ xs. value.List (items.Bools xs)) (option_and_then (light_list (λ _. 1)) (parts_of bool_of (value.Bool b ∷ vs)))
value_of_list (value.Text bytes ∷ vs) =
    option_map (λ xs. value.List (items.Texts xs)) (option_and_then (light_list weight_of_text) (parts_of text_of (value.Text bytes ∷ vs)))
value_of_list (value.List _ ∷ vs) = None
