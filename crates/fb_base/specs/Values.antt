-- What values are: their kinds, their weights, when two are the same.
use Rattle.std.specs.Prelude.{ℕ, ◌+◌, Bool, true, false, IsTrue, List, length, nat_eq, FitsSigned}
use Rattle.std.specs.Int.{w64}
use Rattle.std.specs.Bool.{beq}
use Rattle.std.specs.Ordering.{int_eq}
use Rattle.std.specs.Cmp.Lexicographic.{pointwise}
use Rattle.fb_base.specs.declared.kind.Kind.{Kind}
use Rattle.fb_base.specs.declared.kind.Kind.TheVariants as kind
use Rattle.fb_base.specs.declared.items.Items.{Items}
use Rattle.fb_base.specs.declared.items.Items.TheVariants as items
use Rattle.fb_base.specs.declared.value.Value.{Value}
use Rattle.fb_base.specs.declared.value.Value.TheVariants as value
use Rattle.fb_base.specs.Text.{IsText}
use Rattle.fb_base.specs.Weight.{weight_of_list, IsWeighed}

abbrev pub has_list_kind : Items → Kind → Bool
has_list_kind items.Empty kind.Ints = true
has_list_kind items.Empty kind.Bools = true
has_list_kind items.Empty kind.Texts = true
has_list_kind (items.Ints _) kind.Ints = true
has_list_kind (items.Bools _) kind.Bools = true
has_list_kind (items.Texts _) kind.Texts = true
has_list_kind _ _ = false

-- a value has one kind, but the empty list has each list kind
abbrev pub has_kind : Value → Kind → Bool
has_kind (value.Int _) kind.Int = true
has_kind (value.Bool _) kind.Bool = true
has_kind (value.Text _) kind.Text = true
has_kind (value.List items) k = has_list_kind items k
has_kind _ _ = false

abbrev pub HasKind : Value → Kind → Type 0
HasKind v k = IsTrue (has_kind v k)

abbrev pub weight_of_text : List ℕ → ℕ
weight_of_text bytes = 1 + length bytes

abbrev pub weight_of_items : Items → ℕ
weight_of_items items.Empty = 1
weight_of_items (items.Ints xs) = weight_of_list (λ _. 1) xs
weight_of_items (items.Bools xs) = weight_of_list (λ _. 1) xs
weight_of_items (items.Texts xs) = weight_of_list weight_of_text xs

abbrev pub weight_of : Value → ℕ
weight_of (value.Int _) = 1
weight_of (value.Bool _) = 1
weight_of (value.Text bytes) = weight_of_text bytes
weight_of (value.List items) = weight_of_items items

abbrev pub length_of_items : Items → ℕ
length_of_items items.Empty = 0
length_of_items (items.Ints xs) = length xs
length_of_items (items.Bools xs) = length xs
length_of_items (items.Texts xs) = length xs

-- what holds of the items, and of a value, that a program has
abbrev pub AreProper : Items → Type 0
AreProper items.Empty = Unit {0}
AreProper (items.Ints xs) = IsWeighed (λ _. 1) (FitsSigned w64) xs
AreProper (items.Bools xs) = IsWeighed (λ _. 1) (λ _. Unit {0}) xs
AreProper (items.Texts xs) = IsWeighed weight_of_text IsText xs

abbrev pub IsProper : Value → Type 0
IsProper (value.Int n) = FitsSigned w64 n
IsProper (value.Bool _) = Unit {0}
IsProper (value.Text bytes) = IsText bytes
IsProper (value.List items) = AreProper items

abbrev pub same_items : Items → Items → Bool
same_items items.Empty items.Empty = true
same_items (items.Ints xs) (items.Ints ys) = pointwise int_eq xs ys
same_items (items.Bools xs) (items.Bools ys) = pointwise beq xs ys
same_items (items.Texts xs) (items.Texts ys) = pointwise (pointwise nat_eq) xs ys
same_items _ _ = false

-- whether two values are equal
abbrev pub same_value : Value → Value → Bool
same_value (value.Int a) (value.Int b) = int_eq a b
same_value (value.Bool a) (value.Bool b) = beq a b
same_value (value.Text a) (value.Text b) = pointwise nat_eq a b
same_value (value.List xs) (value.List ys) = same_items xs ys
same_value _ _ = false
