-- What shows that the operators' table, weights and kinds are meant as they are read.
use Rattle.std.specs.Prelude.{◌≡◌, ◌⊎◌, ◌↔◌, ℤ, ◌+ℤ◌, ◌*ℤ◌, ◌<◌, ◌≤◌, unsigned_abs, List, Some, All, IsTrue, IfSome}
use Rattle.fb_base.specs.declared.kind.Kind.{Kind}
use Rattle.fb_base.specs.declared.items.Items.TheVariants as items
use Rattle.fb_base.specs.declared.value.Value.{Value}
use Rattle.fb_base.specs.declared.value.Value.TheVariants as value
use Rattle.fb_base.specs.declared.operator.Op1.{Op1}
use Rattle.fb_base.specs.declared.operator.Op2.{Op2}
use Rattle.fb_base.specs.declared.operator.Op2.TheVariants.{Div, Rem}
use Rattle.fb_base.specs.Values.{HasKind, IsProper, weight_of, same_value}
use Rattle.fb_base.specs.Weight.{heaviest}
use Rattle.fb_base.specs.Operators.{share_kind, value_of_binary, value_of_unary, value_of_list}
use Rattle.fb_base.specs.Kinds.{kind_of_binary, kind_of_unary, kind_of_list}

-- quotient and remainder make up the dividend
abbrev pub MakesUp : ℤ → ℤ → ℤ → ℤ → Type 0
MakesUp a b q r = q *ℤ b +ℤ r ≡ a

-- the quotient is the whole part, toward zero, and what remains is less than the divisor
abbrev pub DividesTowardZero : Type 0
DividesTowardZero =
    (a b q r : ℤ) → value_of_binary Div (value.Int a) (value.Int b) ≡ Some (value.Int q) →
    value_of_binary Rem (value.Int a) (value.Int b) ≡ Some (value.Int r) →
    MakesUp a b q r × (unsigned_abs r < unsigned_abs b) × (unsigned_abs (q *ℤ b) ≤ unsigned_abs a)

-- each value that a program has weighs something, and not too much
abbrev pub HasBoundedWeight : Value → Type 0
HasBoundedWeight v = (1 ≤ weight_of v) × (weight_of v ≤ heaviest)

abbrev pub WeighsWithinBounds : Type 0
WeighsWithinBounds = (v : Value) → IsProper v → HasBoundedWeight v

-- the test of equality is meant so
abbrev pub SameIsEqual : Type 0
SameIsEqual = (a b : Value) → IsTrue (same_value a b) ↔ (a ≡ b)

-- a value has a kind, and two kinds only where it is the empty list
abbrev pub HasSomeKind : Type 0
HasSomeKind = (v : Value) → (k : Kind) × HasKind v k

abbrev pub HasOneKind : Type 0
HasOneKind = (v : Value) (k l : Kind) → HasKind v k → HasKind v l → (k ≡ l) ⊎ (v ≡ value.List items.Empty)

-- values may be compared where some kind is that of both
abbrev pub SharesKind : Type 0
SharesKind = (a b : Value) → IsTrue (share_kind a b) ↔ ((k : Kind) × (HasKind a k × HasKind b k))

-- operands of the table's kinds give a result of the table's kind
abbrev pub BinaryFitsTable : Type 0
BinaryFitsTable =
    (op : Op2) (a b : Value) (k l given : Kind) → HasKind a k → HasKind b l →
    kind_of_binary op k l ≡ Some given → IfSome (value_of_binary op a b) (λ v. HasKind v given)

abbrev pub UnaryFitsTable : Type 0
UnaryFitsTable =
    (op : Op1) (a : Value) (k given : Kind) → HasKind a k →
    kind_of_unary op k ≡ Some given → IfSome (value_of_unary op a) (λ v. HasKind v given)

abbrev pub ListFitsTable : Type 0
ListFitsTable =
    (vs : List Value) (k given : Kind) → All (λ v. HasKind v k) vs →
    kind_of_list k ≡ Some given → IfSome (value_of_list vs) (λ v. HasKind v given)

-- the operators keep what holds of each value that a program has
abbrev pub BinaryKeepsProper : Type 0
BinaryKeepsProper = (op : Op2) (a b : Value) → IsProper a → IsProper b → IfSome (value_of_binary op a b) IsProper

abbrev pub UnaryKeepsProper : Type 0
UnaryKeepsProper = (op : Op1) (a : Value) → IsProper a → IfSome (value_of_unary op a) IsProper

abbrev pub ListKeepsProper : Type 0
ListKeepsProper = (vs : List Value) → All IsProper vs → IfSome (value_of_list vs) IsProper
