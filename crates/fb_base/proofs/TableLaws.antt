-- Operands of the table's kinds give a result of the table's kind.
use Rattle.std.proofs.Common.{◌≡◌, ℤ, List, [], ◌∷◌, Bool, true, Option, Some, IfSome, nat_le, not, neg_ℤ, ◌++◌, refl, subst}
use Rattle.std.specs.Option.{option_map, option_and_then}
use Rattle.std.proofs.lemmas.Option.{IfSome_then}
use Rattle.std.proofs.lemmas.List.Elements.{All-head}
use Rattle.fb_base.specs.declared.kind.Kind.{Kind}
use Rattle.fb_base.specs.declared.kind.Kind.TheVariants as kind
use Rattle.fb_base.specs.declared.items.Items.{Items}
use Rattle.fb_base.specs.declared.items.Items.TheVariants as items
use Rattle.fb_base.specs.declared.value.Value.{Value}
use Rattle.fb_base.specs.declared.value.Value.TheVariants as value
use Rattle.fb_base.specs.declared.operator.Op1.TheVariants.{Neg, Not, Len}
use Rattle.fb_base.specs.declared.operator.Op2.TheVariants.{Add, Sub, Mul, Div, Rem, Eq, Ne, Lt, Le, Gt, Ge, Join, At}
use Rattle.fb_base.specs.Values.{has_list_kind, HasKind, weight_of, weight_of_items}
use Rattle.fb_base.specs.Weight.{heaviest}
use Rattle.fb_base.specs.Operators.{ints_of, in_i64, value_of_ints, value_of_order, equality_of, light_items, joined_items, value_of_join, item_at, value_at, value_of_place, value_of_binary, value_of_unary, value_of_list}
use Rattle.fb_base.specs.Kinds.{kind_of_ints, kind_of_equality, kind_of_join, kind_of_place, kind_of_binary, kind_of_unary, kind_of_list}
use Rattle.fb_base.specs.Laws.{BinaryFitsTable, UnaryFitsTable, ListFitsTable}
use Rattle.fb_base.proofs.Given.{IfSome-map, IfSome-map_all, IfSome-then, IfSome-cond, IfSome-all}

kind_of_ints_is : (result k l given : Kind) → kind_of_ints result k l ≡ Some given → result ≡ given
kind_of_ints_is result kind.Int kind.Int given e = cc
kind_of_ints_is result _ _ given e = cc

kind_of_equality_is : (k l given : Kind) → kind_of_equality k l ≡ Some given → kind.Bool ≡ given
kind_of_equality_is kind.Int kind.Int given e = cc
kind_of_equality_is kind.Bool kind.Bool given e = cc
kind_of_equality_is kind.Text kind.Text given e = cc
kind_of_equality_is kind.Ints kind.Ints given e = cc
kind_of_equality_is kind.Bools kind.Bools given e = cc
kind_of_equality_is kind.Texts kind.Texts given e = cc
kind_of_equality_is _ _ given e = cc

kind_of_join_is : (k l given : Kind) → kind_of_join k l ≡ Some given → (k ≡ given) × (l ≡ given)
kind_of_join_is kind.Text kind.Text given e = (cc, cc)
kind_of_join_is kind.Ints kind.Ints given e = (cc, cc)
kind_of_join_is kind.Bools kind.Bools given e = (cc, cc)
kind_of_join_is kind.Texts kind.Texts given e = (cc, cc)
kind_of_join_is _ _ given e = (cc, cc)

-- a fact on the kind of a result is carried to the table's kind
as_given : {result given : Kind} (o : Option Value) → result ≡ given → IfSome o (λ v. HasKind v result) → IfSome o (λ v. HasKind v given)
as_given o e h = let P : Kind → Type 0 = λ k. IfSome o (λ v. HasKind v k) in subst P e h

ints_kind : (f : ℤ → ℤ → Option ℤ) (a b : Value) → IfSome (value_of_ints f a b) (λ v. HasKind v kind.Int)
ints_kind f a b =
    IfSome-then (λ v. HasKind v kind.Int) (λ p. option_map value.Int (f p.0 p.1)) (ints_of a b)
    (IfSome-all (λ p. IfSome (option_map value.Int (f p.0 p.1)) (λ v. HasKind v kind.Int)) (ints_of a b)
    (λ p. IfSome-map_all (λ v. HasKind v kind.Int) value.Int (f p.0 p.1) (λ n. refl)))

order_kind : (test : ℤ → ℤ → Bool) (a b : Value) → IfSome (value_of_order test a b) (λ v. HasKind v kind.Bool)
order_kind test a b = IfSome-map_all (λ v. HasKind v kind.Bool) (λ p. value.Bool (test p.0 p.1)) (ints_of a b) (λ p. refl)

equality_kind : (answer : Bool → Bool) (a b : Value) →
    IfSome (option_map (λ same. value.Bool (answer same)) (equality_of a b)) (λ v. HasKind v kind.Bool)
equality_kind answer a b = IfSome-map_all (λ v. HasKind v kind.Bool) (λ same. value.Bool (answer same)) (equality_of a b) (λ same. refl)

joined_kind : (xs ys : Items) (k : Kind) → has_list_kind xs k ≡ true → has_list_kind ys k ≡ true →
    IfSome (joined_items xs ys) (λ zs. has_list_kind zs k ≡ true)
joined_kind items.Empty ys k p q = q
joined_kind (items.Ints xs) items.Empty k p q = p
joined_kind (items.Bools xs) items.Empty k p q = p
joined_kind (items.Texts xs) items.Empty k p q = p
joined_kind (items.Ints xs) (items.Ints ys) kind.Ints p q = refl
joined_kind (items.Bools xs) (items.Bools ys) kind.Bools p q = refl
joined_kind (items.Texts xs) (items.Texts ys) kind.Texts p q = refl
joined_kind (items.Ints xs) (items.Bools ys) k p q = tt
joined_kind (items.Ints xs) (items.Texts ys) k p q = tt
joined_kind (items.Bools xs) (items.Ints ys) k p q = tt
joined_kind (items.Bools xs) (items.Texts ys) k p q = tt
joined_kind (items.Texts xs) (items.Ints ys) k p q = tt
joined_kind (items.Texts xs) (items.Bools ys) k p q = tt
joined_kind _ _ _ p q = absurd (cc)

light_kind : (k : Kind) (zs : Items) → has_list_kind zs k ≡ true → IfSome (light_items zs) (λ ws. has_list_kind ws k ≡ true)
light_kind k zs p = IfSome-cond (λ ws. has_list_kind ws k ≡ true) (nat_le (weight_of_items zs) heaviest) zs (λ _. p)

join_kind : (a b : Value) (k : Kind) → HasKind a k → HasKind b k → IfSome (value_of_join a b) (λ v. HasKind v k)
join_kind (value.Text a) (value.Text b) kind.Text p q =
    IfSome-cond (λ v. HasKind v kind.Text) (nat_le (weight_of (value.Text (a ++ b))) heaviest) (value.Text (a ++ b)) (λ _. refl)
join_kind (value.List xs) (value.List ys) k p q =
    IfSome-map (λ v. HasKind v k) value.List (option_and_then light_items (joined_items xs ys))
    (IfSome-then (λ zs. has_list_kind zs k ≡ true) light_items (joined_items xs ys)
    (IfSome_then (joined_items xs ys) (joined_kind xs ys k p q) (light_kind k)))
join_kind (value.Text a) (value.Text b) _ p q = absurd (cc)
join_kind _ _ _ p q = tt

place_kind : (xs : Items) (place : ℤ) (k given : Kind) → has_list_kind xs k ≡ true → kind_of_place k kind.Int ≡ Some given →
    IfSome (value_at xs place) (λ v. HasKind v given)
place_kind items.Empty place k given p e = tt
place_kind (items.Ints xs) place kind.Ints kind.Int p e = IfSome-map_all (λ v. HasKind v kind.Int) value.Int (item_at xs place) (λ n. refl)
place_kind (items.Bools xs) place kind.Bools kind.Bool p e = IfSome-map_all (λ v. HasKind v kind.Bool) value.Bool (item_at xs place) (λ b. refl)
place_kind (items.Texts xs) place kind.Texts kind.Text p e = IfSome-map_all (λ v. HasKind v kind.Text) value.Text (item_at xs place) (λ t. refl)
place_kind _ _ _ _ p e = absurd (cc)

of_place_kind : (a b : Value) (k l given : Kind) → HasKind a k → HasKind b l → kind_of_place k l ≡ Some given →
    IfSome (value_of_place a b) (λ v. HasKind v given)
of_place_kind (value.List xs) (value.Int place) k kind.Int given p q e = place_kind xs place k given p e
of_place_kind (value.List xs) (value.Int place) k _ given p q e = absurd (cc)
of_place_kind _ _ k l given p q e = tt

pub binary_fits_table : BinaryFitsTable
unfolding value_of_binary kind_of_binary
binary_fits_table Add a b k l given p q e = as_given (value_of_binary Add a b) (kind_of_ints_is kind.Int k l given e) (ints_kind _ a b)
binary_fits_table Sub a b k l given p q e = as_given (value_of_binary Sub a b) (kind_of_ints_is kind.Int k l given e) (ints_kind _ a b)
binary_fits_table Mul a b k l given p q e = as_given (value_of_binary Mul a b) (kind_of_ints_is kind.Int k l given e) (ints_kind _ a b)
binary_fits_table Div a b k l given p q e = as_given (value_of_binary Div a b) (kind_of_ints_is kind.Int k l given e) (ints_kind _ a b)
binary_fits_table Rem a b k l given p q e = as_given (value_of_binary Rem a b) (kind_of_ints_is kind.Int k l given e) (ints_kind _ a b)
binary_fits_table Eq a b k l given p q e = as_given (value_of_binary Eq a b) (kind_of_equality_is k l given e) (equality_kind (λ same. same) a b)
binary_fits_table Ne a b k l given p q e = as_given (value_of_binary Ne a b) (kind_of_equality_is k l given e) (equality_kind not a b)
binary_fits_table Lt a b k l given p q e = as_given (value_of_binary Lt a b) (kind_of_ints_is kind.Bool k l given e) (order_kind _ a b)
binary_fits_table Le a b k l given p q e = as_given (value_of_binary Le a b) (kind_of_ints_is kind.Bool k l given e) (order_kind _ a b)
binary_fits_table Gt a b k l given p q e = as_given (value_of_binary Gt a b) (kind_of_ints_is kind.Bool k l given e) (order_kind _ a b)
binary_fits_table Ge a b k l given p q e = as_given (value_of_binary Ge a b) (kind_of_ints_is kind.Bool k l given e) (order_kind _ a b)
binary_fits_table Join a b k l given p q e =
    let same = kind_of_join_is k l given e in
    let P : Value → Kind → Type 0 = λ v k. HasKind v k in
    join_kind a b given (subst (P a) same.0 p) (subst (P b) same.1 q)
binary_fits_table At a b k l given p q e = of_place_kind a b k l given p q e

kind_of_length : (k given : Kind) → kind_of_unary Len k ≡ Some given → kind.Int ≡ given
unfolding kind_of_unary
kind_of_length kind.Text given e = cc
kind_of_length kind.Ints given e = cc
kind_of_length kind.Bools given e = cc
kind_of_length kind.Texts given e = cc
kind_of_length _ given e = cc

length_kind : (a : Value) → IfSome (value_of_unary Len a) (λ v. HasKind v kind.Int)
unfolding value_of_unary
length_kind (value.Text bytes) = refl
length_kind (value.List xs) = refl
length_kind _ = tt

negation_kind : (a : Value) (k given : Kind) → kind_of_unary Neg k ≡ Some given → IfSome (value_of_unary Neg a) (λ v. HasKind v given)
unfolding value_of_unary kind_of_unary
negation_kind (value.Int n) kind.Int kind.Int e = IfSome-map_all (λ v. HasKind v kind.Int) value.Int (in_i64 (neg_ℤ n)) (λ n. refl)
negation_kind (value.Int n) _ _ e = absurd (cc)
negation_kind _ _ _ e = tt

not_kind : (a : Value) (k given : Kind) → kind_of_unary Not k ≡ Some given → IfSome (value_of_unary Not a) (λ v. HasKind v given)
unfolding value_of_unary kind_of_unary
not_kind (value.Bool b) kind.Bool kind.Bool e = refl
not_kind (value.Bool b) _ _ e = absurd (cc)
not_kind _ _ _ e = tt

pub unary_fits_table : UnaryFitsTable
unary_fits_table Neg a k given p e = negation_kind a k given e
unary_fits_table Not a k given p e = not_kind a k given e
unary_fits_table Len a k given p e = as_given (value_of_unary Len a) (kind_of_length k given e) (length_kind a)

literal_kind : {A : Type 0} (make : List A → Items) (given : Kind) (o : Option (List A)) →
    ((xs : List A) → has_list_kind (make xs) given ≡ true) → IfSome (option_map (λ xs. value.List (make xs)) o) (λ v. HasKind v given)
literal_kind make given o h = IfSome-map_all (λ v. HasKind v given) (λ xs. value.List (make xs)) o h

list_kind : (first : Value) (rest : List Value) (k given : Kind) → HasKind first k → kind_of_list k ≡ Some given →
    IfSome (value_of_list (first ∷ rest)) (λ v. HasKind v given)
unfolding value_of_list
list_kind (value.Int n) rest kind.Int kind.Ints p e = literal_kind items.Ints kind.Ints _ (λ xs. refl)
list_kind (value.Bool b) rest kind.Bool kind.Bools p e = literal_kind items.Bools kind.Bools _ (λ xs. refl)
list_kind (value.Text bytes) rest kind.Text kind.Texts p e = literal_kind items.Texts kind.Texts _ (λ xs. refl)
list_kind (value.List xs) rest k given p e = tt
list_kind _ rest _ _ p e = absurd (cc)

empty_kind : (k given : Kind) → kind_of_list k ≡ Some given → IfSome (value_of_list []) (λ v. HasKind v given)
unfolding value_of_list
empty_kind kind.Int kind.Ints e = refl
empty_kind kind.Bool kind.Bools e = refl
empty_kind kind.Text kind.Texts e = refl
empty_kind _ _ e = absurd (cc)

pub list_fits_table : ListFitsTable
list_fits_table [] k given h e = empty_kind k given e
list_fits_table (first ∷ rest) k given h e = list_kind first rest k given (All-head (λ v. HasKind v k) first rest h) e
