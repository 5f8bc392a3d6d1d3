-- What the kinds of operands say of the kind of the result.
use Rattle.std.proofs.Common.{◌≡◌, ◌⊎◌, ℕ, ℤ, List, Bool, true, refl, inl, inr, ap}
use Rattle.fb_base.specs.declared.kind.Kind.{Kind}
use Rattle.fb_base.specs.declared.kind.Kind.TheVariants as kind
use Rattle.fb_base.specs.declared.items.Items.{Items}
use Rattle.fb_base.specs.declared.items.Items.TheVariants as items
use Rattle.fb_base.specs.declared.value.Value.{Value}
use Rattle.fb_base.specs.declared.value.Value.TheVariants as value
use Rattle.fb_base.specs.Values.{has_list_kind, HasKind}
use Rattle.fb_base.specs.Operators.{share_list_kind, share_kind}
use Rattle.fb_base.specs.Laws.{HasSomeKind, HasOneKind, SharesKind}

-- only the empty list has two kinds
pub one_list_kind : (xs : Items) (k l : Kind) → has_list_kind xs k ≡ true → has_list_kind xs l ≡ true → (k ≡ l) ⊎ (xs ≡ items.Empty)
one_list_kind items.Empty k l p q = inr refl
one_list_kind (items.Ints xs) kind.Ints kind.Ints p q = inl refl
one_list_kind (items.Bools xs) kind.Bools kind.Bools p q = inl refl
one_list_kind (items.Texts xs) kind.Texts kind.Texts p q = inl refl
one_list_kind _ _ _ p q = absurd (cc)

pub one_kind : HasOneKind
one_kind (value.Int n) kind.Int kind.Int p q = inl refl
one_kind (value.Bool b) kind.Bool kind.Bool p q = inl refl
one_kind (value.Text bytes) kind.Text kind.Text p q = inl refl
one_kind (value.List xs) k l p q =
    elim (one_list_kind xs k l p q) as (λ _. (k ≡ l) ⊎ (value.List xs ≡ value.List items.Empty))
    [ inl e ↦ inl e | inr e ↦ inr (ap value.List e) ]
one_kind _ _ _ p q = absurd (cc)

pub some_kind : HasSomeKind
some_kind (value.Int n) = (kind.Int, refl)
some_kind (value.Bool b) = (kind.Bool, refl)
some_kind (value.Text bytes) = (kind.Text, refl)
some_kind (value.List items.Empty) = (kind.Ints, refl)
some_kind (value.List (items.Ints xs)) = (kind.Ints, refl)
some_kind (value.List (items.Bools xs)) = (kind.Bools, refl)
some_kind (value.List (items.Texts xs)) = (kind.Texts, refl)

-- where values may be compared there is a kind of both
kind_of_both_lists : (xs ys : Items) → share_list_kind xs ys ≡ true → (k : Kind) × ((has_list_kind xs k ≡ true) × (has_list_kind ys k ≡ true))
kind_of_both_lists items.Empty items.Empty p = (kind.Ints, (refl, refl))
kind_of_both_lists items.Empty (items.Ints ys) p = (kind.Ints, (refl, refl))
kind_of_both_lists items.Empty (items.Bools ys) p = (kind.Bools, (refl, refl))
kind_of_both_lists items.Empty (items.Texts ys) p = (kind.Texts, (refl, refl))
kind_of_both_lists (items.Ints xs) items.Empty p = (kind.Ints, (refl, refl))
kind_of_both_lists (items.Bools xs) items.Empty p = (kind.Bools, (refl, refl))
kind_of_both_lists (items.Texts xs) items.Empty p = (kind.Texts, (refl, refl))
kind_of_both_lists (items.Ints xs) (items.Ints ys) p = (kind.Ints, (refl, refl))
kind_of_both_lists (items.Bools xs) (items.Bools ys) p = (kind.Bools, (refl, refl))
kind_of_both_lists (items.Texts xs) (items.Texts ys) p = (kind.Texts, (refl, refl))
kind_of_both_lists _ _ p = absurd (cc)

kind_of_both : (a b : Value) → share_kind a b ≡ true → (k : Kind) × (HasKind a k × HasKind b k)
kind_of_both (value.Int a) (value.Int b) p = (kind.Int, (refl, refl))
kind_of_both (value.Bool a) (value.Bool b) p = (kind.Bool, (refl, refl))
kind_of_both (value.Text a) (value.Text b) p = (kind.Text, (refl, refl))
kind_of_both (value.List xs) (value.List ys) p = kind_of_both_lists xs ys p
kind_of_both _ _ p = absurd (cc)

-- and where there is one they may be compared
shared_of_lists : (xs ys : Items) (k : Kind) → has_list_kind xs k ≡ true → has_list_kind ys k ≡ true → share_list_kind xs ys ≡ true
shared_of_lists items.Empty ys k p q = refl
shared_of_lists (items.Ints xs) items.Empty k p q = refl
shared_of_lists (items.Bools xs) items.Empty k p q = refl
shared_of_lists (items.Texts xs) items.Empty k p q = refl
shared_of_lists (items.Ints xs) (items.Ints ys) k p q = refl
shared_of_lists (items.Bools xs) (items.Bools ys) k p q = refl
shared_of_lists (items.Texts xs) (items.Texts ys) k p q = refl
shared_of_lists (items.Ints xs) (items.Bools ys) kind.Ints p q = cc
shared_of_lists (items.Ints xs) (items.Texts ys) kind.Ints p q = cc
shared_of_lists (items.Bools xs) (items.Ints ys) kind.Bools p q = cc
shared_of_lists (items.Bools xs) (items.Texts ys) kind.Bools p q = cc
shared_of_lists (items.Texts xs) (items.Ints ys) kind.Texts p q = cc
shared_of_lists (items.Texts xs) (items.Bools ys) kind.Texts p q = cc
shared_of_lists _ _ _ p q = cc

-- no list is an int, a bool or a text
list_apart_int : (xs : Items) (n : ℤ) (k : Kind) → has_list_kind xs k ≡ true → HasKind (value.Int n) k → ⊥
list_apart_int items.Empty n kind.Int p q = cc
list_apart_int (items.Ints xs) n kind.Int p q = cc
list_apart_int (items.Bools xs) n kind.Int p q = cc
list_apart_int (items.Texts xs) n kind.Int p q = cc
list_apart_int _ _ _ p q = cc

list_apart_bool : (xs : Items) (b : Bool) (k : Kind) → has_list_kind xs k ≡ true → HasKind (value.Bool b) k → ⊥
list_apart_bool items.Empty b kind.Bool p q = cc
list_apart_bool (items.Ints xs) b kind.Bool p q = cc
list_apart_bool (items.Bools xs) b kind.Bool p q = cc
list_apart_bool (items.Texts xs) b kind.Bool p q = cc
list_apart_bool _ _ _ p q = cc

list_apart_text : (xs : Items) (bytes : List ℕ) (k : Kind) → has_list_kind xs k ≡ true → HasKind (value.Text bytes) k → ⊥
list_apart_text items.Empty bytes kind.Text p q = cc
list_apart_text (items.Ints xs) bytes kind.Text p q = cc
list_apart_text (items.Bools xs) bytes kind.Text p q = cc
list_apart_text (items.Texts xs) bytes kind.Text p q = cc
list_apart_text _ _ _ p q = cc

shared : (a b : Value) (k : Kind) → HasKind a k → HasKind b k → share_kind a b ≡ true
shared (value.Int a) (value.Int b) k p q = refl
shared (value.Bool a) (value.Bool b) k p q = refl
shared (value.Text a) (value.Text b) k p q = refl
shared (value.List xs) (value.List ys) k p q = shared_of_lists xs ys k p q
shared (value.List xs) (value.Int b) k p q = absurd (list_apart_int xs b k p q)
shared (value.List xs) (value.Bool b) k p q = absurd (list_apart_bool xs b k p q)
shared (value.List xs) (value.Text b) k p q = absurd (list_apart_text xs b k p q)
shared (value.Int a) (value.List ys) k p q = absurd (list_apart_int ys a k q p)
shared (value.Bool a) (value.List ys) k p q = absurd (list_apart_bool ys a k q p)
shared (value.Text a) (value.List ys) k p q = absurd (list_apart_text ys a k q p)
shared (value.Int a) _ kind.Int p q = cc
shared (value.Bool a) _ kind.Bool p q = cc
shared (value.Text a) _ kind.Text p q = cc
shared _ _ _ p q = cc

pub shares_kind : SharesKind
shares_kind a b = (kind_of_both a b, λ both. shared a b both.0 both.1.0 both.1.1)
