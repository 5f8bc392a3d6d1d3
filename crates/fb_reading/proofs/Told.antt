-- Each line is told by its JSON.
use Rattle.std.proofs.Common.{◌≡◌, ℤ, pos, negsuc, List, [], ◌∷◌, Option, Some, None, codes, refl, sym, ap, ◌∙◌, arith}
use Rattle.std.specs.Prelude.{FitsSigned, IfSome}
use Rattle.std.specs.Int.{w64}
use Rattle.std.specs.List.{All}
use Rattle.std.proofs.lemmas.List.Elements.{All-head, All-tail}
use Rattle.serde_json.specs.Data.{Data, number, string, boolean, array, object, null, Items, no_items, no_members, member}
use Rattle.serde_json.specs.Find.{of_integer}
use Rattle.fb_base.specs.declared.items.Items.{Items as ItemsOf}
use Rattle.fb_base.specs.declared.items.Items.TheVariants as items
use Rattle.fb_base.specs.declared.value.Value.{Value}
use Rattle.fb_base.specs.declared.value.Value.TheVariants as value
use Rattle.fb_base.specs.declared.reply.Reply.{Reply}
use Rattle.fb_base.specs.declared.reply.Reply.TheVariants as reply
use Rattle.fb_base.specs.Replies.{IsProperReply}
use Rattle.fb_base.specs.Text.{IsText}
use Rattle.fb_base.specs.Values.{IsProper, AreProper}
use Rattle.fb_report.specs.Trees.{trees_of, list_tree, items_tree, value_tree, reply_tree, optional_tree}

-- ---- lists

module _ {A : Type 0} (Fits : A → Type 0) (tree : A → Data) (told : (x y : A) → Fits x → Fits y → tree x ≡ tree y → x ≡ y) where
  pub trees-told : (xs ys : List A) → All Fits xs → All Fits ys → trees_of tree xs ≡ trees_of tree ys → xs ≡ ys
  trees-told [] [] p q same = refl
  trees-told [] (y ∷ ys) p q same = absurd cc
  trees-told (x ∷ xs) [] p q same = absurd cc
  trees-told (x ∷ xs) (y ∷ ys) p q same =
      let head : tree x ≡ tree y = cc in
      let tail : trees_of tree xs ≡ trees_of tree ys = cc in
      let first = told x y (All-head Fits x xs p) (All-head Fits y ys q) head in
      let rest = trees-told xs ys (All-tail Fits x xs p) (All-tail Fits y ys q) tail in
      (λ i. first i ∷ rest i)

  pub list-told : (xs ys : List A) → All Fits xs → All Fits ys → list_tree tree xs ≡ list_tree tree ys → xs ≡ ys
  list-told xs ys p q same =
      let trees : trees_of tree xs ≡ trees_of tree ys = cc in
      trees-told xs ys p q trees

  pub optional-told : ((x : A) → tree x ≡ null → ⊥) → (o p : Option A) → IfSome o Fits → IfSome p Fits → optional_tree tree o ≡ optional_tree tree p → o ≡ p
  optional-told some None None a b same = refl
  optional-told some None (Some y) a b same = absurd (some y (sym same))
  optional-told some (Some x) None a b same = absurd (some x same)
  optional-told some (Some x) (Some y) a b same = ap Some (told x y a b same)

-- ---- values and replies

pub int-told : (x y : ℤ) → number (of_integer x) ≡ number (of_integer y) → x ≡ y
int-told (pos m) (pos n) same = cc
int-told (pos m) (negsuc n) same = absurd cc
int-told (negsuc m) (pos n) same = absurd cc
int-told (negsuc m) (negsuc n) same = cc

items-told : (xs ys : ItemsOf) → AreProper xs → AreProper ys → items_tree xs ≡ items_tree ys → xs ≡ ys
items-told items.Empty items.Empty p q same = refl
items-told items.Empty (items.Ints []) p q same = absurd (omega (arith, q.some))
items-told items.Empty (items.Ints (y ∷ ys)) p q same = absurd cc
items-told items.Empty (items.Bools []) p q same = absurd (omega (arith, q.some))
items-told items.Empty (items.Bools (y ∷ ys)) p q same = absurd cc
items-told items.Empty (items.Texts []) p q same = absurd (omega (arith, q.some))
items-told items.Empty (items.Texts (y ∷ ys)) p q same = absurd cc
items-told (items.Ints []) ys p q same = absurd (omega (arith, p.some))
items-told (items.Ints (x ∷ xs)) items.Empty p q same = absurd cc
items-told (items.Ints (x ∷ xs)) (items.Ints ys) p q same =
    let trees : trees_of (λ n. number (of_integer n)) (x ∷ xs) ≡ trees_of (λ n. number (of_integer n)) ys = cc in
    ap items.Ints (trees-told (FitsSigned w64) (λ n. number (of_integer n)) (λ a b u v e. int-told a b e) (x ∷ xs) ys p.each q.each trees)
items-told (items.Ints (x ∷ xs)) (items.Bools []) p q same = absurd cc
items-told (items.Ints (pos n ∷ xs)) (items.Bools (y ∷ ys)) p q same = absurd cc
items-told (items.Ints (negsuc n ∷ xs)) (items.Bools (y ∷ ys)) p q same = absurd cc
items-told (items.Ints (x ∷ xs)) (items.Texts []) p q same = absurd cc
items-told (items.Ints (x ∷ xs)) (items.Texts (y ∷ ys)) p q same = absurd cc
items-told (items.Bools []) ys p q same = absurd (omega (arith, p.some))
items-told (items.Bools (x ∷ xs)) items.Empty p q same = absurd cc
items-told (items.Bools (x ∷ xs)) (items.Ints []) p q same = absurd cc
items-told (items.Bools (x ∷ xs)) (items.Ints (y ∷ ys)) p q same = absurd cc
items-told (items.Bools (x ∷ xs)) (items.Bools ys) p q same =
    let trees : trees_of boolean (x ∷ xs) ≡ trees_of boolean ys = cc in
    ap items.Bools (trees-told (λ _. Unit {0}) boolean (λ a b u v e. cc) (x ∷ xs) ys p.each q.each trees)
items-told (items.Bools (x ∷ xs)) (items.Texts []) p q same = absurd cc
items-told (items.Bools (x ∷ xs)) (items.Texts (y ∷ ys)) p q same = absurd cc
items-told (items.Texts []) ys p q same = absurd (omega (arith, p.some))
items-told (items.Texts (x ∷ xs)) items.Empty p q same = absurd cc
items-told (items.Texts (x ∷ xs)) (items.Ints []) p q same = absurd cc
items-told (items.Texts (x ∷ xs)) (items.Ints (y ∷ ys)) p q same = absurd cc
items-told (items.Texts (x ∷ xs)) (items.Bools []) p q same = absurd cc
items-told (items.Texts (x ∷ xs)) (items.Bools (y ∷ ys)) p q same = absurd cc
items-told (items.Texts (x ∷ xs)) (items.Texts ys) p q same =
    let trees : trees_of string (x ∷ xs) ≡ trees_of string ys = cc in
    ap items.Texts (trees-told IsText string (λ a b u v e. cc) (x ∷ xs) ys p.each q.each trees)

-- no list has the JSON of anything else
is-array : (xs : ItemsOf) → (ds : Items) × (items_tree xs ≡ array ds)
is-array items.Empty = (no_items, refl)
is-array (items.Ints xs) = (trees_of (λ n. number (of_integer n)) xs, refl)
is-array (items.Bools xs) = (trees_of boolean xs, refl)
is-array (items.Texts xs) = (trees_of string xs, refl)

no-list : (xs : ItemsOf) (v : Value) → ((ys : ItemsOf) → v ≡ value.List ys → ⊥) → items_tree xs ≡ value_tree v → ⊥
no-list xs (value.Int n) other same =
    let is = is-array xs in
    let clash : array is.0 ≡ number (of_integer n) = sym is.1 ∙ same in
    cc
no-list xs (value.Bool b) other same =
    let is = is-array xs in
    let clash : array is.0 ≡ boolean b = sym is.1 ∙ same in
    cc
no-list xs (value.Text bytes) other same =
    let is = is-array xs in
    let clash : array is.0 ≡ string bytes = sym is.1 ∙ same in
    cc
no-list xs (value.List ys) other same = other ys refl

pub value-told : (v w : Value) → IsProper v → IsProper w → value_tree v ≡ value_tree w → v ≡ w
value-told (value.Int m) (value.Int n) p q same = ap value.Int (int-told m n same)
value-told (value.Int m) (value.Bool b) p q same = absurd cc
value-told (value.Int m) (value.Text b) p q same = absurd cc
value-told (value.Int m) (value.List ys) p q same = absurd (no-list ys (value.Int m) (λ zs e. cc) (sym same))
value-told (value.Bool a) (value.Int n) p q same = absurd cc
value-told (value.Bool a) (value.Bool b) p q same = cc
value-told (value.Bool a) (value.Text b) p q same = absurd cc
value-told (value.Bool a) (value.List ys) p q same = absurd (no-list ys (value.Bool a) (λ zs e. cc) (sym same))
value-told (value.Text a) (value.Int n) p q same = absurd cc
value-told (value.Text a) (value.Bool b) p q same = absurd cc
value-told (value.Text a) (value.Text b) p q same = cc
value-told (value.Text a) (value.List ys) p q same = absurd (no-list ys (value.Text a) (λ zs e. cc) (sym same))
value-told (value.List xs) (value.Int n) p q same = absurd (no-list xs (value.Int n) (λ zs e. cc) same)
value-told (value.List xs) (value.Bool b) p q same = absurd (no-list xs (value.Bool b) (λ zs e. cc) same)
value-told (value.List xs) (value.Text b) p q same = absurd (no-list xs (value.Text b) (λ zs e. cc) same)
value-told (value.List xs) (value.List ys) p q same = ap value.List (items-told xs ys p q same)

ok-is-no-err : {d e : Data} → object (member (codes "ok") d no_members) ≡ object (member (codes "err") e no_members) → ⊥
ok-is-no-err same = cc

pub reply-told : (r s : Reply) → IsProperReply r → IsProperReply s → reply_tree r ≡ reply_tree s → r ≡ s
reply-told (reply.Ok v) (reply.Ok w) p q same =
    let values : value_tree v ≡ value_tree w = cc in
    ap reply.Ok (value-told v w p q values)
reply-told (reply.Ok v) (reply.Err b) p q same = absurd (ok-is-no-err same)
reply-told (reply.Err a) (reply.Ok w) p q same = absurd (ok-is-no-err (sym same))
reply-told (reply.Err a) (reply.Err b) p q same = cc
