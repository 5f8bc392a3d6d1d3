-- Arrays that are no list of a value.
use Rattle.std.proofs.Common.{◌≡◌, ℕ, ◌≤◌, Bool, true, false, is_some, List, [], ◌∷◌, length, drop, get_or, Some, inl, inr, refl, sym, ap, ◌∙◌, subst, arith, le-leb}
use Rattle.std.specs.Prelude.{FitsSigned}
use Rattle.std.specs.Int.{w64}
use Rattle.serde_json.specs.Data.{Data, Num, null, number, string, boolean, array, object, Items, item}
use Rattle.serde_json.specs.Find.{as_bool, as_number, as_str, of_integer}
use Rattle.serde_json.specs.View.{view, items_view}
use Rattle.serde_json.specs.declared.value.Value.{Value as Json}
use Rattle.fb_base.specs.declared.items.Items.{Items as ItemsOf}
use Rattle.fb_base.specs.declared.items.Items.TheVariants as items
use Rattle.fb_base.specs.Text.{IsText}
use Rattle.fb_base.specs.Values.{AreProper, weight_of_text}
use Rattle.fb_base.specs.Weight.{IsWeighed, light_list}
use Rattle.fb_reading.specs.Shapes.{IsTree, IsNoList}
use Rattle.fb_report.specs.Trees.{trees_of, items_tree}
use Rattle.fb_reading.proofs.Told.{int-told, trees-told}

-- a list of things that is proper isn't one that is refused
module _ {A : Type 0} (weight : A → ℕ) (Fits : A → Type 0) (tree : A → Data) (told : (x y : A) → Fits x → Fits y → tree x ≡ tree y → x ≡ y) where
  light-is : (xs : List A) → IsWeighed weight Fits xs → light_list weight xs ≡ Some xs
  light-is xs proper = rw (le-leb _ _ proper.light) refl

  pub not-refused : (ds : Items) (xs : List A) → IsNoList weight Fits tree ds → IsWeighed weight Fits xs → ds ≡ trees_of tree xs → ⊥
  not-refused ds xs (inl none) proper same = none (xs, proper.each, same)
  not-refused ds xs (inr (ys, fits, others, heavy)) proper same =
      let are : xs ≡ ys = trees-told Fits tree told xs ys proper.each fits (sym same ∙ others) in
      let light : light_list weight ys ≡ Some ys = subst (λ zs. light_list weight zs ≡ Some zs) are (light-is xs proper) in
      absurd cc

pub no-ints : (n : Num) (ds : Items) → IsNoList (λ _. 1) (FitsSigned w64) (λ z. number (of_integer z)) (item (number n) ds) → IsTree AreProper items_tree (array (item (number n) ds)) → ⊥
no-ints n ds refused (items.Empty, proper, same) = cc
no-ints n ds refused (items.Ints xs, proper, same) = (let trees : item (number n) ds ≡ trees_of (λ z. number (of_integer z)) xs = cc in not-refused (λ _. 1) (FitsSigned w64) (λ z. number (of_integer z)) (λ x y a b e. int-told x y e) (item (number n) ds) xs refused proper trees)
no-ints n ds refused (items.Bools [], proper, same) = cc
no-ints n ds refused (items.Bools (b ∷ bs), proper, same) = cc
no-ints n ds refused (items.Texts [], proper, same) = cc
no-ints n ds refused (items.Texts (t ∷ ts), proper, same) = cc

pub no-bools : (b : Bool) (ds : Items) → IsNoList (λ _. 1) (λ _. Unit {0}) boolean (item (boolean b) ds) → IsTree AreProper items_tree (array (item (boolean b) ds)) → ⊥
no-bools b ds refused (items.Empty, proper, same) = cc
no-bools b ds refused (items.Ints [], proper, same) = cc
no-bools b ds refused (items.Ints (x ∷ xs), proper, same) = cc
no-bools b ds refused (items.Bools xs, proper, same) = (let trees : item (boolean b) ds ≡ trees_of boolean xs = cc in not-refused (λ _. 1) (λ _. Unit {0}) boolean (λ x y a b e. cc) (item (boolean b) ds) xs refused proper trees)
no-bools b ds refused (items.Texts [], proper, same) = cc
no-bools b ds refused (items.Texts (t ∷ ts), proper, same) = cc

pub no-texts : (s : List ℕ) (ds : Items) → IsNoList weight_of_text IsText string (item (string s) ds) → IsTree AreProper items_tree (array (item (string s) ds)) → ⊥
no-texts s ds refused (items.Empty, proper, same) = cc
no-texts s ds refused (items.Ints [], proper, same) = cc
no-texts s ds refused (items.Ints (x ∷ xs), proper, same) = cc
no-texts s ds refused (items.Bools [], proper, same) = cc
no-texts s ds refused (items.Bools (b ∷ bs), proper, same) = cc
no-texts s ds refused (items.Texts xs, proper, same) = (let trees : item (string s) ds ≡ trees_of string xs = cc in not-refused weight_of_text IsText string (λ x y a b e. cc) (item (string s) ds) xs refused proper trees)

-- ---- by the first item

pub first-view : (js : List Json) (first : Json) → 1 ≤ length js → first ≡ get_or js 0 first → items_view js ≡ item (view first) (items_view (drop 1 js))
first-view [] first some is = absurd (omega arith)
first-view (j ∷ js) first some is = ap (λ k. item (view k) (items_view js)) (sym is)

ints-refused : (d : Data) (ds : Items) → is_some (as_number d) ≡ true → IsNoList (λ _. 1) (FitsSigned w64) (λ z. number (of_integer z)) (item d ds) → IsTree AreProper items_tree (array (item d ds)) → ⊥
ints-refused null ds is refused tree = cc
ints-refused (boolean b) ds is refused tree = cc
ints-refused (number n) ds is refused tree = no-ints n ds refused tree
ints-refused (string s) ds is refused tree = cc
ints-refused (array es) ds is refused tree = cc
ints-refused (object ms) ds is refused tree = cc

bools-refused : (d : Data) (ds : Items) → is_some (as_bool d) ≡ true → IsNoList (λ _. 1) (λ _. Unit {0}) boolean (item d ds) → IsTree AreProper items_tree (array (item d ds)) → ⊥
bools-refused null ds is refused tree = cc
bools-refused (boolean b) ds is refused tree = no-bools b ds refused tree
bools-refused (number n) ds is refused tree = cc
bools-refused (string s) ds is refused tree = cc
bools-refused (array es) ds is refused tree = cc
bools-refused (object ms) ds is refused tree = cc

texts-refused : (d : Data) (ds : Items) → is_some (as_str d) ≡ true → IsNoList weight_of_text IsText string (item d ds) → IsTree AreProper items_tree (array (item d ds)) → ⊥
texts-refused null ds is refused tree = cc
texts-refused (boolean b) ds is refused tree = cc
texts-refused (number n) ds is refused tree = cc
texts-refused (string s) ds is refused tree = no-texts s ds refused tree
texts-refused (array es) ds is refused tree = cc
texts-refused (object ms) ds is refused tree = cc

-- the first item of a list is a number, a bool or a text
others-refused : (d : Data) (ds : Items) → is_some (as_number d) ≡ false → is_some (as_bool d) ≡ false → is_some (as_str d) ≡ false → (xs : ItemsOf) → array (item d ds) ≡ items_tree xs → ⊥
others-refused d ds n b s items.Empty same = cc
others-refused d ds n b s (items.Ints []) same = cc
others-refused d ds n b s (items.Ints (x ∷ xs)) same =
    let first : d ≡ number (of_integer x) = cc in
    let clash : false ≡ true = sym n ∙ ap (λ e. is_some (as_number e)) first in
    cc
others-refused d ds n b s (items.Bools []) same = cc
others-refused d ds n b s (items.Bools (x ∷ xs)) same =
    let first : d ≡ boolean x = cc in
    let clash : false ≡ true = sym b ∙ ap (λ e. is_some (as_bool e)) first in
    cc
others-refused d ds n b s (items.Texts []) same = cc
others-refused d ds n b s (items.Texts (x ∷ xs)) same =
    let first : d ≡ string x = cc in
    let clash : false ≡ true = sym s ∙ ap (λ e. is_some (as_str e)) first in
    cc

module _ (js : List Json) (first : Json) (some : 1 ≤ length js) (is : first ≡ get_or js 0 first) where
  pub ints-none : true ≡ is_some (as_number (view first)) → IsNoList (λ _. 1) (FitsSigned w64) (λ z. number (of_integer z)) (items_view js) → IsTree AreProper items_tree (array (items_view js)) → ⊥
  ints-none kind refused tree =
      let same = first-view js first some is in
      ints-refused (view first) (items_view (drop 1 js)) (sym kind) (subst (IsNoList (λ _. 1) (FitsSigned w64) (λ z. number (of_integer z))) same refused) (subst (λ ds. IsTree AreProper items_tree (array ds)) same tree)

  pub bools-none : true ≡ is_some (as_bool (view first)) → IsNoList (λ _. 1) (λ _. Unit {0}) boolean (items_view js) → IsTree AreProper items_tree (array (items_view js)) → ⊥
  bools-none kind refused tree =
      let same = first-view js first some is in
      bools-refused (view first) (items_view (drop 1 js)) (sym kind) (subst (IsNoList (λ _. 1) (λ _. Unit {0}) boolean) same refused) (subst (λ ds. IsTree AreProper items_tree (array ds)) same tree)

  pub texts-none : true ≡ is_some (as_str (view first)) → IsNoList weight_of_text IsText string (items_view js) → IsTree AreProper items_tree (array (items_view js)) → ⊥
  texts-none kind refused tree =
      let same = first-view js first some is in
      texts-refused (view first) (items_view (drop 1 js)) (sym kind) (subst (IsNoList weight_of_text IsText string) same refused) (subst (λ ds. IsTree AreProper items_tree (array ds)) same tree)

  pub others-none : false ≡ is_some (as_number (view first)) → false ≡ is_some (as_bool (view first)) → false ≡ is_some (as_str (view first)) → IsTree AreProper items_tree (array (items_view js)) → ⊥
  others-none n b s tree =
      let same = first-view js first some is in
      others-refused (view first) (items_view (drop 1 js)) (sym n) (sym b) (sym s) tree.0 (ap array (sym same) ∙ tree.2)
