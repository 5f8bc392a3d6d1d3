-- The items of arrays that are read.
use Rattle.std.proofs.Common.{◌≡◌, ℕ, zero, suc, ◌+◌, ◌<◌, ◌≤◌, List, [], ◌∷◌, ◌++◌, length, drop, get_or, sym, ap, ap₂, ◌∙◌, arith, append_assoc, append-nil, drop-cons}
use Rattle.std.specs.List.{All}
use Rattle.std.proofs.lemmas.List.Elements.{All-head, All-tail}
use Rattle.std.proofs.lemmas.List.{drop_all}
use Rattle.serde_json.specs.Data.{Data, item}
use Rattle.serde_json.specs.View.{view, items_view}
use Rattle.serde_json.specs.declared.value.Value.{Value as Json}
use Rattle.fb_reading.specs.Shapes.{IsTree}
use Rattle.fb_report.specs.Trees.{trees_of}

module _ {A : Type 0} (Fits : A → Type 0) (tree : A → Data) where
  -- each item of some things' JSON is the JSON of one
  pub tree-at : (js : List Json) (xs : List A) (i : ℕ) (j : Json) → items_view js ≡ trees_of tree xs → All Fits xs → i < length js → j ≡ get_or js i j → IsTree Fits tree (view j)
  tree-at [] xs i j same all within is = absurd (omega arith)
  tree-at (k ∷ js) [] i j same all within is = absurd cc
  tree-at (k ∷ js) (x ∷ xs) zero j same all within is =
      let head : view k ≡ tree x = cc in
      (x, All-head Fits x xs all, ap view is ∙ head)
  tree-at (k ∷ js) (x ∷ xs) (suc i) j same all within is =
      let tail : items_view js ≡ trees_of tree xs = cc in
      tree-at js xs i j tail (All-tail Fits x xs all) (omega arith) is

  -- things whose JSON stands in front of what is left
  pub record IsReadTo (js : List Json) (i : ℕ) (xs : List A) : Type 0 where
    pub fits : All Fits xs
    pub goes : (ys : List A) → items_view (drop i js) ≡ trees_of tree ys → items_view js ≡ trees_of tree (xs ++ ys)

  pub read-step : (js : List Json) (i : ℕ) (j : Json) (xs : List A) (x : A) → IsReadTo js i xs → i < length js → j ≡ get_or js i j → All Fits (xs ++ x ∷ []) → view j ≡ tree x → IsReadTo js (i + 1) (xs ++ x ∷ [])
  read-step js i j xs x so_far within is fits same =
      let next : i + 1 ≡ suc i = omega arith in
      let opened : drop i js ≡ j ∷ drop (i + 1) js = drop-cons js i j within ∙ ap₂ (λ k n. k ∷ drop n js) (sym is) (sym next) in
      record {
        fits = fits;
        goes = λ ys left. so_far.goes (x ∷ ys) (ap items_view opened ∙ ap₂ item same left) ∙ ap (trees_of tree) (sym (append_assoc xs (x ∷ []) ys));
      }

  pub read-all : (js : List Json) (i : ℕ) (xs : List A) → IsReadTo js i xs → length js ≤ i → items_view js ≡ trees_of tree xs
  read-all js i xs so_far end = so_far.goes [] (ap items_view (drop_all i js end)) ∙ ap (trees_of tree) (append-nil xs)

  pub some-read : (js : List Json) (xs : List A) → items_view js ≡ trees_of tree xs → 0 < length js → 0 < length xs
  some-read [] xs same some = absurd (omega arith)
  some-read (j ∷ js) [] same some = absurd cc
  some-read (j ∷ js) (x ∷ xs) same some = omega arith
