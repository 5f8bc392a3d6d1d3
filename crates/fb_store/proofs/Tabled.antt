-- What a table gives once a cell is written.
use Rattle.std.proofs.Common.{◌≡◌, Bool, true, false, cond, ◌&&◌, List, [], ◌∷◌, Some, refl, sym, ap, ◌∙◌, true≢false, if◌then◌else◌, option_and_then}
use Rattle.std.specs.Cmp.{IsEquivalence}
use Rattle.std.specs.Map.{lookup, IsKeyTest}
use Rattle.indexmap.specs.IndexMap.{IndexMap, get, get_by, insert_entry}
use Rattle.fb_store.specs.Tables.{found_in}

module _ {K X : Type 0} (eq : K → K → Bool) (laws : IsEquivalence eq) (test : K → Bool) (one : IsKeyTest eq test) (k : K) (v : X) where
  pub lookup-insert_entry : (es : List (K × X)) → lookup test (insert_entry eq es k v) ≡ cond (test k) (Some v) (lookup test es)
  lookup-insert_entry [] = refl
  lookup-insert_entry (e ∷ es) = by (lookup-insert_entry es) (test k) (test e.0) (eq k e.0) refl refl refl
    where
      by : lookup test (insert_entry eq es k v) ≡ cond (test k) (Some v) (lookup test es)
          → (a b c : Bool) → test k ≡ a → test e.0 ≡ b → eq k e.0 ≡ c
          → lookup test (if c then (e.0, v) ∷ es else e ∷ insert_entry eq es k v) ≡ cond a (Some v) (cond b (Some e.1) (lookup test es))
      by more true true true is_a is_b is_c = ap (λ t. cond t (Some v) (lookup test es)) is_b
      by more true false true is_a is_b is_c = absurd (true≢false (sym is_c ∙ sym (one k e.0 is_a) ∙ is_b))
      by more false true true is_a is_b is_c = absurd (true≢false (sym is_c ∙ laws.symm k e.0 ∙ sym (one e.0 k is_b) ∙ is_a))
      by more false false true is_a is_b is_c = ap (λ t. cond t (Some v) (lookup test es)) is_b
      by more true true false is_a is_b is_c = absurd (true≢false (sym is_b ∙ one k e.0 is_a ∙ is_c))
      by more true false false is_a is_b is_c =
          ap (λ t. cond t (Some e.1) (lookup test (insert_entry eq es k v))) is_b ∙ more ∙ ap (λ t. cond t (Some v) (lookup test es)) is_a
      by more false true false is_a is_b is_c = ap (λ t. cond t (Some e.1) (lookup test (insert_entry eq es k v))) is_b
      by more false false false is_a is_b is_c =
          ap (λ t. cond t (Some e.1) (lookup test (insert_entry eq es k v))) is_b ∙ more ∙ ap (λ t. cond t (Some v) (lookup test es)) is_a

module _ {K J X S T : Type 0} (eq : K → K → Bool) (laws : IsEquivalence eq) (m n : IndexMap K (IndexMap J X S) T) (row : K) (cells : IndexMap J X S)
    (written : (q : K) → get eq n q ≡ cond (eq row q) (Some cells) (get eq m q)) where
  -- an equal row is the row
  found_along : (r : K) (c : J → Bool) → eq row r ≡ true → found_in (eq r) c m ≡ found_in (eq row) c m
  found_along r c same = ap (λ test. found_in test c m) (sym (λ i q. laws.congr row r q same i))

  -- a look-up in another row
  found_elsewhere : (r : K) (c : J → Bool) → eq row r ≡ false → found_in (eq r) c n ≡ found_in (eq r) c m
  found_elsewhere r c apart = ap (option_and_then (get_by c)) (written r ∙ ap (λ t. cond t (Some cells) (get eq m r)) apart)

  -- and in the row
  found_here : (r : K) (c : J → Bool) → eq row r ≡ true → found_in (eq r) c n ≡ get_by c cells
  found_here r c same = ap (option_and_then (get_by c)) (written r ∙ ap (λ t. cond t (Some cells) (get eq m r)) same)

  pub found-put : (inner : J → J → Bool) → IsEquivalence inner → (cell : J) (id : X) (was : List (J × X)) → cells.entries ≡ insert_entry inner was cell id
      → ((c : J → Bool) → found_in (eq row) c m ≡ lookup c was)
      → (r : K) (c : J → Bool) → IsKeyTest inner c → found_in (eq r) c n ≡ (if eq row r && c cell then Some id else found_in (eq r) c m)
  found-put inner inner_laws cell id was is before r c one = by (eq row r) refl
    where
      by : (here : Bool) → eq row r ≡ here → found_in (eq r) c n ≡ (if here && c cell then Some id else found_in (eq r) c m)
      by true same =
          found_here r c same ∙ ap (lookup c) is ∙ lookup-insert_entry inner inner_laws c one cell id was
          ∙ ap (cond (c cell) (Some id)) (sym (found_along r c same ∙ before c))
      by false apart = found_elsewhere r c apart
