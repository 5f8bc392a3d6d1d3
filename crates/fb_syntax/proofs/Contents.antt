-- The bytes of a text literal that stands in UTF-8 are UTF-8.
use Rattle.std.proofs.Common.{◌≡◌, ℕ, zero, suc, ◌+◌, ◌<◌, List, [], ◌∷◌, ◌++◌, length, drop, get_or, arith, refl, sym, ap, subst, ◌∙◌, inl, inr, append_assoc, length-append}
use Rattle.std.specs.Prelude.{◌==◌, flat_map, IsUtf8}
use Rattle.std.proofs.lemmas.Bool.{cases_Bool, eqb-true}
use Rattle.std.proofs.lemmas.List.{take_at, drop_at, get_or_at}
use Rattle.std.proofs.lemmas.Str.{IsUtf8-append, IsUtf8-take, IsUtf8-drop, IsUtf8-from_ascii, IsCharBoundary-before_ascii, IsCharBoundary-after_ascii}
use Rattle.fb_syntax.specs.Tokens.{escaped, literal}

-- what stands before an ASCII byte
before_ascii : (front : List ℕ) (b : ℕ) (rest : List ℕ) → b < 128 → IsUtf8 (front ++ b ∷ rest) → IsUtf8 front
before_ascii front b rest small h =
    let bytes = front ++ b ∷ rest in
    let there : get_or bytes (length front) 0 ≡ b = get_or_at front b rest 0 (length front) refl in
    let boundary = IsCharBoundary-before_ascii bytes (length front) (omega (arith, length-append front (b ∷ rest))) (omega arith) in
    subst (λ (xs : List ℕ). IsUtf8 xs) (take_at front (b ∷ rest) (length front) refl) (IsUtf8-take bytes (length front) h boundary)

-- and behind it
behind_ascii : (front : List ℕ) (b : ℕ) (rest : List ℕ) → b < 128 → IsUtf8 (front ++ b ∷ rest) → IsUtf8 rest
behind_ascii front b rest small h =
    let bytes = front ++ b ∷ rest in
    let there : get_or bytes (length front) 0 ≡ b = get_or_at front b rest 0 (length front) refl in
    let boundary = IsCharBoundary-after_ascii bytes (length front) h (omega (arith, length-append front (b ∷ rest))) (omega arith) in
    let regrouped : drop (length front + 1) bytes ≡ rest =
    ap (drop (length front + 1)) (sym (append_assoc front (b ∷ []) rest)) ∙ drop_at (front ++ b ∷ []) rest (length front + 1) (omega (arith, length-append front (b ∷ []))) in
    subst (λ (xs : List ℕ). IsUtf8 xs) regrouped (IsUtf8-drop bytes (length front + 1) h boundary)

is_ascii : (b : ℕ) → b < 128 → (i : ℕ) → get_or (b ∷ []) i 0 < 128
is_ascii b small zero = small
is_ascii b small (suc i) = omega arith

one_ascii : (b : ℕ) → b < 128 → IsUtf8 (b ∷ [])
one_ascii b small = IsUtf8-from_ascii (b ∷ []) (is_ascii b small)

-- an escape of two ASCII bytes stands for an ASCII byte
past_escape : (before : List ℕ) (b c : ℕ) (text : List ℕ) → b < 128 → c < 128 → IsUtf8 (before ++ 92 ∷ c ∷ flat_map escaped text)
    → (IsUtf8 (flat_map escaped text) → IsUtf8 text) → IsUtf8 (before ++ b ∷ text)
past_escape before b c text small short h more =
    let front = before_ascii before 92 (c ∷ flat_map escaped text) (omega arith) h in
    let rest = behind_ascii [] c (flat_map escaped text) short (behind_ascii before 92 (c ∷ flat_map escaped text) (omega arith) h) in
    IsUtf8-append before (b ∷ text) front (IsUtf8-append (b ∷ []) text (one_ascii b small) (more rest))

-- what is spelled in UTF-8 is UTF-8
contents : (before text : List ℕ) → IsUtf8 (before ++ flat_map escaped text) → IsUtf8 (before ++ text)
contents before [] h = h
contents before (b ∷ text) h =
    let rest : IsUtf8 (flat_map escaped text) → IsUtf8 text = contents [] text in
    elim (cases_Bool (b == 34)) [
      | inl is ↦ past_escape before b 34 text (omega (arith, eqb-true b 34 is)) (omega arith) (rw is at h) rest
      | inr not_quote ↦ elim (cases_Bool (b == 92)) [
        | inl is ↦ past_escape before b 92 text (omega (arith, eqb-true b 92 is)) (omega arith) (rw (not_quote, is) at h) rest
        | inr not_slash ↦ elim (cases_Bool (b == 10)) [
          | inl is ↦ past_escape before b 110 text (omega (arith, eqb-true b 10 is)) (omega arith) (rw (not_quote, not_slash, is) at h) rest
          | inr not_feed ↦ elim (cases_Bool (b == 9)) [
            | inl is ↦ past_escape before b 116 text (omega (arith, eqb-true b 9 is)) (omega arith) (rw (not_quote, not_slash, not_feed, is) at h) rest
            | inr not_tab ↦
                let plain : IsUtf8 (before ++ b ∷ flat_map escaped text) = rw (not_quote, not_slash, not_feed, not_tab) at h in
                let moved = contents (before ++ b ∷ []) text (subst (λ (xs : List ℕ). IsUtf8 xs) (sym (append_assoc before (b ∷ []) (flat_map escaped text))) plain) in
                subst (λ (xs : List ℕ). IsUtf8 xs) (append_assoc before (b ∷ []) text) moved
          ]
        ]
      ]
    ]

pub contents_of_literal : (before text rest : List ℕ) → IsUtf8 (before ++ (literal text ++ rest)) → IsUtf8 text
contents_of_literal before text rest h =
    let spelled = flat_map escaped text in
    let behind = behind_ascii before 34 ((spelled ++ 34 ∷ []) ++ rest) (omega arith) h in
    let regrouped = subst (λ (xs : List ℕ). IsUtf8 xs) (append_assoc spelled (34 ∷ []) rest) behind in
    contents [] text (before_ascii spelled 34 rest (omega arith) regrouped)
