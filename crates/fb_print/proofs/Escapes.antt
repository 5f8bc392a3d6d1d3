-- Escapes, character by character.
use Rattle.std.proofs.Common.{◌≡◌, ℕ, ◌<◌, ◌≤◌, ◌≢◌, ◌+◌, ◌/◌, ◌⊎◌, List, [], ◌∷◌, ◌++◌, inl, inr, refl, ap, sym, ◌∙◌, append-nil, append_assoc, arith}
use Rattle.std.specs.List.{flat_map}
use Rattle.std.specs.Char.{encode_utf8}
use Rattle.std.proofs.lemmas.Bool.{cases_lt, lt-ltb, le-ltb}
use Rattle.std.proofs.lemmas.Bool.Decides.{nat_tests}
use Rattle.std.proofs.lemmas.Str.{encode_ascii, encodes-append}
use Rattle.std.proofs.lemmas.Grind.{flat_map-append}
use lib.Utf8.{encode, encodes, next}
use Rattle.fb_syntax.specs.Tokens.{escaped}

-- what is neither a quote nor a backslash, LF or tab stands for itself
plain : (b : ℕ) → b ≢ 34 → b ≢ 92 → b ≢ 10 → b ≢ 9 → escaped b ≡ b ∷ []
plain b quote backslash feed tab = grind (arith, nat_tests)

high : (b : ℕ) → 128 ≤ b → escaped b ≡ b ∷ []
high b large = plain b (omega arith) (omega arith) (omega arith) (omega arith)

two : (a b : ℕ) → 128 ≤ a → 128 ≤ b → flat_map escaped (a ∷ b ∷ []) ≡ a ∷ b ∷ []
two a b la lb = rw (high a la, high b lb) refl

three : (a b c : ℕ) → 128 ≤ a → 128 ≤ b → 128 ≤ c → flat_map escaped (a ∷ b ∷ c ∷ []) ≡ a ∷ b ∷ c ∷ []
three a b c la lb lc = rw (high a la) (ap (λ l. a ∷ l) (two b c lb lc))

four : (a b c d : ℕ) → 128 ≤ a → 128 ≤ b → 128 ≤ c → 128 ≤ d → flat_map escaped (a ∷ b ∷ c ∷ d ∷ []) ≡ a ∷ b ∷ c ∷ d ∷ []
four a b c d la lb lc ld = rw (high a la) (ap (λ l. a ∷ l) (three b c d lb lc ld))

-- beyond ASCII nothing is escaped
beyond : (c : ℕ) → 128 ≤ c → (c < 2048) ⊎ (2048 ≤ c) → (c < 65536) ⊎ (65536 ≤ c) → flat_map escaped (encode c) ≡ encode c
unfolding encode
beyond c large (inl h) _ = rw (le-ltb c 128 large, lt-ltb c 2048 h) (two (192 + c / 64) (next c) (omega arith) (omega arith))
beyond c large (inr l) (inl h) =
    rw (le-ltb c 128 large, le-ltb c 2048 l, lt-ltb c 65536 h)
    (three (224 + c / 4096) (next (c / 64)) (next c) (omega arith) (omega arith) (omega arith))
beyond c large (inr l) (inr m) =
    rw (le-ltb c 128 large, le-ltb c 2048 l, le-ltb c 65536 m)
    (four (240 + c / 262144) (next (c / 4096)) (next (c / 64)) (next c) (omega arith) (omega arith) (omega arith) (omega arith))

pub plain_char : (c : ℕ) → c ≢ 34 → c ≢ 92 → c ≢ 10 → c ≢ 9 → flat_map escaped (encode_utf8 c) ≡ encode_utf8 c
plain_char c quote backslash feed tab = by (cases_lt c 128)
  where
    by : (c < 128) ⊎ (128 ≤ c) → flat_map escaped (encode c) ≡ encode c
    by (inl small) = rw (encode_ascii c small, plain c quote backslash feed tab) refl
    by (inr large) = beyond c large (cases_lt c 2048) (cases_lt c 65536)

pub one_char_more : (old : List ℕ) (cs : List ℕ) (c : ℕ)
    → (old ++ flat_map escaped (encodes cs)) ++ flat_map escaped (encode_utf8 c) ≡ old ++ flat_map escaped (encodes (cs ++ c ∷ []))
one_char_more old cs c =
    append_assoc old (flat_map escaped (encodes cs)) (flat_map escaped (encode c))
    ∙ ap (λ l. old ++ l) (sym (flat_map-append escaped (encodes cs) (encode c)) ∙ ap (flat_map escaped) (sym (encodes-append cs (c ∷ []) ∙ ap (λ l. encodes cs ++ l) (append-nil (encode c)))))
