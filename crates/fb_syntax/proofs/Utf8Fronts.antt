-- How far bytes that are no UTF-8 can go on to be some.
use Rattle.std.proofs.Common.{◌≡◌, ℕ, ◌+◌, ◌-◌, ◌*◌, ◌/◌, ◌<◌, ◌≤◌, ◌⊎◌, true, List, [], ◌∷◌, ◌++◌, length, get_or, arith, refl, sym, ap, subst, ◌∙◌, inl, inr, append_assoc, append-nil, length-append}
use Rattle.std.specs.Prelude.{IsUtf8}
use Rattle.std.proofs.lemmas.Bool.{cases_lt, lt-ltb, le-ltb, and_parts, and_from, le-leb}
use Rattle.std.proofs.lemmas.Str.{encode_same}
use lib.Utf8.{encode, encodes, scalar, scalars, next, scalar_cases, low_scalar}

-- ---- the bytes of one character

-- a byte behind the first one of a character
abbrev pub Follows : ℕ → Type 0
Follows b = (128 ≤ b) × (b < 192)

abbrev pub IsScalar : ℕ → Type 0
IsScalar c = (c < 55296) ⊎ ((57344 ≤ c) × (c < 1114112))

one : (c : ℕ) → c < 128 → encode c ≡ c ∷ []
unfolding encode
one c h = rw (lt-ltb c 128 h) refl

two : (c : ℕ) → 128 ≤ c → c < 2048 → encode c ≡ (192 + c / 64) ∷ next c ∷ []
unfolding encode
two c l h = rw (le-ltb c 128 l, lt-ltb c 2048 h) refl

three : (c : ℕ) → 2048 ≤ c → c < 65536 → encode c ≡ (224 + c / 4096) ∷ next (c / 64) ∷ next c ∷ []
unfolding encode
three c l h =
    let low : 128 ≤ c = omega arith in
    rw (le-ltb c 128 low, le-ltb c 2048 l, lt-ltb c 65536 h) refl

four : (c : ℕ) → 65536 ≤ c → encode c ≡ (240 + c / 262144) ∷ next (c / 4096) ∷ next (c / 64) ∷ next c ∷ []
unfolding encode
four c l =
    let low : 128 ≤ c = omega arith in
    let middle : 2048 ≤ c = omega arith in
    rw (le-ltb c 128 low, le-ltb c 2048 middle, le-ltb c 65536 l) refl

-- the bytes of a character, and what its first bytes tell of it
data Shape (c : ℕ) : Type 0 where
  of_one : c < 128 → encode c ≡ c ∷ [] → Shape c
  of_two : (a b : ℕ) → 194 ≤ a → a < 224 → Follows b → encode c ≡ a ∷ b ∷ [] → Shape c
  of_three : (a b d : ℕ) → 224 ≤ a → a < 240 → Follows b → Follows d → 2048 ≤ (a - 224) * 4096 + (b - 128) * 64 + (d - 128)
      → IsScalar ((a - 224) * 4096 + (b - 128) * 64 + (d - 128)) → encode c ≡ a ∷ b ∷ d ∷ [] → Shape c
  of_four : (a b d e : ℕ) → 240 ≤ a → a < 245 → Follows b → Follows d → Follows e
      → 16 ≤ (a - 240) * 64 + (b - 128) → (a - 240) * 64 + (b - 128) < 272 → encode c ≡ a ∷ b ∷ d ∷ e ∷ [] → Shape c

follows : (x : ℕ) → Follows (next x)
follows x = (omega arith, omega arith)

below : (c : ℕ) → IsScalar c → c < 1114112
below c (inl h) = omega arith
below c (inr h) = h.1

shape : (c : ℕ) → IsScalar c → Shape c
shape c s = by (cases_lt c 128) (cases_lt c 2048) (cases_lt c 65536)
  where
    by : (c < 128) ⊎ (128 ≤ c) → (c < 2048) ⊎ (2048 ≤ c) → (c < 65536) ⊎ (65536 ≤ c) → Shape c
    by (inl h) _ _ = of_one h (one c h)
    by (inr l) (inl h) _ = of_two (192 + c / 64) (next c) (omega arith) (omega arith) (follows c) (two c l h)
    by (inr _) (inr l) (inl h) =
        let same : c ≡ (224 + c / 4096 - 224) * 4096 + (next (c / 64) - 128) * 64 + (next c - 128) = omega arith in
        of_three (224 + c / 4096) (next (c / 64)) (next c) (omega arith) (omega arith) (follows (c / 64)) (follows c)
        (omega arith) (subst IsScalar same s) (three c l h)
    by (inr _) (inr _) (inr l) =
        let top : c < 1114112 = below c s in
        of_four (240 + c / 262144) (next (c / 4096)) (next (c / 64)) (next c) (omega arith) (omega arith)
        (follows (c / 4096)) (follows (c / 64)) (follows c) (omega arith) (omega arith) (four c l)

-- ---- a text is its characters

is_scalar : (c : ℕ) → IsScalar c → scalar c ≡ true
is_scalar c (inl h) = low_scalar c h
is_scalar c (inr h) =
    let high : 55296 ≤ c = omega arith in
    rw (le-ltb c 55296 high, le-leb 57344 c h.0, lt-ltb c 1114112 h.1) refl

pub char_text : (c : ℕ) (bytes : List ℕ) → IsScalar c → encode c ≡ bytes → IsUtf8 bytes
char_text c bytes s e = (c ∷ [], (and_from (scalar c) true (is_scalar c s) refl, append-nil (encode c) ∙ e))

record FirstChar (bytes : List ℕ) : Type 0 where
  char : ℕ
  rest : List ℕ
  is_char : IsScalar char
  cut : bytes ≡ encode char ++ rest

first_char : (b : ℕ) (more : List ℕ) → IsUtf8 (b ∷ more) → FirstChar (b ∷ more)
first_char b more ([], (good, same)) = absurd cc
first_char b more ((c ∷ cs), (good, same)) =
    record { char = c; rest = encodes cs; is_char = scalar_cases c (and_parts (scalar c) (scalars cs) good).0; cut = sym same }

encode_some : (c : ℕ) → Shape c → 0 < length (encode c)
encode_some c (of_one h e) = rw e (omega arith)
encode_some c (of_two a b _ _ _ e) = rw e (omega arith)
encode_some c (of_three a b d _ _ _ _ _ _ e) = rw e (omega arith)
encode_some c (of_four a b d f _ _ _ _ _ _ _ e) = rw e (omega arith)

without : (ds cs more : List ℕ) → scalars ds ≡ true → scalars cs ≡ true → encodes cs ≡ encodes ds ++ more → IsUtf8 more
without [] cs more ds_good cs_good e = (cs, (cs_good, e))
without (d ∷ ds) [] more ds_good cs_good e =
    let some = encode_some d (shape d (scalar_cases d (and_parts (scalar d) (scalars ds) ds_good).0)) in
    absurd (omega (arith, ap length e, length-append (encode d ++ encodes ds) more, length-append (encode d) (encodes ds)))
without (d ∷ ds) (c ∷ cs) more ds_good cs_good e =
    let same = encode_same c d (encodes cs) (encodes ds ++ more) (e ∙ append_assoc (encode d) (encodes ds) more) in
    without ds cs more (and_parts (scalar d) (scalars ds) ds_good).1 (and_parts (scalar c) (scalars cs) cs_good).1 same.1

-- what follows a text in a text is a text
pub behind_text : (text more : List ℕ) → IsUtf8 text → IsUtf8 (text ++ more) → IsUtf8 more
behind_text text more (ds, (ds_good, ds_same)) (cs, (cs_good, cs_same)) =
    without ds cs more ds_good cs_good (cs_same ∙ ap (λ (xs : List ℕ). xs ++ more) (sym ds_same))

-- ---- what the first bytes of a text tell

-- a byte that may stand behind this first one
pub record IsSecond (a b : ℕ) : Type 0 where
  pub follows : Follows b
  pub past_e0 : a ≡ 224 → 160 ≤ b
  pub past_ed : a ≡ 237 → b < 160
  pub past_f0 : a ≡ 240 → 144 ≤ b
  pub past_f4 : a ≡ 244 → b < 144

pub record Tells (n a b d e : ℕ) : Type 0 where
  pub lead : (a < 128) ⊎ ((194 ≤ a) × (a < 245))
  pub second : 194 ≤ a → (1 < n) × IsSecond a b
  pub third : 224 ≤ a → (2 < n) × Follows d
  pub fourth : 240 ≤ a → (3 < n) × Follows e

abbrev pub TellsOf : List ℕ → Type 0
TellsOf bytes = Tells (length bytes) (get_or bytes 0 0) (get_or bytes 1 0) (get_or bytes 2 0) (get_or bytes 3 0)

second_of_three : (a b d : ℕ) → 224 ≤ a → a < 240 → Follows b → Follows d → 2048 ≤ (a - 224) * 4096 + (b - 128) * 64 + (d - 128)
    → IsScalar ((a - 224) * 4096 + (b - 128) * 64 + (d - 128)) → IsSecond a b
second_of_three a b d lo hi f g large (inl s) =
    record { follows = f; past_e0 = λ is. omega arith; past_ed = λ is. omega arith; past_f0 = λ is. omega arith; past_f4 = λ is. omega arith }
second_of_three a b d lo hi f g large (inr s) =
    record { follows = f; past_e0 = λ is. omega arith; past_ed = λ is. omega arith; past_f0 = λ is. omega arith; past_f4 = λ is. omega arith }

tells_of : (c : ℕ) (rest : List ℕ) → Shape c → TellsOf (encode c ++ rest)
tells_of c rest (of_one h e) = subst (λ (xs : List ℕ). TellsOf (xs ++ rest)) (sym e) (record {
  lead = inl h;
  second = λ t. absurd (omega arith);
  third = λ t. absurd (omega arith);
  fourth = λ t. absurd (omega arith);
})
tells_of c rest (of_two a b lo hi f e) = subst (λ (xs : List ℕ). TellsOf (xs ++ rest)) (sym e) (record {
  lead = inr (lo, omega arith);
  second = λ t. (omega arith, record { follows = f; past_e0 = λ is. omega arith; past_ed = λ is. omega arith; past_f0 = λ is. omega arith; past_f4 = λ is. omega arith });
  third = λ t. absurd (omega arith);
  fourth = λ t. absurd (omega arith);
})
tells_of c rest (of_three a b d lo hi f g large s e) = subst (λ (xs : List ℕ). TellsOf (xs ++ rest)) (sym e) (record {
  lead = inr (omega arith, omega arith);
  second = λ t. (omega arith, second_of_three a b d lo hi f g large s);
  third = λ t. (omega arith, g);
  fourth = λ t. absurd (omega arith);
})
tells_of c rest (of_four a b d x lo hi f g i low high e) = subst (λ (xs : List ℕ). TellsOf (xs ++ rest)) (sym e) (record {
  lead = inr (omega arith, hi);
  second = λ t. (omega arith, record { follows = f; past_e0 = λ is. omega arith; past_ed = λ is. omega arith; past_f0 = λ is. omega arith; past_f4 = λ is. omega arith });
  third = λ t. (omega arith, g);
  fourth = λ t. (omega arith, i);
})

pub tells : (b : ℕ) (more : List ℕ) → IsUtf8 (b ∷ more) → TellsOf (b ∷ more)
tells b more h =
    let first = first_char b more h in
    subst TellsOf (sym first.cut) (tells_of first.char first.rest (shape first.char first.is_char))

-- ---- and the other way: bytes in these ranges are a character

pub record IsChar (bytes : List ℕ) : Type 0 where
  pub char : ℕ
  pub is_char : IsScalar char
  pub spelled : encode char ≡ bytes

pub one_byte : (a : ℕ) → a < 128 → IsChar (a ∷ [])
one_byte a h = record { char = a; is_char = inl (omega arith); spelled = one a h }

same_two : (a b x y : ℕ) → a ≡ x → b ≡ y → a ∷ b ∷ [] ≡ x ∷ y ∷ []
same_two a b x y p q = cc

same_three : (a b d x y z : ℕ) → a ≡ x → b ≡ y → d ≡ z → a ∷ b ∷ d ∷ [] ≡ x ∷ y ∷ z ∷ []
same_three a b d x y z p q r = cc

same_four : (a b d e x y z w : ℕ) → a ≡ x → b ≡ y → d ≡ z → e ≡ w → a ∷ b ∷ d ∷ e ∷ [] ≡ x ∷ y ∷ z ∷ w ∷ []
same_four a b d e x y z w p q r s = cc

pub two_bytes : (a b : ℕ) → 194 ≤ a → a < 224 → Follows b → IsChar (a ∷ b ∷ [])
two_bytes a b lo hi f =
    let c = (a - 192) * 64 + (b - 128) in
    record {
      char = c;
      is_char = inl (omega arith);
      spelled = two c (omega arith) (omega arith) ∙ same_two (192 + c / 64) (next c) a b (omega arith) (omega arith);
    }

pub three_bytes : (a b d : ℕ) → 224 ≤ a → a < 240 → IsSecond a b → Follows d → IsChar (a ∷ b ∷ d ∷ [])
three_bytes a b d lo hi second g =
    let c = (a - 224) * 4096 + (b - 128) * 64 + (d - 128) in
    let f = second.follows in
    let large : 2048 ≤ c = elim (cases_lt 224 a) [ inl more ↦ omega arith | inr less ↦ (let from = second.past_e0 (omega arith) in omega arith) ] in
    let good : IsScalar c = elim (cases_lt a 237) [
      | inl less ↦ inl (omega arith)
      | inr more ↦ elim (cases_lt 237 a) [ inl above ↦ inr (omega arith, omega arith) | inr at ↦ (let from = second.past_ed (omega arith) in inl (omega arith)) ]
    ] in
    record {
      char = c;
      is_char = good;
      spelled = three c large (omega arith) ∙ same_three (224 + c / 4096) (next (c / 64)) (next c) a b d (omega arith) (omega arith) (omega arith);
    }

pub four_bytes : (a b d e : ℕ) → 240 ≤ a → a < 245 → IsSecond a b → Follows d → Follows e → IsChar (a ∷ b ∷ d ∷ e ∷ [])
four_bytes a b d e lo hi second g i =
    let c = (a - 240) * 262144 + (b - 128) * 4096 + (d - 128) * 64 + (e - 128) in
    let f = second.follows in
    let large : 65536 ≤ c = elim (cases_lt 240 a) [ inl more ↦ omega arith | inr less ↦ (let from = second.past_f0 (omega arith) in omega arith) ] in
    let small : c < 1114112 = elim (cases_lt a 244) [ inl less ↦ omega arith | inr more ↦ (let from = second.past_f4 (omega arith) in omega arith) ] in
    record {
      char = c;
      is_char = inr (omega arith, small);
      spelled = four c large ∙ same_four (240 + c / 262144) (next (c / 4096)) (next (c / 64)) (next c) a b d e (omega arith) (omega arith) (omega arith) (omega arith);
    }

pub char_some : (bytes : List ℕ) → IsChar bytes → 0 < length bytes
char_some bytes is = subst (λ (xs : List ℕ). 0 < length xs) is.spelled (encode_some is.char (shape is.char is.is_char))
