-- The longest sign at the front of a text.
use Rattle.std.proofs.Common.{◌≡◌, ℕ, ◌<◌, ◌⊎◌, Bool, true, false, Some, List, [], ◌∷◌, ◌++◌, length, drop, arith, refl, ◌∙◌, subst, inl, inr}
use Rattle.std.specs.Prelude.{nat_eq, find}
use Rattle.std.specs.List.{starts_with, list_any}
use Rattle.std.proofs.lemmas.Bool.{or_parts, false_from_ne_true}
use Rattle.std.proofs.lemmas.Bool.Decides.{Decides-eqb}
use Rattle.std.proofs.lemmas.Slice.Eq.{starts_is}
use Rattle.fb_syntax.specs.declared.sign.Sign.{Sign}
use Rattle.fb_syntax.specs.declared.sign.Sign.TheVariants.{OpenBrace, CloseBrace, OpenParen, CloseParen, OpenBracket, CloseBracket, Comma, Semicolon, Colon, Dot, Arrow, Assign, Equal, NotEqual, Less, LessEqual, Greater, GreaterEqual, Plus, PlusPlus, Minus, Star, Slash, Percent}
use Rattle.fb_syntax.specs.declared.token.What.TheVariants as what
use Rattle.fb_syntax.specs.Signs.{sign_text}
use Rattle.fb_syntax.specs.Tokens.{IsLongest}
use Rattle.fb_syntax.specs.Lexing.{longest_first, first_sign, front, front_sign}
use Rattle.fb_syntax.proofs.Choices.{chosen, some_is}

-- the sign stands at the front
abbrev pub stands_first : List ℕ → Sign → Bool
stands_first bytes sign = starts_with nat_eq bytes (sign_text sign)

pub stands_from : (bytes : List ℕ) (sign : Sign) → stands_first bytes sign ≡ true → bytes ≡ sign_text sign ++ drop (length (sign_text sign)) bytes
stands_from bytes sign h = (starts_is Decides-eqb bytes (sign_text sign) (stands_first bytes sign) refl).0 h

pub stands : (bytes rest : List ℕ) (sign : Sign) → bytes ≡ sign_text sign ++ rest → stands_first bytes sign ≡ true
stands bytes rest sign h = (starts_is Decides-eqb bytes (sign_text sign) (stands_first bytes sign) refl).1 rest h

abbrev twos : List Sign
twos = Arrow ∷ Equal ∷ NotEqual ∷ LessEqual ∷ GreaterEqual ∷ PlusPlus ∷ []

abbrev ones : List Sign
ones =
    OpenBrace ∷ CloseBrace ∷ OpenParen ∷ CloseParen ∷ OpenBracket ∷ CloseBracket ∷ Comma ∷ Semicolon ∷ Colon ∷ Dot
    ∷ Assign ∷ Less ∷ Greater ∷ Plus ∷ Minus ∷ Star ∷ Slash ∷ Percent ∷ []

-- a sign of two bytes is among those that are tried first
abbrev IsTriedFirst : Sign → Type 0
IsTriedFirst sign = (p : Sign → Bool) → list_any p twos ≡ false → p sign ≡ false

pub first_found : {X : Type 0} (p : X → Bool) (xs : List X) (x : X) → find p xs ≡ Some x → p x ≡ true
first_found p [] x h = absurd cc
first_found p (y ∷ ys) x h =
    elim (chosen (p y) (Some y) (find p ys) (Some x) h) [
      | inl w ↦ subst (λ (z : _). p z ≡ true) (some_is y x w.1) w.0
      | inr w ↦ first_found p ys x w.1
    ]

each_fails : (p : Sign → Bool) → list_any p twos ≡ false
    → (p Arrow ≡ false) × (p Equal ≡ false) × (p NotEqual ≡ false) × (p LessEqual ≡ false) × (p GreaterEqual ≡ false) × (p PlusPlus ≡ false)
each_fails p h =
    let a = or_parts (p Arrow) (list_any p (Equal ∷ NotEqual ∷ LessEqual ∷ GreaterEqual ∷ PlusPlus ∷ [])) h in
    let b = or_parts (p Equal) (list_any p (NotEqual ∷ LessEqual ∷ GreaterEqual ∷ PlusPlus ∷ [])) a.1 in
    let c = or_parts (p NotEqual) (list_any p (LessEqual ∷ GreaterEqual ∷ PlusPlus ∷ [])) b.1 in
    let d = or_parts (p LessEqual) (list_any p (GreaterEqual ∷ PlusPlus ∷ [])) c.1 in
    let e = or_parts (p GreaterEqual) (list_any p (PlusPlus ∷ [])) d.1 in
    (a.0, b.0, c.0, d.0, e.0, (or_parts (p PlusPlus) false e.1).0)

sized : (sign : Sign) → (length (sign_text sign) ≡ 1) ⊎ ((length (sign_text sign) ≡ 2) × IsTriedFirst sign)
sized OpenBrace = inl refl
sized CloseBrace = inl refl
sized OpenParen = inl refl
sized CloseParen = inl refl
sized OpenBracket = inl refl
sized CloseBracket = inl refl
sized Comma = inl refl
sized Semicolon = inl refl
sized Colon = inl refl
sized Dot = inl refl
sized Arrow = inr (refl, λ p h. (each_fails p h).0)
sized Assign = inl refl
sized Equal = inr (refl, λ p h. (each_fails p h).1)
sized NotEqual = inr (refl, λ p h. (each_fails p h).2)
sized Less = inl refl
sized LessEqual = inr (refl, λ p h. (each_fails p h).3)
sized Greater = inl refl
sized GreaterEqual = inr (refl, λ p h. (each_fails p h).4)
sized Plus = inl refl
sized PlusPlus = inr (refl, λ p h. (each_fails p h).5)
sized Minus = inl refl
sized Star = inl refl
sized Slash = inl refl
sized Percent = inl refl

-- where a sign of one byte was found, none of two stands there
shorter : (p : Sign → Bool) (sign : Sign) → find p (twos ++ ones) ≡ Some sign → length (sign_text sign) ≡ 1 → list_any p twos ≡ false
shorter p sign h one =
    let passed = λ (x : Sign) (xs : List Sign) (two : length (sign_text x) ≡ 2) (found : find p (x ∷ xs) ≡ Some sign).
    (let out : (p x ≡ false) × (find p xs ≡ Some sign) = elim (chosen (p x) (Some x) (find p xs) (Some sign) found) [
      | inl w ↦ absurd (let same : x ≡ sign = some_is x sign w.1 in let wide : length (sign_text sign) ≡ 2 = subst (λ (s : Sign). length (sign_text s) ≡ 2) same two in omega arith)
      | inr w ↦ w
    ] in out) in
    let a = passed Arrow (Equal ∷ NotEqual ∷ LessEqual ∷ GreaterEqual ∷ PlusPlus ∷ ones) refl h in
    let b = passed Equal (NotEqual ∷ LessEqual ∷ GreaterEqual ∷ PlusPlus ∷ ones) refl a.1 in
    let c = passed NotEqual (LessEqual ∷ GreaterEqual ∷ PlusPlus ∷ ones) refl b.1 in
    let d = passed LessEqual (GreaterEqual ∷ PlusPlus ∷ ones) refl c.1 in
    let e = passed GreaterEqual (PlusPlus ∷ ones) refl d.1 in
    let f = passed PlusPlus ones refl e.1 in
    rw (a.0, b.0, c.0, d.0, e.0, f.0) refl

pub record IsFirstSign (bytes : List ℕ) (sign : Sign) : Type 0 where
  pub cut : bytes ≡ sign_text sign ++ drop (length (sign_text sign)) bytes
  pub some : 0 < length (sign_text sign)
  pub longest : IsLongest (what.Sign sign) (drop (length (sign_text sign)) bytes)

longest_from : (bytes : List ℕ) (sign : Sign) → find (stands_first bytes) (twos ++ ones) ≡ Some sign → bytes ≡ sign_text sign ++ drop (length (sign_text sign)) bytes
    → IsLongest (what.Sign sign) (drop (length (sign_text sign)) bytes)
longest_from bytes sign h cut longer is_front =
    elim (sized longer) [
      | inl one ↦ elim (sized sign) [ inl same ↦ omega arith | inr two ↦ omega (arith, two.0) ]
      | inr two ↦ elim (sized sign) [
        | inl one ↦ absurd (
            let there : stands_first bytes longer ≡ true = stands bytes is_front.0 longer (cut ∙ is_front.1) in
            let missing : stands_first bytes longer ≡ false = two.1 (stands_first bytes) (shorter (stands_first bytes) sign h one) in
            cc)
        | inr both ↦ omega (arith, two.0, both.0)
      ]
    ]

pub IsFirstSign-from : (bytes : List ℕ) (sign : Sign) → first_sign bytes ≡ Some sign → IsFirstSign bytes sign
unfolding first_sign
IsFirstSign-from bytes sign h =
    let cut = stands_from bytes sign (first_found (stands_first bytes) longest_first sign h) in
    record {
      cut = cut;
      some = elim (sized sign) [ inl one ↦ omega arith | inr two ↦ omega (arith, two.0) ];
      longest = longest_from bytes sign h cut;
    }

-- ---- and the other way

-- a list of which none passes
none_found : (p : Sign → Bool) (xs ys : List Sign) → list_any p xs ≡ false → find p (xs ++ ys) ≡ find p ys
none_found p [] ys h = refl
none_found p (x ∷ xs) ys h = let parts = or_parts (p x) (list_any p xs) h in rw parts.0 (none_found p xs ys parts.1)

two_found : (sign : Sign) (rest : List ℕ) → length (sign_text sign) ≡ 2 → find (stands_first (sign_text sign ++ rest)) (twos ++ ones) ≡ Some sign
two_found OpenBrace rest h = absurd (omega arith)
two_found CloseBrace rest h = absurd (omega arith)
two_found OpenParen rest h = absurd (omega arith)
two_found CloseParen rest h = absurd (omega arith)
two_found OpenBracket rest h = absurd (omega arith)
two_found CloseBracket rest h = absurd (omega arith)
two_found Comma rest h = absurd (omega arith)
two_found Semicolon rest h = absurd (omega arith)
two_found Colon rest h = absurd (omega arith)
two_found Dot rest h = absurd (omega arith)
two_found Arrow rest h = refl
two_found Assign rest h = absurd (omega arith)
two_found Equal rest h = refl
two_found NotEqual rest h = refl
two_found Less rest h = absurd (omega arith)
two_found LessEqual rest h = refl
two_found Greater rest h = absurd (omega arith)
two_found GreaterEqual rest h = refl
two_found Plus rest h = absurd (omega arith)
two_found PlusPlus rest h = refl
two_found Minus rest h = absurd (omega arith)
two_found Star rest h = absurd (omega arith)
two_found Slash rest h = absurd (omega arith)
two_found Percent rest h = absurd (omega arith)

one_found : (sign : Sign) (rest : List ℕ) → length (sign_text sign) ≡ 1 → find (stands_first (sign_text sign ++ rest)) ones ≡ Some sign
one_found OpenBrace rest h = refl
one_found CloseBrace rest h = refl
one_found OpenParen rest h = refl
one_found CloseParen rest h = refl
one_found OpenBracket rest h = refl
one_found CloseBracket rest h = refl
one_found Comma rest h = refl
one_found Semicolon rest h = refl
one_found Colon rest h = refl
one_found Dot rest h = refl
one_found Arrow rest h = absurd (omega arith)
one_found Assign rest h = refl
one_found Equal rest h = absurd (omega arith)
one_found NotEqual rest h = absurd (omega arith)
one_found Less rest h = refl
one_found LessEqual rest h = absurd (omega arith)
one_found Greater rest h = refl
one_found GreaterEqual rest h = absurd (omega arith)
one_found Plus rest h = refl
one_found PlusPlus rest h = absurd (omega arith)
one_found Minus rest h = refl
one_found Star rest h = refl
one_found Slash rest h = refl
one_found Percent rest h = refl

-- none of two bytes stands where a sign of one is the longest
none_of_two : (sign : Sign) (rest : List ℕ) → length (sign_text sign) ≡ 1 → IsLongest (what.Sign sign) rest → list_any (stands_first (sign_text sign ++ rest)) twos ≡ false
none_of_two sign rest one longest =
    let bytes = sign_text sign ++ rest in
    let missing = λ (two : Sign) (wide : length (sign_text two) ≡ 2).
    (let out : stands_first bytes two ≡ false = false_from_ne_true (stands_first bytes two) (λ there.
    let short = longest two (drop (length (sign_text two)) bytes, stands_from bytes two there) in omega arith) in out) in
    rw (missing Arrow refl, missing Equal refl, missing NotEqual refl, missing LessEqual refl, missing GreaterEqual refl, missing PlusPlus refl) refl

pub first_sign_is : (sign : Sign) (rest : List ℕ) → IsLongest (what.Sign sign) rest → first_sign (sign_text sign ++ rest) ≡ Some sign
unfolding first_sign
first_sign_is sign rest longest =
    elim (sized sign) [
      | inl one ↦ none_found (stands_first (sign_text sign ++ rest)) twos ones (none_of_two sign rest one longest) ∙ one_found sign rest one
      | inr two ↦ two_found sign rest two.0
    ]

-- a sign begins with no byte of another kind
pub sign_comes : (sign : Sign) (rest : List ℕ) → front (sign_text sign ++ rest) ≡ front_sign (sign_text sign ++ rest)
unfolding front
sign_comes OpenBrace rest = refl
sign_comes CloseBrace rest = refl
sign_comes OpenParen rest = refl
sign_comes CloseParen rest = refl
sign_comes OpenBracket rest = refl
sign_comes CloseBracket rest = refl
sign_comes Comma rest = refl
sign_comes Semicolon rest = refl
sign_comes Colon rest = refl
sign_comes Dot rest = refl
sign_comes Arrow rest = refl
sign_comes Assign rest = refl
sign_comes Equal rest = refl
sign_comes NotEqual rest = refl
sign_comes Less rest = refl
sign_comes LessEqual rest = refl
sign_comes Greater rest = refl
sign_comes GreaterEqual rest = refl
sign_comes Plus rest = refl
sign_comes PlusPlus rest = refl
sign_comes Minus rest = refl
sign_comes Star rest = refl
sign_comes Slash rest = refl
sign_comes Percent rest = refl
