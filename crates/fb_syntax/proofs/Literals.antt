-- Texts between their quotes: each byte has one spelling, and it is read again.
use Rattle.std.proofs.Common.{◌≡◌, ℕ, ◌+◌, ◌≤◌, Bool, true, false, cond, Some, List, [], ◌∷◌, ◌++◌, length, arith, refl, sym, ap, ◌∙◌, subst, inl, inr, append_assoc, append-nil, length-append}
use Rattle.std.specs.Prelude.{◌==◌, nat_le, nat_lt, flat_map}
use Rattle.std.specs.List.{list_all}
use Rattle.std.proofs.lemmas.Bool.{eqb-true, ne_eqb, cases_Bool, and_parts, and_from, ltb-false, leb-true, le-leb, le-ltb}
use Rattle.fb_syntax.specs.declared.literal.Step.{Step}
use Rattle.fb_syntax.specs.declared.literal.Step.TheVariants.{Closed, Misfit, Escape, Byte}
use Rattle.fb_syntax.specs.Tokens.{escaped, stands_in_text}
use Rattle.fb_syntax.specs.Lexing.{step_of, after_step, text_from}
use Rattle.fb_syntax.proofs.Choices.{some_is}

-- what a step tells of its byte
abbrev StepTells : Bool → ℕ → Step → Type 0
StepTells false b Closed = b ≡ 34
StepTells false b Escape = b ≡ 92
StepTells false b (Byte c) = (escaped c ≡ b ∷ []) × (stands_in_text c ≡ true)
StepTells true b Closed = ⊥
StepTells true b Escape = ⊥
StepTells true b (Byte c) = (escaped c ≡ 92 ∷ b ∷ []) × (stands_in_text c ≡ true)
StepTells escaping b Misfit = Unit {0}

cases : {A : Type 0} (P : A → Type 0) (b : Bool) (x y : A) → (b ≡ true → P x) → (b ≡ false → P y) → P (cond b x y)
cases P true x y f g = f refl
cases P false x y f g = g refl

plain_tells : (b : ℕ) → StepTells false b (step_of false b)
plain_tells b =
    let P : Step → Type 0 = λ s. StepTells false b s in
    cases P (b == 34) Closed _ (λ h. eqb-true b 34 h) (λ not_quote.
    cases P (b == 92) Escape _ (λ h. eqb-true b 92 h) (λ not_slash.
    cases P (nat_lt b 32) Misfit _ (λ h. tt) (λ not_below.
    let large : 32 ≤ b = ltb-false b 32 not_below in
    (rw (not_quote, not_slash, ne_eqb b 10 (λ e. omega arith), ne_eqb b 9 (λ e. omega arith)) refl, rw (le-leb 32 b large) refl))))

escape_tells : (b : ℕ) → StepTells true b (step_of true b)
escape_tells b =
    let P : Step → Type 0 = λ s. StepTells true b s in
    cases P (b == 34) (Byte 34) _ (λ h. rw (eqb-true b 34 h) (refl, refl)) (λ _.
    cases P (b == 92) (Byte 92) _ (λ h. rw (eqb-true b 92 h) (refl, refl)) (λ _.
    cases P (b == 110) (Byte 10) _ (λ h. rw (eqb-true b 110 h) (refl, refl)) (λ _.
    cases P (b == 116) (Byte 9) _ (λ h. rw (eqb-true b 116 h) (refl, refl)) (λ _. tt))))

tells : (escaping : Bool) (b : ℕ) → StepTells escaping b (step_of escaping b)
tells true b = escape_tells b
tells false b = plain_tells b

-- the `\` that stands before the rest
abbrev held : Bool → List ℕ
held true = 92 ∷ []
held false = []

-- a text read up to its closing quote
pub record IsRead (escaping : Bool) (before : List ℕ) (len : ℕ) (bytes : List ℕ) (read : List ℕ × ℕ) : Type 0 where
  pub text : List ℕ
  pub rest : List ℕ
  pub whole : read.0 ≡ before ++ text
  pub fits : list_all stands_in_text text ≡ true
  pub cut : held escaping ++ bytes ≡ flat_map escaped text ++ 34 ∷ rest
  pub count : read.1 + length (held escaping) ≡ len + length (flat_map escaped text) + 1

at_step : (escaping : Bool) (before : List ℕ) (len b : ℕ) (bytes : List ℕ) (read : List ℕ × ℕ) (step : Step) → StepTells escaping b step
    → after_step step before (len + 1) (λ behind_escape longer. text_from behind_escape longer (len + 1) bytes) ≡ Some read
    → ((behind_escape : Bool) (longer : List ℕ) → text_from behind_escape longer (len + 1) bytes ≡ Some read → IsRead behind_escape longer (len + 1) bytes read)
    → IsRead escaping before len (b ∷ bytes) read
at_step false before len b bytes read Closed told h more =
    subst (λ (r : List ℕ × ℕ). IsRead false before len (b ∷ bytes) r) (some_is (before, len + 1) read h) (record {
      text = [];
      rest = bytes;
      whole = sym (append-nil before);
      fits = refl;
      cut = ap (λ (first : ℕ). first ∷ bytes) told;
      count = omega arith;
    })
at_step false before len b bytes read Escape told h more =
    let later = more true before h in
    record {
      text = later.text;
      rest = later.rest;
      whole = later.whole;
      fits = later.fits;
      cut = ap (λ (first : ℕ). first ∷ bytes) told ∙ later.cut;
      count = omega arith;
    }
at_step false before len b bytes read (Byte c) told h more =
    let later = more false (before ++ c ∷ []) h in
    record {
      text = c ∷ later.text;
      rest = later.rest;
      whole = later.whole ∙ append_assoc before (c ∷ []) later.text;
      fits = and_from (stands_in_text c) (list_all stands_in_text later.text) told.1 later.fits;
      cut = rw told.0 (ap (λ (more_bytes : List ℕ). b ∷ more_bytes) later.cut);
      count = rw told.0 (omega arith);
    }
at_step false before len b bytes read Misfit told h more = absurd cc
at_step true before len b bytes read Closed told h more = absurd told
at_step true before len b bytes read Escape told h more = absurd told
at_step true before len b bytes read (Byte c) told h more =
    let later = more false (before ++ c ∷ []) h in
    record {
      text = c ∷ later.text;
      rest = later.rest;
      whole = later.whole ∙ append_assoc before (c ∷ []) later.text;
      fits = and_from (stands_in_text c) (list_all stands_in_text later.text) told.1 later.fits;
      cut = rw told.0 (ap (λ (more_bytes : List ℕ). 92 ∷ b ∷ more_bytes) later.cut);
      count = rw told.0 (omega arith);
    }
at_step true before len b bytes read Misfit told h more = absurd cc

pub IsRead-from : (escaping : Bool) (before : List ℕ) (len : ℕ) (bytes : List ℕ) (read : List ℕ × ℕ) → text_from escaping before len bytes ≡ Some read → IsRead escaping before len bytes read
unfolding text_from
IsRead-from escaping before len [] read h = absurd cc
IsRead-from escaping before len (b ∷ bytes) read h =
    at_step escaping before len b bytes read (step_of escaping b) (tells escaping b) h (λ behind_escape longer more. IsRead-from behind_escape longer (len + 1) bytes read more)

-- ---- and the other way

not_control : (b : ℕ) → stands_in_text b ≡ true → (b == 10) ≡ false → (b == 9) ≡ false → nat_lt b 32 ≡ false
not_control b fits not_feed not_tab =
    elim (cases_Bool (nat_le 32 b)) [
      | inl large ↦ le-ltb b 32 (leb-true 32 b large)
      | inr small ↦ absurd (let no_way : stands_in_text b ≡ false = rw (small, not_feed, not_tab) refl in cc)
    ]

-- the spelling of one byte is read as that byte
one_read : (b : ℕ) (before : List ℕ) (len : ℕ) (more : List ℕ) → stands_in_text b ≡ true
    → text_from false before len (escaped b ++ more) ≡ text_from false (before ++ b ∷ []) (len + length (escaped b)) more
unfolding text_from
one_read b before len more fits =
    elim (cases_Bool (b == 34)) [
      | inl h ↦ rw (eqb-true b 34 h) (ap (λ (n : ℕ). text_from false (before ++ 34 ∷ []) n more) (omega arith))
      | inr not_quote ↦ elim (cases_Bool (b == 92)) [
        | inl h ↦ rw (eqb-true b 92 h) (ap (λ (n : ℕ). text_from false (before ++ 92 ∷ []) n more) (omega arith))
        | inr not_slash ↦ elim (cases_Bool (b == 10)) [
          | inl h ↦ rw (eqb-true b 10 h) (ap (λ (n : ℕ). text_from false (before ++ 10 ∷ []) n more) (omega arith))
          | inr not_feed ↦ elim (cases_Bool (b == 9)) [
            | inl h ↦ rw (eqb-true b 9 h) (ap (λ (n : ℕ). text_from false (before ++ 9 ∷ []) n more) (omega arith))
            | inr not_tab ↦
                let not_below = not_control b fits not_feed not_tab in
                rw (not_quote, not_slash, not_feed, not_tab) (rw (not_quote, not_slash, not_below) refl)
          ]
        ]
      ]
    ]

-- a text's spelling and its closing quote are read as the text
pub literal_read : (text before : List ℕ) (len : ℕ) (rest : List ℕ) → list_all stands_in_text text ≡ true
    → text_from false before len (flat_map escaped text ++ 34 ∷ rest) ≡ Some (before ++ text, len + length (flat_map escaped text) + 1)
unfolding text_from
literal_read [] before len rest fits =
    ap (λ (t : List ℕ). Some (t, len + 1)) (sym (append-nil before)) ∙ ap (λ (n : ℕ). Some (before ++ [], n)) (omega arith)
literal_read (b ∷ text) before len rest fits =
    let parts = and_parts (stands_in_text b) (list_all stands_in_text text) fits in
    let spelled = flat_map escaped text in
    ap (text_from false before len) (append_assoc (escaped b) spelled (34 ∷ rest))
    ∙ one_read b before len (spelled ++ 34 ∷ rest) parts.0
    ∙ literal_read text (before ++ b ∷ []) (len + length (escaped b)) rest parts.1
    ∙ ap (λ (t : List ℕ). Some (t, len + length (escaped b) + length spelled + 1)) (append_assoc before (b ∷ []) text)
    ∙ ap (λ (n : ℕ). Some (before ++ b ∷ text, n)) (omega (arith, length-append (escaped b) spelled))
