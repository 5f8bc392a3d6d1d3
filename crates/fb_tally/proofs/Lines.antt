-- What lines tell with their places, one line more, and rules on each line.
use Rattle.std.proofs.Common.{◌≡◌, ⊎_elim, ℕ, suc, ◌+◌, Option, Some, None, List, [], ◌∷◌, ◌++◌, map, filter_map, length, refl, ap, ◌∙◌, subst, arith}
use Rattle.fb_report.specs.declared.line.Line.{Line}
use Rattle.fb_valid.specs.Valid.{OfEachLine}
use Rattle.fb_tally.specs.Told.{with_told, told_from}
use Rattle.fb_tally.proofs.Lists.{last_or_front}

-- ---- what lines tell

with_told_append : {A : Type 0} (at : ℕ) (o : Option A) (xs ys : List (ℕ × A)) → with_told at o (xs ++ ys) ≡ with_told at o xs ++ ys
with_told_append at None xs ys = refl
with_told_append at (Some told) xs ys = refl

pub told_push : {A : Type 0} (tell : Line → Option A) (at : ℕ) (lines : List Line) (line : Line)
    → told_from tell at (lines ++ line ∷ []) ≡ told_from tell at lines ++ with_told (at + length lines) (tell line) []
told_push tell at [] line = ap (λ n. with_told n (tell line) []) (let same : at ≡ at + 0 = omega arith in same)
told_push tell at (first ∷ lines) line =
    ap (with_told at (tell first)) (told_push tell (suc at) lines line ∙ ap (λ n. told_from tell (suc at) lines ++ with_told n (tell line) []) (let same : suc at + length lines ≡ at + suc (length lines) = omega arith in same))
    ∙ with_told_append at (tell first) (told_from tell (suc at) lines) (with_told (at + suc (length lines)) (tell line) [])

told_is : {A : Type 0} (tell : Line → Option A) (at : ℕ) (line : Line) (lines : List Line) (o : Option A) → tell line ≡ o → map (λ told. told.1) (told_from tell (suc at) lines) ≡ filter_map tell lines
    → map (λ told. told.1) (with_told at o (told_from tell (suc at) lines)) ≡ filter_map tell (line ∷ lines)
told_is tell at line lines None is rest = rw is rest
told_is tell at line lines (Some told) is rest = rw is (ap (λ ys. told ∷ ys) rest)

-- without the places it is what is made of the lines
pub told_made : {A : Type 0} (tell : Line → Option A) (at : ℕ) (lines : List Line) → map (λ told. told.1) (told_from tell at lines) ≡ filter_map tell lines
told_made tell at [] = refl
told_made tell at (line ∷ lines) = told_is tell at line lines (tell line) refl (told_made tell (suc at) lines)

-- ---- rules

pub each_none : (Keeps : List Line → Line → Type 0) → OfEachLine Keeps []
each_none Keeps [] line below is = absurd (cc)
each_none Keeps (first ∷ above) line below is = absurd (cc)

pub each_push : (Keeps : List Line → Line → Type 0) (lines : List Line) (last : Line) → OfEachLine Keeps lines → Keeps lines last → OfEachLine Keeps (lines ++ last ∷ [])
each_push Keeps lines last each here = λ above line below is.
    ⊎_elim (λ at_end. subst (λ up. Keeps up line) at_end.0 (subst (Keeps lines) at_end.1 here)) (λ early. each above line early.0 early.1)
    (last_or_front lines above below last line is)
