-- Texts that `parse` reads, and the numbers that they say.
use Rattle.std.proofs.Common.{◌≡◌, ◌∙◌, ◌<◌, ◌^◌, ◌&&◌, ◌==◌, ℕ, Bool, true, false, refl, sym, ap, arith, List, [], ◌∷◌, length, Option, Some, None, Result, Ok, Err, nat_le, nat_lt, slice_index, lt-ltb, ltb-true, leb-true, eqb-true, subst, codes, if◌then◌else◌}
use Rattle.std.specs.List.{list_all}
use Rattle.std.specs.Char.{is_digit, digit_value}
use Rattle.std.specs.Str.Parse.{AllDigits, IsNumeral, ParsesUnsigned, digits_value, without_leading_plus}
use Rattle.clap.specs.Words.{Row, first_of}
use Rattle.fb_job.specs.declared.job.JobError.{JobError}
use Rattle.fb_job.specs.Answers.{AnswersJob}
use Rattle.fb_job.specs.Numbers.{budget_given, default_budget, default_fuel, fuel_given, is_numeral, most_budget, most_fuel, most_number, most_size, number_given, number_of, number_read, size_given, within_limits}

both : (a b : Bool) → (a && b) ≡ true → (a ≡ true) × (b ≡ true)
both true b h = (refl, h)
both false b h = absurd (cc)

digits_pass : (text : List ℕ) → AllDigits 10 text → list_all (λ byte. is_digit byte 10) text ≡ true
digits_pass [] all = refl
digits_pass (byte ∷ rest) all = rw (lt-ltb (digit_value byte) 10 all.0) (digits_pass rest all.1)

digits_from : (text : List ℕ) → list_all (λ byte. is_digit byte 10) text ≡ true → AllDigits 10 text
digits_from [] pass = tt
digits_from (byte ∷ rest) pass = let parts = both _ _ pass in (ltb-true _ _ parts.0, digits_from rest parts.1)

numeral_pass : (text : List ℕ) → IsNumeral 10 text → is_numeral text ≡ true
numeral_pass text is = rw (lt-ltb 0 (length text) is.0, digits_pass text is.1) refl

numeral_from : (text : List ℕ) → is_numeral text ≡ true → IsNumeral 10 text
numeral_from text pass = let parts = both _ _ pass in (ltb-true _ _ parts.0, digits_from text parts.1)

-- where no plus stands first, none is left out
no_plus : (text : List ℕ) → (slice_index text 0 == 43) ≡ false → without_leading_plus text ≡ text
no_plus text none = rw none refl

none_of : (some : Bool) (number : Option ℕ) → (if some && false then number else None) ≡ None
none_of true number = refl
none_of false number = refl

-- a text that `+` begins is no numeral
pub number_of-plus : (least most : ℕ) (text : List ℕ) → (slice_index text 0 == 43) ≡ true → number_of least most text ≡ None
unfolding number_of
number_of-plus least most [] plus = refl
number_of-plus least most (byte ∷ rest) plus =
    rw (eqb-true byte 43 plus) (none_of (nat_lt 0 (length (43 ∷ rest))) (within_limits least most (digits_value 10 (43 ∷ rest))))

above : (low high : Bool) (number : ℕ) → high ≡ false → (if low && high then Some number else None) ≡ None
above true high number none = rw none refl
above false high number none = refl

-- what isn't read is no numeral, or has a number above all that are read
unread : {E : Type 0} (least most : ℕ) → most < 2 ^ 64 → (text : List ℕ) (error : E) → ParsesUnsigned 64 10 text (Err error)
    → (slice_index text 0 == 43) ≡ false
    → (numeral within : Bool) → is_numeral text ≡ numeral → nat_le (digits_value 10 text) most ≡ within → None ≡ number_of least most text
unfolding number_of
unread least most small text error fails none false within is inside = rw is refl
unread least most small text error fails none true false is inside = rw is (sym (above _ _ (digits_value 10 text) inside))
unread least most small text error fails none true true is inside =
    let fits : digits_value 10 text < 2 ^ 64 = omega (arith, leb-true _ _ inside, small) in
    absurd (fails (subst (λ t. IsNumeral 10 t × (digits_value 10 t < 2 ^ 64)) (sym (no_plus text none)) (numeral_from text is, fits)))

-- what `parse` reads of a text without a plus is the number of the numeral
pub number_of-read : {E : Type 0} (least most : ℕ) → most < 2 ^ 64 → (text : List ℕ) (number : Result ℕ E) → ParsesUnsigned 64 10 text number
    → (slice_index text 0 == 43) ≡ false → number_read least most number ≡ number_of least most text
unfolding number_of
number_of-read least most small text (Ok number) parses none =
    let numeral : IsNumeral 10 text = subst (IsNumeral 10) (no_plus text none) parses.0.0 in
    let same : number ≡ digits_value 10 text = parses.1 ∙ ap (digits_value 10) (no_plus text none) in
    rw (numeral_pass text numeral) (ap (within_limits least most) same)
number_of-read least most small text (Err error) parses none =
    unread least most small text error parses none (is_numeral text) (nat_le (digits_value 10 text) most) refl refl

-- ---- the options

pub fuel_given-by : (rows : List Row) (text : List ℕ) (fuel : Option ℕ) (answer : Result ℕ JobError) → first_of (codes "fuel") rows ≡ Some text
    → fuel ≡ number_of 1 most_fuel text → AnswersJob (λ f. f) fuel answer → AnswersJob (λ f. f) (fuel_given rows) answer
fuel_given-by rows text fuel answer first same answers = rw (first, ← same) answers

pub fuel_given-none : (rows : List Row) → first_of (codes "fuel") rows ≡ None → fuel_given rows ≡ Some default_fuel
fuel_given-none rows none = rw none refl

pub budget_given-by : (rows : List Row) (text : List ℕ) (budget : Option ℕ) (answer : Result ℕ JobError) → first_of (codes "budget") rows ≡ Some text
    → budget ≡ number_of 0 most_budget text → AnswersJob (λ b. b) budget answer → AnswersJob (λ b. b) (budget_given rows) answer
budget_given-by rows text budget answer first same answers = rw (first, ← same) answers

pub budget_given-none : (rows : List Row) → first_of (codes "budget") rows ≡ None → budget_given rows ≡ Some default_budget
budget_given-none rows none = rw none refl

-- ---- the words of a trial

pub number_given-by : (rows : List Row) (text : List ℕ) (number : Option ℕ) (answer : Result ℕ JobError) → first_of (codes "NUMBER") rows ≡ Some text
    → number ≡ number_of 0 most_number text → AnswersJob (λ n. n) number answer → AnswersJob (λ n. n) (number_given rows) answer
number_given-by rows text number answer first same answers = rw (first, ← same) answers

pub number_given-none : (rows : List Row) → first_of (codes "NUMBER") rows ≡ None → number_given rows ≡ None
number_given-none rows none = rw none refl

pub size_given-by : (rows : List Row) (text : List ℕ) (size : Option ℕ) (answer : Result ℕ JobError) → first_of (codes "SIZE") rows ≡ Some text
    → size ≡ number_of 1 most_size text → AnswersJob (λ n. n) size answer → AnswersJob (λ n. n) (size_given rows) answer
size_given-by rows text size answer first same answers = rw (first, ← same) answers

pub size_given-none : (rows : List Row) → first_of (codes "SIZE") rows ≡ None → size_given rows ≡ None
size_given-none rows none = rw none refl
