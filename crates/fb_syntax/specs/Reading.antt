-- Reading what a text's tokens spell: from the left, one token ahead, up to the first token that doesn't fit.
use Rattle.std.specs.Prelude.{◌≡◌, ℕ, zero, suc, ◌-◌, Bool, if◌then◌else◌, List, [], ◌∷◌, ◌++◌, length, Option, Some, None, Result, Ok, Err}
use Rattle.fb_syntax.specs.declared.sign.Sign.{Sign}
use Rattle.fb_syntax.specs.declared.token.What.{What}
use Rattle.fb_syntax.specs.declared.parse_error.ParseWhy.{ParseWhy}
use Rattle.fb_syntax.specs.declared.parse_error.ParseWhy.TheVariants.{Unexpected, TooDeep, TooMany}
use Rattle.fb_syntax.specs.declared.parse_error.ParseError.{ParseError}
use Rattle.fb_syntax.specs.declared.parse_error.ParseError.TheVariants as errors
use Rattle.fb_syntax.specs.Input.{Input, place, comes, found_at, behind}
use Rattle.fb_syntax.specs.TokenKinds.{is_sign, comma, name_of}

-- the thing that is read and what is left behind it, or the first refusal
abbrev pub Reading : Type 0 → Type 0
Reading Thing = Input → Result (Thing × Input) ParseWhy

-- what was returned, seen by `view`, and the input then are what the reading gives, unless memory ran out
abbrev pub Gives : {Made Thing : Type 0} → (Made → Thing) → Input → Result Made ParseError → Result (Thing × Input) ParseWhy → Type 0
Gives view input (Ok made) read = read ≡ Ok (view made, input)
Gives view input (Err (errors.Refused why)) read = read ≡ Err why
Gives view input (Err errors.Memory) read = Unit {0}

-- ---- one after the other

abbrev pub give : {A : Type 0} → A → Reading A
give x input = Ok (x, input)

abbrev pub then_at : {A B : Type 0} → Result (A × Input) ParseWhy → (A → Reading B) → Result (B × Input) ParseWhy
then_at (Ok read) more = more read.0 read.1
then_at (Err why) more = Err why

infixl 10 ◌>>=◌
abbrev pub ◌>>=◌ : {A B : Type 0} → Reading A → (A → Reading B) → Reading B
(reading >>= more) input = then_at (reading input) more

-- ---- the first token

abbrev pub refuse : {A : Type 0} → (Input → ParseWhy) → Reading A
refuse why input = Err (why input)

abbrev pub unexpected : {A : Type 0} → Reading A
unexpected = refuse (λ input. Unexpected (place input))

abbrev pub too_deep : {A : Type 0} → Reading A
too_deep = refuse (λ input. TooDeep (place input))

abbrev pub too_many : {A : Type 0} → Reading A
too_many = refuse (λ input. TooMany (place input))

abbrev pub step : Reading (Unit {0})
step input = Ok (tt, behind input)

abbrev pub if_comes : {A : Type 0} → (What → Bool) → Reading A → Reading A → Reading A
if_comes kind this other input = if comes kind input then this input else other input

-- a token of this kind
unfoldable pub want : (What → Bool) → Reading (Unit {0})
want kind = if_comes kind step unexpected

-- what the first token stands for, if it stands for something
abbrev pub taken : {A : Type 0} → Option A → Reading A
taken None = unexpected
taken (Some x) = do
  _ ← step
  give x

unfoldable pub name : Reading (List ℕ)
name input = taken (found_at name_of input) input

-- ---- what may still be opened

-- a token that opens something; behind it the next depth is read, unless too much is open
unfoldable pub open_level : {A : Type 0} → Option A → Reading A
open_level None = too_deep
open_level (Some inner) = do
  _ ← step
  give inner

unfoldable pub open_sign : {A : Type 0} → Sign → Option A → Reading A
open_sign opening deeper = if_comes (is_sign opening) (open_level deeper) unexpected

-- ---- lists of things

-- what is read, with more before it
abbrev pub with_front : {A : Type 0} → List A → Reading (List A) → Reading (List A)
with_front front reading = do
  rest ← reading
  give (front ++ rest)

-- things one after the other, as long as a token of this kind comes; so many there may be, and beyond them this is read
unfoldable pub repeated : {A : Type 0} → Reading (List A) → ℕ → (What → Bool) → Reading A → Reading (List A)
repeated full zero begins thing = if_comes begins full (give [])
repeated full (suc room) begins thing =
    if_comes begins
    (do
      x ← thing
      rest ← repeated full room begins thing
      give (x ∷ rest))
    (give [])

-- as many of them as there are; no more than there are tokens
abbrev pub all_of : {A : Type 0} → (What → Bool) → Reading A → Reading (List A)
all_of begins thing input = repeated (give []) (length input.left) begins thing input

-- further things, each behind a comma; so many there may be, and beyond them this is why it is refused
abbrev pub further : {A : Type 0} → ℕ → (Input → ParseWhy) → Reading A → Reading (List A)
further room beyond thing = repeated (step >>= λ _. refuse beyond) room comma (step >>= λ _. thing)

-- things with commas between them, up to the sign that closes them, which stays
unfoldable pub items : {A : Type 0} → ℕ → Sign → (Input → ParseWhy) → Reading A → Reading (List A)
items limit closing beyond thing =
    if_comes (is_sign closing) (give [])
    (do
      first ← thing
      rest ← further (limit - 1) beyond thing
      give (first ∷ rest))
