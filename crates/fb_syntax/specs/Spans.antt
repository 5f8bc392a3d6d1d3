-- Which tokens spell a thing: those of an input, `start`, up to the input that is left, `rest`. A grammar is put together
-- of these words.
use Rattle.std.specs.Prelude.{◌≡◌, ℕ, ◌≤◌, ◌⊎◌, Bool, true, List, [], ◌∷◌, length, Option, Some}
use Rattle.fb_syntax.specs.declared.token.What.{What}
use Rattle.fb_syntax.specs.Input.{Input, comes, found_at, behind}
use Rattle.fb_syntax.specs.TokenKinds.{comma}

abbrev pub Spelling : Type 0 → Type 1
Spelling Thing = Input → Input → Thing → Type 0

-- the first token is of this kind, and what is left is behind it
abbrev pub Takes : (What → Bool) → Input → Input → Type 0
Takes kind start rest = (comes kind start ≡ true) × (rest ≡ behind start)

-- the first token stands for the thing
abbrev pub As : {A : Type 0} → (What → Option A) → Spelling A
As thing start rest x = (found_at thing start ≡ Some x) × (rest ≡ behind start)

-- a token of this kind spells this thing
abbrev pub Is : {A : Type 0} → (What → Bool) → A → Spelling A
Is kind thing start rest x = Takes kind start rest × (x ≡ thing)

abbrev pub Or : {A : Type 0} → Spelling A → Spelling A → Spelling A
Or This That start rest x = This start rest x ⊎ That start rest x

-- one behind the other
abbrev pub Pair : {A B : Type 0} → Spelling A → Spelling B → Spelling (A × B)
Pair This That start rest x = (mid : Input) × This start mid x.0 × That mid rest x.1

abbrev pub Behind : {A : Type 0} → (What → Bool) → Spelling A → Spelling A
Behind kind This start rest x = (mid : Input) × Takes kind start mid × This mid rest x

abbrev pub Before : {A : Type 0} → Spelling A → (What → Bool) → Spelling A
Before This kind start rest x = (mid : Input) × This start mid x × Takes kind mid rest

abbrev pub Between : {A : Type 0} → (What → Bool) → Spelling A → (What → Bool) → Spelling A
Between opening This closing = Behind opening (Before This closing)

-- what is spelled is made into this
abbrev pub Made : {A B : Type 0} → (A → B) → Spelling A → Spelling B
Made {A} make This start rest y = (x : A) × This start rest x × (y ≡ make x)

-- one after the other
abbrev pub Many : {A : Type 0} → Spelling A → Spelling (List A)
Many This start rest [] = start ≡ rest
Many This start rest (x ∷ xs) = (mid : Input) × This start mid x × Many This mid rest xs

-- so many at least, and at most
abbrev pub AtLeast : {A : Type 0} → ℕ → Spelling (List A) → Spelling (List A)
AtLeast least All start rest xs = (least ≤ length xs) × All start rest xs

abbrev pub AtMost : {A : Type 0} → ℕ → Spelling (List A) → Spelling (List A)
AtMost most All start rest xs = (length xs ≤ most) × All start rest xs

-- none, or one and more of them, each behind this token
abbrev pub Separated : {A : Type 0} → (What → Bool) → Spelling A → Spelling (List A)
Separated between This start rest [] = start ≡ rest
Separated between This start rest (x ∷ xs) = (mid : Input) × This start mid x × Many (Behind between This) mid rest xs

-- so many at most, with commas between them
abbrev pub Listed : {A : Type 0} → ℕ → Spelling A → Spelling (List A)
Listed most This = AtMost most (Separated comma This)
