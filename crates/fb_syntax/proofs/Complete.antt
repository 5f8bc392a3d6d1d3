-- What is spelled is read again, where the next token can't go on with it: one lemma for each way to put readings
-- together.
use Rattle.std.proofs.Common.{◌≡◌, ℕ, zero, suc, ◌-◌, ◌≤◌, Bool, true, false, cond, Option, Some, None, Result, Ok, List, [], ◌∷◌, length, refl, sym, ap, ◌∙◌, subst, arith}
use Rattle.std.specs.Prelude.{◌||◌}
use Rattle.std.proofs.lemmas.Bool.{or_parts}
use Rattle.fb_syntax.specs.declared.sign.Sign.{Sign}
use Rattle.fb_syntax.specs.declared.token.What.{What}
use Rattle.fb_syntax.specs.declared.token.Token.{Token}
use Rattle.fb_syntax.specs.declared.parse_error.ParseWhy.{ParseWhy}
use Rattle.fb_syntax.specs.Input.{Input, by_first, first_what, found_at, comes}
use Rattle.fb_syntax.specs.TokenKinds.{is_sign, comma}
use Rattle.fb_syntax.specs.Reading.{Reading, then_at, ◌>>=◌, give, step, if_comes, want, taken, unexpected, refuse, open_level, open_sign, repeated, all_of, further, items}
use Rattle.fb_syntax.specs.Spans.{Spelling, Takes, As, Behind, Before, Made, Many, Listed}
use Rattle.fb_syntax.proofs.Sound.{Shrinks}

-- the next token is of no such kind
abbrev pub Stops : (What → Bool) → Input → Type 0
Stops goes_on rest = comes goes_on rest ≡ false

pub record Again {A : Type 0} (goes_on : What → Bool) (reading : Reading A) (Spelled : Spelling A) : Type 0 where
  pub again : (start rest : Input) (x : A) → Spelled start rest x → Stops goes_on rest → reading start ≡ Ok (x, rest)

-- ---- tokens

-- behind a token, whatever goes on, it is read
pub step_again : {A : Type 0} (more : Reading A) (kind : What → Bool) (start mid rest : Input) (x : A)
    → Takes kind start mid → more mid ≡ Ok (x, rest) → (step >>= λ _. more) start ≡ Ok (x, rest)
step_again more kind start mid rest x takes read = ap more (sym takes.1) ∙ read

pub want_again : (kind : What → Bool) (start rest : Input) → Takes kind start rest → want kind start ≡ Ok (tt, rest)
unfolding want
want_again kind start rest takes =
    ap (λ b. cond b (step start) (unexpected start)) takes.0
    ∙ ap (λ (i : Input). Ok (tt, i)) (sym takes.1)

pub taken_again : {A : Type 0} (thing : What → Option A) (start rest : Input) (x : A) → As thing start rest x
    → taken (found_at thing start) start ≡ Ok (x, rest)
taken_again thing start rest x spelled =
    ap (λ o. taken o start) spelled.0 ∙ ap (λ (i : Input). Ok (x, i)) (sym spelled.1)

-- ---- choices

pub choose_this : {A : Type 0} (kind : What → Bool) (this other : Reading A) (start : Input) (read : Result (A × Input) ParseWhy)
    → comes kind start ≡ true → this start ≡ read → if_comes kind this other start ≡ read
choose_this kind this other start read came h = ap (λ b. cond b (this start) (other start)) came ∙ h

pub choose_other : {A : Type 0} (kind : What → Bool) (this other : Reading A) (start : Input) (read : Result (A × Input) ParseWhy)
    → comes kind start ≡ false → other start ≡ read → if_comes kind this other start ≡ read
choose_other kind this other start read came h = ap (λ b. cond b (this start) (other start)) came ∙ h

-- ---- one after the other

pub then_again : {A B : Type 0} (r : Reading A) (more : A → Reading B) (start mid rest : Input) (x : A) (y : B)
    → r start ≡ Ok (x, mid) → more x mid ≡ Ok (y, rest) → (r >>= more) start ≡ Ok (y, rest)
then_again r more start mid rest x y read next = ap (λ found. then_at found more) read ∙ next

pub made_again : {A B : Type 0} {goes_on : What → Bool} {r : Reading A} (make : A → B) (This : Spelling A)
    → Again goes_on r This → Again goes_on (r >>= λ x. give (make x)) (Made make This)
made_again {r = r} make This a =
    record {
      again = λ start rest y. λ (x, spelled, is). λ stops.
          then_again r (λ z. give (make z)) start rest rest x y (a.again start rest x spelled stops) (ap (λ z. Ok (z, rest)) (sym is));
    }

-- a token of the one kind is none of the other
abbrev pub Differ : (What → Bool) → (What → Bool) → Type 0
Differ kind other = (token : What) → kind token ≡ true → other token ≡ false

differ_in : (kind other : What → Bool) → Differ kind other → (left : List Token) → by_first left false kind ≡ true → by_first left false other ≡ false
differ_in kind other differ [] h = refl
differ_in kind other differ (first ∷ rest) h = differ first.what h

-- where the one kind comes, the other doesn't
pub differ_stops : (kind goes_on : What → Bool) (start : Input) → Differ kind goes_on → comes kind start ≡ true → Stops goes_on start
unfolding comes
differ_stops kind goes_on start differ h = differ_in kind goes_on differ start.left h

-- whatever comes next, what is spelled is read
abbrev pub Always : {A : Type 0} → Reading A → Spelling A → Type 0
Always {A} reading Spelled = (start rest : Input) (x : A) → Spelled start rest x → reading start ≡ Ok (x, rest)

pub before_again : {A B : Type 0} {goes_on : What → Bool} {r : Reading A} (kind : What → Bool) (make : A → B) (This : Spelling A)
    → Differ kind goes_on → Again goes_on r This → Always (r >>= λ x. (want kind >>= λ _. give (make x))) (Made make (Before This kind))
before_again {goes_on = goes_on} {r = r} kind make This differ a start rest y (x, (mid, spelled, closing), is) =
    then_again r (λ z. (want kind >>= λ _. give (make z))) start mid rest x y
    (a.again start mid x spelled (differ_stops kind goes_on mid differ closing.0))
    (then_again (want kind) (λ _. give (make x)) mid rest rest tt y
    (want_again kind mid rest closing) (ap (λ z. Ok (z, rest)) (sym is)))

-- ---- what comes first and next

-- what is spelled so begins with a token of this kind
abbrev pub Starts : {A : Type 0} → (What → Bool) → Spelling A → Type 0
Starts {A} kind Spelled = (start rest : Input) (x : A) → Spelled start rest x → comes kind start ≡ true

comes_in : (kind other : What → Bool) → ((token : What) → kind token ≡ true → other token ≡ true) → (left : List Token) → by_first left false kind ≡ true → by_first left false other ≡ true
comes_in kind other on [] h = absurd cc
comes_in kind other on (first ∷ rest) h = on first.what h

-- where the one kind comes, the other does
pub comes_as : (kind other : What → Bool) (start : Input) → ((token : What) → kind token ≡ true → other token ≡ true) → comes kind start ≡ true → comes other start ≡ true
unfolding comes
comes_as kind other start on h = comes_in kind other on start.left h

stands_in : {A : Type 0} (thing : What → Option A) (x : A) (left : List Token) → by_first left None thing ≡ Some x
    → (token : What) × (by_first left None Some ≡ Some token) × (thing token ≡ Some x)
stands_in thing x [] h = absurd cc
stands_in thing x (first ∷ rest) h = (first.what, refl, h)

-- the token that stands for the thing
pub stands_first : {A : Type 0} (thing : What → Option A) (x : A) (start : Input) → found_at thing start ≡ Some x
    → (token : What) × (first_what start ≡ Some token) × (thing token ≡ Some x)
stands_first thing x start h = stands_in thing x start.left h

first_in : (kind : What → Bool) (left : List Token) → by_first left false kind ≡ true → (token : What) × (by_first left None Some ≡ Some token) × (kind token ≡ true)
first_in kind [] h = absurd cc
first_in kind (first ∷ rest) h = (first.what, refl, h)

-- the token of the kind that comes
pub comes_first : (kind : What → Bool) (start : Input) → comes kind start ≡ true → (token : What) × (first_what start ≡ Some token) × (kind token ≡ true)
unfolding comes
comes_first kind start h = first_in kind start.left h

as_in : {A : Type 0} (thing : What → Option A) (kind : What → Bool) (x : A) (b : Bool) → ((token : What) → thing token ≡ Some x → kind token ≡ b)
    → (left : List Token) → by_first left None thing ≡ Some x → by_first left false kind ≡ b
as_in thing kind x b on [] h = absurd cc
as_in thing kind x b on (first ∷ rest) h = on first.what h

-- whether a token that stands for the thing is of the kind
pub as_comes : {A : Type 0} (thing : What → Option A) (kind : What → Bool) (x : A) (b : Bool) (start : Input)
    → ((token : What) → thing token ≡ Some x → kind token ≡ b) → found_at thing start ≡ Some x → comes kind start ≡ b
unfolding comes
as_comes thing kind x b start on h = as_in thing kind x b on start.left h

parts_in : (one other : What → Bool) (left : List Token) → by_first left false (λ token. one token || other token) ≡ false → (by_first left false one ≡ false) × (by_first left false other ≡ false)
parts_in one other [] h = (refl, refl)
parts_in one other (first ∷ rest) h = or_parts (one first.what) (other first.what) h

pub stops_parts : (one other : What → Bool) (rest : Input) → Stops (λ token. one token || other token) rest → Stops one rest × Stops other rest
unfolding comes
stops_parts one other rest h = parts_in one other rest.left h

-- ---- what is always read

-- a kind of no token
abbrev pub never : What → Bool
never token = false

never_in : (left : List Token) → by_first left false never ≡ false
never_in [] = refl
never_in (first ∷ rest) = refl

pub never_stops : (rest : Input) → Stops never rest
unfolding comes
never_stops rest = never_in rest.left

pub always_again : {A : Type 0} {reading : Reading A} (Spelled : Spelling A) → Always reading Spelled → Again never reading Spelled
always_again Spelled always = record { again = λ start rest x spelled stops. always start rest x spelled }

-- ---- lists

-- behind a token of this kind
pub behind_again : {A : Type 0} {goes_on : What → Bool} {more : Reading A} (kind : What → Bool) (This : Spelling A)
    → Again goes_on more This → Again goes_on (step >>= λ _. more) (Behind kind This)
behind_again {more = more} kind This a =
    record { again = λ start rest x. λ (mid, came, spelled). λ stops. step_again more kind start mid rest x came (a.again mid rest x spelled stops) }

pub behind_starts : {A : Type 0} (kind : What → Bool) (This : Spelling A) → Starts kind (Behind kind This)
behind_starts kind This start rest x (mid, came, spelled) = came.0

-- what stands before a list can't go on where the list begins, nor behind it
pub many_stops : {A : Type 0} (begins goes_on : What → Bool) (Thing : Spelling A) (start rest : Input) (xs : List A)
    → Starts begins Thing → Differ begins goes_on → Many Thing start rest xs → Stops goes_on rest → Stops goes_on start
many_stops begins goes_on Thing start rest [] starts differ same stops = subst (λ (i : Input). Stops goes_on i) (sym same) stops
many_stops begins goes_on Thing start rest (x ∷ xs) starts differ (mid, this, more) stops = differ_stops begins goes_on start differ (starts start mid x this)

-- where a list isn't empty its first thing begins
pub many_comes : {A : Type 0} (begins : What → Bool) (Thing : Spelling A) (start rest : Input) (xs : List A)
    → Starts begins Thing → 1 ≤ length xs → Many Thing start rest xs → comes begins start ≡ true
many_comes begins Thing start rest [] starts some same = absurd (omega arith)
many_comes begins Thing start rest (x ∷ xs) starts some (mid, this, more) = starts start mid x this

none_again : {A : Type 0} (full : Reading (List A)) (room : ℕ) (begins : What → Bool) (thing : Reading A) (start rest : Input)
    → start ≡ rest → Stops begins rest → repeated full room begins thing start ≡ Ok ([], rest)
unfolding repeated
none_again full zero begins thing start rest same none =
    ap (λ i. repeated full zero begins thing i) same ∙ choose_other begins full (give []) rest (Ok ([], rest)) none refl
none_again full (suc room) begins thing start rest same none =
    ap (λ i. repeated full (suc room) begins thing i) same
    ∙ choose_other begins (thing >>= λ y. (repeated full room begins thing >>= λ ys. give (y ∷ ys))) (give []) rest (Ok ([], rest)) none refl

-- so many at most, each followed by another or by what follows the list
pub repeated_again : {A : Type 0} (full : Reading (List A)) (room : ℕ) (begins goes_on : What → Bool) (thing : Reading A) (Thing : Spelling A)
    → Starts begins Thing → Differ begins goes_on → Again goes_on thing Thing
    → (start rest : Input) (xs : List A) → length xs ≤ room → Many Thing start rest xs
    → Stops goes_on rest → Stops begins rest → repeated full room begins thing start ≡ Ok (xs, rest)
unfolding repeated
repeated_again full room begins goes_on thing Thing starts differ a start rest [] few same stops none = none_again full room begins thing start rest same none
repeated_again full zero begins goes_on thing Thing starts differ a start rest (x ∷ xs) few spelled stops none = absurd (omega arith)
repeated_again full (suc room) begins goes_on thing Thing starts differ a start rest (x ∷ xs) few (mid, this, more) stops none =
    choose_this begins (thing >>= λ y. (repeated full room begins thing >>= λ ys. give (y ∷ ys))) (give []) start (Ok (x ∷ xs, rest)) (starts start mid x this)
    (then_again thing (λ y. (repeated full room begins thing >>= λ ys. give (y ∷ ys))) start mid rest x (x ∷ xs)
    (a.again start mid x this (many_stops begins goes_on Thing mid rest xs starts differ more stops))
    (then_again (repeated full room begins thing) (λ ys. give (x ∷ ys)) mid rest rest xs (x ∷ xs)
    (repeated_again full room begins goes_on thing Thing starts differ a mid rest xs (omega arith) more stops none) refl))

-- there are no more of them than tokens
many_within : {A : Type 0} (begins goes_on : What → Bool) (thing : Reading A) (Thing : Spelling A)
    → Starts begins Thing → Differ begins goes_on → Again goes_on thing Thing → Shrinks begins thing
    → (start rest : Input) (xs : List A) → Many Thing start rest xs → Stops goes_on rest → length xs ≤ length start.left
many_within begins goes_on thing Thing starts differ a shrinks start rest [] same stops = omega arith
many_within begins goes_on thing Thing starts differ a shrinks start rest (x ∷ xs) (mid, this, more) stops =
    let read = a.again start mid x this (many_stops begins goes_on Thing mid rest xs starts differ more stops) in
    let less = shrinks start (starts start mid x this) x mid read in
    let within = many_within begins goes_on thing Thing starts differ a shrinks mid rest xs more stops in
    omega (arith, less, within)

-- as many as there are
pub all_again : {A : Type 0} (begins goes_on : What → Bool) (thing : Reading A) (Thing : Spelling A)
    → Starts begins Thing → Differ begins goes_on → Again goes_on thing Thing → Shrinks begins thing
    → (start rest : Input) (xs : List A) → Many Thing start rest xs → Stops goes_on rest → Stops begins rest → all_of begins thing start ≡ Ok (xs, rest)
all_again begins goes_on thing Thing starts differ a shrinks start rest xs spelled stops none =
    repeated_again (give []) (length start.left) begins goes_on thing Thing starts differ a start rest xs
    (many_within begins goes_on thing Thing starts differ a shrinks start rest xs spelled stops) spelled stops none

-- things with commas between them
pub further_again : {A : Type 0} (room : ℕ) (beyond : Input → ParseWhy) (goes_on : What → Bool) (thing : Reading A) (Thing : Spelling A)
    → Differ comma goes_on → Again goes_on thing Thing
    → (start rest : Input) (xs : List A) → length xs ≤ room → Many (Behind comma Thing) start rest xs
    → Stops goes_on rest → Stops comma rest → further room beyond thing start ≡ Ok (xs, rest)
further_again room beyond goes_on thing Thing differ a =
    repeated_again (step >>= λ _. refuse beyond) room comma goes_on (step >>= λ _. thing) (Behind comma Thing)
    (behind_starts comma Thing) differ (behind_again comma Thing a)

-- up to the sign that closes them
pub items_again : {A : Type 0} (limit : ℕ) (closing : Sign) (beyond : Input → ParseWhy) (begins goes_on : What → Bool) (thing : Reading A) (Thing : Spelling A)
    → Differ comma goes_on → Differ (is_sign closing) goes_on → Differ (is_sign closing) comma → Differ begins (is_sign closing)
    → Starts begins Thing → Again goes_on thing Thing
    → (start rest : Input) (xs : List A) → Listed limit Thing start rest xs → comes (is_sign closing) rest ≡ true → items limit closing beyond thing start ≡ Ok (xs, rest)
unfolding items
items_again limit closing beyond begins goes_on thing Thing differ closes parts apart starts a start rest [] (few, same) closed =
    ap (λ i. items limit closing beyond thing i) same
    ∙ choose_this (is_sign closing) (give []) (thing >>= λ first. (further (limit - 1) beyond thing >>= λ others. give (first ∷ others))) rest (Ok ([], rest)) closed refl
items_again limit closing beyond begins goes_on thing Thing differ closes parts apart starts a start rest (x ∷ xs) (few, (mid, this, more)) closed =
    let stops = differ_stops (is_sign closing) goes_on rest closes closed in
    let none = differ_stops (is_sign closing) comma rest parts closed in
    choose_other (is_sign closing) (give []) (thing >>= λ first. (further (limit - 1) beyond thing >>= λ others. give (first ∷ others))) start (Ok (x ∷ xs, rest))
    (differ_stops begins (is_sign closing) start apart (starts start mid x this))
    (then_again thing (λ first. (further (limit - 1) beyond thing >>= λ others. give (first ∷ others))) start mid rest x (x ∷ xs)
    (a.again start mid x this (many_stops comma goes_on (Behind comma Thing) mid rest xs (behind_starts comma Thing) differ more stops))
    (then_again (further (limit - 1) beyond thing) (λ others. give (x ∷ others)) mid rest rest xs (x ∷ xs)
    (further_again (limit - 1) beyond goes_on thing Thing differ a mid rest xs (omega arith) more stops none) refl))

-- ---- tokens that open

pub open_again : {A : Type 0} (deeper : Option A) (inner : A) (kind : What → Bool) (start mid : Input)
    → deeper ≡ Some inner → Takes kind start mid → open_level deeper start ≡ Ok (inner, mid)
unfolding open_level
open_again deeper inner kind start mid is came = ap (λ o. open_level o start) is ∙ ap (λ (i : Input). Ok (inner, i)) (sym came.1)

pub open_sign_again : {A : Type 0} (deeper : Option A) (inner : A) (opening : Sign) (start mid : Input)
    → deeper ≡ Some inner → Takes (is_sign opening) start mid → open_sign opening deeper start ≡ Ok (inner, mid)
unfolding open_sign
open_sign_again deeper inner opening start mid is came =
    choose_this (is_sign opening) (open_level deeper) unexpected start (Ok (inner, mid)) came.0
    (open_again deeper inner (is_sign opening) start mid is came)
