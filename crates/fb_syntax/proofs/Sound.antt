-- What a reading finds is spelled so: one lemma for each way to put readings together.
use Rattle.std.proofs.Common.{◌≡◌, ℕ, zero, suc, ◌-◌, ◌<◌, ◌≤◌, ◌⊎◌, Bool, true, Option, Some, None, Result, Ok, Err, List, [], ◌∷◌, length, drop, refl, sym, ap, ◌∙◌, subst, inl, inr, arith}
use Rattle.fb_syntax.specs.declared.sign.Sign.{Sign}
use Rattle.fb_syntax.specs.declared.token.What.{What}
use Rattle.fb_syntax.specs.declared.token.Token.{Token}
use Rattle.fb_syntax.specs.declared.parse_error.ParseWhy.{ParseWhy}
use Rattle.fb_syntax.specs.Input.{Input, behind, found_at, comes}
use Rattle.fb_syntax.specs.TokenKinds.{is_sign, comma}
use Rattle.fb_syntax.specs.Reading.{Reading, then_at, ◌>>=◌, give, step, if_comes, want, taken, unexpected, refuse, open_level, open_sign, repeated, all_of, further, items}
use Rattle.fb_syntax.specs.Spans.{Spelling, Takes, As, Is, Pair, Behind, Before, Made, Many, AtMost, Listed}
use Rattle.fb_syntax.proofs.Choices.{chosen}
use Rattle.fb_syntax.proofs.Turns.{ok_is, step_shorter}

-- what was found: it is spelled so, and no more tokens are left than there were
pub record Found {A : Type 0} (Spelled : Spelling A) (input rest : Input) (x : A) : Type 0 where
  pub spelled : Spelled input rest x
  pub shorter : length rest.left ≤ length input.left

pub record Reads {A : Type 0} (reading : Reading A) (Spelled : Spelling A) : Type 0 where
  pub found : (input : Input) (x : A) (rest : Input) → reading input ≡ Ok (x, rest) → Found Spelled input rest x

fewer_left : (left : List Token) → length (drop 1 left) ≤ length left
fewer_left [] = omega arith
fewer_left (first ∷ rest) = omega arith

pub fewer : (input : Input) → length (behind input).left ≤ length input.left
fewer input = fewer_left input.left

-- ---- one thing after the other

pub then_ok : {A B : Type 0} (read : Result (A × Input) ParseWhy) (more : A → Reading B) (y : B) (rest : Input)
    → then_at read more ≡ Ok (y, rest) → (x : A) × (mid : Input) × (read ≡ Ok (x, mid)) × (more x mid ≡ Ok (y, rest))
then_ok (Ok read) more y rest h = (read.0, read.1, refl, h)
then_ok (Err why) more y rest h = absurd cc

-- first one thing, and then what goes with it
abbrev pub Then : {A B : Type 0} → Spelling A → (A → Spelling B) → Spelling B
Then {A} This That start rest y = (x : A) × (mid : Input) × This start mid x × That x mid rest y

pub found_then : {A B : Type 0} (This : Spelling A) (That : Spelling B) (All : Spelling B) (input mid rest : Input) (x : A) (y : B)
    → (This input mid x → That mid rest y → All input rest y)
    → Found This input mid x → Found That mid rest y → Found All input rest y
found_then This That All input mid rest x y both a b =
    record { spelled = both a.spelled b.spelled; shorter = omega (arith, a.shorter, b.shorter) }

pub reads_then : {A B : Type 0} {r : Reading A} {more : A → Reading B} (This : Spelling A) (That : A → Spelling B)
    → Reads r This → ((x : A) → Reads (more x) (That x)) → Reads (r >>= more) (Then This That)
reads_then {r = r} {more = more} This That a b =
    record {
      found = λ input y rest h. (
          let parts = then_ok (r input) more y rest h in
          found_then This (That parts.0) (Then This That) input parts.1 rest parts.0 y (λ p q. (parts.0, parts.1, p, q))
          (a.found input parts.0 parts.1 parts.2) ((b parts.0).found parts.1 y rest parts.3));
    }

pub reads_as : {A : Type 0} {r : Reading A} (This That : Spelling A) → ((start rest : Input) (x : A) → This start rest x → That start rest x) → Reads r This → Reads r That
reads_as This That on a =
    record {
      found = λ input x rest h. (
          let f = a.found input x rest h in
          record { spelled = on input rest x f.spelled; shorter = f.shorter });
    }

-- nothing is read
abbrev pub Given : {A : Type 0} → A → Spelling A
Given given start rest x = (start ≡ rest) × (x ≡ given)

pub reads_give : {A : Type 0} (given : A) → Reads (give given) (Given given)
reads_give given =
    record {
      found = λ input x rest h. (
          let same = ok_is (given, input) (x, rest) h in
          let left = ap (λ (p : _ × Input). p.1) same in
          record {
            spelled = (left, sym (ap (λ (p : _ × Input). p.0) same));
            shorter = subst (λ (i : Input). length i.left ≤ length input.left) left (omega arith);
          });
    }

pub reads_made : {A B : Type 0} {r : Reading A} (make : A → B) (This : Spelling A) → Reads r This → Reads (r >>= λ x. give (make x)) (Made make This)
reads_made make This a =
    reads_as (Then This (λ x. Given (make x))) (Made make This)
    (λ start rest y. λ (x, mid, p, q). (x, subst (λ (m : Input). This start m x) q.0 p, q.1))
    (reads_then This (λ x. Given (make x)) a (λ x. reads_give (make x)))

-- ---- tokens

abbrev pub Nothing : (What → Bool) → Spelling (Unit {0})
Nothing kind start rest u = Takes kind start rest

stepped : {A : Type 0} (This : Spelling A) (That : Spelling A) (input rest : Input) (x : A)
    → (This (behind input) rest x → That input rest x) → Found This (behind input) rest x → Found That input rest x
stepped This That input rest x on f =
    record { spelled = on f.spelled; shorter = omega (arith, f.shorter, fewer input) }

-- behind a token that came
pub found_step : {A : Type 0} {more : Reading A} (kind : What → Bool) (This : Spelling A) (input rest : Input) (x : A)
    → comes kind input ≡ true → Reads more This → more (behind input) ≡ Ok (x, rest) → Found (Behind kind This) input rest x
found_step kind This input rest x first a h =
    stepped This (Behind kind This) input rest x (λ p. (behind input, (first, refl), p)) (a.found (behind input) x rest h)

pub reads_want : (kind : What → Bool) → Reads (want kind) (Nothing kind)
unfolding want
reads_want kind =
    record {
      found = λ input u rest h. (
          elim (chosen (comes kind input) (step input) (unexpected input) (Ok (u, rest)) h) [
            | inl w ↦ (
                let same = ap (λ (p : Unit {0} × Input). p.1) (ok_is (tt, behind input) (u, rest) w.1) in
                subst (λ (r : Input). Found (Nothing kind) input r u) same
                (record { spelled = (w.0, refl); shorter = fewer input }))
            | inr w ↦ absurd (let no_way = w.1 in cc)
          ]);
    }

taken_found : {A : Type 0} (thing : What → Option A) (input : Input) (o : Option A) (x : A) (rest : Input)
    → found_at thing input ≡ o → taken o input ≡ Ok (x, rest) → Found (As thing) input rest x
taken_found thing input None x rest e h = absurd cc
taken_found thing input (Some y) x rest e h =
    let same = ok_is (y, behind input) (x, rest) h in
    let is = ap (λ (p : _ × Input). p.0) same in
    let left = ap (λ (p : _ × Input). p.1) same in
    subst (λ (r : Input). Found (As thing) input r x) left
    (record { spelled = (e ∙ ap Some is, refl); shorter = fewer input })

pub reads_taken : {A : Type 0} (thing : What → Option A) → Reads (λ input. taken (found_at thing input) input) (As thing)
reads_taken thing = record { found = λ input x rest h. taken_found thing input (found_at thing input) x rest refl h }

-- a choice by the token that comes, which is taken
pub reads_if_step : {A : Type 0} {more other : Reading A} (kind : What → Bool) (This That : Spelling A)
    → Reads more This → Reads other That → Reads (if_comes kind (step >>= λ _. more) other) (λ start rest x. Behind kind This start rest x ⊎ That start rest x)
reads_if_step {A} {more = more} {other = other} kind This That a b =
    record {
      found = λ input x rest h. (
          elim (chosen (comes kind input) (more (behind input)) (other input) (Ok (x, rest)) h) [
            | inl w ↦ (
                let f = found_step kind This input rest x w.0 a w.1 in
                record { spelled = inl f.spelled; shorter = f.shorter })
            | inr w ↦ (
                let f = b.found input x rest w.1 in
                record { spelled = inr f.spelled; shorter = f.shorter })
          ]);
    }

-- a choice by the token that comes, which isn't taken
pub reads_if : {A : Type 0} {this other : Reading A} (kind : What → Bool) (This That : Spelling A)
    → ((input : Input) → comes kind input ≡ true → (x : A) (rest : Input) → this input ≡ Ok (x, rest) → Found This input rest x) → Reads other That
    → Reads (if_comes kind this other) (λ start rest x. This start rest x ⊎ That start rest x)
reads_if {A} {this = this} {other = other} kind This That a b =
    record {
      found = λ input x rest h. (
          elim (chosen (comes kind input) (this input) (other input) (Ok (x, rest)) h) [
            | inl w ↦ (
                let f = a input w.0 x rest w.1 in
                record { spelled = inl f.spelled; shorter = f.shorter })
            | inr w ↦ (
                let f = b.found input x rest w.1 in
                record { spelled = inr f.spelled; shorter = f.shorter })
          ]);
    }

-- behind a token
pub reads_behind : {A : Type 0} {more : Reading A} (kind : What → Bool) (This : Spelling A)
    → Reads more This → Reads (want kind >>= λ _. more) (Behind kind This)
reads_behind kind This a =
    reads_as (Then (Nothing kind) (λ _. This)) (Behind kind This) (λ start rest x. λ (u, mid, came, this). (mid, came, this))
    (reads_then (Nothing kind) (λ _. This) (reads_want kind) (λ _. a))

-- the same, and something made of it
pub reads_behind_made : {A B : Type 0} {more : Reading B} (kind : What → Bool) (make : A → B) (This : Spelling A)
    → Reads more (Made make This) → Reads (want kind >>= λ _. more) (Made make (Behind kind This))
reads_behind_made kind make This a =
    reads_as (Behind kind (Made make This)) (Made make (Behind kind This)) (λ start rest y. λ (mid, came, (x, this, is)). (x, (mid, came, this), is))
    (reads_behind kind (Made make This) a)

-- something made of two things
pub reads_pair : {A B C : Type 0} {r : Reading A} {more : A → Reading C} (make : A × B → C) (This : Spelling A) (That : Spelling B)
    → Reads r This → ((x : A) → Reads (more x) (Made (λ y. make (x, y)) That)) → Reads (r >>= more) (Made make (Pair This That))
reads_pair make This That a b =
    reads_as (Then This (λ x. Made (λ y. make (x, y)) That)) (Made make (Pair This That))
    (λ start rest z. λ (x, mid, this, (y, that, is)). ((x, y), (mid, this, that), is))
    (reads_then This (λ x. Made (λ y. make (x, y)) That) a b)

-- nothing is made of it
pub reads_itself : {A : Type 0} {r : Reading A} (This : Spelling A) → Reads r (Made (λ x. x) This) → Reads r This
reads_itself {A} This a =
    reads_as (Made (λ x. x) This) This (λ start rest y. λ (x, this, is). subst (λ (z : A). This start rest z) (sym is) this) a

-- what is made of a thing that is read
pub found_made : {A B : Type 0} (make : A → B) (This : Spelling A) (read : Result (A × Input) ParseWhy) (input rest : Input) (y : B)
    → ((x : A) → read ≡ Ok (x, rest) → Found This input rest x) → then_at read (λ x. give (make x)) ≡ Ok (y, rest) → Found (Made make This) input rest y
found_made make This (Ok read) input rest y a h =
    let same = ok_is (make read.0, read.1) (y, rest) h in
    let left = ap (λ (p : _ × Input). p.1) same in
    let f = a read.0 (ap (λ (i : Input). Ok (read.0, i)) left) in
    record { spelled = (read.0, f.spelled, sym (ap (λ (p : _ × Input). p.0) same)); shorter = f.shorter }
found_made make This (Err why) input rest y a h = absurd cc

-- nothing is found where all is refused
pub reads_refused : {A : Type 0} (why : Input → ParseWhy) (This : Spelling A) → Reads (refuse why) This
reads_refused why This = record { found = λ input x rest h. absurd (let no_way = h in cc) }

-- a thing between tokens
pub reads_before : {A : Type 0} {r : Reading A} (kind : What → Bool) (This : Spelling A)
    → Reads r This → Reads (r >>= λ x. (want kind >>= λ _. give x)) (Before This kind)
reads_before {A} kind This a =
    reads_as (Then This (λ x. Then (Nothing kind) (λ _. Given x))) (Before This kind)
    (λ start rest y. λ (x, mid, p, more). (
    let q = more in
    (mid, subst (λ (z : A). This start mid z) (sym q.3.1) p, subst (λ (m : Input). Takes kind mid m) q.3.0 q.2)))
    (reads_then This (λ x. Then (Nothing kind) (λ _. Given x)) a (λ x. reads_then (Nothing kind) (λ _. Given x) (reads_want kind) (λ _. reads_give x)))

-- the same, and something made of it
pub reads_before_made : {A B : Type 0} {r : Reading A} (kind : What → Bool) (make : A → B) (This : Spelling A)
    → Reads r This → Reads (r >>= λ x. (want kind >>= λ _. give (make x))) (Made make (Before This kind))
reads_before_made {A} kind make This a =
    reads_as (Then This (λ x. Then (Nothing kind) (λ _. Given (make x)))) (Made make (Before This kind))
    (λ start rest y. λ (x, mid, p, (u, at, closing, given)). (x, (mid, p, subst (λ (m : Input). Takes kind mid m) given.0 closing), given.1))
    (reads_then This (λ x. Then (Nothing kind) (λ _. Given (make x))) a (λ x. reads_then (Nothing kind) (λ _. Given (make x)) (reads_want kind) (λ _. reads_give (make x))))

-- a token that stands for a thing by itself
pub found_is : {A : Type 0} (kind : What → Bool) (thing x : A) (input rest : Input)
    → comes kind input ≡ true → (step >>= λ _. give thing) input ≡ Ok (x, rest) → Found (Is kind thing) input rest x
found_is {A} kind thing x input rest first h =
    let same = ok_is (thing, behind input) (x, rest) h in
    subst (λ (r : Input). Found (Is kind thing) input r x) (ap (λ (p : A × Input). p.1) same)
    (record { spelled = ((first, refl), sym (ap (λ (p : A × Input). p.0) same)); shorter = fewer input })

pub found_as_made : {A B : Type 0} (thing : What → Option A) (make : A → B) (x : A) (y : B) (input rest : Input)
    → found_at thing input ≡ Some x → (step >>= λ _. give (make x)) input ≡ Ok (y, rest) → Found (Made make (As thing)) input rest y
found_as_made {A} {B} thing make x y input rest first h =
    let same = ok_is (make x, behind input) (y, rest) h in
    subst (λ (r : Input). Found (Made make (As thing)) input r y) (ap (λ (p : B × Input). p.1) same)
    (record { spelled = (x, (first, refl), sym (ap (λ (p : B × Input). p.0) same)); shorter = fewer input })

-- ---- a reading whose first token is known

abbrev pub FoundAfter : {A : Type 0} → (What → Bool) → Reading A → Spelling A → Type 0
FoundAfter {A} kind reading This =
    (input : Input) → comes kind input ≡ true → (x : A) (rest : Input) → reading input ≡ Ok (x, rest) → Found This input rest x

-- where that token comes, fewer tokens are left
abbrev pub Shrinks : {A : Type 0} → (What → Bool) → Reading A → Type 0
Shrinks {A} kind reading = (input : Input) → comes kind input ≡ true → (x : A) (rest : Input) → reading input ≡ Ok (x, rest) → length rest.left < length input.left

pub after : {A : Type 0} {reading : Reading A} (kind : What → Bool) (This : Spelling A) → Reads reading This → FoundAfter kind reading This
after kind This a input first x rest h = a.found input x rest h

pub after_step : {A : Type 0} {more : Reading A} (kind : What → Bool) (This : Spelling A) → Reads more This → FoundAfter kind (step >>= λ _. more) (Behind kind This)
after_step kind This a input first x rest h = found_step kind This input rest x first a h

-- what was found, and a token at least was taken
pub record Took {A : Type 0} (Spelled : Spelling A) (input rest : Input) (x : A) : Type 0 where
  pub spelled : Spelled input rest x
  pub shorter : length rest.left < length input.left

pub found_taken : {A : Type 0} (This : Spelling A) (input rest : Input) (x : A) → Took This input rest x → Found This input rest x
found_taken This input rest x t = record { spelled = t.spelled; shorter = omega (arith, t.shorter) }

pub took_as : {A : Type 0} (This That : Spelling A) (input rest : Input) (x : A) → (This input rest x → That input rest x) → Took This input rest x → Took That input rest x
took_as This That input rest x on t = record { spelled = on t.spelled; shorter = t.shorter }

pub took_then : {A B : Type 0} (This : Spelling A) (That : Spelling B) (All : Spelling B) (input mid rest : Input) (x : A) (y : B)
    → (This input mid x → That mid rest y → All input rest y)
    → Took This input mid x → Found That mid rest y → Took All input rest y
took_then This That All input mid rest x y both a b =
    record { spelled = both a.spelled b.spelled; shorter = omega (arith, a.shorter, b.shorter) }

pub took_step : {A : Type 0} {more : Reading A} (kind : What → Bool) (This : Spelling A) (input rest : Input) (x : A)
    → comes kind input ≡ true → Reads more This → (step >>= λ _. more) input ≡ Ok (x, rest) → Took (Behind kind This) input rest x
took_step kind This input rest x first a h =
    let one = step_shorter kind input first in
    let more = a.found (behind input) x rest h in
    record { spelled = (behind input, (first, refl), more.spelled); shorter = omega (arith, one, more.shorter) }

pub step_shrinks : {A : Type 0} {more : Reading A} (kind : What → Bool) (This : Spelling A) → Reads more This → Shrinks kind (step >>= λ _. more)
step_shrinks kind This a input first x rest h = (took_step kind This input rest x first a h).shorter

-- a reading that takes a token of this kind, where it comes
abbrev pub TookAfter : {A : Type 0} → (What → Bool) → Reading A → Spelling A → Type 0
TookAfter {A} kind reading This = (input : Input) → comes kind input ≡ true → (x : A) (rest : Input) → reading input ≡ Ok (x, rest) → Took This input rest x

-- something is made of what stands behind the token
pub took_made : {A B : Type 0} {more : Reading B} (kind : What → Bool) (make : A → B) (This : Spelling A)
    → Reads more (Made make This) → TookAfter kind (step >>= λ _. more) (Made make (Behind kind This))
took_made kind make This a input came y rest h =
    took_as (Behind kind (Made make This)) (Made make (Behind kind This)) input rest y (λ (mid, first, (x, this, is)). (x, (mid, first, this), is))
    (took_step kind (Made make This) input rest y came a h)

pub after_taken : {A : Type 0} {reading : Reading A} (kind : What → Bool) (This : Spelling A) → TookAfter kind reading This → FoundAfter kind reading This
after_taken kind This a input came x rest h = found_taken This input rest x (a input came x rest h)

-- ---- lists

-- a thing, and then a list
abbrev pub Cons : {A B : Type 0} → (A → B) → Spelling A → Spelling (List B) → Spelling (List B)
Cons {A} {B} make This Rest start rest ys = (x : A) × (xs : List B) × (mid : Input) × This start mid x × Rest mid rest xs × (ys ≡ make x ∷ xs)

pub reads_cons : {A B : Type 0} {r : Reading A} {rs : Reading (List B)} (make : A → B) (This : Spelling A) (Rest : Spelling (List B))
    → Reads r This → Reads rs Rest → Reads (r >>= λ x. (rs >>= λ xs. give (make x ∷ xs))) (Cons make This Rest)
reads_cons {A} {B} make This Rest a b =
    reads_as (Then This (λ x. Made (λ xs. make x ∷ xs) Rest)) (Cons make This Rest)
    (λ start rest ys. λ (x, mid, p, more). (x, more.0, mid, p, more.1, more.2))
    (reads_then This (λ x. Made (λ xs. make x ∷ xs) Rest) a (λ x. reads_made (λ xs. make x ∷ xs) Rest b))

-- the same, where the thing's first token is known
after_cons : {A : Type 0} {r : Reading A} {rs : Reading (List A)} (kind : What → Bool) (This : Spelling A) (Rest : Spelling (List A))
    → FoundAfter kind r This → Reads rs Rest → FoundAfter kind (r >>= λ x. (rs >>= λ xs. give (x ∷ xs))) (Cons (λ x. x) This Rest)
after_cons {r = r} {rs = rs} kind This Rest a b input came ys rest h =
    let parts = then_ok (r input) (λ x. (rs >>= λ xs. give (x ∷ xs))) ys rest h in
    let more = (reads_made (λ xs. parts.0 ∷ xs) Rest b).found parts.1 ys rest parts.3 in
    found_then This (Made (λ xs. parts.0 ∷ xs) Rest) (Cons (λ x. x) This Rest) input parts.1 rest parts.0 ys
    (λ p q. (parts.0, q.0, parts.1, p, q.1, q.2)) (a input came parts.0 parts.1 parts.2) more

one_more : {A : Type 0} (room : ℕ) (This : Spelling A) (start rest : Input) (ys : List A)
    → Cons (λ x. x) This (AtMost room (Many This)) start rest ys → AtMost (suc room) (Many This) start rest ys
one_more {A} room This start rest ys (x, xs, mid, this, (few, more), is) =
    subst (λ (zs : List A). AtMost (suc room) (Many This) start rest zs) (sym is) (omega (arith, few), (mid, this, more))

pub none_many : {A : Type 0} (room : ℕ) (This : Spelling A) (start rest : Input) (ys : List A) → Given [] start rest ys → AtMost room (Many This) start rest ys
none_many {A} room This start rest ys (same, is) =
    subst (λ (zs : List A). AtMost room (Many This) start rest zs) (sym is) (omega arith, same)

-- where there is no room nothing is read: either all is refused or none is taken
pub reads_repeated : {A : Type 0} (full : Reading (List A)) (room : ℕ) (begins : What → Bool) (thing : Reading A) (Thing : Spelling A)
    → FoundAfter begins full (Given []) → FoundAfter begins thing Thing → Reads (repeated full room begins thing) (AtMost room (Many Thing))
unfolding repeated
reads_repeated full zero begins thing Thing none a =
    reads_as _ (AtMost zero (Many Thing))
    (λ start rest ys. elim [ inl given ↦ none_many zero Thing start rest ys given | inr given ↦ none_many zero Thing start rest ys given ])
    (reads_if begins (Given []) (Given []) none (reads_give []))
reads_repeated full (suc room) begins thing Thing none a =
    reads_as _ (AtMost (suc room) (Many Thing))
    (λ start rest ys. elim [ inl one ↦ one_more room Thing start rest ys one | inr given ↦ none_many (suc room) Thing start rest ys given ])
    (reads_if begins (Cons (λ x. x) Thing (AtMost room (Many Thing))) (Given [])
    (after_cons begins Thing (AtMost room (Many Thing)) a (reads_repeated full room begins thing Thing none a))
    (reads_give []))

-- at most so many, beyond which all is refused
pub reads_at_most : {A : Type 0} (why : Input → ParseWhy) (room : ℕ) (begins : What → Bool) (thing : Reading A) (Thing : Spelling A)
    → FoundAfter begins thing Thing → Reads (repeated (refuse why) room begins thing) (AtMost room (Many Thing))
reads_at_most why room begins thing Thing a =
    reads_repeated (refuse why) room begins thing Thing (after begins (Given []) (reads_refused why (Given []))) a

-- as many as there are
pub reads_all : {A : Type 0} (begins : What → Bool) (thing : Reading A) (Thing : Spelling A)
    → FoundAfter begins thing Thing → Reads (all_of begins thing) (Many Thing)
reads_all begins thing Thing a =
    record {
      found = λ input xs rest h. (
          let f = (reads_repeated (give []) (length input.left) begins thing Thing (after begins (Given []) (reads_give [])) a).found input xs rest h in
          record { spelled = f.spelled.1; shorter = f.shorter });
    }

-- where one comes and there is room for it, it is read
pub repeated_some : {A : Type 0} (full : Reading (List A)) (room less : ℕ) (begins : What → Bool) (thing : Reading A) (input rest : Input) (xs : List A)
    → room ≡ suc less → comes begins input ≡ true → repeated full room begins thing input ≡ Ok (xs, rest) → 1 ≤ length xs
unfolding repeated
repeated_some {A} full room less begins thing input rest xs e came h =
    let one = then_ok (thing input) _ xs rest (rw (e, came) at h) in
    let more = then_ok (repeated full less begins thing one.1) _ xs rest one.3 in
    let same = ap (λ (p : List A × Input). p.0) (ok_is (one.0 ∷ more.0, more.1) (xs, rest) more.3) in
    subst (λ (ys : List A). 1 ≤ length ys) same (omega arith)

pub all_some : {A : Type 0} (begins : What → Bool) (thing : Reading A) (input rest : Input) (xs : List A)
    → comes begins input ≡ true → all_of begins thing input ≡ Ok (xs, rest) → 1 ≤ length xs
all_some begins thing input rest xs came h =
    repeated_some (give []) (length input.left) (length (behind input).left) begins thing input rest xs (sym (step_shorter begins input came)) came h

-- things with commas between them
pub reads_further : {A : Type 0} (room : ℕ) (beyond : Input → ParseWhy) (thing : Reading A) (Thing : Spelling A)
    → Reads thing Thing → Reads (further room beyond thing) (AtMost room (Many (Behind comma Thing)))
reads_further room beyond thing Thing a =
    reads_repeated (step >>= λ _. refuse beyond) room comma (step >>= λ _. thing) (Behind comma Thing)
    (λ input came xs rest h. absurd (let no_way = h in cc)) (after_step comma Thing a)

pub reads_items : {A : Type 0} (limit : ℕ) (closing : Sign) (beyond : Input → ParseWhy) (thing : Reading A) (Thing : Spelling A)
    → 0 < limit → Reads thing Thing → Reads (items limit closing beyond thing) (Listed limit Thing)
unfolding items
reads_items {A} limit closing beyond thing Thing some a =
    reads_as _ (Listed limit Thing)
    (λ start rest ys. elim [
      | inl none ↦ subst (λ (zs : List A). Listed limit Thing start rest zs) (sym none.1) (omega arith, none.0)
      | inr one ↦ subst (λ (zs : List A). Listed limit Thing start rest zs) (sym one.5) (omega (arith, one.4.0, some), (one.2, one.3, one.4.1))
    ])
    (reads_if (is_sign closing) (Given []) (Cons (λ x. x) Thing (AtMost (limit - 1) (Many (Behind comma Thing))))
    (after (is_sign closing) (Given []) (reads_give []))
    (reads_cons (λ x. x) Thing (AtMost (limit - 1) (Many (Behind comma Thing))) a (reads_further (limit - 1) beyond thing Thing a)))

-- ---- tokens that open

open_ok : {A : Type 0} (deeper : Option A) (input mid : Input) (inner : A) → open_level deeper input ≡ Ok (inner, mid) → (deeper ≡ Some inner) × (behind input ≡ mid)
unfolding open_level
open_ok None input mid inner h = absurd (let no_way = h in cc)
open_ok {A} (Some level) input mid inner h =
    let same = ok_is (level, behind input) (inner, mid) h in
    (ap (λ (p : A × Input). Some p.0) same, ap (λ (p : A × Input). p.1) same)

pub found_open : {A B : Type 0} {more : A → Reading B} (deeper : Option A) (kind : What → Bool) (This : Spelling B)
    → ((inner : A) → deeper ≡ Some inner → Reads (more inner) This) → FoundAfter kind (open_level deeper >>= more) (Behind kind This)
found_open {more = more} deeper kind This a input first x rest h =
    let parts = then_ok (open_level deeper input) more x rest h in
    let opened = open_ok deeper input parts.1 parts.0 parts.2 in
    let read = subst (λ (i : Input). more parts.0 i ≡ Ok (x, rest)) (sym opened.1) parts.3 in
    found_step kind This input rest x first (a parts.0 opened.0) read

pub reads_open : {A B : Type 0} {more : A → Reading B} (deeper : Option A) (opening : Sign) (This : Spelling B)
    → ((inner : A) → deeper ≡ Some inner → Reads (more inner) This) → Reads (open_sign opening deeper >>= more) (Behind (is_sign opening) This)
unfolding open_sign
reads_open {more = more} deeper opening This a =
    record {
      found = λ input x rest h. (
          let parts = then_ok (open_sign opening deeper input) more x rest h in
          elim (chosen (comes (is_sign opening) input) (open_level deeper input) (unexpected input) (Ok (parts.0, parts.1)) parts.2) [
            | inl w ↦ found_open deeper (is_sign opening) This a input w.0 x rest (ap (λ read. then_at read more) w.1 ∙ parts.3)
            | inr w ↦ absurd (let no_way = w.1 in cc)
          ]);
    }
