-- What a reading gives, and where it refuses, depends on the tokens that it takes and on the next one, and on no others:
-- one lemma for each way to put readings together.
use Rattle.std.proofs.Common.{◌≡◌, ℕ, zero, suc, ◌+◌, ◌<◌, ◌≤◌, ◌⊎◌, Bool, true, false, if◌then◌else◌, Option, Some, None, Result, Ok, Err, List, [], ◌∷◌, ◌++◌, length, drop, append_assoc, refl, sym, ap, ◌∙◌, subst, inl, inr, arith, length-append}
use Rattle.fb_syntax.specs.declared.sign.Sign.{Sign}
use Rattle.fb_syntax.specs.declared.token.What.{What}
use Rattle.fb_syntax.specs.declared.token.Token.{Token}
use Rattle.fb_syntax.specs.declared.parse_error.ParseWhy.{ParseWhy}
use Rattle.fb_syntax.specs.declared.parse_error.ParseWhy.TheVariants.{Unexpected, TooDeep, TooMany}
use Rattle.fb_syntax.specs.Input.{Input, place_of, place, by_first, comes, found_at, behind}
use Rattle.fb_syntax.specs.TokenKinds.{is_sign, comma}
use Rattle.fb_syntax.specs.Reading.{Reading, then_at, ◌>>=◌, give, refuse, unexpected, too_deep, too_many, step, if_comes, want, taken, open_level, open_sign, repeated, all_of, further, items}
use Rattle.fb_syntax.specs.Refusals.{parser_place}
use Rattle.fb_syntax.proofs.Choices.{chosen}
use Rattle.fb_syntax.proofs.Turns.{ok_is, step_shorter}
use Rattle.fb_syntax.proofs.Sound.{then_ok}

-- ---- inputs that begin alike

-- the same token comes, after as many calls
pub record Same (input other : Input) : Type 0 where
  pub first : Token
  pub more : List Token
  pub others : List Token
  pub is : input.left ≡ first ∷ more
  pub also : other.left ≡ first ∷ others
  pub calls : other.calls ≡ input.calls

-- what is left behind these tokens
abbrev pub led : List Token → ℕ → Input → Input
led front calls input = record { left = front ++ input.left; end = input.end; calls = calls }

pub led_none : (calls : ℕ) (other : Input) → other.calls ≡ calls → led [] calls other ≡ other
led_none calls other same = ap (λ (n : ℕ). record { left = other.left; end = other.end; calls = n }) (sym same)

same_by : (left front behind_front : List Token) (input other : Input) → input.left ≡ left → left ≡ front ++ behind_front → Same (record { left = behind_front; end = 0; calls = other.calls }) other
    → Same input (led front input.calls other)
same_by left [] rest input other is cut same =
    record { first = same.first; more = same.more; others = same.others; is = is ∙ cut ∙ same.is; also = same.also; calls = refl }
same_by left (t ∷ front) rest input other is cut same =
    record { first = t; more = front ++ rest; others = front ++ other.left; is = is ∙ cut; also = refl; calls = refl }

-- behind the same front the same first token comes
pub same_led : (input rest other : Input) (front : List Token) → input.left ≡ front ++ rest.left → Same rest other → Same input (led front input.calls other)
same_led input rest other front cut same =
    same_by input.left front rest.left input other refl cut
    (record { first = same.first; more = same.more; others = same.others; is = same.is; also = same.also; calls = refl })

pub same_first : {V : Type 0} (none : V) (some : What → V) (input other : Input) → Same input other → by_first other.left none some ≡ by_first input.left none some
same_first none some input other same = ap (λ (l : List Token). by_first l none some) same.also ∙ sym (ap (λ (l : List Token). by_first l none some) same.is)

pub same_place : (input other : Input) → Same input other → place other ≡ place input
same_place input other same = ap (λ (l : List Token). place_of l other.end) same.also ∙ sym (ap (λ (l : List Token). place_of l input.end) same.is)

pub same_comes : (kind : What → Bool) (input other : Input) → Same input other → comes kind other ≡ comes kind input
unfolding comes
same_comes kind input other same = same_first false kind input other same

pub none_same : (input other : Input) → input.left ≡ [] → Same input other → ⊥
none_same input other none same = absurd (let no_way = sym none ∙ same.is in cc)

-- ---- what a reading tells

pub record Ends {A : Type 0} (reading : Reading A) (input : Input) (x : A) (rest : Input) : Type 0 where
  pub front : List Token
  pub cut : input.left ≡ front ++ rest.left
  pub end : rest.end ≡ input.end
  pub again : (other : Input) → Same rest other → reading (led front input.calls other) ≡ Ok (x, other)

pub record Stops {A : Type 0} (reading : Reading A) (input : Input) (why : ParseWhy) : Type 0 where
  pub front : List Token
  pub stuck : Input
  pub cut : input.left ≡ front ++ stuck.left
  pub end : stuck.end ≡ input.end
  pub place : parser_place why ≡ Some (place stuck)
  pub again : (other : Input) → Same stuck other → reading (led front input.calls other) ≡ Err why

pub record Local {A : Type 0} (reading : Reading A) : Type 0 where
  pub ends : (input : Input) (x : A) (rest : Input) → reading input ≡ Ok (x, rest) → Ends reading input x rest
  pub stops : (input : Input) (why : ParseWhy) → reading input ≡ Err why → Stops reading input why

-- ---- the first token

pub local_give : {A : Type 0} (x : A) → Local (give x)
local_give {A} x =
    record {
      ends = λ input y rest h. (
          let same = ok_is (x, input) (y, rest) h in
          let is = ap (λ (p : A × Input). p.0) same in
          let left = ap (λ (p : A × Input). p.1) same in
          record {
            front = [];
            cut = ap (λ (i : Input). i.left) left;
            end = ap (λ (i : Input). i.end) (sym left);
            again = λ other alike. (
                let calls = alike.calls ∙ ap (λ (i : Input). i.calls) (sym left) in
                ap (λ (i : Input). Ok (x, i)) (led_none input.calls other calls) ∙ ap (λ (z : A). Ok (z, other)) is);
          });
      stops = λ input why h. absurd (let no_way = h in cc);
    }

-- why a reading refuses depends on the first token alone
pub record ByFirst (why : Input → ParseWhy) : Type 0 where
  pub placed : (input : Input) → parser_place (why input) ≡ Some (place input)
  pub same : (input other : Input) → Same input other → why other ≡ why input

pub local_refuse : {A : Type 0} (why : Input → ParseWhy) → ByFirst why → Local (refuse {A = A} why)
local_refuse why by =
    record {
      ends = λ input x rest h. absurd (let no_way = h in cc);
      stops = λ input found h. (
          let is : why input ≡ found = cc in
          record {
            front = [];
            stuck = input;
            cut = refl;
            end = refl;
            place = ap parser_place (sym is) ∙ by.placed input;
            again = λ other alike. ap (λ (w : ParseWhy). Err w)
                (ap why (led_none input.calls other alike.calls) ∙ by.same input other alike ∙ is);
          });
    }

pub unexpected_by_first : ByFirst (λ input. Unexpected (place input))
unexpected_by_first = record { placed = λ input. refl; same = λ input other alike. ap (λ n. Unexpected n) (same_place input other alike) }

pub deep_by_first : ByFirst (λ input. TooDeep (place input))
deep_by_first = record { placed = λ input. refl; same = λ input other alike. ap (λ n. TooDeep n) (same_place input other alike) }

pub many_by_first : ByFirst (λ input. TooMany (place input))
many_by_first = record { placed = λ input. refl; same = λ input other alike. ap (λ n. TooMany n) (same_place input other alike) }

pub local_unexpected : {A : Type 0} → Local (unexpected {A = A})
local_unexpected {A = A} = local_refuse {A = A} (λ input. Unexpected (place input)) unexpected_by_first

pub local_too_deep : {A : Type 0} → Local (too_deep {A = A})
local_too_deep {A = A} = local_refuse {A = A} (λ input. TooDeep (place input)) deep_by_first

pub local_too_many : {A : Type 0} → Local (too_many {A = A})
local_too_many {A = A} = local_refuse {A = A} (λ input. TooMany (place input)) many_by_first

-- a reading that goes by the first token
pub local_first : {A V : Type 0} (none : V) (some : What → V) (pick : V → Reading A) → ((v : V) → Local (pick v)) → Local (λ input. pick (by_first input.left none some) input)
local_first none some pick each =
    record {
      ends = λ input x rest h. (
          let e = (each (by_first input.left none some)).ends input x rest h in
          record {
            front = e.front;
            cut = e.cut;
            end = e.end;
            again = λ other alike.
                ap (λ v. pick v (led e.front input.calls other)) (same_first none some input (led e.front input.calls other) (same_led input rest other e.front e.cut alike))
                ∙ e.again other alike;
          });
      stops = λ input why h. (
          let s = (each (by_first input.left none some)).stops input why h in
          record {
            front = s.front;
            stuck = s.stuck;
            cut = s.cut;
            end = s.end;
            place = s.place;
            again = λ other alike.
                ap (λ v. pick v (led s.front input.calls other)) (same_first none some input (led s.front input.calls other) (same_led input s.stuck other s.front s.cut alike))
                ∙ s.again other alike;
          });
    }

abbrev either : {A : Type 0} → Reading A → Reading A → Bool → Reading A
either this that b input = if b then this input else that input

local_either : {A : Type 0} (this that : Reading A) → Local this → Local that → (b : Bool) → Local (either this that b)
local_either this that a b true = record { ends = a.ends; stops = a.stops }
local_either this that a b false = record { ends = b.ends; stops = b.stops }

pub local_if : {A : Type 0} {this that : Reading A} (kind : What → Bool) → Local this → Local that → Local (if_comes kind this that)
unfolding comes
local_if {this = this} {that = that} kind a b = local_first false kind (either this that) (local_either this that a b)

stepped : (left : List Token) (input rest : Input) (u : Unit {0}) → input.left ≡ left → step input ≡ Ok (u, rest) → Ends step input u rest
stepped [] input rest u none h =
    let same = ap (λ (p : Unit {0} × Input). p.1) (ok_is (tt, behind input) (u, rest) h) in
    let empty : rest.left ≡ [] = ap (λ (i : Input). i.left) (sym same) ∙ ap (drop 1) none in
    record {
      front = [];
      cut = none ∙ sym empty;
      end = ap (λ (i : Input). i.end) (sym same);
      again = λ other alike. absurd (none_same rest other empty alike);
    }
stepped (t ∷ more) input rest u is h =
    let same = ap (λ (p : Unit {0} × Input). p.1) (ok_is (tt, behind input) (u, rest) h) in
    let left : more ≡ rest.left = ap (drop 1) (sym is) ∙ ap (λ (i : Input). i.left) same in
    record {
      front = t ∷ [];
      cut = is ∙ ap (λ (l : List Token). t ∷ l) left;
      end = ap (λ (i : Input). i.end) (sym same);
      again = λ other alike. ap (λ (i : Input). Ok (u, i)) (led_none input.calls other (alike.calls ∙ ap (λ (i : Input). i.calls) (sym same)));
    }

pub local_step : Local step
local_step =
    record {
      ends = λ input u rest h. stepped input.left input rest u refl h;
      stops = λ input why h. absurd (let no_way = h in cc);
    }

-- ---- one after the other

led_both : (front more : List Token) (calls between : ℕ) (other : Input) → led (front ++ more) calls other ≡ led front calls (led more between other)
led_both front more calls between other = ap (λ (l : List Token). record { left = l; end = other.end; calls = calls }) (append_assoc front more other.left)

then_err : {A B : Type 0} (read : Result (A × Input) ParseWhy) (more : A → Reading B) (why : ParseWhy)
    → then_at read more ≡ Err why → (read ≡ Err why) ⊎ ((x : A) × (mid : Input) × (read ≡ Ok (x, mid)) × (more x mid ≡ Err why))
then_err (Ok read) more why h = inr (read.0, read.1, refl, h)
then_err (Err other) more why h = inl (let e : other ≡ why = cc in ap (λ (w : ParseWhy). Err w) e)

pub local_then : {A B : Type 0} {r : Reading A} {more : A → Reading B} → Local r → ((x : A) → Local (more x)) → Local (r >>= more)
local_then {A} {B} {r = r} {more = more} a b =
    record {
      ends = λ input y rest h. (
          let parts = then_ok (r input) more y rest h in
          let x = parts.0 in
          let mid = parts.1 in
          let e = a.ends input x mid parts.2 in
          let f = (b x).ends mid y rest parts.3 in
          record {
            front = e.front ++ f.front;
            cut = e.cut ∙ ap (λ (l : List Token). e.front ++ l) f.cut ∙ sym (append_assoc e.front f.front rest.left);
            end = f.end ∙ e.end;
            again = λ other alike. (
                let between = led f.front mid.calls other in
                ap (λ (i : Input). then_at (r i) more) (led_both e.front f.front input.calls mid.calls other)
                ∙ ap (λ (read : Result (A × Input) ParseWhy). then_at read more) (e.again between (same_led mid rest other f.front f.cut alike))
                ∙ f.again other alike);
          });
      stops = λ input why h. elim (then_err (r input) more why h) [
        | inl first ↦ (
            let s = a.stops input why first in
            record {
              front = s.front;
              stuck = s.stuck;
              cut = s.cut;
              end = s.end;
              place = s.place;
              again = λ other alike. ap (λ (read : Result (A × Input) ParseWhy). then_at read more) (s.again other alike);
            })
        | inr later ↦ (
            let x = later.0 in
            let mid = later.1 in
            let e = a.ends input x mid later.2 in
            let s = (b x).stops mid why later.3 in
            record {
              front = e.front ++ s.front;
              stuck = s.stuck;
              cut = e.cut ∙ ap (λ (l : List Token). e.front ++ l) s.cut ∙ sym (append_assoc e.front s.front s.stuck.left);
              end = s.end ∙ e.end;
              place = s.place;
              again = λ other alike. (
                  let between = led s.front mid.calls other in
                  ap (λ (i : Input). then_at (r i) more) (led_both e.front s.front input.calls mid.calls other)
                  ∙ ap (λ (read : Result (A × Input) ParseWhy). then_at read more) (e.again between (same_led mid s.stuck other s.front s.cut alike))
                  ∙ s.again other alike);
            })
      ];
    }

-- ---- tokens

pub local_want : (kind : What → Bool) → Local (want kind)
unfolding want
local_want kind = local_if kind local_step local_unexpected

local_taken_by : {A : Type 0} (o : Option A) → Local (taken o)
local_taken_by None = local_unexpected
local_taken_by (Some x) = local_then local_step (λ _. local_give x)

pub local_taken : {A : Type 0} (thing : What → Option A) → Local (λ input. taken (found_at thing input) input)
local_taken thing = local_first None thing taken local_taken_by

-- behind a token that opens
pub local_open : {A B : Type 0} {more : A → Reading B} (deeper : Option A) → ((inner : A) → deeper ≡ Some inner → Local (more inner)) → Local (open_level deeper >>= more)
unfolding open_level
local_open {B = B} None each = local_too_deep {A = B}
local_open (Some inner) each = local_then local_step (λ _. each inner refl)

pub local_same : {A : Type 0} {r s : Reading A} → ((input : Input) → r input ≡ s input) → Local s → Local r
local_same same a =
    record {
      ends = λ input x rest h. (
          let e = a.ends input x rest (sym (same input) ∙ h) in
          record { front = e.front; cut = e.cut; end = e.end; again = λ other alike. same (led e.front input.calls other) ∙ e.again other alike });
      stops = λ input why h. (
          let s = a.stops input why (sym (same input) ∙ h) in
          record {
            front = s.front;
            stuck = s.stuck;
            cut = s.cut;
            end = s.end;
            place = s.place;
            again = λ other alike. same (led s.front input.calls other) ∙ s.again other alike;
          });
    }

then_either : {A B : Type 0} (b : Bool) (this that : Result (A × Input) ParseWhy) (more : A → Reading B)
    → then_at (if b then this else that) more ≡ (if b then then_at this more else then_at that more)
then_either true this that more = refl
then_either false this that more = refl

pub local_open_sign : {A B : Type 0} {more : A → Reading B} (opening : Sign) (deeper : Option A) → ((inner : A) → deeper ≡ Some inner → Local (more inner)) → Local (open_sign opening deeper >>= more)
unfolding open_sign
local_open_sign {B = B} {more = more} opening deeper each =
    local_same (λ input. then_either (comes (is_sign opening) input) (open_level deeper input) (unexpected input) more)
    (local_if (is_sign opening) (local_open {more = more} deeper each) (local_unexpected {A = B}))

-- ---- lists

pub local_repeated : {A : Type 0} (full : Reading (List A)) (room : ℕ) (begins : What → Bool) (thing : Reading A) → Local full → Local thing → Local (repeated full room begins thing)
unfolding repeated
local_repeated full zero begins thing f a = local_if begins f (local_give [])
local_repeated full (suc room) begins thing f a =
    local_if begins (local_then a (λ x. local_then (local_repeated full room begins thing f a) (λ rest. local_give (x ∷ rest)))) (local_give [])

pub local_further : {A : Type 0} (room : ℕ) (beyond : Input → ParseWhy) (thing : Reading A) → ByFirst beyond → Local thing → Local (further room beyond thing)
local_further room beyond thing by a =
    local_repeated (step >>= λ _. refuse beyond) room comma (step >>= λ _. thing)
    (local_then local_step (λ _. local_refuse beyond by)) (local_then local_step (λ _. a))

pub local_items : {A : Type 0} (limit : ℕ) (closing : Sign) (beyond : Input → ParseWhy) (thing : Reading A) → ByFirst beyond → Local thing → Local (items limit closing beyond thing)
unfolding items
local_items limit closing beyond thing by a =
    local_if (is_sign closing) (local_give [])
    (local_then a (λ first. local_then (local_further _ beyond thing by a) (λ rest. local_give (first ∷ rest))))

-- ---- as many things as there are

-- less is left behind a thing whose first token is of this kind
abbrev pub Takes : {A : Type 0} → (What → Bool) → Reading A → Type 0
Takes {A} kind reading = (input : Input) → comes kind input ≡ true → (x : A) (rest : Input) → reading input ≡ Ok (x, rest) → length rest.left < length input.left

record EndsIn {A : Type 0} (begins : What → Bool) (thing : Reading A) (input : Input) (xs : List A) (rest : Input) : Type 0 where
  front : List Token
  cut : input.left ≡ front ++ rest.left
  end : rest.end ≡ input.end
  again : (room : ℕ) (other : Input) → Same rest other → length front + length other.left ≤ room → repeated (give []) room begins thing (led front input.calls other) ≡ Ok (xs, other)

record StopsIn {A : Type 0} (begins : What → Bool) (thing : Reading A) (input : Input) (why : ParseWhy) : Type 0 where
  front : List Token
  stuck : Input
  cut : input.left ≡ front ++ stuck.left
  end : stuck.end ≡ input.end
  place : parser_place why ≡ Some (place stuck)
  again : (room : ℕ) (other : Input) → Same stuck other → length front + length other.left ≤ room → repeated (give []) room begins thing (led front input.calls other) ≡ Err why

none_read : {A : Type 0} (begins : What → Bool) (thing : Reading A) (room : ℕ) (input : Input) → comes begins input ≡ false → repeated (give []) room begins thing input ≡ Ok ([], input)
unfolding repeated
none_read begins thing zero input none = rw none refl
none_read begins thing (suc room) input none = rw none refl

no_tokens : (kind : What → Bool) (left : List Token) → length left ≤ 0 → by_first left false kind ≡ false
no_tokens kind [] le = refl
no_tokens kind (first ∷ rest) le = absurd (omega (arith, le))

comes_none : (kind : What → Bool) (input : Input) → length input.left ≤ 0 → comes kind input ≡ false
unfolding comes
comes_none kind input le = no_tokens kind input.left le

some_left : (input other : Input) (calls : ℕ) → Same input other → 1 ≤ length other.left
some_left input other calls alike = omega (arith, ap length alike.also)

-- where none is taken
nothing_in : {A : Type 0} (begins : What → Bool) (thing : Reading A) (input : Input) (xs : List A) (rest : Input)
    → comes begins input ≡ false → (let wrap : List A × Input → Result (List A × Input) ParseWhy = λ z. Ok z in wrap ([], input) ≡ wrap (xs, rest)) → EndsIn begins thing input xs rest
nothing_in {A} begins thing input xs rest none h =
    let same = ok_is ([], input) (xs, rest) h in
    let is = ap (λ (p : List A × Input). p.0) same in
    let left = ap (λ (p : List A × Input). p.1) same in
    record {
      front = [];
      cut = ap (λ (i : Input). i.left) left;
      end = ap (λ (i : Input). i.end) (sym left);
      again = λ room other alike le. (
          let calls = alike.calls ∙ ap (λ (i : Input). i.calls) (sym left) in
          let first = subst (λ (i : Input). Same i other) (sym left) alike in
          ap (repeated (give []) room begins thing) (led_none input.calls other calls)
          ∙ none_read begins thing room other (same_comes begins input other first ∙ none)
          ∙ ap (λ (ys : List A). Ok (ys, other)) is);
    }

-- a turn
one_read : {A : Type 0} (begins : What → Bool) (thing : Reading A) (room : ℕ) (input mid rest : Input) (x : A) (ys : List A)
    → comes begins input ≡ true → thing input ≡ Ok (x, mid) → repeated (give []) room begins thing mid ≡ Ok (ys, rest)
    → repeated (give []) (suc room) begins thing input ≡ Ok (x ∷ ys, rest)
unfolding repeated
one_read begins thing room input mid rest x ys came read more = rw (came, read, more) refl

first_refused : {A : Type 0} (begins : What → Bool) (thing : Reading A) (room : ℕ) (input : Input) (why : ParseWhy)
    → comes begins input ≡ true → thing input ≡ Err why → repeated (give []) (suc room) begins thing input ≡ Err why
unfolding repeated
first_refused begins thing room input why came read = rw (came, read) refl

later_refused : {A : Type 0} (begins : What → Bool) (thing : Reading A) (room : ℕ) (input mid : Input) (x : A) (why : ParseWhy)
    → comes begins input ≡ true → thing input ≡ Ok (x, mid) → repeated (give []) room begins thing mid ≡ Err why
    → repeated (give []) (suc room) begins thing input ≡ Err why
unfolding repeated
later_refused begins thing room input mid x why came read more = rw (came, read, more) refl

room_left : (room needed : ℕ) → suc needed ≤ room → (less : ℕ) × (room ≡ suc less) × (needed ≤ less)
room_left zero needed le = absurd (omega (arith, le))
room_left (suc less) needed le = (less, refl, omega (arith, le))

-- what was taken is a token at least
some_front : (input mid : Input) (front : List Token) → input.left ≡ front ++ mid.left → length mid.left < length input.left → 1 ≤ length front
some_front input mid front cut less = omega (arith, ap length cut, length-append front mid.left, less)

module _ {A : Type 0} (begins : What → Bool) (thing : Reading A) (takes : Takes begins thing) (a : Local thing) where
  ends_in : (room : ℕ) (input : Input) (xs : List A) (rest : Input) → length input.left ≤ room → repeated (give []) room begins thing input ≡ Ok (xs, rest) → EndsIn begins thing input xs rest
  unfolding repeated
  ends_in zero input xs rest le h =
      let none = comes_none begins input le in
      nothing_in begins thing input xs rest none (sym (none_read begins thing zero input none) ∙ h)
  ends_in (suc room) input xs rest le h =
      elim (chosen (comes begins input) _ _ (Ok (xs, rest)) h) [
        | inr w ↦ nothing_in begins thing input xs rest w.0 w.1
        | inl w ↦ (
            let one = then_ok (thing input) _ xs rest w.1 in
            let x = one.0 in
            let mid = one.1 in
            let e = a.ends input x mid one.2 in
            let less = takes input w.0 x mid one.2 in
            let some = some_front input mid e.front e.cut less in
            let more = then_ok (repeated (give []) room begins thing mid) _ xs rest one.3 in
            let f = ends_in room mid more.0 more.1 (omega (arith, le, less)) more.2 in
            let same = ok_is (x ∷ more.0, more.1) (xs, rest) more.3 in
            let left = ap (λ (p : List A × Input). p.1) same in
            record {
              front = e.front ++ f.front;
              cut = e.cut ∙ ap (λ (l : List Token). e.front ++ l) f.cut ∙ ap (λ (i : Input). e.front ++ (f.front ++ i.left)) left ∙ sym (append_assoc e.front f.front rest.left);
              end = ap (λ (i : Input). i.end) (sym left) ∙ f.end ∙ e.end;
              again = λ room2 other alike le2. (
                  let first = subst (λ (i : Input). Same i other) (sym left) alike in
                  let between = led f.front mid.calls other in
                  let alike_mid = same_led mid more.1 other f.front f.cut first in
                  let alike_input = same_led input mid between e.front e.cut alike_mid in
                  let lengths = length-append e.front f.front in
                  let fits = room_left room2 (length f.front + length other.left) (omega (arith, le2, some, lengths)) in
                  ap (repeated (give []) room2 begins thing) (led_both e.front f.front input.calls mid.calls other)
                  ∙ ap (λ (n : ℕ). repeated (give []) n begins thing (led e.front input.calls between)) fits.1
                  ∙ one_read begins thing fits.0 (led e.front input.calls between) between other x more.0
                  (same_comes begins input (led e.front input.calls between) alike_input ∙ w.0) (e.again between alike_mid) (f.again fits.0 other first fits.2)
                  ∙ ap (λ (p : List A × Input). Ok (p.0, other)) same);
            })
      ]

  stops_in : (room : ℕ) (input : Input) (why : ParseWhy) → length input.left ≤ room → repeated (give []) room begins thing input ≡ Err why → StopsIn begins thing input why
  unfolding repeated
  stops_in zero input why le h = absurd (let no_way = sym (none_read begins thing zero input (comes_none begins input le)) ∙ h in cc)
  stops_in (suc room) input why le h =
      elim (chosen (comes begins input) _ _ (Err why) h) [
        | inr w ↦ absurd (let no_way = w.1 in cc)
        | inl w ↦ elim (then_err (thing input) _ why w.1) [
          | inl first ↦ (
              let s = a.stops input why first in
              record {
                front = s.front;
                stuck = s.stuck;
                cut = s.cut;
                end = s.end;
                place = s.place;
                again = λ room2 other alike le2. (
                    let alike_input = same_led input s.stuck other s.front s.cut alike in
                    let fits = room_left room2 0 (omega (arith, le2, some_left s.stuck other 0 alike)) in
                    ap (λ (n : ℕ). repeated (give []) n begins thing (led s.front input.calls other)) fits.1
                    ∙ first_refused begins thing fits.0 (led s.front input.calls other) why (same_comes begins input (led s.front input.calls other) alike_input ∙ w.0) (s.again other alike));
              })
          | inr later ↦ (
              let x = later.0 in
              let mid = later.1 in
              let e = a.ends input x mid later.2 in
              let less = takes input w.0 x mid later.2 in
              let some = some_front input mid e.front e.cut less in
              elim (then_err (repeated (give []) room begins thing mid) _ why later.3) [
                | inr given ↦ absurd (let no_way = given.3 in cc)
                | inl rest_refused ↦ (
                    let s = stops_in room mid why (omega (arith, le, less)) rest_refused in
                    record {
                      front = e.front ++ s.front;
                      stuck = s.stuck;
                      cut = e.cut ∙ ap (λ (l : List Token). e.front ++ l) s.cut ∙ sym (append_assoc e.front s.front s.stuck.left);
                      end = s.end ∙ e.end;
                      place = s.place;
                      again = λ room2 other alike le2. (
                          let between = led s.front mid.calls other in
                          let alike_mid = same_led mid s.stuck other s.front s.cut alike in
                          let alike_input = same_led input mid between e.front e.cut alike_mid in
                          let lengths = length-append e.front s.front in
                          let fits = room_left room2 (length s.front + length other.left) (omega (arith, le2, some, lengths)) in
                          ap (repeated (give []) room2 begins thing) (led_both e.front s.front input.calls mid.calls other)
                          ∙ ap (λ (n : ℕ). repeated (give []) n begins thing (led e.front input.calls between)) fits.1
                          ∙ later_refused begins thing fits.0 (led e.front input.calls between) between x why
                          (same_comes begins input (led e.front input.calls between) alike_input ∙ w.0) (e.again between alike_mid) (s.again fits.0 other alike fits.2));
                    })
              ])
        ]
      ]

  pub local_all : Local (all_of begins thing)
  local_all =
      record {
        ends = λ input xs rest h. (
            let e = ends_in (length input.left) input xs rest (omega arith) h in
            record {
              front = e.front;
              cut = e.cut;
              end = e.end;
              again = λ other alike. e.again (length (e.front ++ other.left)) other alike (omega (arith, length-append e.front other.left));
            });
        stops = λ input why h. (
            let s = stops_in (length input.left) input why (omega arith) h in
            record {
              front = s.front;
              stuck = s.stuck;
              cut = s.cut;
              end = s.end;
              place = s.place;
              again = λ other alike. s.again (length (s.front ++ other.left)) other alike (omega (arith, length-append s.front other.left));
            });
      }

-- behind a token, less is left
pub step_takes : {A : Type 0} (kind : What → Bool) (more : Reading A) → Local more → Takes kind (step >>= λ _. more)
step_takes kind more a input came x rest h =
    let e = a.ends (behind input) x rest h in
    omega (arith, step_shorter kind input came, ap length e.cut, length-append e.front rest.left)
