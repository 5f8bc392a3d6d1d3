-- One turn of a loop that reads a list, and its end.
use Rattle.std.proofs.Common.{◌≡◌, ℕ, zero, suc, ◌≤◌, ◌<◌, Bool, true, false, Option, Some, Result, Ok, Err, List, [], ◌∷◌, ◌++◌, length, drop, map, refl, sym, ap, ◌∙◌, arith, append_assoc}
use Rattle.std.proofs.lemmas.List.{append-nil, map-append}
use Rattle.fb_base.specs.declared.operator.Op2.{Op2}
use Rattle.fb_syntax.specs.declared.levels.Junction.{Junction}
use Rattle.fb_syntax.specs.declared.token.What.{What}
use Rattle.fb_syntax.specs.declared.token.Token.{Token}
use Rattle.fb_syntax.specs.declared.parse_error.ParseWhy.{ParseWhy}
use Rattle.fb_syntax.specs.declared.parse_error.ParseError.{ParseError}
use Rattle.fb_syntax.specs.declared.parse_error.ParseError.TheVariants as errors
use Rattle.fb_syntax.specs.Trees.{Expression}
use Rattle.fb_syntax.specs.Input.{Input, behind, by_first, comes, found_at}
use Rattle.fb_syntax.specs.TokenKinds.{is_word, junction_word}
use Rattle.fb_syntax.specs.Reading.{Reading, Gives, then_at, give, with_front, repeated}
use Rattle.fb_syntax.specs.Views.{junction_of}
use Rattle.fb_syntax.specs.ExpressionReading.{links, all_others, joined_by}

-- a thing that is read goes from what is to be read to what is held
pub front_push : {X : Type 0} (front : List X) (x : X) (read : Result (List X × Input) ParseWhy)
    → then_at read (λ rest. give ((front ++ x ∷ []) ++ rest)) ≡ then_at (then_at read (λ rest. give (x ∷ rest))) (λ rest. give (front ++ rest))
front_push front x (Ok read) = ap (λ all. Ok (all, read.1)) (append_assoc front (x ∷ []) read.0)
front_push front x (Err why) = refl

-- before anything is held
pub front_none : {X : Type 0} (read : Result (List X × Input) ParseWhy) → then_at read (λ rest. give ([] ++ rest)) ≡ read
front_none (Ok read) = refl
front_none (Err why) = refl

pub map_push : {X Y : Type 0} (f : X → Y) (xs ys : List X) (x : X) → ys ≡ xs ++ x ∷ [] → map f ys ≡ map f xs ++ f x ∷ []
map_push f xs ys x h = ap (map f) h ∙ map-append f xs (x ∷ [])

-- what was read is one thing
pub ok_is : {A : Type 0} (x y : A) → (let wrap : A → Result A ParseWhy = λ z. Ok z in wrap x ≡ wrap y) → x ≡ y
ok_is x y h = cc

-- ---- operands behind operators

pub links_turn : (front : List (Op2 × Expression)) (room less : ℕ) (operator : What → Option Op2) (operand : Reading Expression) (o : Op2) (x : Expression) (input at rest : Input)
    → room ≡ suc less → found_at operator input ≡ Some o → at ≡ behind input → operand at ≡ Ok (x, rest)
    → with_front (front ++ (o, x) ∷ []) (links less operator operand) rest ≡ with_front front (links room operator operand) input
unfolding links
links_turn front room less operator operand o x input at rest e found step read =
    front_push front (o, x) (links less operator operand rest) ∙ sym (rw (e, found, ← step, read) refl)

-- ---- things one after the other

pub repeated_turn : {A : Type 0} (front : List A) (full : Reading (List A)) (room less : ℕ) (begins : What → Bool) (thing : Reading A) (x : A) (input rest : Input)
    → room ≡ suc less → comes begins input ≡ true → thing input ≡ Ok (x, rest)
    → with_front (front ++ x ∷ []) (repeated full less begins thing) rest ≡ with_front front (repeated full room begins thing) input
unfolding repeated
repeated_turn front full room less begins thing x input rest e came read =
    front_push front x (repeated full less begins thing rest) ∙ sym (rw (e, came, read) refl)

pub repeated_refused : {A : Type 0} (front : List A) (full : Reading (List A)) (room less : ℕ) (begins : What → Bool) (thing : Reading A) (why : ParseWhy) (input : Input)
    → room ≡ suc less → comes begins input ≡ true → thing input ≡ Err why → with_front front (repeated full room begins thing) input ≡ Err why
unfolding repeated
repeated_refused front full room less begins thing why input e came read = rw (e, came, read) refl

-- where there is no room for what comes
pub repeated_full : {A : Type 0} (front : List A) (full : Reading (List A)) (begins : What → Bool) (thing : Reading A) (why : ParseWhy) (input : Input)
    → comes begins input ≡ true → full input ≡ Err why → with_front front (repeated full zero begins thing) input ≡ Err why
unfolding repeated
repeated_full front full begins thing why input came read = rw (came, read) refl

pub repeated_end : {A : Type 0} (front : List A) (full : Reading (List A)) (room : ℕ) (begins : What → Bool) (thing : Reading A) (input : Input)
    → comes begins input ≡ false → with_front front (repeated full room begins thing) input ≡ Ok (front, input)
unfolding repeated
repeated_end front full zero begins thing input none = rw none (ap (λ all. Ok (all, input)) (append-nil front))
repeated_end front full (suc room) begins thing input none = rw none (ap (λ all. Ok (all, input)) (append-nil front))

less_than : (bound least : ℕ) → suc least ≤ bound → (less : ℕ) × (bound ≡ suc less)
less_than zero least h = absurd (omega arith)
less_than (suc less) least h = (less, refl)

left_more : (kind : What → Bool) (left : List Token) (bound : ℕ) → by_first left false kind ≡ true → length left ≤ bound → (less : ℕ) × (bound ≡ suc less)
left_more kind [] bound h within = absurd cc
left_more kind (first ∷ rest) bound h within = less_than bound (length rest) (omega arith)

-- where a token comes, one is left
pub comes_more : (kind : What → Bool) (input : Input) (bound : ℕ) → comes kind input ≡ true → length input.left ≤ bound → (less : ℕ) × (bound ≡ suc less)
unfolding comes
comes_more kind input bound h within = left_more kind input.left bound h within

-- ---- operands with a word between them

pub joined_alone : (by : Junction) (operand : Reading Expression) (input mid : Input) (first : Expression)
    → operand input ≡ Ok (first, mid) → comes (is_word (junction_word by)) mid ≡ false → joined_by by operand input ≡ Ok (first, mid)
joined_alone by operand input mid first read none = rw (read, none) refl

made_of_front : {X Y : Type 0} (make : List X → Y) (first : X) (read : Result (List X × Input) ParseWhy) (all : List X) (rest : Input)
    → then_at read (λ more. give ((first ∷ []) ++ more)) ≡ Ok (all, rest) → then_at read (λ more. give (make (first ∷ more))) ≡ Ok (make all, rest)
made_of_front make first (Ok read) all rest h =
    let same = ok_is (first ∷ read.0, read.1) (all, rest) h in
    λ i. Ok (make (same i).0, (same i).1)
made_of_front make first (Err why) all rest h = absurd cc

pub joined_more : (by : Junction) (operand : Reading Expression) (input mid rest : Input) (first : Expression) (all : List Expression)
    → operand input ≡ Ok (first, mid) → comes (is_word (junction_word by)) mid ≡ true
    → with_front (first ∷ []) (all_others (is_word (junction_word by)) operand) mid ≡ Ok (all, rest)
    → joined_by by operand input ≡ Ok (junction_of by all, rest)
joined_more by operand input mid rest first all read found more =
    rw (read, found) (made_of_front (junction_of by) first (all_others (is_word (junction_word by)) operand mid) all rest more)

refused_in_front : {X Y : Type 0} (make : List X → Y) (first : X) (read : Result (List X × Input) ParseWhy) (why : ParseWhy)
    → then_at read (λ more. give ((first ∷ []) ++ more)) ≡ Err why → then_at read (λ more. give (make (first ∷ more))) ≡ Err why
refused_in_front make first (Ok read) why h = absurd cc
refused_in_front make first (Err other) why h = let e : other ≡ why = cc in ap (λ w. Err w) e

pub joined_refused : (by : Junction) (operand : Reading Expression) (input mid : Input) (first : Expression) (why : ParseWhy)
    → operand input ≡ Ok (first, mid) → comes (is_word (junction_word by)) mid ≡ true
    → with_front (first ∷ []) (all_others (is_word (junction_word by)) operand) mid ≡ Err why
    → joined_by by operand input ≡ Err why
joined_refused by operand input mid first why read found more =
    rw (read, found) (refused_in_front (junction_of by) first (all_others (is_word (junction_word by)) operand mid) why more)

-- ---- how much is left

fewer_behind : (kind : What → Bool) (left : List Token) → by_first left false kind ≡ true → suc (length (drop 1 left)) ≡ length left
fewer_behind kind [] h = absurd cc
fewer_behind kind (first ∷ rest) h = refl

-- behind a token that came, one less is left
pub step_shorter : (kind : What → Bool) (input : Input) → comes kind input ≡ true → suc (length (behind input).left) ≡ length input.left
unfolding comes
step_shorter kind input h = fewer_behind kind input.left h

-- where a token came and what follows it was read, less is left
pub turn_shorter : (kind : What → Bool) (input at rest : Input)
    → comes kind input ≡ true → at ≡ behind input → length rest.left ≤ length at.left → length rest.left < length input.left
turn_shorter kind input at rest h step less =
    let one = step_shorter kind input h in
    let same = ap (λ (i : Input). length i.left) step in
    omega arith

-- ---- a refusal that is passed on

pub passed : {Made Thing Made' Thing' : Type 0} (view : Made → Thing) (view' : Made' → Thing') (input input' : Input) (error : ParseError)
    (read : Result (Thing × Input) ParseWhy) (read' : Result (Thing' × Input) ParseWhy)
    → Gives view input (Err error) read → ((why : ParseWhy) → read ≡ Err why → read' ≡ Err why) → Gives view' input' (Err error) read'
passed view view' input input' (errors.Refused why) read read' h on = on why h
passed view view' input input' errors.Memory read read' h on = tt
