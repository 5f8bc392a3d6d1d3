-- A thing that is spelled by some tokens, and spelled again by others: by no more, and by none that no text has.
use Rattle.std.proofs.Common.{◌≡◌, ℕ, ◌+◌, ◌≤◌, Bool, true, false, Option, Some, None, List, [], ◌∷◌, ◌++◌, length, drop, refl, sym, ap, ◌∙◌, subst, arith, length-append}
use Rattle.fb_syntax.specs.declared.token.What.{What}
use Rattle.fb_syntax.specs.declared.token.Token.{Token}
use Rattle.fb_syntax.specs.Tokens.{IsSpelling}
use Rattle.fb_syntax.specs.Input.{Input, by_first, comes, behind}
use Rattle.fb_syntax.specs.Spans.{Spelling, Takes, As, Is, Pair, Behind, Before, Between, Made, Many}

-- ---- facts on each of a list

abbrev pub Each : {A : Type 0} → (A → Type 0) → List A → Type 0
Each Fact [] = Unit {0}
Each Fact (x ∷ xs) = Fact x × Each Fact xs

pub each_append : {A : Type 0} (Fact : A → Type 0) (xs ys : List A) → Each Fact xs → Each Fact ys → Each Fact (xs ++ ys)
each_append Fact [] ys front back = back
each_append Fact (x ∷ xs) ys (first, front) back = (first, each_append Fact xs ys front back)

pub front_each : {A : Type 0} (Fact : A → Type 0) (xs ys : List A) → Each Fact (xs ++ ys) → Each Fact xs
front_each Fact [] ys all = tt
front_each Fact (x ∷ xs) ys (first, more) = (first, front_each Fact xs ys more)

pub back_each : {A : Type 0} (Fact : A → Type 0) (xs ys : List A) → Each Fact (xs ++ ys) → Each Fact ys
back_each Fact [] ys all = all
back_each Fact (x ∷ xs) ys (first, more) = back_each Fact xs ys more

-- ---- tokens that are led by

-- these tokens lead to what is left
abbrev pub Leads : List What → List Token → List Token → Type 0
Leads [] start rest = start ≡ rest
Leads (token ∷ tokens) start rest =
    (first : Token) × (more : List Token) × (start ≡ first ∷ more) × (first.what ≡ token) × Leads tokens more rest

split : (front back : List What) (start rest : List Token) → Leads (front ++ back) start rest
    → (mid : List Token) × Leads front start mid × Leads back mid rest
split [] back start rest leads = (start, refl, leads)
split (token ∷ front) back start rest (first, more, at, is, leads) =
    let later = split front back more rest leads in
    (later.0, (first, more, at, is, later.1), later.2)

-- ---- the new tokens

-- some bytes spell the token
abbrev pub CanBeSpelled : What → Type 0
CanBeSpelled token = (bytes : List ℕ) × IsSpelling token bytes

abbrev pub Known : Token → Type 0
Known token = CanBeSpelled token.what

-- the new tokens are no more than those between, and each can be spelled if those can
pub record Covers (tokens : List What) (from to : List Token) : Type 0 where
  pub room : length tokens + length to ≤ length from
  pub known : Each Known from → Each CanBeSpelled tokens × Each Known to

pub covers_none : (from : List Token) → Covers [] from from
covers_none from = record { room = omega arith; known = λ known. (tt, known) }

pub covers_both : (front back : List What) (from mid to : List Token) → Covers front from mid → Covers back mid to → Covers (front ++ back) from to
covers_both front back from mid to a b =
    record {
      room = omega (arith, length-append front back, a.room, b.room);
      known = λ known. let x = a.known known in let y = b.known x.1 in (each_append CanBeSpelled front back x.0 y.0, y.1);
    }

-- The new tokens between two inputs, where old ones stand between two others. The calls counted in the new inputs are
-- a function of those in the old ones.
pub record Echoes (calls : ℕ → ℕ) (tokens : List What) (from to start rest : Input) : Type 0 where
  pub leads : Leads tokens start.left rest.left
  pub same_end : rest.end ≡ start.end
  pub before : start.calls ≡ calls from.calls
  pub after : rest.calls ≡ calls to.calls

pub split_echo : {calls : ℕ → ℕ} (front back : List What) (from mid to start rest : Input) → Echoes calls (front ++ back) from to start rest
    → (between : Input) × Echoes calls front from mid start between × Echoes calls back mid to between rest
split_echo {calls} front back from mid to start rest echo =
    let cut = split front back start.left rest.left echo.leads in (
      record { left = cut.0; end = start.end; calls = calls mid.calls },
      record { leads = cut.1; same_end = refl; before = echo.before; after = refl },
      record { leads = cut.2; same_end = echo.same_end; before = refl; after = echo.after },
    )

-- spelled by old tokens between these inputs, the thing is spelled by the new ones wherever they echo the old ones
pub record Respells {A : Type 0} (calls : ℕ → ℕ) (This : Spelling A) (tokens : List What) (x : A) (from to : Input) : Type 0 where
  pub spelled : (start rest : Input) → Echoes calls tokens from to start rest → This start rest x
  pub covers : Covers tokens from.left to.left

-- ---- one token

-- the first of the old tokens
first_taken : (kind : What → Bool) (tokens : List Token) → by_first tokens false kind ≡ true
    → (first : Token) × (more : List Token) × (tokens ≡ first ∷ more) × (kind first.what ≡ true)
first_taken kind [] came = absurd (let no_way = came in cc)
first_taken kind (first ∷ more) came = (first, more, refl, came)

pub first_found : {A : Type 0} (thing : What → Option A) (tokens : List Token) (x : A) → by_first tokens None thing ≡ Some x
    → (first : Token) × (more : List Token) × (tokens ≡ first ∷ more) × (thing first.what ≡ Some x)
first_found thing [] x came = absurd (let no_way = came in cc)
first_found thing (first ∷ more) x came = (first, more, refl, came)

-- one new token for the first old one, which leaves the others
covers_one : (token : What) (from to : List Token) (first : Token) (more : List Token) → from ≡ first ∷ more → to ≡ drop 1 from
    → (CanBeSpelled first.what → CanBeSpelled token) → Covers (token ∷ []) from to
covers_one token from to first more at is known =
    let left : to ≡ more = is ∙ ap (drop 1) at in
    let front = ap length at in
    let back = ap length left in
    record {
      room = omega (arith, front, back);
      known = λ all. (let each = subst (Each Known) at all in ((known each.0, tt), subst (Each Known) (sym left) each.1));
    }

-- what is left behind the first
abbrev left_behind : (from to : Input) → to ≡ behind from → to.left ≡ drop 1 from.left
left_behind from to is = ap (λ (input : Input). input.left) is

pub same_input : (a b : Input) → a.left ≡ b.left → a.end ≡ b.end → a.calls ≡ b.calls → a ≡ b
same_input a b left end calls = λ i. record { left = left i; end = end i; calls = calls i }

-- the new token comes first, and what is left is behind it
record Comes (token : What) (start rest : Input) : Type 0 where
  first : Token
  more : List Token
  at : start.left ≡ first ∷ more
  is : first.what ≡ token
  left : rest.left ≡ drop 1 start.left

echo_comes : {calls : ℕ → ℕ} (token : What) (from to start rest : Input) → Echoes calls (token ∷ []) from to start rest → Comes token start rest
echo_comes token from to start rest echo =
    record {
      first = echo.leads.0;
      more = echo.leads.1;
      at = echo.leads.2;
      is = echo.leads.3;
      left = sym echo.leads.4 ∙ sym (ap (drop 1) echo.leads.2);
    }

-- where no call is counted, the new input is behind its first token too
echo_behind : {calls : ℕ → ℕ} (token : What) (from to start rest : Input) → to ≡ behind from → Echoes calls (token ∷ []) from to start rest → rest ≡ behind start
echo_behind {calls} token from to start rest is echo =
    let counted : rest.calls ≡ start.calls = echo.after ∙ ap (λ (input : Input). calls input.calls) is ∙ sym echo.before in
    same_input rest (behind start) (echo_comes token from to start rest echo).left echo.same_end counted

pub comes_again : {calls : ℕ → ℕ} (kind : What → Bool) (token : What) (from to start rest : Input) → kind token ≡ true
    → Echoes calls (token ∷ []) from to start rest → (comes kind start ≡ true) × (rest.left ≡ drop 1 start.left)
unfolding comes
comes_again kind token from to start rest such echo =
    let new = echo_comes token from to start rest echo in
    (ap (λ tokens. by_first tokens false kind) new.at ∙ ap kind new.is ∙ such, new.left)

pub takes_again : {calls : ℕ → ℕ} (kind : What → Bool) (token : What) (from to start rest : Input) → kind token ≡ true → Takes kind from to
    → Echoes calls (token ∷ []) from to start rest → Takes kind start rest
takes_again kind token from to start rest such took echo =
    ((comes_again kind token from to start rest such echo).0, echo_behind token from to start rest took.1 echo)

pub covers_taken : (kind : What → Bool) (token : What) (from to : Input) → CanBeSpelled token → comes kind from ≡ true → to.left ≡ drop 1 from.left
    → Covers (token ∷ []) from.left to.left
unfolding comes
covers_taken kind token from to known came left =
    let one = first_taken kind from.left came in
    covers_one token from.left to.left one.0 one.1 one.2 left (λ _. known)

-- one old token more than the new ones
covers_nothing : (kind : What → Bool) (from to : Input) → Takes kind from to → Covers [] from.left to.left
unfolding comes
covers_nothing kind from to took =
    let one = first_taken kind from.left took.0 in
    let left : to.left ≡ one.1 = left_behind from to took.1 ∙ ap (drop 1) one.2 in
    let front = ap length one.2 in
    let back = ap length left in
    record {
      room = omega (arith, front, back);
      known = λ all. (tt, subst (Each Known) (sym left) (subst (Each Known) one.2 all).1);
    }

-- between old tokens that the new ones do without
pub respells_wider : {A : Type 0} {calls : ℕ → ℕ} {This : Spelling A} (opening closing : What → Bool) (tokens : List What) (x : A) (from mid late to : Input)
    → Takes opening from mid → Takes closing late to → Respells calls This tokens x mid late → Respells calls This tokens x from to
respells_wider {calls = calls} opening closing tokens x from mid late to open_ close a =
    let first = covers_nothing opening from mid open_ in
    let last = covers_nothing closing late to close in
    record {
      spelled = λ start rest echo. a.spelled start rest (record {
        leads = echo.leads;
        same_end = echo.same_end;
        before = echo.before ∙ ap (λ (input : Input). calls input.calls) (sym open_.1);
        after = echo.after ∙ ap (λ (input : Input). calls input.calls) close.1;
      });
      covers = record {
        room = omega (arith, first.room, a.covers.room, last.room);
        known = λ all. (let mids = a.covers.known (first.known all).1 in (mids.0, (last.known mids.1).1));
      };
    }

-- ---- the words of the grammar

-- since an old token stands for the thing, the new one does
pub respells_as : {A : Type 0} {calls : ℕ → ℕ} (thing : What → Option A) (token : What) (x : A) (from to : Input)
    → ((old : What) → thing old ≡ Some x → thing token ≡ Some x) → ((old : What) → thing old ≡ Some x → CanBeSpelled old → CanBeSpelled token) → As thing from to x
    → Respells calls (As thing) (token ∷ []) x from to
respells_as thing token x from to such known (found, is) =
    let one = first_found thing from.left x found in
    record {
      spelled = λ start rest echo. (
          let new = echo_comes token from to start rest echo in
          (ap (λ tokens. by_first tokens None thing) new.at ∙ ap thing new.is ∙ such one.0.what one.3, echo_behind token from to start rest is echo));
      covers = covers_one token from.left to.left one.0 one.1 one.2 (left_behind from to is) (known one.0.what one.3);
    }

pub respells_is : {A : Type 0} {calls : ℕ → ℕ} (kind : What → Bool) (token : What) (x : A) (from to : Input) → kind token ≡ true → CanBeSpelled token
    → Takes kind from to → Respells calls (Is kind x) (token ∷ []) x from to
respells_is kind token x from to such known took =
    record {
      spelled = λ start rest echo. (takes_again kind token from to start rest such took echo, refl);
      covers = covers_taken kind token from to known took.0 (left_behind from to took.1);
    }

pub respells_pair : {A B : Type 0} {calls : ℕ → ℕ} {This : Spelling A} {That : Spelling B} (front back : List What) (x : A) (y : B) (from mid to : Input)
    → Respells calls This front x from mid → Respells calls That back y mid to → Respells calls (Pair This That) (front ++ back) (x, y) from to
respells_pair front back x y from mid to a b =
    record {
      spelled = λ start rest echo. (
          let cut = split_echo front back from mid to start rest echo in
          (cut.0, a.spelled start cut.0 cut.1, b.spelled cut.0 rest cut.2));
      covers = covers_both front back from.left mid.left to.left a.covers b.covers;
    }

pub respells_behind : {A : Type 0} {calls : ℕ → ℕ} {This : Spelling A} (kind : What → Bool) (token : What) (tokens : List What) (x : A) (from mid to : Input)
    → kind token ≡ true → CanBeSpelled token → Takes kind from mid → Respells calls This tokens x mid to → Respells calls (Behind kind This) (token ∷ tokens) x from to
respells_behind kind token tokens x from mid to such known took a =
    record {
      spelled = λ start rest echo. (
          let cut = split_echo (token ∷ []) tokens from mid to start rest echo in
          (cut.0, takes_again kind token from mid start cut.0 such took cut.1, a.spelled cut.0 rest cut.2));
      covers = covers_both (token ∷ []) tokens from.left mid.left to.left (covers_taken kind token from mid known took.0 (left_behind from mid took.1)) a.covers;
    }

pub respells_before : {A : Type 0} {calls : ℕ → ℕ} {This : Spelling A} (kind : What → Bool) (token : What) (tokens : List What) (x : A) (from mid to : Input)
    → kind token ≡ true → CanBeSpelled token → Takes kind mid to → Respells calls This tokens x from mid → Respells calls (Before This kind) (tokens ++ token ∷ []) x from to
respells_before kind token tokens x from mid to such known took a =
    record {
      spelled = λ start rest echo. (
          let cut = split_echo tokens (token ∷ []) from mid to start rest echo in
          (cut.0, a.spelled start cut.0 cut.1, takes_again kind token mid to cut.0 rest such took cut.2));
      covers = covers_both tokens (token ∷ []) from.left mid.left to.left a.covers (covers_taken kind token mid to known took.0 (left_behind mid to took.1));
    }

pub respells_between : {A : Type 0} {calls : ℕ → ℕ} (This : Spelling A) (opening closing : What → Bool) (first last : What) (tokens : List What) (x : A) (from mid late to : Input)
    → opening first ≡ true → closing last ≡ true → CanBeSpelled first → CanBeSpelled last → Takes opening from mid → Takes closing late to
    → Respells calls This tokens x mid late → Respells calls (Between opening This closing) (first ∷ tokens ++ last ∷ []) x from to
respells_between This opening closing first last tokens x from mid late to opens closes first_known last_known open_ close a =
    respells_behind {This = Before This closing} opening first (tokens ++ last ∷ []) x from mid to opens first_known open_
    (respells_before closing last tokens x mid late to closes last_known close a)

-- what is spelled so is spelled that way too
pub respells_too : {A B : Type 0} {calls : ℕ → ℕ} {This : Spelling A} {That : Spelling B} (tokens : List What) (x : A) (y : B) (from to : Input)
    → ((start rest : Input) → This start rest x → That start rest y) → Respells calls This tokens x from to → Respells calls That tokens y from to
respells_too tokens x y from to too a = record { spelled = λ start rest echo. too start rest (a.spelled start rest echo); covers = a.covers }

pub respells_made : {A B : Type 0} {calls : ℕ → ℕ} {This : Spelling A} (make : A → B) (tokens : List What) (x : A) (from to : Input)
    → Respells calls This tokens x from to → Respells calls (Made make This) tokens (make x) from to
respells_made make tokens x from to a = respells_too tokens x (make x) from to (λ start rest this. (x, this, refl)) a

-- tokens that are written otherwise
pub tokens_are : {A : Type 0} {calls : ℕ → ℕ} (This : Spelling A) (x : A) (from to : Input) (one other : List What) → one ≡ other → Respells calls This one x from to → Respells calls This other x from to
tokens_are {calls = calls} This x from to one other same = subst (λ tokens. Respells calls This tokens x from to) same

-- ---- lists

-- the tokens of each
abbrev pub all_tokens : {A : Type 0} → (A → List What) → List A → List What
all_tokens tokens [] = []
all_tokens tokens (x ∷ xs) = tokens x ++ all_tokens tokens xs

pub respells_many : {A : Type 0} {calls : ℕ → ℕ} (Old New : Spelling A) (tokens : A → List What)
    → ((x : A) (from to : Input) → Old from to x → Respells calls New (tokens x) x from to)
    → (xs : List A) (from to : Input) → Many Old from to xs → Respells calls (Many New) (all_tokens tokens xs) xs from to
respells_many {calls = calls} Old New tokens each [] from to none =
    record {
      spelled = λ start rest echo. same_input start rest echo.leads (sym echo.same_end) (echo.before ∙ ap (λ (input : Input). calls input.calls) none ∙ sym echo.after);
      covers = subst (λ (input : Input). Covers [] from.left input.left) none (covers_none from.left);
    }
respells_many Old New tokens each (x ∷ xs) from to (mid, this, more) =
    let first = each x from mid this in
    let later = respells_many Old New tokens each xs mid to more in
    record {
      spelled = λ start rest echo. (
          let cut = split_echo (tokens x) (all_tokens tokens xs) from mid to start rest echo in
          (cut.0, first.spelled start cut.0 cut.1, later.spelled cut.0 rest cut.2));
      covers = covers_both (tokens x) (all_tokens tokens xs) from.left mid.left to.left first.covers later.covers;
    }
