-- A body that is done is done too where the replies of its calls are known.
use Rattle.std.specs.Prelude.{◌≡◌, ℕ, ◌+◌, ◌-◌, ◌≤◌, ◌==◌, nat_le, Bool, true, false, if◌then◌else◌, List, [], ◌∷◌, ◌++◌, map, find, Some}
use Rattle.std.specs.Option.{option_map}
use Rattle.std.proofs.Common.{refl, sym, ap, ◌∙◌, subst, arith}
use Rattle.std.proofs.lemmas.Bool.{and_parts}
use Rattle.std.proofs.lemmas.Bool.Decides.{Decides-eqb, nat_tests}
use Rattle.std.proofs.lemmas.List.{map-append}
use Rattle.fb_base.specs.declared.method.MethodId.{MethodId}
use Rattle.fb_base.specs.declared.value.Value.{Value}
use Rattle.fb_base.specs.declared.reply.Reply.{Reply}
use Rattle.fb_index.specs.Entry.{Occurrence, same_entry}
use Rattle.fb_syntax.specs.Trees.{ServicesTree}
use Rattle.fb_tree.specs.Runs.{CallList, NoCalls, AndCall, How, Known as KnownHow}
use Rattle.fb_tree.specs.Records.{asked_of, steps_in, steps_below}
use Rattle.fb_tree.specs.declared.asked.Asked.{Asked}
use Rattle.fb_transport.specs.Sources.{Source}
use Rattle.fb_transport.specs.declared.decision.Decision.TheVariants.{Known}
use Rattle.fb_meaning.specs.Evaluations.{Spent, State}
use Rattle.fb_meaning.specs.Meaning.{meaning}
use Rattle.fb_meaning.specs.Bodies.{Whose, PreparedCall, returned, decided_by, asked_and_got}
use Rattle.fb_meaning.specs.CallLaws.{Answer, answers_of, extended}
use Rattle.fb_meaning.specs.Each.{HoldsOfEach, AreApart}
use Rattle.fb_meaning.specs.Records.{known_at, has_entry}
use Rattle.fb_meaning.proofs.Replays.{ReadsAlike, AnswersAlike, answers_of_extended, Provides}

-- ---- the call with an entry

pub same_entries : (a b : Occurrence) → same_entry a b ≡ true → a ≡ b
same_entries a b e =
    let parts = and_parts (a.site == b.site) (a.count == b.count) e in
    let site : a.site ≡ b.site = (Decides-eqb a.site b.site).0 parts.0 in
    let count : a.count ≡ b.count = (Decides-eqb a.count b.count).0 parts.1 in
    let entry : ℕ → ℕ → Occurrence = λ s c. record { site = s; count = c } in
    ap (λ s. entry s a.count) site ∙ ap (entry b.site) count

pub own_entry : (a : Occurrence) → same_entry a a ≡ true
own_entry a = rw ((Decides-eqb a.site a.site).1 refl, (Decides-eqb a.count a.count).1 refl) refl

abbrev pub entries : List Answer → List Occurrence
entries answers = map (λ answer. answer.0.entry) answers

pub last_apart : (xs ys : List Occurrence) (x : Occurrence) → AreApart (xs ++ x ∷ ys) → HoldsOfEach (λ y. ¬ (y ≡ x)) xs
last_apart [] ys x h = tt
last_apart (y ∷ xs) ys x h = (first_differs xs h.0, last_apart xs ys x h.1)
  where
    first_differs : (zs : List Occurrence) → HoldsOfEach (λ z. ¬ (y ≡ z)) (zs ++ x ∷ ys) → ¬ (y ≡ x)
    first_differs [] k = k.0
    first_differs (z ∷ zs) k = first_differs zs k.1

pub find_answer : (xs ys : List Answer) (answer : Answer) → HoldsOfEach (λ entry. ¬ (entry ≡ answer.0.entry)) (entries xs)
    → find (λ a. has_entry answer.0.entry a.0) (xs ++ answer ∷ ys) ≡ Some answer
find_answer [] ys answer h = ap (λ b. if b then Some answer else find (λ a. has_entry answer.0.entry a.0) ys) (own_entry answer.0.entry)
find_answer (x ∷ xs) ys answer h = by_test (find_answer xs ys answer h.1) (same_entry x.0.entry answer.0.entry) refl
  where
    by_test : find (λ a. has_entry answer.0.entry a.0) (xs ++ answer ∷ ys) ≡ Some answer → (b : Bool) → same_entry x.0.entry answer.0.entry ≡ b
        → find (λ a. has_entry answer.0.entry a.0) (x ∷ xs ++ answer ∷ ys) ≡ Some answer
    by_test rest true e = absurd (h.0 (same_entries x.0.entry answer.0.entry e))
    by_test rest false e = ap (λ b. if b then Some x else find (λ a. has_entry answer.0.entry a.0) (xs ++ answer ∷ ys)) e ∙ rest

-- ---- calls whose replies are known

module _ (cost : Answer → ℕ) (whom : Answer → List MethodId) where
  -- the same calls, each with a reply that is known
  abbrev pub known_calls : CallList → CallList
  known_calls NoCalls = NoCalls
  known_calls (AndCall before asked how) = AndCall (known_calls before) asked (KnownHow (cost (asked, how)) (whom (asked, how)))

  abbrev pub known_answer : Answer → Answer
  known_answer answer = (answer.0, KnownHow (cost answer) (whom answer))

  answers_known : (calls : CallList) → answers_of (known_calls calls) ≡ map known_answer (answers_of calls)
  answers_known NoCalls = refl
  answers_known (AndCall before asked how) =
      ap (λ xs. xs ++ known_answer (asked, how) ∷ []) (answers_known before) ∙ sym (map-append known_answer (answers_of before) ((asked, how) ∷ []))

  pub asked_known : (calls : CallList) → asked_of (known_calls calls) ≡ asked_of calls
  asked_known NoCalls = refl
  asked_known (AndCall before asked how) = ap (λ xs. xs ++ asked ∷ []) (asked_known before)

  -- the source of these
  abbrev pub known_source : CallList → Source
  known_source calls index callee args =
      known_at index (λ entry. option_map (λ answer. Known answer.0.reply (cost answer) (whom answer)) (find (λ answer. has_entry entry answer.0) (answers_of calls)))

  -- where a call of these stands in the list of the known ones, it stands in the list
  record StandsIn (calls : CallList) (asked : Asked) (how : How) : Type 0 where
    before : List Answer
    behind : List Answer
    own_how : How
    are : answers_of calls ≡ before ++ (asked, own_how) ∷ behind
    known : how ≡ KnownHow (cost (asked, own_how)) (whom (asked, own_how))

  split_map : (answers front : List Answer) (asked : Asked) (how : How) (behind : List Answer) → map known_answer answers ≡ front ++ (asked, how) ∷ behind
      → (before : List Answer) × (answer : Answer) × (rest : List Answer) × (answers ≡ before ++ answer ∷ rest) × (known_answer answer ≡ (asked, how))
  split_map [] [] asked how behind e = absurd (cc)
  split_map [] (x ∷ front) asked how behind e = absurd (cc)
  split_map (a ∷ answers) [] asked how behind e = let first : known_answer a ≡ (asked, how) = cc in ([], a, answers, refl, first)
  split_map (a ∷ answers) (x ∷ front) asked how behind e =
      let rest : map known_answer answers ≡ front ++ (asked, how) ∷ behind = cc in
      let found = split_map answers front asked how behind rest in
      (a ∷ found.0, found.1, found.2, ap (λ xs. a ∷ xs) found.3, found.4)

  stands_in : (calls before : CallList) (asked : Asked) (how : How) (more : List Answer) → known_calls calls ≡ extended before ((asked, how) ∷ more) → StandsIn calls asked how
  stands_in calls before asked how more e =
      let whole : map known_answer (answers_of calls) ≡ answers_of before ++ (asked, how) ∷ more =
      sym (answers_known calls) ∙ ap answers_of e ∙ answers_of_extended before ((asked, how) ∷ more) in
      let found = split_map (answers_of calls) (answers_of before) asked how more whole in
      let same_asked : (found.1).0 ≡ asked = ap (λ x. x.0) found.4 in
      let known : KnownHow (cost found.1) (whom found.1) ≡ how = ap (λ x. x.1) found.4 in
      record {
        before = found.0;
        behind = found.2;
        own_how = (found.1).1;
        are = found.3 ∙ ap (λ a. found.0 ++ (a, (found.1).1) ∷ found.2) same_asked;
        known = sym known ∙ ap (λ a. KnownHow (cost (a, (found.1).1)) (whom (a, (found.1).1))) same_asked;
      }

  -- entries of answers are those of what is asked
  pub entries_are : (calls : CallList) → entries (answers_of calls) ≡ map (λ asked. asked.entry) (asked_of calls)
  entries_are NoCalls = refl
  entries_are (AndCall before asked how) =
      map-append (λ (answer : Answer). answer.0.entry) (answers_of before) ((asked, how) ∷ [])
      ∙ ap (λ xs. xs ++ asked.entry ∷ []) (entries_are before) ∙ sym (map-append (λ (a : Asked). a.entry) (asked_of before) (asked ∷ []))

  -- the decision at the entry of a call is that its reply is known
  knows : (calls : CallList) (asked : Asked) (how : How) → AreApart (map (λ asked. asked.entry) (asked_of calls)) → (stands : StandsIn calls asked how) → (callee : ℕ) (args : List Value)
      → known_source calls (asked.entry ∷ []) callee args ≡ Some (Known asked.reply (cost (asked, stands.own_how)) (whom (asked, stands.own_how)))
  knows calls asked how apart stands callee args =
      let all : AreApart (entries stands.before ++ asked.entry ∷ entries stands.behind) =
      subst AreApart (sym (entries_are calls) ∙ ap entries stands.are ∙ map-append (λ (answer : Answer). answer.0.entry) stands.before ((asked, stands.own_how) ∷ stands.behind)) apart in
      ap (λ xs. option_map (λ answer. Known answer.0.reply (cost answer) (whom answer)) (find (λ answer. has_entry asked.entry answer.0) xs)) stands.are
      ∙ ap (option_map (λ (answer : Answer). Known answer.0.reply (cost answer) (whom answer)))
      (find_answer stands.before stands.behind (asked, stands.own_how) (last_apart (entries stands.before) (entries stands.behind) asked.entry all))

  fits_known : (call : PreparedCall) (got : Reply) (steps : ℕ) (injected : List MethodId) (u : State) (fits : Bool) → nat_le steps u.fuel ≡ fits → steps ≤ u.fuel
      → (if fits then returned u call (KnownHow steps injected) got (u.fuel - steps) else Spent) ≡ returned u call (KnownHow steps injected) got (u.fuel - steps)
  fits_known call got steps injected u true e h = refl
  fits_known call got steps injected u false e h = absurd (grind (arith, nat_tests))

  pub known_provides : (services : ServicesTree) (whose : Whose) (here : List Occurrence) (one other : Source) (calls mine : CallList) (taken total : ℕ) (enough : taken + steps_in (known_calls calls) ≤ total)
      → AreApart (map (λ asked. asked.entry) (asked_of calls))
      → ((entry : Occurrence) (callee : ℕ) (args : List Value) → other (entry ∷ []) callee args ≡ known_source calls (entry ∷ []) callee args)
      → Provides services whose here [] one other mine (known_calls calls) taken total enough
  unfolding steps_in
  known_provides services whose here one other calls mine taken total enough apart agrees = record {
    given = λ call got how before more e u same fits.
        let stands = stands_in calls before (asked_and_got call got) how more e in
        let answer : Answer = (asked_and_got call got, stands.own_how) in
        let known : how ≡ KnownHow (cost answer) (whom answer) = stands.known in
        let costs : steps_below how ≡ cost answer = ap steps_below known in
        ap (λ d. decided_by services (meaning services other) (call.entry ∷ []) d call u)
        (agrees call.entry call.callee.0 call.args ∙ knows calls (asked_and_got call got) how apart stands call.callee.0 call.args)
        ∙ fits_known call got (cost answer) (whom answer) u (nat_le (cost answer) u.fuel) refl (omega (arith, fits, costs))
        ∙ ap (λ h. returned u call h got (u.fuel - steps_below h)) (sym known);
  }

  -- what a body reads of them is the same, where a test asks for the same callees
  pub known_alike : (whose : Whose) (calls : CallList) → HoldsOfEach (λ answer. ReadsAlike whose answer.0.callee answer.1 (KnownHow (cost answer) (whom answer))) (answers_of calls)
      → AnswersAlike whose (answers_of calls) (answers_of (known_calls calls))
  known_alike whose calls h = subst (AnswersAlike whose (answers_of calls)) (sym (answers_known calls)) (alike_map (answers_of calls) h)
    where
      alike_map : (answers : List Answer) → HoldsOfEach (λ answer. ReadsAlike whose answer.0.callee answer.1 (KnownHow (cost answer) (whom answer))) answers
          → AnswersAlike whose answers (map known_answer answers)
      alike_map [] k = tt
      alike_map (a ∷ answers) k = (refl, k.0, alike_map answers k.1)
