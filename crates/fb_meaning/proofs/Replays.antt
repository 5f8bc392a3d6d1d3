-- A body that is done is done by another source too, where that one provides the same replies.
use Rattle.std.specs.Prelude.{◌≡◌, ℕ, zero, suc, ◌+◌, ◌-◌, ◌<◌, ◌≤◌, ◌==◌, if◌then◌else◌, List, [], ◌∷◌, ◌++◌, Some, ⊤}
use Rattle.std.proofs.Common.{refl, sym, ap, ◌∙◌, subst, append_assoc, append-nil, arith}
use Rattle.std.proofs.lemmas.List.{append_cancel_left}
use Rattle.fb_base.specs.declared.method.MethodId.{MethodId}
use Rattle.fb_base.specs.declared.reply.Reply.{Reply}
use Rattle.fb_index.specs.Entry.{Occurrence}
use Rattle.fb_syntax.specs.Trees.{Statement, Statements, ServicesTree}
use Rattle.fb_tree.specs.Runs.{CallList, NoCalls, AndCall, How}
use Rattle.fb_tree.specs.Records.{steps_in, steps_below}
use Rattle.fb_tree.specs.Calls.{calls_at, injected_in, injected_by}
use Rattle.fb_tree.specs.declared.asked.Asked.{Asked}
use Rattle.fb_transport.specs.Sources.{Source}
use Rattle.fb_meaning.specs.Evaluations.{Evaluation, Spent, Missing, Done, then_on, Flow, State, begun, Going, with_unit, with_unit_of}
use Rattle.fb_meaning.specs.Positions.{Position}
use Rattle.fb_meaning.specs.Meaning.{meaning}
use Rattle.fb_meaning.specs.Bodies.{Whose, OfMethod, OfTest, PreparedCall, questions, statements_go, returned, with_call, decided, asked_and_got, act}
use Rattle.fb_meaning.specs.CallLaws.{Answer, answers_of, extended, ExtendsCalls}
use Rattle.fb_meaning.proofs.Steps.{Kept}
use Rattle.fb_meaning.proofs.Pairs.{Keeps, IsPairing, framed, statements_alike, act_alike}
use Rattle.fb_meaning.proofs.Extensions.{AddsCall, AddsDone, call_adds, extended_more}
use Rattle.fb_meaning.proofs.SameReplies.{GoesFurther, goes_further, meaning_goes_further, call_goes_further, act_goes_further}
use Rattle.fb_meaning.proofs.Bounds.{meaning_rule}

-- ---- calls that are asked and answered alike

-- what a body of this kind reads of how a call was answered: a test asks whom it injected
abbrev pub ReadsAlike : Whose → MethodId → How → How → Type 0
ReadsAlike OfMethod callee how other = ⊤
ReadsAlike OfTest callee how other = injected_by callee how ≡ injected_by callee other

pub data AreParallel (whose : Whose) : CallList → CallList → Type 0 where
  NoneMade : AreParallel whose NoCalls NoCalls
  AndBoth : {before other_before : CallList} (asked : Asked) (how other_how : How) → AreParallel whose before other_before → ReadsAlike whose asked.callee how other_how
      → AreParallel whose (AndCall before asked how) (AndCall other_before asked other_how)

parallel_counts : (whose : Whose) (site : ℕ) (calls others : CallList) → AreParallel whose calls others → calls_at site calls ≡ calls_at site others
parallel_counts whose site calls others NoneMade = refl
parallel_counts whose site calls others (AndBoth asked how other_how h reads) =
    ap (λ n. n + (if asked.entry.site == site then 1 else 0)) (parallel_counts whose site _ _ h)

parallel_injected : (calls others : CallList) → AreParallel OfTest calls others → injected_in calls ≡ injected_in others
unfolding injected_in
parallel_injected calls others NoneMade = refl
parallel_injected calls others (AndBoth {before = before} {other_before = other_before} asked how other_how h reads) =
    ap (λ xs. xs ++ injected_by asked.callee how) (parallel_injected before other_before h) ∙ ap (λ xs. injected_in other_before ++ xs) reads

parallel_questions : (whose : Whose) (calls others : CallList) → AreParallel whose calls others → questions whose calls ≡ questions whose others
parallel_questions OfMethod calls others h = refl
parallel_questions OfTest calls others h = ap Some (parallel_injected calls others h)

-- ---- what is still to be asked

abbrev pub AnswersAlike : Whose → List Answer → List Answer → Type 0
AnswersAlike whose [] [] = ⊤
AnswersAlike whose (a ∷ rest) (b ∷ other_rest) = (a.0 ≡ b.0) × ReadsAlike whose a.0.callee a.1 b.1 × AnswersAlike whose rest other_rest
AnswersAlike whose _ _ = ⊥

pub answers_of_extended : (calls : CallList) (added : List Answer) → answers_of (extended calls added) ≡ answers_of calls ++ added
answers_of_extended calls [] = sym (append-nil (answers_of calls))
answers_of_extended calls (answer ∷ added) =
    answers_of_extended (AndCall calls answer.0 answer.1) added ∙ append_assoc (answers_of calls) (answer ∷ []) added

pub from_answers : (calls : CallList) → calls ≡ extended NoCalls (answers_of calls)
from_answers NoCalls = refl
from_answers (AndCall before asked how) =
    ap (λ c. AndCall c asked how) (from_answers before) ∙ extended_more NoCalls (answers_of before) ((asked, how) ∷ [])

-- what is added to the same calls is the same where the whole is
same_added : (calls : CallList) (added also : List Answer) → extended calls added ≡ extended calls also → added ≡ also
same_added calls added also e =
    append_cancel_left (answers_of calls) added also (sym (answers_of_extended calls added) ∙ ap answers_of e ∙ answers_of_extended calls also)

steps_added : (calls : CallList) (added : List Answer) → steps_in calls ≤ steps_in (extended calls added)
unfolding steps_in
steps_added calls [] = omega arith
steps_added calls (answer ∷ added) = omega (arith, steps_added (AndCall calls answer.0 answer.1) added)

module _ (services : ServicesTree) (whose : Whose) (here there : List Occurrence) (one other : Source)
    (mine theirs : CallList) (taken total : ℕ) (enough : taken + steps_in theirs ≤ total) where
  -- the other source provides the replies of these calls, in their places
  pub record Provides : Type 0 where
    pub given : (call : PreparedCall) (got : Reply) (how : How) (before : CallList) (more : List Answer) → theirs ≡ extended before ((asked_and_got call got, how) ∷ more)
        → (u : State) → u.calls ≡ before → steps_below how ≤ u.fuel
        → decided services other (meaning services other) (framed whose there) call u ≡ returned u call how got (u.fuel - steps_below how)

  -- up to here both went alike
  record AreSo (bound : ℕ) (t u : State) : Type 0 where
    variables : t.variables ≡ u.variables
    steps : t.steps ≡ u.steps
    calls : AreParallel whose t.calls u.calls
    rest : List Answer
    other_rest : List Answer
    mine_is : mine ≡ extended t.calls rest
    theirs_is : theirs ≡ extended u.calls other_rest
    alike : AnswersAlike whose rest other_rest
    fuel : u.fuel + u.steps + steps_in u.calls ≡ total
    small : t.fuel < bound

  -- the first is on its way to the whole
  record IsFront (t : State) : Type 0 where
    calls : ExtendsCalls t.calls mine
    few : t.steps ≤ taken

  front_before : (t u : State) → GoesFurther t u → IsFront u → IsFront t
  front_before t u h k = record {
    calls = (h.calls.calls.0 ++ k.calls.0, k.calls.1 ∙ ap (λ c. extended c k.calls.0) h.calls.calls.1 ∙ extended_more t.calls h.calls.calls.0 k.calls.0);
    few = omega (arith, h.units.grown, k.few);
  }

  abbrev GoSo : ℕ → {A : Type 0} → Evaluation A State → Evaluation A State → Type 0
  GoSo bound (Done a t) y = IsFront t → (u : State) × (y ≡ Done a u) × AreSo bound t u
  GoSo bound _ y = ⊤

  module _ (bound : ℕ) where
    later_so : {A B : Type 0} (a : A) (t : State) (y : Evaluation A State) (along : A → State → Evaluation B State) (z : Evaluation B State) → Kept GoesFurther t z
        → (IsFront t → (u : State) × (y ≡ Done a u) × AreSo bound t u) → ((u : State) → AreSo bound t u → GoSo bound z (along a u)) → GoSo bound z (then_on y along)
    later_so a t y along Spent kept m go = tt
    later_so a t y along Missing kept m go = tt
    later_so a t y along (Done c t') kept m go = λ front.
        let found = m (front_before t t' kept front) in
        let ends = go found.0 found.2 front in
        (ends.0, ap (λ z. then_on z along) found.1 ∙ ends.1, ends.2)

    then_so : {A B : Type 0} (x y : Evaluation A State) (after along : A → State → Evaluation B State) → ((a : A) (t : State) → Kept GoesFurther t (after a t))
        → GoSo bound x y → ((a : A) (t u : State) → AreSo bound t u → GoSo bound (after a t) (along a u)) → GoSo bound (then_on x after) (then_on y along)
    then_so Spent y after along keeps m go = tt
    then_so Missing y after along keeps m go = tt
    then_so (Done a t) y after along keeps m go = later_so a t y along (after a t) (keeps a t) m (go a t)

    -- where the first takes a unit on its way, the second has one
    has_unit : (left : ℕ) (t u : State) → AreSo (suc bound) t u → IsFront (begun left t) → u.fuel ≡ 0 → ⊥
    has_unit left t u so front e =
        let fewer : steps_in u.calls ≤ steps_in (extended u.calls so.other_rest) = steps_added u.calls so.other_rest in
        let all : steps_in theirs ≡ steps_in (extended u.calls so.other_rest) = ap steps_in so.theirs_is in
        omega (arith, so.fuel, so.steps, front.few, e, fewer, all, enough)

    not_spent : {A : Type 0} (left : ℕ) (t u : State) (z : Evaluation A State) → AreSo (suc bound) t u → Kept GoesFurther (begun left t) z → u.fuel ≡ 0 → GoSo bound z Spent
    not_spent left t u Spent so kept e = tt
    not_spent left t u Missing so kept e = tt
    not_spent left t u (Done c t') so kept e = λ front. absurd (has_unit left t u so (front_before (begun left t) t' kept front) e)

    units_so : (t u : State) (go along : State → Going) (fuel other_fuel : ℕ) → t.fuel ≡ fuel → u.fuel ≡ other_fuel → AreSo (suc bound) t u → Keeps GoesFurther go
        → ((a b : State) → AreSo bound a b → GoSo bound (go a) (along b)) → GoSo bound (with_unit_of t go fuel) (with_unit_of u along other_fuel)
    units_so t u go along zero other_fuel e f so keeps m = tt
    units_so t u go along (suc left) zero e f so keeps m = not_spent left t u (go (begun left t)) so (keeps (begun left t)) f
    units_so t u go along (suc left) (suc other_left) e f so keeps m =
        m (begun left t) (begun other_left u) (record {
          variables = so.variables;
          steps = ap suc so.steps;
          calls = so.calls;
          rest = so.rest;
          other_rest = so.other_rest;
          mine_is = so.mine_is;
          theirs_is = so.theirs_is;
          alike = so.alike;
          fuel = omega (arith, so.fuel, f);
          small = omega (arith, so.small, e);
        })

    wider_so : (t u : State) → AreSo bound t u → AreSo (suc bound) t u
    wider_so t u so = record {
      variables = so.variables;
      steps = so.steps;
      calls = so.calls;
      rest = so.rest;
      other_rest = so.other_rest;
      mine_is = so.mine_is;
      theirs_is = so.theirs_is;
      alike = so.alike;
      fuel = so.fuel;
      small = omega (arith, so.small);
    }

    wider_go : {A : Type 0} (x y : Evaluation A State) → GoSo bound x y → GoSo (suc bound) x y
    wider_go Spent y m = tt
    wider_go Missing y m = tt
    wider_go (Done a t) y m = λ front. let found = m front in (found.0, found.1, wider_so t found.0 found.2)

    so_pairing : IsPairing GoesFurther whose (AreSo bound) (GoSo bound)
    so_pairing = record {
      variables = λ t u so. so.variables;
      asks = λ t u so. parallel_questions whose t.calls u.calls so.calls;
      counts = λ t u so site. parallel_counts whose site t.calls u.calls so.calls;
      assigned = λ t u variables so. record {
        variables = refl;
        steps = so.steps;
        calls = so.calls;
        rest = so.rest;
        other_rest = so.other_rest;
        mine_is = so.mine_is;
        theirs_is = so.theirs_is;
        alike = so.alike;
        fuel = so.fuel;
        small = so.small;
      };
      done = λ flow t u so _. (u, refl, so);
      unit = λ t u go along so keeps _ m. units_so t u go along t.fuel u.fuel refl refl (wider_so t u so) keeps m;
      on = λ x y after along m h _ go. then_so x y after along h m go;
    }

    -- ---- calls

    module _ (provides : Provides) (call : PreparedCall) (t u : State) (so : AreSo bound t u) where
      -- the second list goes on as the first does
      record NextBoth (got : Reply) (how : How) : Type 0 where
        other_how : How
        more : List Answer
        other_more : List Answer
        rest_is : so.rest ≡ (asked_and_got call got, how) ∷ more
        other_is : so.other_rest ≡ (asked_and_got call got, other_how) ∷ other_more
        reads : ReadsAlike whose call.callee how other_how
        alike : AnswersAlike whose more other_more

      next_of : (got : Reply) (how : How) (more : List Answer) (rest other_rest : List Answer) → so.rest ≡ rest → so.other_rest ≡ other_rest
          → rest ≡ (asked_and_got call got, how) ∷ more → AnswersAlike whose rest other_rest → NextBoth got how
      next_of got how more [] other_rest e f g h = absurd (cc)
      next_of got how more (a ∷ rest) [] e f g h = absurd h
      next_of got how more (a ∷ rest) (b ∷ other_rest) e f g h =
          let first : a ≡ (asked_and_got call got, how) = cc in
          let behind : rest ≡ more = cc in
          let asked : b.0 ≡ asked_and_got call got = sym h.0 ∙ ap (λ x. x.0) first in
          record {
            other_how = b.1;
            more = more;
            other_more = other_rest;
            rest_is = e ∙ g;
            other_is = f ∙ ap (λ x. (x, b.1) ∷ other_rest) asked;
            reads = subst (λ x. ReadsAlike whose x.0.callee x.1 b.1) first h.1;
            alike = subst (λ xs. AnswersAlike whose xs other_rest) behind h.2;
          }

      next_both : (got : Reply) (how : How) (t' : State) → t'.calls ≡ AndCall t.calls (asked_and_got call got) how → IsFront t' → NextBoth got how
      next_both got how t' e front =
          let more : List Answer = front.calls.0 in
          let whole : extended t.calls so.rest ≡ extended t.calls ((asked_and_got call got, how) ∷ more) =
          sym so.mine_is ∙ front.calls.1 ∙ ap (λ c. extended c more) e in
          next_of got how more so.rest so.other_rest refl refl (same_added t.calls so.rest ((asked_and_got call got, how) ∷ more) whole) so.alike

      costs_fit : (got : Reply) (how : How) (next : NextBoth got how) → t.steps ≤ taken → steps_below next.other_how + u.steps + steps_in u.calls ≤ total
      unfolding steps_in
      costs_fit got how next few =
          let rest : steps_in (AndCall u.calls (asked_and_got call got) next.other_how) ≤ steps_in (extended (AndCall u.calls (asked_and_got call got) next.other_how) next.other_more) =
          steps_added (AndCall u.calls (asked_and_got call got) next.other_how) next.other_more in
          let all : steps_in theirs ≡ steps_in (extended (AndCall u.calls (asked_and_got call got) next.other_how) next.other_more) =
          ap steps_in (so.theirs_is ∙ ap (extended u.calls) next.other_is) in
          omega (arith, rest, all, few, so.steps, enough)

      after_both : (got : Reply) (t' : State) (adds : AddsCall t call got t') → GoesFurther t t' → (next : NextBoth got adds.how) → steps_below next.other_how ≤ u.fuel
          → AreSo bound t' (with_call u call next.other_how got (u.fuel - steps_below next.other_how))
      unfolding steps_in
      after_both got t' adds kept next fits = record {
        variables = adds.variables ∙ so.variables;
        steps = adds.steps ∙ so.steps;
        calls = subst (λ c. AreParallel whose c (AndCall u.calls (asked_and_got call got) next.other_how)) (sym adds.calls)
            (AndBoth (asked_and_got call got) adds.how next.other_how so.calls next.reads);
        rest = next.more;
        other_rest = next.other_more;
        mine_is = so.mine_is ∙ ap (extended t.calls) next.rest_is ∙ ap (λ c. extended c next.more) (sym adds.calls);
        theirs_is = so.theirs_is ∙ ap (extended u.calls) next.other_is;
        alike = next.alike;
        fuel = omega (arith, so.fuel, fits);
        small = omega (arith, kept.units.left, so.small);
      }

      calls_so : (x : Evaluation Reply State) → AddsDone t call x → Kept GoesFurther t x
          → GoSo bound x (decided services other (meaning services other) (framed whose there) call u)
      calls_so Spent adds kept = tt
      calls_so Missing adds kept = tt
      calls_so (Done got t') adds kept = λ front.
          let next = next_both got adds.how t' adds.calls front in
          let cost : steps_below next.other_how + u.steps + steps_in u.calls ≤ total = costs_fit got adds.how next (omega (arith, front.few, adds.steps)) in
          let fits : steps_below next.other_how ≤ u.fuel = omega (arith, cost, so.fuel) in (
            with_call u call next.other_how got (u.fuel - steps_below next.other_how),
            provides.given call got next.other_how u.calls next.other_more (so.theirs_is ∙ ap (extended u.calls) next.other_is) u refl fits,
            after_both got t' adds kept next fits,
          )

  -- ---- bodies

  module _ (provides : Provides) where
    abbrev run : Position → Statement → State → Going
    run = meaning services one (framed whose here)

    abbrev along : Position → Statement → State → Going
    along = meaning services other (framed whose there)

    abbrev does : Position → Statement → State → Going
    does = act services one (meaning services one) (framed whose here)

    abbrev does_along : Position → Statement → State → Going
    does_along = act services other (meaning services other) (framed whose there)

    runs_so : (bound : ℕ) (at : Position) (s : Statement) (t u : State) → AreSo bound t u → GoSo bound (run at s t) (along at s u)
    runs_so zero at s t u so = absurd (omega (arith, so.small))
    runs_so (suc bound) at s t u so =
        subst (λ x. GoSo (suc bound) x (along at s u)) (sym (meaning_rule services one (framed whose here) at s t))
        (subst (GoSo (suc bound) (with_unit t (does at s))) (sym (meaning_rule services other (framed whose there) at s u))
        (wider_go bound (with_unit t (does at s)) (with_unit u (does_along at s))
        (units_so bound t u (does at s) (does_along at s) t.fuel u.fuel refl refl so (act_goes_further services one (framed whose here) at s)
        (act_alike GoesFurther goes_further whose (AreSo bound) (GoSo bound) (so_pairing bound)
        (meaning services one) (meaning services other) here there
        (meaning_goes_further services one (framed whose here)) (meaning_goes_further services other (framed whose there))
        (runs_so bound) services one other
        (λ call a b go more same keeps _ m.
        then_so bound _ _ go more keeps
        (calls_so bound provides call a b same _
        (call_adds services one (meaning services one) (framed whose here) call a)
        (call_goes_further services one (framed whose here) call a)) m)
        at s))))

    starts_so : (t u : State) → t.variables ≡ u.variables → t.steps ≡ 0 → u.steps ≡ 0 → t.calls ≡ NoCalls → u.calls ≡ NoCalls → u.fuel ≡ total
        → AnswersAlike whose (answers_of mine) (answers_of theirs) → AreSo (suc t.fuel) t u
    unfolding steps_in
    starts_so t u variables s s' c c' fuel alike =
        let none : steps_in u.calls ≡ 0 = ap steps_in c' in
        record {
          variables = variables;
          steps = s ∙ sym s';
          calls = subst (λ calls. AreParallel whose calls u.calls) (sym c) (subst (AreParallel whose NoCalls) (sym c') NoneMade);
          rest = answers_of mine;
          other_rest = answers_of theirs;
          mine_is = from_answers mine ∙ ap (λ calls. extended calls (answers_of mine)) (sym c);
          theirs_is = from_answers theirs ∙ ap (λ calls. extended calls (answers_of theirs)) (sym c');
          alike = alike;
          fuel = omega (arith, fuel, s', none);
          small = omega arith;
        }

    none_left : (rest other_rest : List Answer) → rest ≡ [] → AnswersAlike whose rest other_rest → other_rest ≡ []
    none_left [] [] e h = refl
    none_left [] (b ∷ other_rest) e h = absurd h
    none_left (a ∷ rest) other_rest e h = absurd (cc)

    ends_whole : (bound : ℕ) (t u : State) → t.calls ≡ mine → AreSo bound t u → u.calls ≡ theirs
    ends_whole bound t u e so =
        let none : so.rest ≡ [] = same_added t.calls so.rest [] (sym so.mine_is ∙ sym e) in
        let other : so.other_rest ≡ [] = none_left so.rest so.other_rest none so.alike in
        sym (so.theirs_is ∙ ap (extended u.calls) other)

    -- where the first is done with these calls and steps, the second is done with those
    pub replayed : (at : Position) (ss : Statements) (t u : State) (flow : Flow) (t' : State) → t.variables ≡ u.variables → t.steps ≡ 0 → u.steps ≡ 0
        → t.calls ≡ NoCalls → u.calls ≡ NoCalls → u.fuel ≡ total → AnswersAlike whose (answers_of mine) (answers_of theirs)
        → statements_go (meaning services one) (framed whose here) at ss t ≡ Done flow t' → t'.calls ≡ mine → t'.steps ≤ taken
        → (u' : State) × (statements_go (meaning services other) (framed whose there) at ss u ≡ Done flow u') × (u'.calls ≡ theirs) × (u'.steps ≡ t'.steps)
        × (u'.fuel + u'.steps + steps_in u'.calls ≡ total)
    replayed at ss t u flow t' variables s s' c c' fuel alike e calls few =
        let so : AreSo (suc t.fuel) t u = starts_so t u variables s s' c c' fuel alike in
        let goes : GoSo (suc t.fuel) (statements_go (meaning services one) (framed whose here) at ss t) (statements_go (meaning services other) (framed whose there) at ss u) =
        statements_alike GoesFurther goes_further whose (AreSo (suc t.fuel)) (GoSo (suc t.fuel)) (so_pairing (suc t.fuel))
        (meaning services one) (meaning services other) here there
        (meaning_goes_further services one (framed whose here)) (meaning_goes_further services other (framed whose there))
        (runs_so (suc t.fuel)) at ss t u so in
        let found = subst (λ x. GoSo (suc t.fuel) x (statements_go (meaning services other) (framed whose there) at ss u)) e goes (record { calls = ([], sym calls); few = few }) in
        (found.0, found.1, ends_whole (suc t.fuel) t' found.0 calls found.2, sym (found.2).steps, (found.2).fuel)
