-- What is done is the run of any source that decides its calls so.
use Rattle.std.specs.Prelude.{◌≡◌, ℕ, ◌+◌, ◌-◌, ◌≤◌, nat_le, Bool, true, false, if◌then◌else◌, List, [], ◌∷◌, ◌++◌, map, length, codes, Option, Some, None, ⊤}
use Rattle.std.proofs.Common.{refl, sym, ap, ◌∙◌, subst, length-append, arith}
use Rattle.std.proofs.lemmas.Bool.Decides.{nat_tests}
use Rattle.fb_base.specs.declared.method.MethodId.{MethodId}
use Rattle.fb_base.specs.declared.value.Value.{Value}
use Rattle.fb_base.specs.declared.reply.Reply.{Reply}
use Rattle.fb_base.specs.declared.reply.Reply.TheVariants as reply
use Rattle.fb_index.specs.Entry.{Occurrence}
use Rattle.fb_syntax.specs.Trees.{MethodTree, ServicesTree}
use Rattle.fb_check.specs.Programs.{method_at}
use Rattle.fb_tree.specs.Runs.{Tree, Invocation, CallList, NoCalls, AndCall, How, Faulted, Ran, Known as KnownHow}
use Rattle.fb_tree.specs.Records.{asked_of, record_of, records_of, records_in, records_below, steps_in, steps_below}
use Rattle.fb_tree.specs.declared.asked.Asked.{Asked}
use Rattle.fb_tree.specs.declared.recorded.Record.{Record}
use Rattle.fb_transport.specs.Sources.{Source}
use Rattle.fb_transport.specs.declared.decision.Decision.TheVariants.{Forward, Fault, Known}
use Rattle.fb_meaning.specs.Evaluations.{Spent, Done, then_on, State}
use Rattle.fb_meaning.specs.Positions.{beginning}
use Rattle.fb_meaning.specs.Meaning.{meaning, method_meaning}
use Rattle.fb_meaning.specs.Bodies.{Whose, OfMethod, PreparedCall, method_state, invocation_of, body_goes, method_goes, returned, decided_by, asked_and_got, reply_of, reply_of_flow}
use Rattle.fb_meaning.specs.CallLaws.{Answer, answers_of, extended, AreDecided, IsDecidedSo}
use Rattle.fb_meaning.specs.Each.{HoldsOfEach}
use Rattle.fb_meaning.specs.Records.{record_source}
use Rattle.fb_meaning.specs.Replays.{IsMadeAgain}
use Rattle.fb_meaning.proofs.Replays.{AnswersAlike, Provides, replayed}
use Rattle.fb_meaning.proofs.MadeAgain.{made_by, asked_as_answers}
use Rattle.fb_meaning.proofs.EachOf.{each_front, each_behind}

-- ---- what is asked alike

alike_asked : (xs ys : List Answer) → map (λ answer. answer.0) xs ≡ map (λ answer. answer.0) ys → AnswersAlike OfMethod xs ys
alike_asked [] [] e = tt
alike_asked [] (y ∷ ys) e = absurd (cc)
alike_asked (x ∷ xs) [] e = absurd (cc)
alike_asked (x ∷ xs) (y ∷ ys) e =
    let first : x.0 ≡ y.0 = cc in
    let rest : map (λ answer. answer.0) xs ≡ map (λ answer. answer.0) ys = cc in
    (first, tt, alike_asked xs ys rest)

pub none_asked : (calls : CallList) → asked_of calls ≡ [] → calls ≡ NoCalls
none_asked NoCalls e = refl
none_asked (AndCall before asked how) e = let long = ap length e in absurd (omega (arith, long, length-append (asked_of before) (asked ∷ [])))

-- some evaluation by its own replies makes this record
abbrev pub IsMadeSo : ServicesTree → Record → Type 0
IsMadeSo services item = (again : ℕ) × IsMadeAgain services again item

module _ (services : ServicesTree) (source : Source) where
  -- what the source decides on this request comes to this call
  abbrev pub Comes : List Occurrence → Asked → How → Type 0
  Comes index asked how =
      (call : PreparedCall) (got : Reply) → asked_and_got call got ≡ asked → (u : State) → steps_below how ≤ u.fuel
      → decided_by services (meaning services source) index (source index call.callee.0 call.args) call u ≡ returned u call how got (u.fuel - steps_below how)

  abbrev pub EachComes : List Occurrence → CallList → Type 0
  EachComes index NoCalls = ⊤
  EachComes index (AndCall before asked how) = EachComes index before × Comes (index ++ asked.entry ∷ []) asked how

  front_comes : (index : List Occurrence) (calls : CallList) (more : List Answer) → EachComes index (extended calls more) → EachComes index calls
  front_comes index calls [] h = h
  front_comes index calls (answer ∷ more) h = (front_comes index (AndCall calls answer.0 answer.1) more h).0

  in_place : (index : List Occurrence) (before : CallList) (asked : Asked) (how : How) (more : List Answer) → EachComes index (extended before ((asked, how) ∷ more))
      → Comes (index ++ asked.entry ∷ []) asked how
  in_place index before asked how more h = (front_comes index (AndCall before asked how) more h).1

  pub provides : (whose : Whose) (here there : List Occurrence) (one : Source) (mine theirs : CallList) (taken total : ℕ) (enough : taken + steps_in theirs ≤ total)
      → EachComes there theirs → Provides services whose here there one source mine theirs taken total enough
  provides whose here there one mine theirs taken total enough each = record {
    given = λ call got how before more e u same fits.
        in_place there before (asked_and_got call got) how more (subst (EachComes there) e each) call got refl u fits;
  }

  -- ---- invocations

  module _ (m : MethodId) (args : List Value) (index : List Occurrence) (calls : CallList) (got : Reply) (steps : ℕ) (each : EachComes index calls) (fuel : ℕ) (enough : steps + steps_in calls ≤ fuel) where
    abbrev tree : Tree
    tree = Invocation m args calls got steps

    body_comes : (method : Option MethodTree) (item : Record) (again : ℕ) (made : Tree) (left : ℕ) → body_goes (meaning services (record_source item)) method m args [] again ≡ Done made left
        → record_of made ≡ record_of tree → body_goes (meaning services source) method m args index fuel ≡ Done tree (fuel - (steps + steps_in calls))
    unfolding steps_in
    body_comes None item again made left e recorded =
        let is : Invocation m args NoCalls (reply.Err (codes "internal")) 0 ≡ made = cc in
        let same : record_of (Invocation m args NoCalls (reply.Err (codes "internal")) 0) ≡ record_of tree = ap record_of is ∙ recorded in
        let none : calls ≡ NoCalls = none_asked calls (sym (ap (λ r. r.calls) same)) in
        let reply_is : reply.Err (codes "internal") ≡ got = ap (λ r. r.reply) same in
        let steps_are : 0 ≡ steps = ap (λ r. r.steps) same in
        let all : steps_in calls ≡ 0 = ap steps_in none in
        ap (λ r. Done (Invocation m args NoCalls r 0) fuel) reply_is
        ∙ ap (λ c. Done (Invocation m args c got 0) fuel) (sym none)
        ∙ ap (λ n. Done (Invocation m args calls got n) fuel) steps_are
        ∙ ap (Done tree) (omega (arith, steps_are, all))
    body_comes (Some method) item again made left e recorded =
        let by = made_by m args _ made left e in
        let same : record_of (Invocation m args by.after.calls (reply_of_flow by.flow) by.after.steps) ≡ record_of tree = sym (ap record_of by.made) ∙ recorded in
        let asked : asked_of by.after.calls ≡ asked_of calls = ap (λ r. r.calls) same in
        let reply_is : reply_of_flow by.flow ≡ got = ap (λ r. r.reply) same in
        let steps_are : by.after.steps ≡ steps = ap (λ r. r.steps) same in
        let fits : by.after.steps + steps_in calls ≤ fuel = omega (arith, enough, steps_are) in
        let found = replayed services OfMethod [] index (record_source item) source by.after.calls calls by.after.steps fuel fits
        (provides OfMethod [] index (record_source item) by.after.calls calls by.after.steps fuel fits each)
        beginning method.body (method_state method args again) (method_state method args fuel) by.flow by.after refl refl refl refl refl refl
        (alike_asked (answers_of by.after.calls) (answers_of calls) (sym (asked_as_answers by.after.calls) ∙ asked ∙ asked_as_answers calls)) by.done refl (omega arith) in
        let cost : steps_in (found.0).calls ≡ steps_in calls = ap steps_in found.2 in
        ap (λ x. then_on x (invocation_of m args)) found.1
        ∙ ap (λ r. Done (Invocation m args (found.0).calls r (found.0).steps) (found.0).fuel) reply_is
        ∙ ap (λ c. Done (Invocation m args c got (found.0).steps) (found.0).fuel) found.2
        ∙ ap (λ n. Done (Invocation m args calls got n) (found.0).fuel) (found.3 ∙ steps_are)
        ∙ ap (Done tree) (omega (arith, found.4, found.3, steps_are, cost))

    pub tree_comes : IsMadeSo services (record_of tree) → method_meaning services source fuel m args index ≡ Done tree (fuel - (steps + steps_in calls))
    unfolding method_meaning
    tree_comes made = body_comes (method_at services m.0) (record_of tree) made.0 made.1.tree made.1.left made.1.done made.1.recorded

  -- ---- calls

  fault_comes : (index : List Occurrence) (asked : Asked) → source index asked.callee.0 asked.args ≡ Some (Fault asked.reply) → Comes index asked Faulted
  unfolding steps_below
  fault_comes index asked e call got same u fits =
      let is : source index call.callee.0 call.args ≡ Some (Fault got) = subst (λ (a : Asked). source index a.callee.0 a.args ≡ Some (Fault a.reply)) (sym same) e in
      ap (λ d. decided_by services (meaning services source) index d call u) is ∙ ap (returned u call Faulted got) (omega arith)

  fits_so : (call : PreparedCall) (got : Reply) (steps : ℕ) (injected : List MethodId) (u : State) (fits : Bool) → nat_le steps u.fuel ≡ fits → steps ≤ u.fuel
      → (if fits then returned u call (KnownHow steps injected) got (u.fuel - steps) else Spent) ≡ returned u call (KnownHow steps injected) got (u.fuel - steps)
  fits_so call got steps injected u true e h = refl
  fits_so call got steps injected u false e h = absurd (grind (arith, nat_tests))

  known_comes : (index : List Occurrence) (asked : Asked) (steps : ℕ) (injected : List MethodId)
      → source index asked.callee.0 asked.args ≡ Some (Known asked.reply steps injected) → Comes index asked (KnownHow steps injected)
  unfolding steps_below
  known_comes index asked steps injected e call got same u fits =
      let is : source index call.callee.0 call.args ≡ Some (Known got steps injected) =
      subst (λ (a : Asked). source index a.callee.0 a.args ≡ Some (Known a.reply steps injected)) (sym same) e in
      ap (λ d. decided_by services (meaning services source) index d call u) is ∙ fits_so call got steps injected u (nat_le steps u.fuel) refl fits

  ran_comes : (index : List Occurrence) (asked : Asked) (m : MethodId) (args : List Value) (calls : CallList) (answer : Reply) (steps : ℕ)
      → source index asked.callee.0 asked.args ≡ Some Forward → m ≡ asked.callee → args ≡ asked.args → answer ≡ asked.reply
      → EachComes index calls → IsMadeSo services (record_of (Invocation m args calls answer steps)) → Comes index asked (Ran (Invocation m args calls answer steps))
  unfolding steps_below method_meaning
  ran_comes index asked m args calls answer steps e callee given same_reply each made call got same u fits =
      let is : source index call.callee.0 call.args ≡ Some Forward = subst (λ (a : Asked). source index a.callee.0 a.args ≡ Some Forward) (sym same) e in
      let callee_is : call.callee ≡ m = ap (λ (a : Asked). a.callee) same ∙ sym callee in
      let args_are : call.args ≡ args = ap (λ (a : Asked). a.args) same ∙ sym given in
      let reply_is : answer ≡ got = same_reply ∙ sym (ap (λ (a : Asked). a.reply) same) in
      let done : method_goes services (meaning services source) call.callee call.args index u.fuel ≡ Done (Invocation m args calls answer steps) (u.fuel - (steps + steps_in calls)) =
      ap (λ c. method_goes services (meaning services source) c call.args index u.fuel) callee_is
      ∙ ap (λ xs. method_goes services (meaning services source) m xs index u.fuel) args_are
      ∙ tree_comes m args index calls answer steps each u.fuel fits made in
      ap (λ d. decided_by services (meaning services source) index d call u) is
      ∙ ap (λ x. then_on x (λ tree left. returned u call (Ran tree) (reply_of tree) left)) done
      ∙ ap (λ r. returned u call (Ran (Invocation m args calls answer steps)) r (u.fuel - (steps + steps_in calls))) reply_is

  mutual
    unfolding records_of AreDecided

    pub each_comes : (index : List Occurrence) (calls : CallList) → AreDecided source index calls → HoldsOfEach (IsMadeSo services) (records_in calls) → EachComes index calls
    each_comes index NoCalls decided made = tt
    each_comes index (AndCall before asked how) decided made = (
      each_comes index before decided.0 (each_front (IsMadeSo services) (records_in before) (records_below how) made),
      comes (index ++ asked.entry ∷ []) asked how decided.1 (each_behind (IsMadeSo services) (records_in before) (records_below how) made),
    )

    comes : (index : List Occurrence) (asked : Asked) (how : How) → IsDecidedSo source index asked how → HoldsOfEach (IsMadeSo services) (records_below how) → Comes index asked how
    comes index asked Faulted decided made = fault_comes index asked decided
    comes index asked (Ran (Invocation m args calls answer steps)) decided made =
        ran_comes index asked m args calls answer steps decided.0 decided.1 decided.2 decided.3 (each_comes index calls decided.4 made.1) made.0
    comes index asked (KnownHow steps injected) decided made = known_comes index asked steps injected decided
