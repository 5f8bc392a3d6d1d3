-- What is evaluated again, where calls get the replies that were recorded.
use Rattle.std.specs.Prelude.{◌≡◌, ℕ, ◌+◌, ◌≤◌, Bool, true, false, if◌then◌else◌, List, [], ◌∷◌, ◌++◌, map, find, codes, Option, Some, None}
use Rattle.std.specs.Option.{option_map}
use Rattle.std.proofs.Common.{refl, sym, ap, ◌∙◌, subst, arith}
use Rattle.std.proofs.lemmas.List.{map-append}
use Rattle.fb_base.specs.declared.method.MethodId.{MethodId}
use Rattle.fb_base.specs.declared.value.Value.{Value}
use Rattle.fb_base.specs.declared.reply.Reply.TheVariants as reply
use Rattle.fb_index.specs.Entry.{Occurrence}
use Rattle.fb_syntax.specs.Trees.{MethodTree, ServicesTree}
use Rattle.fb_check.specs.Programs.{method_at}
use Rattle.fb_tree.specs.Runs.{Tree, Invocation, CallList, NoCalls, AndCall, How, Known as KnownHow, TestRun}
use Rattle.fb_tree.specs.Records.{asked_of, record_of, steps_in, steps_below}
use Rattle.fb_tree.specs.Calls.{injected_in, injected_by}
use Rattle.fb_tree.specs.declared.recorded.Record.{Record}
use Rattle.fb_transport.specs.Sources.{Source}
use Rattle.fb_transport.specs.declared.decision.Decision.TheVariants.{Known}
use Rattle.fb_meaning.specs.Evaluations.{Spent, Missing, Done, then_on, Flow, State, Going}
use Rattle.fb_meaning.specs.Positions.{beginning}
use Rattle.fb_meaning.specs.Meaning.{meaning, method_meaning, test_meaning, test_state, test_run_of, outcome_of_flow}
use Rattle.fb_meaning.specs.Bodies.{OfMethod, OfTest, method_state, invocation_of, body_goes, method_goes, reply_of_flow}
use Rattle.fb_meaning.specs.CallLaws.{Answer, answers_of}
use Rattle.fb_meaning.specs.Records.{has_entry, record_source, parts_source}
use Rattle.fb_meaning.specs.Each.{HoldsOfEach, AreApart}
use Rattle.fb_meaning.specs.Replays.{RecordsAreMadeAgain, RunsAreMadeAgain}
use Rattle.fb_meaning.proofs.CallRecords.{method_counted, test_counted}
use Rattle.fb_meaning.proofs.Entries.{entries_apart, of_tree}
use Rattle.fb_meaning.proofs.Replays.{ReadsAlike, replayed}
use Rattle.fb_meaning.proofs.KnownCalls.{known_calls, known_source, asked_known, known_provides, known_alike}

-- ---- nothing is taken and nobody injected by what a record tells

abbrev no_cost : Answer → ℕ
no_cost answer = 0

abbrev nobody : Answer → List MethodId
nobody answer = []

free : (calls : CallList) → steps_in (known_calls no_cost nobody calls) ≡ 0
unfolding steps_in
free NoCalls = refl
free (AndCall before asked how) = omega (arith, free before)

pub asked_as_answers : (calls : CallList) → asked_of calls ≡ map (λ answer. answer.0) (answers_of calls)
asked_as_answers NoCalls = refl
asked_as_answers (AndCall before asked how) =
    ap (λ xs. xs ++ asked ∷ []) (asked_as_answers before) ∙ sym (map-append (λ (answer : Answer). answer.0) (answers_of before) ((asked, how) ∷ []))

found_so : (entry : Occurrence) (answers : List Answer)
    → option_map (λ asked. Known asked.reply 0 []) (find (has_entry entry) (map (λ answer. answer.0) answers))
    ≡ option_map (λ answer. Known answer.0.reply (no_cost answer) (nobody answer)) (find (λ answer. has_entry entry answer.0) answers)
found_so entry [] = refl
found_so entry (a ∷ answers) = by_test (found_so entry answers) (has_entry entry a.0)
  where
    by_test : option_map (λ asked. Known asked.reply 0 []) (find (has_entry entry) (map (λ answer. answer.0) answers))
        ≡ option_map (λ answer. Known answer.0.reply (no_cost answer) (nobody answer)) (find (λ answer. has_entry entry answer.0) answers)
        → (b : Bool) → option_map (λ asked. Known asked.reply 0 []) (if b then Some a.0 else find (has_entry entry) (map (λ answer. answer.0) answers))
        ≡ option_map (λ answer. Known answer.0.reply (no_cost answer) (nobody answer)) (if b then Some a else find (λ answer. has_entry entry answer.0) answers)
    by_test rest true = refl
    by_test rest false = rest

record_knows : (item : Record) (calls : CallList) → item.calls ≡ asked_of calls → (entry : Occurrence) (callee : ℕ) (args : List Value)
    → record_source item (entry ∷ []) callee args ≡ known_source no_cost nobody calls (entry ∷ []) callee args
record_knows item calls e entry callee args =
    ap (λ xs. option_map (λ asked. Known asked.reply 0 []) (find (has_entry entry) xs)) (e ∙ asked_as_answers calls) ∙ found_so entry (answers_of calls)

all_unread : (how : Answer → How) (answers : List Answer) → HoldsOfEach (λ answer. ReadsAlike OfMethod answer.0.callee answer.1 (how answer)) answers
all_unread how [] = tt
all_unread how (a ∷ answers) = (tt, all_unread how answers)

-- ---- invocations

-- a body that is done, by what it makes
pub record MadeBy (m : MethodId) (args : List Value) (x : Going) (tree : Tree) (left : ℕ) : Type 0 where
  pub flow : Flow
  pub after : State
  pub done : x ≡ Done flow after
  pub made : tree ≡ Invocation m args after.calls (reply_of_flow flow) after.steps
  pub rest : left ≡ after.fuel

pub made_by : (m : MethodId) (args : List Value) (x : Going) (tree : Tree) (left : ℕ) → then_on x (invocation_of m args) ≡ Done tree left → MadeBy m args x tree left
made_by m args Spent tree left e = absurd (cc)
made_by m args Missing tree left e = absurd (cc)
made_by m args (Done flow after) tree left e =
    let made : Invocation m args after.calls (reply_of_flow flow) after.steps ≡ tree = cc in
    let rest : after.fuel ≡ left = cc in
    record { flow = flow; after = after; done = refl; made = sym made; rest = sym rest }

module _ (services : ServicesTree) (source : Source) (m : MethodId) (args : List Value) (index : List Occurrence) (again : ℕ) where
  body_again : (method : Option MethodTree) (fuel : ℕ) (tree : Tree) (left : ℕ) → AreApart (map (λ asked. asked.entry) (record_of tree).calls) → (record_of tree).steps ≤ again
      → body_goes (meaning services source) method m args index fuel ≡ Done tree left
      → (tree' : Tree) × (left' : ℕ) × (body_goes (meaning services (record_source (record_of tree))) method m args [] again ≡ Done tree' left') × (record_of tree' ≡ record_of tree)
  body_again None fuel tree left apart enough e =
      let made : Invocation m args NoCalls (reply.Err (codes "internal")) 0 ≡ tree = cc in
      (tree, again, ap (λ x. Done x again) made, refl)
  body_again (Some method) fuel tree left apart enough e =
      let by = made_by m args _ tree left e in
      let calls : CallList = by.after.calls in
      let recorded : record_of tree ≡ record { method = m; args = args; calls = asked_of calls; reply = reply_of_flow by.flow; steps = by.after.steps } = ap record_of by.made in
      let asked : (record_of tree).calls ≡ asked_of calls = ap (λ r. r.calls) recorded in
      let steps : (record_of tree).steps ≡ by.after.steps = ap (λ r. r.steps) recorded in
      let fits : by.after.steps + steps_in (known_calls no_cost nobody calls) ≤ again = omega (arith, enough, steps, free calls) in
      let found = replayed services OfMethod index [] source (record_source (record_of tree)) calls (known_calls no_cost nobody calls) by.after.steps again fits
      (known_provides no_cost nobody services OfMethod index source (record_source (record_of tree)) calls calls by.after.steps again fits
      (subst (λ xs. AreApart (map (λ asked. asked.entry) xs)) asked apart) (record_knows (record_of tree) calls asked))
      beginning method.body (method_state method args fuel) (method_state method args again) by.flow by.after refl refl refl refl refl refl
      (known_alike no_cost nobody OfMethod calls (all_unread (λ answer. KnownHow (no_cost answer) (nobody answer)) (answers_of calls))) by.done refl (omega arith) in (
        Invocation m args (found.0).calls (reply_of_flow by.flow) (found.0).steps,
        (found.0).fuel,
        ap (λ x. then_on x (invocation_of m args)) found.1,
        ap (λ c. record { method = m; args = args; calls = asked_of c; reply = reply_of_flow by.flow; steps = (found.0).steps }) found.2
            ∙ ap (λ xs. record { method = m; args = args; calls = xs; reply = reply_of_flow by.flow; steps = (found.0).steps }) (asked_known no_cost nobody calls)
            ∙ ap (λ n. record { method = m; args = args; calls = asked_of calls; reply = reply_of_flow by.flow; steps = n }) found.3
            ∙ sym recorded,
      )

  -- it is the record of this method on these arguments
  call_made : (method : Option MethodTree) (fuel : ℕ) (tree : Tree) (left : ℕ) → body_goes (meaning services source) method m args index fuel ≡ Done tree left
      → ((record_of tree).method ≡ m) × ((record_of tree).args ≡ args)
  call_made None fuel tree left e =
      let made : Invocation m args NoCalls (reply.Err (codes "internal")) 0 ≡ tree = cc in
      (sym (ap (λ t. (record_of t).method) made), sym (ap (λ t. (record_of t).args) made))
  call_made (Some method) fuel tree left e =
      let by = made_by m args _ tree left e in
      (ap (λ t. (record_of t).method) by.made, ap (λ t. (record_of t).args) by.made)

pub records_are_made_again : RecordsAreMadeAgain
unfolding method_meaning
records_are_made_again services source fuel again m args index tree left e enough =
    let apart : AreApart (map (λ asked. asked.entry) (record_of tree).calls) = of_tree tree (method_counted services source fuel m args index tree left e) in
    let found = body_again services source m args index again (method_at services m.0) fuel tree left apart enough e in
    let same = call_made services source m args index again (method_at services m.0) fuel tree left e in
    record {
      tree = found.0;
      left = found.1;
      done = ap (λ x. method_goes services (meaning services (record_source (record_of tree))) x (record_of tree).args [] again) same.0
          ∙ ap (λ x. method_goes services (meaning services (record_source (record_of tree))) m x [] again) same.1 ∙ found.2;
      recorded = found.3;
    }

-- ---- tests

abbrev part_cost : Answer → ℕ
part_cost answer = steps_below answer.1

abbrev part_whom : Answer → List MethodId
part_whom answer = injected_by answer.0.callee answer.1

parts_cost : (calls : CallList) → steps_in (known_calls part_cost part_whom calls) ≡ steps_in calls
unfolding steps_in
parts_cost NoCalls = refl
parts_cost (AndCall before asked how) = ap (λ n. n + steps_below how) (parts_cost before)

all_injected : (answers : List Answer) → HoldsOfEach (λ answer. ReadsAlike OfTest answer.0.callee answer.1 (KnownHow (part_cost answer) (part_whom answer))) answers
unfolding injected_in
all_injected [] = tt
all_injected (a ∷ answers) = (refl, all_injected answers)

-- a test that is done, by what it makes
pub record TestMadeBy (x : Going) (run : TestRun) (left : ℕ) : Type 0 where
  pub flow : Flow
  pub after : State
  pub done : x ≡ Done flow after
  pub made : run ≡ record { calls = after.calls; outcome = outcome_of_flow flow; steps = after.steps }
  pub rest : left ≡ after.fuel

pub test_made_by : (x : Going) (run : TestRun) (left : ℕ) → then_on x test_run_of ≡ Done run left → TestMadeBy x run left
test_made_by Spent run left e = absurd (cc)
test_made_by Missing run left e = absurd (cc)
test_made_by (Done flow after) run left e =
    let run_so : TestRun = record { calls = after.calls; outcome = outcome_of_flow flow; steps = after.steps } in
    let made : run_so ≡ run = cc in
    let rest : after.fuel ≡ left = cc in
    record { flow = flow; after = after; done = refl; made = sym made; rest = sym rest }

pub runs_are_made_again : RunsAreMadeAgain
unfolding test_meaning
runs_are_made_again services test source fuel again run left e enough =
    let by = test_made_by _ run left e in
    let calls : run.calls ≡ by.after.calls = ap (λ r. r.calls) by.made in
    let steps : run.steps ≡ by.after.steps = ap (λ r. r.steps) by.made in
    let cost : steps_in (known_calls part_cost part_whom run.calls) ≡ steps_in run.calls = parts_cost run.calls in
    let fits : run.steps + steps_in (known_calls part_cost part_whom run.calls) ≤ again = omega (arith, enough, cost) in
    let apart : AreApart (map (λ asked. asked.entry) (asked_of run.calls)) = entries_apart run.calls (test_counted services source test fuel run left e) in
    let found = replayed services OfTest [] [] source (parts_source run.calls) run.calls (known_calls part_cost part_whom run.calls) run.steps again fits
    (known_provides part_cost part_whom services OfTest [] source (parts_source run.calls) run.calls run.calls run.steps again fits apart (λ entry callee args. refl))
    beginning test.body (test_state fuel) (test_state again) by.flow by.after refl refl refl refl refl refl
    (known_alike part_cost part_whom OfTest run.calls (all_injected (answers_of run.calls))) by.done (sym calls) (omega (arith, steps)) in
    record {
      parts = record { calls = (found.0).calls; outcome = outcome_of_flow by.flow; steps = (found.0).steps };
      left = (found.0).fuel;
      done = ap (λ x. then_on x test_run_of) found.1;
      asked = ap asked_of found.2 ∙ asked_known part_cost part_whom run.calls;
      outcome = sym (ap (λ r. r.outcome) by.made);
      steps = found.3 ∙ sym steps;
    }
