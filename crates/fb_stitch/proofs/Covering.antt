-- What is derived is the plan's run, and what is covered is derived.
use Rattle.std.proofs.Common.{◌≡◌, ◌≤◌, ◌+◌, ◌-◌, ◌⊎◌, inl, inr, ℕ, Bool, true, false, List, [], ◌∷◌, ◌++◌, map, find, filter_map, Contains, Some, option_map, Result, Ok, Err, IfOk, IfErr, refl, sym, ap, ◌∙◌, subst, arith, if◌then◌else◌}
use Rattle.fb_base.specs.declared.value.Value.{Value}
use Rattle.fb_index.specs.Entry.{Occurrence}
use Rattle.fb_index.specs.declared.fault.Fault.{Fault as FaultOf}
use Rattle.fb_syntax.specs.Trees.{ServicesTree, TestTree}
use Rattle.fb_check.specs.Programs.{kinds_given}
use Rattle.fb_tree.specs.Runs.{CallList, NoCalls, AndCall, How, Faulted, Ran, Known as KnownHow, TestRun}
use Rattle.fb_tree.specs.Records.{asked_of, records_in, records_below, steps_of, steps_in, steps_below, steps_of_run}
use Rattle.fb_tree.specs.Calls.{injected_of, injected_by, injection_of}
use Rattle.fb_tree.specs.declared.asked.Asked.{Asked}
use Rattle.fb_tree.specs.declared.recorded.Record.{Record}
use Rattle.fb_transport.specs.Sources.{Source, plan_source}
use Rattle.fb_transport.specs.declared.decision.Decision.TheVariants.{Forward, Fault, Known}
use Rattle.fb_meaning.specs.CallLaws.{Answer, answers_of, AreDecided, IsDecidedSo}
use Rattle.fb_meaning.specs.DecidedCalls.{TestsAreDecided}
use Rattle.fb_meaning.specs.DecisionLaws.{ArePartsOf, IsTrueOnce, JoinedIsMade, JoinedIsRun, PartsAreOfRun}
use Rattle.fb_meaning.specs.Each.{HoldsOfEach}
use Rattle.fb_meaning.specs.Evaluations.{Evaluation, Spent, Missing, Done}
use Rattle.fb_meaning.specs.Fuel.{FollowsFuel}
use Rattle.fb_meaning.specs.Meaning.{test_meaning}
use Rattle.fb_meaning.specs.Records.{has_entry, known_part, parts_source}
use Rattle.fb_meaning.specs.Replays.{RunsAreMadeAgain}
use Rattle.fb_meaning.specs.Runs.{IsCovered}
use Rattle.fb_meaning.specs.Spelling.{CoveredIsSpelled, RunsAreSpelled}
use Rattle.fb_eval.specs.States.{Stops}
use Rattle.fb_eval.specs.declared.stop.Stop.{Stop}
use Rattle.fb_eval.specs.declared.stop.Stop.TheVariants as stop
use Rattle.fb_stitch.specs.declared.derivation.Derived.{Derived}
use Rattle.fb_stitch.specs.Sources.{AreTrueOf, stitched_source}
use Rattle.fb_stitch.specs.declared.derivation.NotDerived.{NotDerived}
use Rattle.fb_stitch.specs.declared.derivation.NotDerived.TheVariants as not_derived
use Rattle.fb_stitch.specs.Derivations.{GivesDerived, DerivedIsCovered, IsDerived, IsListed, not_derived_of}
use Rattle.fb_stitch.proofs.Adding.{map_joined}
use Rattle.fb_stitch.proofs.Knowing.{ground, answers_known, known_so}
use Rattle.fb_stitch.proofs.Lists.{each_front, each_behind, each_joined}
use Rattle.fb_stitch.proofs.Unique.{recorded_are_true, stitched_below, stitched_is_made}

-- ---- calls that are known, in place of those that ran

known_how : Asked → How → How
known_how asked how = KnownHow (steps_below how) (injected_by asked.callee how)

known_calls : CallList → CallList
known_calls NoCalls = NoCalls
known_calls (AndCall before asked how) = AndCall (known_calls before) asked (known_how asked how)

known_answer : Answer → Answer
known_answer answer = (answer.0, known_how answer.0 answer.1)

asked_again : (calls : CallList) → asked_of (known_calls calls) ≡ asked_of calls
unfolding known_calls
asked_again NoCalls = refl
asked_again (AndCall before asked how) = ap (λ calls. calls ++ asked ∷ []) (asked_again before)

steps_again : (calls : CallList) → steps_in (known_calls calls) ≡ steps_in calls
unfolding steps_in known_calls known_how
steps_again NoCalls = refl
steps_again (AndCall before asked how) = ap (λ n. n + steps_below how) (steps_again before)

no_records : (P : Record → Type 0) (calls : CallList) → HoldsOfEach P (records_in (known_calls calls))
unfolding records_in known_calls known_how
no_records P NoCalls = tt
no_records P (AndCall before asked how) = each_joined P (records_in (known_calls before)) [] (no_records P before) tt

answers_again : (calls : CallList) → answers_of (known_calls calls) ≡ map known_answer (answers_of calls)
unfolding known_calls known_answer
answers_again NoCalls = refl
answers_again (AndCall before asked how) =
    ap (λ answers. answers ++ (asked, known_how asked how) ∷ []) (answers_again before) ∙ sym (map_joined known_answer (answers_of before) ((asked, how) ∷ []))

found_again : (entry : Occurrence) (answers : List Answer)
    → option_map known_part (find (λ answer. has_entry entry answer.0) (map known_answer answers)) ≡ option_map known_part (find (λ answer. has_entry entry answer.0) answers)
unfolding steps_below injected_by known_answer known_how
found_again entry [] = refl
found_again entry (answer ∷ answers) = by (has_entry entry answer.0) (found_again entry answers)
  where
    by : (b : Bool)
        → option_map known_part (find (λ answer. has_entry entry answer.0) (map known_answer answers)) ≡ option_map known_part (find (λ answer. has_entry entry answer.0) answers)
        → option_map known_part (if b then Some (known_answer answer) else find (λ answer. has_entry entry answer.0) (map known_answer answers))
        ≡ option_map known_part (if b then Some answer else find (λ answer. has_entry entry answer.0) answers)
    by true later = refl
    by false later = later

same_parts : (calls : CallList) (index : List Occurrence) (callee : ℕ) (args : List Value) → parts_source (known_calls calls) index callee args ≡ parts_source calls index callee args
same_parts calls [] callee args = refl
same_parts calls (entry ∷ []) callee args =
    ap (λ answers. option_map known_part (find (λ answer. has_entry entry answer.0) answers)) (answers_again calls) ∙ found_again entry (answers_of calls)
same_parts calls (entry ∷ other ∷ more) callee args = refl

same_source : (calls : CallList) → parts_source (known_calls calls) ≡ parts_source calls
same_source calls = λ i index callee args. same_parts calls index callee args i

-- ---- parts

parts_steps : (parts calls : CallList) → ArePartsOf parts calls → steps_in parts ≡ steps_in calls
unfolding steps_in
parts_steps NoCalls NoCalls h = refl
parts_steps NoCalls (AndCall before other how) h = absurd h
parts_steps (AndCall parts asked (KnownHow steps injected)) (AndCall before other how) h =
    ap (λ n. n + steps) (parts_steps parts before h.0) ∙ ap (λ n. steps_in before + n) h.2
parts_steps (AndCall parts asked Faulted) calls h = absurd h
parts_steps (AndCall parts asked (Ran tree)) calls h = absurd h
parts_steps (AndCall parts asked (KnownHow steps injected)) NoCalls h = absurd h

module _ (services : ServicesTree) (test : TestTree) (records : List Record) (fuel : ℕ) (plan : List FaultOf)
    (fuel_law : (source : Source) → FollowsFuel steps_of_run (test_meaning services test source)) (joined : JoinedIsRun) where
  abbrev source : Source
  source = plan_source (kinds_given services) plan

  abbrev stitched : Source
  stitched = stitched_source services records fuel plan

  -- what is joined of the parts is the plan's run
  pub derived_so : PartsAreOfRun → RunsAreSpelled → AreTrueOf services records → (parts : TestRun) (left : ℕ) → test_meaning services test stitched fuel ≡ Done parts left
      → (derived : Derived) → derived.outcome ≡ parts.outcome → derived.steps ≡ fuel - left → IsListed (ground services records fuel plan) parts.calls derived
      → IsDerived services test fuel records plan derived
  derived_so parts_law spelled truths parts left done derived outcome steps listed =
      let run : TestRun = record { calls = listed.calls; outcome = parts.outcome; steps = parts.steps } in
      let alone = parts_law services test stitched fuel parts run left done listed.parts_are refl refl in
      let taken = (fuel_law stitched).taken fuel left parts done in
      let same = parts_steps parts.calls listed.calls listed.parts_are in
      let fits : steps_of_run run ≤ fuel = omega (arith, taken, same) in
      let is_run = joined services test source fuel run (recorded_are_true services records (records_in listed.calls) truths listed.recorded) alone listed.decided fits in
      record {
        run = run;
        left = fuel - steps_of_run run;
        done = is_run;
        outcome = outcome;
        calls = listed.visits;
        injected = listed.injected ∙ ap (λ visits. filter_map injection_of visits) listed.visits;
        steps = omega (arith, taken, same, steps);
        spelled = spelled services test fuel records plan derived.uses run (fuel - steps_of_run run) is_run listed.are_at;
      }

  -- the parts of a covered run are known
  module _ (made : JoinedIsMade) (truths : AreTrueOf services records) where
    known_call : (asked : Asked) (how : How) → IsDecidedSo source (asked.entry ∷ []) asked how → HoldsOfEach (Contains records) (records_below how) → steps_below how ≤ fuel
        → IsDecidedSo stitched (asked.entry ∷ []) asked (known_how asked how)
    unfolding AreDecided records_in steps_in injected_by known_how
    known_call asked Faulted so recorded fits = absurd (let e : Some Forward ≡ Some (Fault asked.reply) = so in cc)
    known_call asked (KnownHow steps injected) so recorded fits = absurd (let e : Some Forward ≡ Some (Known asked.reply steps injected) = so in cc)
    known_call asked (Ran tree) so recorded fits =
        let below = stitched_below (ground services records fuel plan) (asked.entry ∷ []) asked tree (record { decided = so; recorded = recorded }) in
        answers_known services records fuel plan (asked.entry ∷ []) asked.callee asked.args refl
        ∙ known_so records _ tree (fuel - steps_of tree)
        (stitched_is_made made (ground services records fuel plan) truths fuel asked.callee asked.args (asked.entry ∷ []) tree below.stitched fits) below.stitched.recorded
        ∙ ap (λ r. Some (Known r (steps_of tree) (injected_of tree))) below.replies

    calls_are_known : (calls : CallList) → AreDecided source [] calls → HoldsOfEach (Contains records) (records_in calls) → steps_in calls ≤ fuel
        → AreDecided stitched [] (known_calls calls)
    unfolding AreDecided records_in steps_in known_calls
    calls_are_known NoCalls decided recorded fits = tt
    calls_are_known (AndCall before asked how) decided recorded fits = (
      calls_are_known before decided.0 (each_front (Contains records) (records_in before) (records_below how) recorded) (omega (arith, fits)),
      known_call asked how decided.1 (each_behind (Contains records) (records_in before) (records_below how) recorded) (omega (arith, fits)),
    )

    pub covered_is_done : TestsAreDecided → RunsAreMadeAgain → (covered : IsCovered services test fuel records plan)
        → (parts : TestRun) × (left : ℕ) × (test_meaning services test stitched fuel ≡ Done parts left)
    covered_is_done decided again covered =
        let run = covered.run in
        let taken = (fuel_law source).taken fuel covered.left run covered.done in
        let alone = again services test source fuel fuel run covered.left covered.done (omega (arith, taken)) in
        let known : TestRun = record { calls = known_calls run.calls; outcome = run.outcome; steps = run.steps } in
        let same = steps_again run.calls in
        let fits : steps_of_run known ≤ fuel = omega (arith, taken, same) in (
          known,
          fuel - steps_of_run known,
          joined services test stitched fuel known (no_records (IsTrueOnce services) run.calls)
              (record {
                parts = alone.parts;
                left = alone.left;
                done = ap (λ s. test_meaning services test s fuel) (same_source run.calls) ∙ alone.done;
                asked = alone.asked ∙ sym (asked_again run.calls);
                outcome = alone.outcome;
                steps = alone.steps;
              })
              (calls_are_known run.calls (decided services test source fuel run covered.left covered.done) covered.recorded (omega (arith, taken))) fits,
        )

    pub not_covered : TestsAreDecided → RunsAreMadeAgain → (test_meaning services test stitched fuel ≡ Spent) ⊎ (test_meaning services test stitched fuel ≡ Missing)
        → ¬ (IsCovered services test fuel records plan)
    not_covered decided again stopped covered =
        let done = covered_is_done decided again covered in
        elim stopped [
          | inl e ↦ (let both = sym e ∙ done.2 in absurd (cc))
          | inr e ↦ (let both = sym e ∙ done.2 in absurd (cc))
        ]

  -- ---- as the code has it

  pub done_here : (given : Source) (n : ℕ) (evaluated : Evaluation TestRun ℕ) → given ≡ stitched → n ≡ fuel → test_meaning services test given n ≡ evaluated → test_meaning services test stitched fuel ≡ evaluated
  done_here given n evaluated same units e =
      ap (λ s. test_meaning services test s fuel) (sym same) ∙ ap (test_meaning services test given) (sym units) ∙ e

  pub parts_fit : (parts : TestRun) (left : ℕ) → test_meaning services test stitched fuel ≡ Done parts left → steps_in parts.calls ≤ fuel
  parts_fit parts left e = (let taken = (fuel_law stitched).taken fuel left parts e in omega (arith, taken))

  pub gives_derived : PartsAreOfRun → RunsAreSpelled → AreTrueOf services records → (parts : TestRun) (left : ℕ) → test_meaning services test stitched fuel ≡ Done parts left
      → (result : Result Derived NotDerived) → IfOk result (λ derived. derived.outcome ≡ parts.outcome) → IfOk result (λ derived. derived.steps ≡ fuel - left)
      → IfOk result (λ derived. IsListed (ground services records fuel plan) parts.calls derived) → IfErr result (λ e. e ≡ not_derived.Memory)
      → GivesDerived services test fuel records plan result
  gives_derived parts_law spelled truths parts left done (Ok derived) outcome steps listed err = derived_so parts_law spelled truths parts left done derived outcome steps listed
  gives_derived parts_law spelled truths parts left done (Err not_derived.NotCovered) outcome steps listed err = absurd (cc)
  gives_derived parts_law spelled truths parts left done (Err not_derived.Memory) outcome steps listed err = tt

  pub gives_stopped : JoinedIsMade → AreTrueOf services records → TestsAreDecided → RunsAreMadeAgain → (given : Source) (n : ℕ) → given ≡ stitched → n ≡ fuel → (why : Stop)
      → Stops (test_meaning services test given n) why → (told : NotDerived) → told ≡ not_derived_of why → GivesDerived services test fuel records plan (Err told)
  gives_stopped made truths decided again given n same units stop.Spent stops told is =
      subst (λ t. GivesDerived services test fuel records plan (Err t)) (sym is) (not_covered made truths decided again (inl (done_here given n Spent same units stops)))
  gives_stopped made truths decided again given n same units stop.Missing stops told is =
      subst (λ t. GivesDerived services test fuel records plan (Err t)) (sym is) (not_covered made truths decided again (inr (done_here given n Missing same units stops)))
  gives_stopped made truths decided again given n same units stop.Memory stops told is =
      subst (λ t. GivesDerived services test fuel records plan (Err t)) (sym is) tt

-- a derivation has what spells the run
pub derived_is_covered : CoveredIsSpelled → DerivedIsCovered
derived_is_covered is_spelled services test fuel records plan derived h = (is_spelled services test fuel records plan).1
    (record { run = h.run; left = h.left; done = h.done; uses = derived.uses; spelled = h.spelled })
