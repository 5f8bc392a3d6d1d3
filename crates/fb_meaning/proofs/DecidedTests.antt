-- A test whose calls come to what a run tells is that run.
use Rattle.std.specs.Prelude.{◌≡◌, ℕ, ◌+◌, ◌-◌, ◌≤◌, List, [], ◌∷◌, ◌++◌, length, find, Some}
use Rattle.std.specs.Option.{option_map}
use Rattle.std.proofs.Common.{refl, sym, ap, ◌∙◌, subst, append_assoc, length-append, arith}
use Rattle.std.proofs.lemmas.List.{map-append}
use Rattle.fb_base.specs.declared.value.Value.{Value}
use Rattle.fb_syntax.specs.Trees.{ServicesTree, TestTree}
use Rattle.fb_tree.specs.Runs.{Invocation, CallList, NoCalls, AndCall, How, Faulted, Ran, Known as KnownHow, TestRun}
use Rattle.fb_tree.specs.Calls.{injected_by}
use Rattle.fb_tree.specs.Records.{asked_of, steps_in, steps_of_run}
use Rattle.fb_tree.specs.declared.asked.Asked.{Asked}
use Rattle.fb_transport.specs.Sources.{Source}
use Rattle.fb_meaning.specs.Evaluations.{Done, then_on}
use Rattle.fb_meaning.specs.Positions.{beginning}
use Rattle.fb_meaning.specs.Meaning.{test_meaning, test_state, test_run_of, outcome_of_flow}
use Rattle.fb_meaning.specs.Bodies.{Whose, OfTest}
use Rattle.fb_meaning.specs.CallLaws.{Answer, answers_of, extended, AreDecided, IsDecidedSo}
use Rattle.fb_meaning.specs.Each.{AreApart}
use Rattle.fb_meaning.specs.Records.{has_entry, known_part, parts_source}
use Rattle.fb_meaning.specs.Replays.{IsPartsRun}
use Rattle.fb_meaning.proofs.CallRecords.{test_decided}
use Rattle.fb_meaning.proofs.Entries.{entries_of}
use Rattle.fb_meaning.proofs.Replays.{ReadsAlike, AnswersAlike, answers_of_extended, replayed}
use Rattle.fb_meaning.proofs.KnownCalls.{entries, entries_are, last_apart, find_answer}
use Rattle.fb_meaning.proofs.MadeAgain.{test_made_by}
use Rattle.fb_meaning.proofs.DecidedRuns.{none_asked, EachComes, provides}

-- ---- lists that end alike

pub last_same : {A : Type 0} (xs ys : List A) (x y : A) → xs ++ x ∷ [] ≡ ys ++ y ∷ [] → (xs ≡ ys) × (x ≡ y)
last_same [] [] x y e = (refl, (cc))
last_same [] (b ∷ ys) x y e = let long = ap length e in absurd (omega (arith, long, length-append ys (y ∷ [])))
last_same (a ∷ xs) [] x y e = let long = ap length e in absurd (omega (arith, long, length-append xs (x ∷ [])))
last_same (a ∷ xs) (b ∷ ys) x y e =
    let first : a ≡ b = cc in
    let rest : xs ++ x ∷ [] ≡ ys ++ y ∷ [] = cc in
    let same = last_same xs ys x y rest in
    (ap (λ z. z ∷ xs) first ∙ ap (λ zs. b ∷ zs) same.0, same.1)

alike_and : (whose : Whose) (xs ys : List Answer) (x y : Answer) → AnswersAlike whose xs ys → x.0 ≡ y.0 → ReadsAlike whose x.0.callee x.1 y.1
    → AnswersAlike whose (xs ++ x ∷ []) (ys ++ y ∷ [])
alike_and whose [] [] x y h e reads = (e, reads, tt)
alike_and whose [] (b ∷ ys) x y h e reads = absurd h
alike_and whose (a ∷ xs) [] x y h e reads = absurd h
alike_and whose (a ∷ xs) (b ∷ ys) x y h e reads = (h.0, h.1, alike_and whose xs ys x y h.2 e reads)

-- ---- the parts of a run

module _ (whole : CallList) (apart : AreApart (entries_of whole)) where
  -- at the entry of a call stands its part
  pub part_found : (before : CallList) (asked : Asked) (how : How) (more : List Answer) → whole ≡ extended (AndCall before asked how) more → (callee : ℕ) (args : List Value)
      → parts_source whole (asked.entry ∷ []) callee args ≡ Some (known_part (asked, how))
  part_found before asked how more e callee args =
      let answers : answers_of whole ≡ answers_of before ++ (asked, how) ∷ more =
      ap answers_of e ∙ answers_of_extended (AndCall before asked how) more ∙ append_assoc (answers_of before) ((asked, how) ∷ []) more in
      let all : AreApart (entries (answers_of before) ++ asked.entry ∷ entries more) =
      subst AreApart (sym (entries_are (λ answer. 0) (λ answer. []) whole) ∙ ap entries answers ∙ map-append (λ (answer : Answer). answer.0.entry) (answers_of before) ((asked, how) ∷ more)) apart in
      ap (λ xs. option_map known_part (find (λ answer. has_entry asked.entry answer.0) xs)) answers
      ∙ ap (option_map known_part) (find_answer (answers_of before) more (asked, how) (last_apart (entries (answers_of before)) (entries more) asked.entry all))

  -- so what was decided by the parts injected the same
  reads_part : (asked : Asked) (how : How) (own : Answer) → asked ≡ own.0 → IsDecidedSo (parts_source whole) (asked.entry ∷ []) asked how
      → parts_source whole (asked.entry ∷ []) asked.callee.0 asked.args ≡ Some (known_part own) → ReadsAlike OfTest asked.callee how own.1
  unfolding AreDecided injected_by
  reads_part asked Faulted own same decided e = absurd (cc)
  reads_part asked (Ran (Invocation m args calls answer steps)) own same decided e = let made = decided.0 in absurd (cc)
  reads_part asked (KnownHow steps injected) own same decided e =
      let is : injected ≡ injected_by own.0.callee own.1 = cc in
      is ∙ ap (λ (a : Asked). injected_by a.callee own.1) (sym same)

  alike_parts : (mine front : CallList) (more : List Answer) → whole ≡ extended front more → asked_of mine ≡ asked_of front → AreDecided (parts_source whole) [] mine
      → AnswersAlike OfTest (answers_of mine) (answers_of front)
  unfolding AreDecided
  alike_parts NoCalls NoCalls more e same decided = tt
  alike_parts NoCalls (AndCall before asked how) more e same decided = let none = none_asked (AndCall before asked how) (sym same) in absurd (cc)
  alike_parts (AndCall before asked how) NoCalls more e same decided = let none = none_asked (AndCall before asked how) same in absurd (cc)
  alike_parts (AndCall before asked how) (AndCall other_before other other_how) more e same decided =
      let parts = last_same (asked_of before) (asked_of other_before) asked other same in
      let found : parts_source whole (asked.entry ∷ []) asked.callee.0 asked.args ≡ Some (known_part (other, other_how)) =
      ap (λ (a : Asked). parts_source whole (a.entry ∷ []) asked.callee.0 asked.args) parts.1 ∙ part_found other_before other other_how more e asked.callee.0 asked.args in
      alike_and OfTest (answers_of before) (answers_of other_before) (asked, how) (other, other_how)
      (alike_parts before other_before ((other, other_how) ∷ more) e parts.0 decided.0) parts.1
      (reads_part asked how (other, other_how) parts.1 decided.1 found)

-- ---- tests

pub test_comes : (services : ServicesTree) (source : Source) (test : TestTree) (run : TestRun) (again fuel : ℕ) → IsPartsRun services test again run
    → AreApart (entries_of run.calls) → EachComes services source [] run.calls → steps_of_run run ≤ fuel
    → test_meaning services test source fuel ≡ Done run (fuel - steps_of_run run)
unfolding test_meaning
test_comes services source test run again fuel by_parts apart each enough =
    let by = test_made_by _ by_parts.parts by_parts.left by_parts.done in
    let mine : by_parts.parts.calls ≡ by.after.calls = ap (λ r. r.calls) by.made in
    let asked : asked_of by.after.calls ≡ asked_of run.calls = ap asked_of (sym mine) ∙ by_parts.asked in
    let decided : AreDecided (parts_source run.calls) [] by.after.calls =
    subst (AreDecided (parts_source run.calls) []) mine (test_decided services (parts_source run.calls) test again by_parts.parts by_parts.left by_parts.done) in
    let steps_are : by.after.steps ≡ run.steps = sym (ap (λ r. r.steps) by.made) ∙ by_parts.steps in
    let outcome_is : outcome_of_flow by.flow ≡ run.outcome = sym (ap (λ r. r.outcome) by.made) ∙ by_parts.outcome in
    let fits : by.after.steps + steps_in run.calls ≤ fuel = omega (arith, enough, steps_are) in
    let found = replayed services OfTest [] [] (parts_source run.calls) source by.after.calls run.calls by.after.steps fuel fits
    (provides services source OfTest [] [] (parts_source run.calls) by.after.calls run.calls by.after.steps fuel fits each)
    beginning test.body (test_state again) (test_state fuel) by.flow by.after refl refl refl refl refl refl
    (alike_parts run.calls apart by.after.calls run.calls [] refl asked decided) by.done refl (omega arith) in
    let cost : steps_in (found.0).calls ≡ steps_in run.calls = ap steps_in found.2 in
    ap (λ x. then_on x test_run_of) found.1
    ∙ ap (λ c. Done (record { calls = c; outcome = outcome_of_flow by.flow; steps = (found.0).steps }) (found.0).fuel) found.2
    ∙ ap (λ o. Done (record { calls = run.calls; outcome = o; steps = (found.0).steps }) (found.0).fuel) outcome_is
    ∙ ap (λ n. Done (record { calls = run.calls; outcome = run.outcome; steps = n }) (found.0).fuel) (found.3 ∙ steps_are)
    ∙ ap (Done run) (omega (arith, found.4, found.3, steps_are, cost))
