-- Runs of a test under plans are lawful.
use Rattle.std.proofs.Common.{◌≡◌, ◌⊎◌, inl, inr, ⊎_elim, ℕ, zero, suc, ◌+◌, ◌-◌, ◌≤◌, nat_lt, Bool, true, false, Option, Some, None, List, [], ◌∷◌, map, length, slice_get, Contains, refl, sym, ap, ◌∙◌, subst, arith, if◌then◌else◌}
use Rattle.std.specs.Option.{option_and_then}
use Rattle.std.proofs.lemmas.Option.{same_Some}
use Rattle.std.proofs.lemmas.List.{length-map}
use Rattle.fb_base.specs.declared.kind.Kind.{Kind}
use Rattle.fb_base.specs.declared.method.MethodId.{MethodId}
use Rattle.fb_base.specs.declared.reply.Reply.{Reply}
use Rattle.fb_base.specs.declared.reply.Reply.TheVariants as reply
use Rattle.fb_index.specs.Entry.{Occurrence}
use Rattle.fb_index.specs.Plan.{fault_at}
use Rattle.fb_index.specs.declared.fault.Fault.{Fault}
use Rattle.fb_syntax.specs.Trees.{ServicesTree, TestTree}
use Rattle.fb_check.specs.Programs.{kinds_given}
use Rattle.fb_tree.specs.Runs.{TestRun}
use Rattle.fb_tree.specs.Calls.{PlacedCall, calls_of, visit_of, visits_of}
use Rattle.fb_tree.specs.Records.{steps_of_run}
use Rattle.fb_tree.specs.declared.visit.Visit.{Visit}
use Rattle.fb_transport.specs.Sources.{Source, fits_kind, if_fits, injected_at, fault_or_forward, plan_source}
use Rattle.fb_campaign.specs.Runs.{Went, AreDistinct, fits, where_it_fits, is_between_services, answer_to, PartAtFault, AreLawful}
use Rattle.fb_meaning.specs.Each.{HoldsOfEach, AreApart}
use Rattle.fb_meaning.specs.Evaluations.{Evaluation, Spent, Missing, Done}
use Rattle.fb_meaning.specs.Fuel.{FollowsFuel}
use Rattle.fb_meaning.specs.Meaning.{test_meaning}
use Rattle.fb_meaning.specs.Parting.{VisitsPart, PlansOnlyFail, RunsGoAlike, VisitsPartToo}
use Rattle.fb_meaning.specs.RunLaws.{failure_of, IsAnswered, RunsAreLawful}
use Rattle.fb_meaning.specs.Runs.{run_of}
use Rattle.fb_functest.specs.Runs.{went_of, went_if_done, runs_of, gives_of}

-- ---- a run that came to its end

pub record Ended (evaluated : Evaluation TestRun ℕ) (went : Went) : Type 0 where
  pub run : TestRun
  pub left : ℕ
  pub done : evaluated ≡ Done run left
  pub same : went_of run ≡ went

pub ended : (evaluated : Evaluation TestRun ℕ) (went : Went) → went_if_done evaluated ≡ Some went → Ended evaluated went
ended Spent went is = absurd (cc)
ended Missing went is = absurd (cc)
ended (Done run left) went is = record { run = run; left = left; done = refl; same = same_Some (went_of run) went is }

-- ---- a plan's answers, in the words of transports and in those of campaigns

failure_is : (o : Option Reply) → failure_of (Some (fault_or_forward o)) ≡ o
failure_is None = refl
failure_is (Some given) = refl

where_alike : (services : ServicesTree) (callee : MethodId) (o : Option Kind) → slice_get (kinds_given services) callee.0 ≡ o → (given : Reply)
    → option_and_then (λ kind. if_fits kind given) o ≡ where_it_fits (gives_of services) callee given
where_alike services callee None is (reply.Ok value) = rw is
where_alike services callee None is (reply.Err code) = rw is
where_alike services callee (Some kind) is (reply.Ok value) = rw is
where_alike services callee (Some kind) is (reply.Err code) = rw is

found_alike : (services : ServicesTree) (callee : MethodId) (o : Option Kind) → slice_get (kinds_given services) callee.0 ≡ o → (found : Option Reply)
    → option_and_then (λ kind. option_and_then (if_fits kind) found) o ≡ option_and_then (where_it_fits (gives_of services) callee) found
found_alike services callee None is None = refl
found_alike services callee (Some kind) is None = refl
found_alike services callee o is (Some given) = where_alike services callee o is given

answers_alike : (services : ServicesTree) (plan : List Fault) (index : List Occurrence) (callee : MethodId)
    → injected_at (kinds_given services) plan index callee.0 ≡ answer_to (gives_of services) plan index callee
answers_alike services plan index callee = by_length (nat_lt (length index) 2) refl
  where
    by_length : (b : Bool) → nat_lt (length index) 2 ≡ b → injected_at (kinds_given services) plan index callee.0 ≡ answer_to (gives_of services) plan index callee
    by_length true short = (let far : is_between_services index ≡ false = grind arith in rw short (rw far))
    by_length false long =
        let far : is_between_services index ≡ true = grind arith in
        let found = found_alike services callee (slice_get (kinds_given services) callee.0) refl (fault_at plan index) in
        rw long (rw far found)

-- ---- lists

-- what holds of each call holds of each visit
each_visit : (P : Visit → Type 0) (calls : List PlacedCall) → HoldsOfEach (λ call. P (visit_of call)) calls → (visit : Visit) → Contains (map visit_of calls) visit → P visit
each_visit P [] each visit (k, within, is) = absurd (omega (arith, within))
each_visit P (call ∷ calls) each visit (zero, within, is) = subst P is each.0
each_visit P (call ∷ calls) each visit (suc k, within, is) = each_visit P calls each.1 visit (k, omega (arith, within), is)

not_among : {A : Type 0} (x : A) (ys : List A) → HoldsOfEach (λ y. ¬ (x ≡ y)) ys → ¬ (Contains ys x)
not_among x [] apart (k, within, is) = absurd (omega (arith, within))
not_among x (y ∷ ys) apart (zero, within, is) = apart.0 (sym is)
not_among x (y ∷ ys) apart (suc k, within, is) = not_among x ys apart.1 (k, omega (arith, within), is)

distinct : {A : Type 0} (xs : List A) → AreApart xs → AreDistinct xs
distinct [] apart = tt
distinct (x ∷ xs) apart = (not_among x xs apart.0, distinct xs apart.1)

indexes_are : (calls : List PlacedCall) → map (λ visit. visit.index) (map visit_of calls) ≡ map (λ call. call.index) calls
indexes_are [] = refl
indexes_are (call ∷ calls) = ap (λ indexes. call.index ∷ indexes) (indexes_are calls)

as_part : (first second : List Visit) → VisitsPart first second → PartAtFault first second
as_part first second part = record {
  shared = part.shared;
  here = part.here;
  there = part.there;
  after_here = part.after_here;
  after_there = part.after_there;
  first_visits = part.first_visits;
  second_visits = part.second_visits;
  same_index = part.same_index;
  same_callee = part.same_callee;
  other_fault = part.other_fault;
}

-- ---- the law

module _ (fuel_law : (services : ServicesTree) (source : Source) (test : TestTree) → FollowsFuel steps_of_run (test_meaning services test source))
    (calls_law : RunsAreLawful) (alike_law : RunsGoAlike) (part_law : VisitsPartToo) (fail_law : PlansOnlyFail)
    (services : ServicesTree) (test : TestTree) where
  abbrev source_of : List Fault → Source
  source_of plan = plan_source (kinds_given services) plan

  more_fuel : (n m : ℕ) (plan : List Fault) (went : Went) → n ≤ m → runs_of services test n plan ≡ Some went → runs_of services test m plan ≡ Some went
  more_fuel n m plan went small is =
      let e = ended (run_of services test n plan) went is in
      let law = fuel_law services (source_of plan) test in
      let taken = law.taken n e.left e.run e.done in
      let fits : steps_of_run e.run ≤ m = omega (arith, taken, small) in
      ap went_if_done (law.enough n e.left m e.run e.done fits) ∙ ap Some e.same

  abbrev Answered : List Fault → Visit → Type 0
  Answered plan visit = visit.fault ≡ answer_to (gives_of services) plan visit.index visit.callee

  each_answered : (plan : List Fault) (calls : List PlacedCall) → HoldsOfEach (IsAnswered (source_of plan)) calls
      → HoldsOfEach (λ call. Answered plan (visit_of call)) calls
  each_answered plan [] each = tt
  each_answered plan (call ∷ calls) each = (
    each.0 ∙ failure_is (injected_at (kinds_given services) plan call.index call.asked.callee.0) ∙ answers_alike services plan call.index call.asked.callee,
    each_answered plan calls each.1,
  )

  answered : (n : ℕ) (plan : List Fault) (went : Went) → runs_of services test n plan ≡ Some went →
      (visit : Visit) → Contains went.visits visit → Answered plan visit
  answered n plan went is visit has =
      let e = ended (run_of services test n plan) went is in
      let law = calls_law services test (source_of plan) n e.run e.left e.done in
      each_visit (Answered plan) (calls_of e.run) (each_answered plan (calls_of e.run) law.answered) visit
      (subst (λ (w : Went). Contains w.visits visit) (sym e.same) has)

  differ : (n : ℕ) (plan : List Fault) (went : Went) → runs_of services test n plan ≡ Some went → AreDistinct (map (λ visit. visit.index) went.visits)
  differ n plan went is =
      let e = ended (run_of services test n plan) went is in
      let law = calls_law services test (source_of plan) n e.run e.left e.done in
      subst (λ (w : Went). AreDistinct (map (λ visit. visit.index) w.visits)) e.same
      (subst AreDistinct (sym (indexes_are (calls_of e.run))) (distinct (map (λ call. call.index) (calls_of e.run)) law.apart))

  few : (n : ℕ) (plan : List Fault) (went : Went) → runs_of services test n plan ≡ Some went → length went.visits ≤ n
  few n plan went is =
      let e = ended (run_of services test n plan) went is in
      let law = calls_law services test (source_of plan) n e.run e.left e.done in
      let many : length (visits_of e.run) ≡ length (calls_of e.run) = length-map (calls_of e.run) visit_of in
      let small = law.few in
      subst (λ (w : Went). length w.visits ≤ n) e.same (omega (arith, many, small))

  alike : (n : ℕ) (p q : List Fault) (first second : Went) → runs_of services test n p ≡ Some first → runs_of services test n q ≡ Some second →
      (first.visits ≡ second.visits) ⊎ PartAtFault first.visits second.visits
  alike n p q first second is also =
      let e = ended (run_of services test n p) first is in
      let f = ended (run_of services test n q) second also in
      let both : (visits_of e.run ≡ visits_of f.run) ⊎ PartAtFault (visits_of e.run) (visits_of f.run)
      = ⊎_elim (λ same. inl (ap visits_of same)) (λ part. inr (as_part (visits_of e.run) (visits_of f.run) (part_law e.run f.run part)))
      (alike_law services test (source_of p) (source_of q) n e.run f.run e.left f.left (fail_law (kinds_given services) p) (fail_law (kinds_given services) q) e.done f.done) in
      subst (λ (w : Went). (w.visits ≡ second.visits) ⊎ PartAtFault w.visits second.visits) e.same
      (subst (λ (w : Went). (visits_of e.run ≡ w.visits) ⊎ PartAtFault (visits_of e.run) w.visits) f.same both)

  pub lawful : AreLawful (gives_of services) (runs_of services test)
  lawful = record { more_fuel = more_fuel; answered = answered; indexes_differ = differ; few_calls = few; alike = alike }
