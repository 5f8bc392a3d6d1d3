-- Calls: a fault of the plan, or the invocation below.
use Rattle.std.proofs.Common.{◌≡◌, ◌≤◌, ◌+◌, ℕ, List, [], ◌∷◌, ◌++◌, Option, Some, None, inl, inr, sym, ap, ◌∙◌, subst, arith}
use Rattle.fb_base.specs.declared.reply.Reply.{Reply}
use Rattle.fb_index.specs.Entry.{Occurrence}
use Rattle.fb_store.specs.Walks.{Walk, walk_of}
use Rattle.fb_tree.specs.Runs.{Faulted, Ran, Known as KnownHow}
use Rattle.fb_tree.specs.Records.{records_of, steps_of}
use Rattle.fb_tree.specs.Calls.{call_at, calls_within, calls_below, injected_of}
use Rattle.fb_transport.specs.Sources.{fault_or_forward}
use Rattle.fb_transport.specs.declared.decision.Decision.TheVariants.{Forward, Fault}
use Rattle.fb_meaning.specs.Bodies.{PreparedCall, asked_and_got}
use Rattle.fb_meaning.specs.CallLaws.{AreDecided}
use Rattle.fb_stitch.specs.declared.found.Found.{Found}
use Rattle.fb_stitch.specs.Stitched.{Ground, IsSound}
use Rattle.fb_stitch.specs.Finding.{Adds, AddsVisit, FindsCall, FindsTree, GoesOnWith, HasCall}
use Rattle.fb_stitch.proofs.Adding.{adds_then, adds_visit}
use Rattle.fb_stitch.proofs.Extended.{calls_parts}
use Rattle.fb_stitch.proofs.Unique.{stitched_above, stitched_below, never_known}

none_more : (n : ℕ) → 0 + n ≡ n
none_more n = omega arith

module _ (ground : Ground) (request : PreparedCall) (index : List Occurrence) (old : Found) where
  pub faults : (new : Found) (given : Reply) → ground.source index request.callee.0 request.args ≡ Some (Fault given) → old.steps ≤ ground.limit
      → AddsVisit old new (record { index = index; callee = request.callee; fault = Some given }) (request.callee ∷ []) → HasCall ground request index old new given
  unfolding records_of calls_within injected_of steps_of AreDecided
  faults new given e within visit =
      let s = visit.steps in
      record {
        how = Faulted;
        stitched = record { decided = e; recorded = tt };
        adds = adds_visit ground.records old new (call_at index (asked_and_got request given) Faulted) (request.callee ∷ []) visit;
        within = omega (arith, within, s);
      }

  none_runs : IsSound ground → (visited new : Found) → ground.source index request.callee.0 request.args ≡ Some Forward
      → AddsVisit old visited (record { index = index; callee = request.callee; fault = None }) []
      → FindsTree ground request.callee request.args index visited new None → FindsCall ground request index old new None
  unfolding records_of calls_within injected_of steps_of AreDecided
  none_runs sound visited new e visit none given Faulted so fits = (let both = sym e ∙ so.decided in absurd (cc))
  none_runs sound visited new e visit none given (Ran tree) so fits =
      let s = visit.steps in
      none tree (stitched_below ground index (asked_and_got request given) tree so).stitched (omega (arith, fits, s))
  none_runs sound visited new e visit none given (KnownHow steps injected) so fits = absurd (never_known ground sound index (asked_and_got request given) steps injected so)

  pub runs : IsSound ground → (visited new : Found) (result : Option Reply) → ground.source index request.callee.0 request.args ≡ Some Forward
      → AddsVisit old visited (record { index = index; callee = request.callee; fault = None }) []
      → FindsTree ground request.callee request.args index visited new result → FindsCall ground request index old new result
  unfolding records_of calls_within injected_of steps_of AreDecided
  runs sound visited new None e visit none = none_runs sound visited new e visit none
  runs sound visited new (Some given) e visit has =
      record {
        how = Ran has.tree;
        stitched = stitched_above ground index (asked_and_got request given) has.tree e (record { stitched = has.stitched; replies = has.replies });
        adds = subst (λ n. Adds ground.records old new (records_of has.tree) (call_at index (asked_and_got request given) (Ran has.tree) ∷ calls_below index (Ran has.tree)) (injected_of has.tree) n)
            (none_more (steps_of has.tree))
            (subst (λ calls. Adds ground.records old new (records_of has.tree) (call_at index (asked_and_got request given) (Ran has.tree) ∷ calls) (injected_of has.tree) (0 + steps_of has.tree))
            (sym (calls_parts index has.tree))
            (adds_then ground.records old visited new [] (records_of has.tree) (call_at index (asked_and_got request given) (Ran has.tree) ∷ []) _ [] (injected_of has.tree) 0 (steps_of has.tree)
            (adds_visit ground.records old visited (call_at index (asked_and_got request given) (Ran has.tree)) [] visit) has.adds));
        within = has.within;
      }

-- the same, as the code has it
module _ (ground : Ground) (request : PreparedCall) (index spot : List Occurrence) (there : spot ≡ index) (old : Found) (fault : Option Reply)
    (decides : ground.source spot request.callee.0 request.args ≡ Some (fault_or_forward fault)) where
  decided_there : ground.source index request.callee.0 request.args ≡ Some (fault_or_forward fault)
  decided_there = subst (λ at. ground.source at request.callee.0 request.args ≡ Some (fault_or_forward fault)) there decides

  pub faults_so : (new : Found) (given copied : Reply) (placed : List Occurrence) → fault ≡ Some given → copied ≡ given → placed ≡ spot → old.steps ≤ ground.limit
      → AddsVisit old new (record { index = placed; callee = request.callee; fault = Some copied }) (request.callee ∷ []) → HasCall ground request index old new given
  faults_so new given copied placed is same at_spot within visit =
      faults ground request index old new given (decided_there ∙ ap (λ f. Some (fault_or_forward f)) is) within
      (subst (λ at. AddsVisit old new (record { index = at; callee = request.callee; fault = Some given }) (request.callee ∷ [])) (at_spot ∙ there)
      (subst (λ r. AddsVisit old new (record { index = placed; callee = request.callee; fault = Some r }) (request.callee ∷ [])) same visit))

  pub runs_so : IsSound ground → (visited new : Found) (copied : List Occurrence) (result : Option Reply) → fault ≡ None → copied ≡ spot
      → AddsVisit old visited (record { index = copied; callee = request.callee; fault = None }) []
      → FindsTree ground request.callee request.args spot visited new result → FindsCall ground request index old new result
  runs_so sound visited new copied result is same visit finds =
      runs ground request index old sound visited new result (decided_there ∙ ap (λ f. Some (fault_or_forward f)) is)
      (subst (λ at. AddsVisit old visited (record { index = at; callee = request.callee; fault = None }) []) (same ∙ there) visit)
      (subst (λ at. FindsTree ground request.callee request.args at visited new result) there finds)

-- ---- what goes on

pub stops_there : (ground : Ground) (request : PreparedCall) (index : List Occurrence) (walk : Walk) (old new : Found) (result : Option Reply)
    → FindsCall ground request index old new result → result ≡ None → GoesOnWith ground request index walk old new None
stops_there ground request index walk old new result finds is = inl (subst (FindsCall ground request index old new) is finds)

pub goes_from_there : (ground : Ground) (request : PreparedCall) (index : List Occurrence) (walk : Walk) (old new : Found) (result : Option Reply) (given : Reply)
    → FindsCall ground request index old new result → result ≡ Some given → (next : Option Walk)
    → next ≡ walk_of walk.records walk.method walk.args (walk.replies ++ given ∷ []) → GoesOnWith ground request index walk old new next
goes_from_there ground request index walk old new result given finds is next goes = by next goes
  where
    has : HasCall ground request index old new given
    has = subst (FindsCall ground request index old new) is finds

    by : (next : Option Walk) → next ≡ walk_of walk.records walk.method walk.args (walk.replies ++ given ∷ []) → GoesOnWith ground request index walk old new next
    by None e = inr (given, has, sym e)
    by (Some further) e = (given, has, sym e)
