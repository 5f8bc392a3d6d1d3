-- The calls of a run of accepted sources are calls of their methods.
use Rattle.std.proofs.Common.{ℕ, List, [], ◌∷◌, ◌++◌, Option}
use Rattle.std.proofs.lemmas.Option.{slice_get_within}
use Rattle.fb_index.specs.Entry.{Occurrence}
use Rattle.fb_syntax.specs.Trees.{ServicesTree}
use Rattle.fb_check.specs.Programs.{methods_of, callee_at}
use Rattle.fb_tree.specs.Runs.{Invocation, CallList, NoCalls, AndCall, How, Faulted, Ran, Known}
use Rattle.fb_tree.specs.Calls.{call_at, calls_within, calls_below}
use Rattle.fb_meaning.specs.Kinds.{CallsFit, FitsBelow}
use Rattle.fb_replay.specs.Callees.{IsCallOf, AreCallsOf}
use Rattle.fb_replay.proofs.Each.{each_joined}

mutual
  unfolding calls_within CallsFit

  pub fitting_calls : (services : ServicesTree) (callee_of : ℕ → Option ℕ) (index : List Occurrence) (calls : CallList)
      → CallsFit services callee_of calls → AreCallsOf services (calls_within index calls)
  fitting_calls services callee_of index NoCalls fit = tt
  fitting_calls services callee_of index (AndCall before asked how) fit =
      each_joined (IsCallOf services) (calls_within index before) (call_at (index ++ asked.entry ∷ []) asked how ∷ calls_below (index ++ asked.entry ∷ []) how)
      (fitting_calls services callee_of index before fit.0)
      (slice_get_within (methods_of services) asked.callee.0 fit.1.callee fit.1.there, fitting_below services (index ++ asked.entry ∷ []) how fit.2)

  fitting_below : (services : ServicesTree) (index : List Occurrence) (how : How) → FitsBelow services how → AreCallsOf services (calls_below index how)
  fitting_below services index Faulted fit = tt
  fitting_below services index (Ran (Invocation method args calls got steps)) fit = fitting_calls services (callee_at services method.0) index calls fit.1
  fitting_below services index (Known steps injected) fit = tt
