-- What a replay answers.
use Rattle.std.specs.Prelude.{◌≡◌, ℕ, List, ◌∷◌, ◌++◌, string_bytes, Result, Ok, Err}
use Rattle.fb_index.specs.Entry.{Occurrence}
use Rattle.fb_index.specs.declared.fault.Fault.{Fault}
use Rattle.fb_syntax.specs.Trees.{ServicesTree}
use Rattle.fb_tree.specs.Calls.{injections_of}
use Rattle.fb_tree.specs.Runs.{TestRun}
use Rattle.fb_meaning.specs.Evaluations.{Evaluation, Spent, Done}
use Rattle.fb_base.specs.Front.{IsFrontOf}
use Rattle.fb_functest.specs.declared.run.RunStop.{RunStop}
use Rattle.fb_functest.specs.declared.run.RunStop.TheVariants as stop
use Rattle.fb_replay.specs.declared.replaying.Replayed.{Replayed}
use Rattle.fb_replay.specs.declared.replaying.ReplayError.{ReplayError}
use Rattle.fb_replay.specs.declared.replaying.ReplayError.TheVariants as error
use Rattle.fb_replay.specs.ReplayText.{replay_text}

-- the first fault of a plan, by its place, that isn't the one that was injected there: all before it are, and in its
-- place stands another, or none
pub record IsFirstUnmet (plan injected : List Fault) (index : List Occurrence) : Type 0 where
  pub met : List Fault
  pub fault : Fault
  pub rest : List Fault
  pub planned : plan ≡ met ++ fault ∷ rest
  pub others : List Fault
  pub found : injected ≡ met ++ others
  pub differs : (behind : List Fault) → ¬ (others ≡ fault ∷ behind)
  pub named : index ≡ fault.index

-- nothing where all of the plan was injected, each fault in its place; else the first that wasn't
abbrev pub TellsUnmet : List Fault → List Fault → Result (Unit {0}) ReplayError → Type 0
TellsUnmet plan injected (Ok _) = IsFrontOf plan injected
TellsUnmet plan injected (Err (error.NotMet index)) = IsFirstUnmet plan injected index
TellsUnmet plan injected (Err error.Spent) = ⊥
TellsUnmet plan injected (Err error.Memory) = Unit {0}

-- a run stops for the same cause
abbrev pub error_of_stop : RunStop → ReplayError
error_of_stop stop.Spent = error.Spent
error_of_stop stop.Memory = error.Memory

-- the run injects exactly the plan, and this is its text
pub record IsReplayed (services : ServicesTree) (plan : List Fault) (means : Evaluation TestRun ℕ) (replayed : Replayed) : Type 0 where
  pub run : TestRun
  pub left : ℕ
  pub done : means ≡ Done run left
  pub injects : injections_of run ≡ plan
  pub outcome : replayed.outcome ≡ run.outcome
  pub text : string_bytes replayed.text ≡ replay_text services run

-- the run ends, and injects something else
pub record IsNotMet (plan : List Fault) (means : Evaluation TestRun ℕ) (index : List Occurrence) : Type 0 where
  pub run : TestRun
  pub left : ℕ
  pub done : means ≡ Done run left
  pub unmet : IsFirstUnmet plan (injections_of run) index

-- by the run of the plan; want of memory says nothing
abbrev pub GivesReplay : ServicesTree → List Fault → Evaluation TestRun ℕ → Result Replayed ReplayError → Type 0
GivesReplay services plan means (Ok replayed) = IsReplayed services plan means replayed
GivesReplay services plan means (Err (error.NotMet index)) = IsNotMet plan means index
GivesReplay services plan means (Err error.Spent) = means ≡ Spent
GivesReplay services plan means (Err error.Memory) = Unit {0}
