-- Runs of a test under plans, as a campaign sees them.
use Rattle.std.specs.Prelude.{ℕ, Option, Some, None, slice_get}
use Rattle.fb_syntax.specs.Trees.{ServicesTree, TestTree}
use Rattle.fb_check.specs.Programs.{kinds_given}
use Rattle.fb_tree.specs.Runs.{TestRun}
use Rattle.fb_tree.specs.Calls.{visits_of}
use Rattle.fb_tree.specs.Records.{records_in}
use Rattle.fb_campaign.specs.Runs.{Went, Runs, Gives}
use Rattle.fb_meaning.specs.Evaluations.{Evaluation, Spent, Missing, Done}
use Rattle.fb_meaning.specs.Runs.{run_of}

-- what a campaign asks of a run that came to its end
abbrev pub went_of : TestRun → Went
went_of run = record { visits = visits_of run; records = records_in run.calls; outcome = run.outcome }

abbrev pub went_if_done : Evaluation TestRun ℕ → Option Went
went_if_done Spent = None
went_if_done Missing = None
went_if_done (Done run left) = Some (went_of run)

-- the run with each fuel under each plan
abbrev pub runs_of : ServicesTree → TestTree → Runs
runs_of services test fuel plan = went_if_done (run_of services test fuel plan)

-- the kind that each method gives
abbrev pub gives_of : ServicesTree → Gives
gives_of services method = slice_get (kinds_given services) method
