-- What holds of the calls of each run of a test, by the source that decides on them.
use Rattle.std.specs.Prelude.{◌≡◌, ℕ, ◌≤◌, length, map, Option, Some, None}
use Rattle.fb_base.specs.declared.reply.Reply.{Reply}
use Rattle.fb_syntax.specs.Trees.{ServicesTree, TestTree}
use Rattle.fb_tree.specs.Runs.{TestRun}
use Rattle.fb_tree.specs.Calls.{PlacedCall, calls_of}
use Rattle.fb_transport.specs.Sources.{Source}
use Rattle.fb_transport.specs.declared.decision.Decision.{Decision}
use Rattle.fb_transport.specs.declared.decision.Decision.TheVariants.{Forward, Fault, Known}
use Rattle.fb_meaning.specs.Each.{HoldsOfEach, AreApart}
use Rattle.fb_meaning.specs.Evaluations.{Done}
use Rattle.fb_meaning.specs.Meaning.{test_meaning}

-- the reply of a decision to let a call fail
abbrev pub failure_of : Option Decision → Option Reply
failure_of (Some (Fault given)) = Some given
failure_of (Some Forward) = None
failure_of (Some (Known given steps injected)) = None
failure_of None = None

-- its fault is what the source decides at its index
abbrev pub IsAnswered : Source → PlacedCall → Type 0
IsAnswered source call = call.fault ≡ failure_of (source call.index call.asked.callee.0 call.asked.args)

pub record IsLawfulRun (source : Source) (fuel : ℕ) (run : TestRun) : Type 0 where
  -- each call's fault is what the source decides
  pub answered : HoldsOfEach (IsAnswered source) (calls_of run)
  -- no two calls have one index
  pub apart : AreApart (map (λ call. call.index) (calls_of run))
  -- each call costs a unit
  pub few : length (calls_of run) ≤ fuel

abbrev pub RunsAreLawful : Type 0
RunsAreLawful =
    (services : ServicesTree) (test : TestTree) (source : Source) (fuel : ℕ) (run : TestRun) (left : ℕ) →
    test_meaning services test source fuel ≡ Done run left → IsLawfulRun source fuel run
