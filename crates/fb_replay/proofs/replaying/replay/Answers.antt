use Rattle.std.proofs.Common.{[], IsNone, subst}
use Rattle.fb_base.specs.Front.{IsFrontOf}
use Rattle.fb_check.specs.FirstRefusal.{first_refusal_of_test}
use Rattle.fb_check.specs.Programs.{kinds_given, test_callee_at}
use Rattle.fb_transport.specs.Sources.{plan_source}
use Rattle.fb_tree.specs.Views.{view_run}
use Rattle.fb_replay.proofs.Callees.{fitting_calls}
use Rattle.fb_replay.proofs.Meeting.{plan_is_met}
use Rattle.fb_replay.proofs.replaying.replay.Goals as goal

pub replay_text-requires : goal.replay_text-requires
replay_text-requires c =
    let services = c.args.program.now.tree in
    let test = c.args.test.now.tree in
    let plan = c.args.plan.now in
    let run = view_run c.in_ok-ran.ran.tree in
    let accepted = subst (λ s. IsNone (first_refusal_of_test s test)) c.requires.made c.args.test.now.accepted in
    fitting_calls services (test_callee_at services test) [] run.calls
    (c.kinds_are_kept.ensures.tests services test (plan_source (kinds_given services) plan) c.args.program.now.accepted accepted
    (c.kinds_are_kept.ensures.plans services plan) c.args.fuel run c.in_ok-ran.ensures.left c.in_ok-ran.ensures.done)

pub returns : goal.returns
returns c =
    let services = c.args.program.now.tree in
    let test = c.args.test.now.tree in
    let plan = c.args.plan.now in
    let kinds = kinds_given services in
    let run = view_run c.in_ok-ran.ran.tree in
    let ran = c.in_ok-ran.ensures in
    record {
      run = run;
      left = ran.left;
      done = ran.done;
      injects = plan_is_met kinds plan c.args.fuel run
          (c.runs_are_lawful.ensures services test (plan_source kinds plan) c.args.fuel run ran.left ran.done)
          (subst (IsFrontOf plan) ran.injected c.in_ok-meet.ensures);
      outcome = ran.outcome;
      text = c.in_ok-text.ensures;
    }
