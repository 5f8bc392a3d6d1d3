use Rattle.std.proofs.Common.{◌-◌, refl, ap, ◌∙◌}
use Rattle.std.proofs.lemmas.Result.{IfOk-weaker}
use Rattle.fb_tree.specs.Views.{view_run}
use Rattle.fb_transport.specs.Sources.{Source}
use Rattle.fb_meaning.specs.Evaluations.{Done}
use Rattle.fb_stitch.specs.Sources.{stitched_source}
use Rattle.fb_stitch.proofs.Covering.{done_here, gives_derived, gives_stopped, parts_fit}
use Rattle.fb_stitch.proofs.derivation.derive.Goals as goal

pub joined-requires-clause-known : goal.joined-requires-clause-known
joined-requires-clause-known o c =
    let services = c.args.program.now.tree in
    let test = c.args.test.now.tree in
    let source = stitched_source services c.args.store.now c.args.fuel c.args.plan.now in
    c.calls_are_decided.ensures.test services test source c.args.fuel (view_run c.in-Ok.parts) c.eval_body_test.new.fuel
    (done_here services test c.args.store.now c.args.fuel c.args.plan.now (λ (s : Source). c.more_fuel_same_run.ensures.test services s test) c.decisions_make_the_run.ensures.joined
    _ _ (Done (view_run c.in-Ok.parts) c.eval_body_test.new.fuel) c.new-stitching.ensures.gives c.of-left.ensures c.in-Ok.ensures.means)

pub joined-requires-clause-enough : goal.joined-requires-clause-enough
joined-requires-clause-enough o c =
    let services = c.args.program.now.tree in
    let test = c.args.test.now.tree in
    let law = λ (s : Source). c.more_fuel_same_run.ensures.test services s test in
    let joined = c.decisions_make_the_run.ensures.joined in
    parts_fit services test c.args.store.now c.args.fuel c.args.plan.now law joined (view_run c.in-Ok.parts) c.eval_body_test.new.fuel
    (done_here services test c.args.store.now c.args.fuel c.args.plan.now law joined
    _ _ (Done (view_run c.in-Ok.parts) c.eval_body_test.new.fuel) c.new-stitching.ensures.gives c.of-left.ensures c.in-Ok.ensures.means)

pub returns-in-Ok-clause-derived : goal.returns-in-Ok-clause-derived
returns-in-Ok-clause-derived o c =
    let services = c.args.program.now.tree in
    let test = c.args.test.now.tree in
    let law = λ (s : Source). c.more_fuel_same_run.ensures.test services s test in
    let joined = c.decisions_make_the_run.ensures.joined in
    gives_derived services test c.args.store.now c.args.fuel c.args.plan.now law joined c.decisions_make_the_run.ensures.parts c.spelled_is_run.ensures.spelled c.requires.known
    (view_run c.in-Ok.parts) c.eval_body_test.new.fuel
    (done_here services test c.args.store.now c.args.fuel c.args.plan.now law joined
    _ _ (Done (view_run c.in-Ok.parts) c.eval_body_test.new.fuel) c.new-stitching.ensures.gives c.of-left.ensures c.in-Ok.ensures.means)
    c.joined.result c.joined.ensures.outcome
    (IfOk-weaker c.joined.result _ _ (λ derived is. is ∙ ap (λ left. c.args.fuel - left) c.left.ensures.left) c.joined.ensures.steps)
    c.joined.ensures.listed c.joined.ensures.err

pub returns-in-Err-clause-derived : goal.returns-in-Err-clause-derived
returns-in-Err-clause-derived o c =
    let services = c.args.program.now.tree in
    let test = c.args.test.now.tree in
    gives_stopped services test c.args.store.now c.args.fuel c.args.plan.now (λ (s : Source). c.more_fuel_same_run.ensures.test services s test) c.decisions_make_the_run.ensures.joined
    c.decisions_make_the_run.ensures.made c.requires.known c.calls_are_decided.ensures.test c.replies_make_it_again.ensures.test
    _ _ c.new-stitching.ensures.gives c.of-left.ensures c.in-Err.stop c.in-Err.ensures.means c.not_derived.result c.not_derived.ensures

pub returns-in-Ok-clause-still : goal.returns-in-Ok-clause-still
returns-in-Ok-clause-still o c = c.eval_body_test.ensures.still refl

pub returns-in-Err-clause-still : goal.returns-in-Err-clause-still
returns-in-Err-clause-still o c = c.eval_body_test.ensures.still refl
