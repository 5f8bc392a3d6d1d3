use Rattle.fb_stitch.proofs.Parts.{never_none, no_such_method, none_walked, walked_on, within_calls}
use Rattle.fb_stitch.proofs.derivation.walk_calls.Goals as goal

pub loop-made-init : goal.loop-made-init
loop-made-init c =
    let w = c.args.walks.now in
    none_walked w.program.now.tree w.store.now w.limit w.plan.now c.args.found.now c.requires.nothing

pub returns-in_default-clause-err : goal.returns-in_default-clause-err
returns-in_default-clause-err c =
    let w = c.args.walks.now in
    absurd (no_such_method w.program.now.tree w.store.now w.limit w.plan.now c.calls_are_decided.ensures.method c.requires.sound c.args.calls.now c.requires.known
    c.loop-made.made-index c.made-item.result c.loop-made-test.true c.made-item.is c.in_default.ensures)

pub call-requires-clause-within : goal.call-requires-clause-within
call-requires-clause-within c =
    let w = c.args.walks.now in
    within_calls w.program.now.tree w.store.now w.limit w.plan.now c.calls_are_decided.ensures.method c.requires.sound c.args.calls.now c.requires.known
    c.loop-made.made-index c.made-item.result c.loop-made-test.true c.made-item.is c.loop-made.found c.loop-made.invariant c.requires.enough

pub returns-in_default-2-clause-err : goal.returns-in_default-2-clause-err
returns-in_default-2-clause-err c =
    let w = c.args.walks.now in
    absurd (never_none w.program.now.tree w.store.now w.limit w.plan.now c.calls_are_decided.ensures.method c.requires.sound c.args.calls.now c.requires.known
    c.loop-made.made-index c.made-item.result c.loop-made-test.true c.made-item.is c.root-root.result c.root-root.ensures c.as_slice.result.now c.as_slice.ensures
    c.loop-made.found c.call.new.found c.in_ok-_reply.field-0 c.in_ok-_reply.ensures c.loop-made.invariant c.requires.enough c.in_default-2.is)

pub loop-made-preserved : goal.loop-made-preserved
loop-made-preserved c =
    let w = c.args.walks.now in
    walked_on w.program.now.tree w.store.now w.limit w.plan.now c.calls_are_decided.ensures.method c.requires.sound c.args.calls.now c.requires.known
    c.loop-made.made-index c.made-item.result c.loop-made-test.true c.made-item.is c.root-root.result c.root-root.ensures c.as_slice.result.now c.as_slice.ensures
    c.loop-made.found c.call.new.found c.in_ok-_reply.field-0 c.in_ok-_reply.ensures c.loop-made.invariant c.in-Some-2._reply c.in-Some-2.is
