use Rattle.std.proofs.Common.{◌<◌, ◌+◌, ◌*◌, ◌++◌, ◌∷◌, [], arith}
use Rattle.std.proofs.lemmas.Option.{slice_get_within}
use Rattle.std.proofs.lemmas.Result.{IfOk-weaker}
use Rattle.fb_stitch.specs.Finding.{ground_of, prepared_of}
use Rattle.fb_stitch.proofs.Called.{faults_so, runs_so, stops_there, goes_from_there}
use Rattle.fb_stitch.proofs.Walked.{none_starts, starts, next_within, next_lower, walk_stops, walk_goes, walk_nearer, end_at, ends, slot_within, within_limit}
use Rattle.fb_stitch.proofs.walks.Walks.+walks.Goals as goal

pub invocation-returns-in_default : goal.invocation-returns-in_default
invocation-returns-in_default t c = none_starts (ground_of c.args.self.now) c.args.callee c.args.args.now c.args.at.now c.args.found.now c.args.found.now c.in_default.ensures

pub invocation-loop-id-init : goal.invocation-loop-id-init
invocation-loop-id-init t c =
    starts (ground_of c.args.self.now) c.args.callee c.args.args.now c.args.at.now c.args.found.now _ _ _ c.in-Some.ensures
    c.in_ok-slot.ensures.opens c.in_ok-slot.ensures.slot c.requires.within

pub invocation-end-requires-clause-id : goal.invocation-end-requires-clause-id
invocation-end-requires-clause-id t c =
    let end = end_at (ground_of c.args.self.now) c.args.callee c.args.args.now c.args.at.now c.args.found.now c.requires.sound _ _ _ c.loop-id.invariant _ c.in-Done.ensures in
    slice_get_within c.args.self.now.store.now _ end.0 end.1

pub invocation-end-requires-clause-small : goal.invocation-end-requires-clause-small
invocation-end-requires-clause-small t c = c.requires.sound.small

pub invocation-end-requires-clause-slot : goal.invocation-end-requires-clause-slot
invocation-end-requires-clause-slot t c =
    slot_within (ground_of c.args.self.now) c.args.callee c.args.args.now c.args.at.now c.args.found.now c.requires.sound _ _ _ c.loop-id.invariant _ c.in-Done.ensures

pub invocation-end-requires-clause-within : goal.invocation-end-requires-clause-within
invocation-end-requires-clause-within t c =
    within_limit (ground_of c.args.self.now) c.args.callee c.args.args.now c.args.at.now c.args.found.now c.requires.sound _ _ _ c.loop-id.invariant

pub invocation-returns-in-Done : goal.invocation-returns-in-Done
invocation-returns-in-Done t c =
    IfOk-weaker c.end.result _ _
    (λ reply at. ends (ground_of c.args.self.now) c.args.callee c.args.args.now c.args.at.now c.args.found.now c.requires.sound _ _ _ c.loop-id.invariant _ c.in-Done.ensures _ reply at)
    c.end.ensures

pub invocation-rank-lower-requires : goal.invocation-rank-lower-requires
invocation-rank-lower-requires t c =
    next_within (ground_of c.args.self.now) c.args.callee c.args.args.now c.args.at.now c.args.found.now c.requires.sound _ _ _ c.loop-id.invariant _ c.in-Call.ensures

pub invocation-further-requires : goal.invocation-further-requires
invocation-further-requires t c =
    let lower = next_lower (ground_of c.args.self.now) c.args.callee c.args.args.now c.args.at.now c.args.found.now c.requires.sound _ _ _ c.loop-id.invariant _ c.in-Call.ensures
    c.args.rank c.rank-lower.result c.requires.rank c.rank-lower.ensures.rank in
    let is = c.decreases in
    let less : 3 * c.rank-lower.result + 2 < t = omega (arith, lower, is) in (
      less,
      (
        c.requires.sound,
        (
          c.rank-lower.ensures.rank,
          within_limit (ground_of c.args.self.now) c.args.callee c.args.args.now c.args.at.now c.args.found.now c.requires.sound _ _ _ c.loop-id.invariant,
        ),
      ),
    )

pub invocation-returns-in_default-2 : goal.invocation-returns-in_default-2
invocation-returns-in_default-2 t c =
    walk_stops (ground_of c.args.self.now) c.args.callee c.args.args.now c.args.at.now c.args.found.now c.requires.sound _ _ _ c.loop-id.invariant c.in-Call.asked.now c.in-Call.ensures
    c.as_slice.result.now c.as_slice.ensures c.further.new.found c.in_ok-next-in-Call.field-0 c.in_ok-next-in-Call.ensures c.args.found.now c.in_default-2.is

pub invocation-loop-id-preserved : goal.invocation-loop-id-preserved
invocation-loop-id-preserved t c =
    walk_goes (ground_of c.args.self.now) c.args.callee c.args.args.now c.args.at.now c.args.found.now c.requires.sound _ _ _ c.loop-id.invariant c.in-Call.asked.now c.in-Call.ensures
    c.as_slice.result.now c.as_slice.ensures c.further.new.found c.in_ok-next-in-Call.field-0 c.in_ok-next-in-Call.ensures _ c.in-Some-2.is

pub invocation-loop-id-smaller : goal.invocation-loop-id-smaller
invocation-loop-id-smaller t c =
    walk_nearer (ground_of c.args.self.now) c.args.callee c.args.args.now c.args.at.now c.args.found.now c.requires.sound _ _ _ c.loop-id.invariant c.in-Call.asked.now c.in-Call.ensures
    c.as_slice.result.now c.as_slice.ensures c.further.new.found c.in_ok-next-in-Call.field-0 c.in_ok-next-in-Call.ensures _ c.in-Some-2.is

pub further-call-requires : goal.further-call-requires
further-call-requires t c =
    let is = c.decreases in
    let less : 3 * c.args.rank + 1 < t = omega (arith, is) in (less, (c.requires.sound, (c.requires.rank, c.requires.within)))

pub further-returns-in_default : goal.further-returns-in_default
further-returns-in_default t c =
    stops_there (ground_of c.args.self.now) (prepared_of c.args.request.now) (c.args.at.now ++ c.args.request.now.entry ∷ []) c.args.cursor c.args.found.now c.call.new.found
    c.in_ok-reply.field-0 c.in_ok-reply.ensures c.in_default.is

pub further-returns : goal.further-returns
further-returns t c =
    goes_from_there (ground_of c.args.self.now) (prepared_of c.args.request.now) (c.args.at.now ++ c.args.request.now.entry ∷ []) c.args.cursor c.args.found.now c.call.new.found
    c.in_ok-reply.field-0 c.in-Some.reply c.in_ok-reply.ensures c.in-Some.is c.take.result c.take.ensures

pub call-invocation-requires : goal.call-invocation-requires
call-invocation-requires t c =
    let is = c.decreases in
    let less : 3 * c.args.rank < t = omega (arith, is) in
    let s = c.in_ok-visit-in-None.ensures.steps in
    let w = c.requires.within in (less, (c.requires.sound, (c.requires.rank, omega (arith, s, w))))

pub call-returns-in_ok-inject-in-Some : goal.call-returns-in_ok-inject-in-Some
call-returns-in_ok-inject-in-Some t c =
    faults_so (ground_of c.args.self.now) (prepared_of c.args.request.now) (c.args.at.now ++ c.args.request.now.entry ∷ []) c.in_ok-index.index c.in_ok-index.ensures c.args.found.now
    c.in_ok-reply.field-0 c.in_ok-reply.ensures _ c.in-Some.reply _ _ c.in-Some.is c.in_ok-copy-in-Some.ensures c.index.view_is c.requires.within c.in_ok-inject-in-Some.ensures

pub call-returns-in_ok-visit-in-None : goal.call-returns-in_ok-visit-in-None
call-returns-in_ok-visit-in-None t c =
    IfOk-weaker c.invocation.result _ _
    (λ reply finds.
    runs_so (ground_of c.args.self.now) (prepared_of c.args.request.now) (c.args.at.now ++ c.args.request.now.entry ∷ []) c.in_ok-index.index c.in_ok-index.ensures c.args.found.now
    c.in_ok-reply.field-0 c.in_ok-reply.ensures c.requires.sound _ _ _ reply c.in-None.is c.in_ok-copy-in-None.ensures c.in_ok-visit-in-None.ensures finds)
    c.invocation.ensures
