use Rattle.std.proofs.Common.{◌-◌, length, refl, sym, subst, ◌∙◌}
use Rattle.std.proofs.lemmas.List.Elements.{All-push}
use Rattle.fb_index.specs.Fault.{IsSpelledFault, RefusesFault, fault_text}
use Rattle.fb_index.proofs.Cuts.{cut-last, cut-next, cut-shorter}
use Rattle.fb_index.proofs.Plans.{faults-refuse, plan_text-push}
use Rattle.fb_index.proofs.plan.Plan.read_faults.Goals as goal

pub returns-in-Err-clause-refused : goal.returns-in-Err-clause-refused
returns-in-Err-clause-refused c =
    faults-refuse c.args.bytes.now c.loop-fault.left.now c.loop-fault.plan _ c.in-Err.error c.loop-fault.invariant.1 c.loop-fault.invariant.0
    c.requires refl
    (subst (λ piece. RefusesFault (length c.args.bytes.now - length c.loop-fault.left.now) piece c.in-Err.error) c.cut.ensures.piece
    c.in-Err.ensures.refused)

pub returns-in_default-clause-read : goal.returns-in_default-clause-read
returns-in_default-clause-read c =
    let ends = sym (rw c.in_default.is at c.cut.ensures.behind) in
    let piece = sym c.cut.ensures.piece ∙ c.in-Ok.ensures.read.1 in
    rw c.in_ok-plan.ensures
    (cut-last 44 fault_text c.args.bytes.now c.loop-fault.left.now c.loop-fault.plan c.in-Ok.fault c.loop-fault.invariant.0 piece ends
    ∙ plan_text-push c.loop-fault.plan c.in-Ok.fault)

pub loop-fault-smaller : goal.loop-fault-smaller
loop-fault-smaller c = cut-shorter 44 c.loop-fault.left.now c.in-Some.rest.now (sym (rw c.in-Some.is at c.cut.ensures.behind))

pub loop-fault-preserved : goal.loop-fault-preserved
loop-fault-preserved c =
    let goes = sym (rw c.in-Some.is at c.cut.ensures.behind) in
    let piece = sym c.cut.ensures.piece ∙ c.in-Ok.ensures.read.1 in
    rw c.in_ok-plan.ensures (
      cut-next 44 fault_text c.args.bytes.now c.loop-fault.left.now c.in-Some.rest.now c.loop-fault.plan c.in-Ok.fault
          c.loop-fault.invariant.0 piece goes,
      All-push IsSpelledFault c.loop-fault.plan c.in-Ok.fault c.loop-fault.invariant.1 (c.proper.ensures, c.in-Ok.ensures.read.0),
    )
