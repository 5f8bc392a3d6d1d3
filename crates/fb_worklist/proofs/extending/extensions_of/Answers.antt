use Rattle.std.proofs.Common.{◌≡◌, IfOk, All, flat_map, ap, sym, ◌∙◌, subst}
use Rattle.fb_campaign.specs.Plans.{begun_after_plan}
use Rattle.fb_worklist.specs.Worklists.{HasMethod, pending_by}
use Rattle.fb_worklist.proofs.Extensions.{all_after_plan, by_calls}
use Rattle.fb_worklist.proofs.extending.extensions_of.Goals as goal

pub extensions_at-requires : goal.extensions_at-requires
extensions_at-requires c =
    let has = HasMethod c.args.faults.now in
    subst (All has) (sym c.begun_after_plan-later.ensures) (all_after_plan has c.args.plan.now c.args.calls.now c.requires)

pub returns : goal.returns
returns c =
    subst (λ defined. IfOk c.extensions_at.result (λ found. found.items ≡ defined))
    (ap (flat_map (pending_by c.args.faults.now c.args.plan.now c.args.number)) c.begun_after_plan-later.ensures
    ∙ by_calls c.args.faults.now c.args.plan.now c.args.number (begun_after_plan c.args.plan.now c.args.calls.now)) c.extensions_at.ensures
