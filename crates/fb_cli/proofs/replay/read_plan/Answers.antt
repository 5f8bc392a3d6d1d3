use Rattle.std.proofs.Common.{◌≡◌, ℕ, List, refl, subst, rules}
use Rattle.fb_index.specs.Plan.{IsPlanRefusedAt, RefusesPlan}
use Rattle.fb_cli.specs.declared.status.Why.TheVariants.{Plan}
use Rattle.fb_cli.proofs.replay.read_plan.Goals as goal

pub returns-in-Err-BadPlan : goal.returns-in-Err-BadPlan
returns-in-Err-BadPlan c =
    let same : c.as_bytes-bytes.result.now ≡ c.args.text.now = search rules in
    let refused : IsPlanRefusedAt c.as_bytes-bytes.result.now c.in-Err-BadPlan.offset =
    subst (RefusesPlan c.as_bytes-bytes.result.now) c.in-Err-BadPlan.field-0-is c.in-Err-BadPlan.ensures.refused in
    let of_text = subst (λ (text : List ℕ). IsPlanRefusedAt text c.in-Err-BadPlan.offset) same refused in
    rw c.refused-in-Err-BadPlan.ensures (Plan c.in-Err-BadPlan.offset, (search rules, of_text), refl)
