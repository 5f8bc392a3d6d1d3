use Rattle.std.proofs.Common.{Some, sym, ap, ◌∙◌}
use Rattle.fb_transport.specs.Sources.{Source, plan_source}
use Rattle.fb_stitch.proofs.walks.Walks.fault.Goals as goal

pub returns-in-Ok-Fault : goal.returns-in-Ok-Fault
returns-in-Ok-Fault c =
    let at = c.args.at.now in
    let callee = c.args.callee.0 in
    let args = c.args.args.now in
    ap (λ kinds. plan_source kinds c.args.self.now.plan.now at callee args) (sym c.kinds.ensures)
    ∙ ap (λ plan. plan_source c.kinds.result.now plan at callee args) (sym c.in_ok-copy.ensures)
    ∙ ap (λ (s : Source). s at callee args) (sym c.new-injecting.ensures)
    ∙ c.in-Ok-Fault.ensures.answers ∙ ap Some c.in-Ok-Fault.field-0-is

pub returns-in-Ok-Forward : goal.returns-in-Ok-Forward
returns-in-Ok-Forward c =
    let at = c.args.at.now in
    let callee = c.args.callee.0 in
    let args = c.args.args.now in
    ap (λ kinds. plan_source kinds c.args.self.now.plan.now at callee args) (sym c.kinds.ensures)
    ∙ ap (λ plan. plan_source c.kinds.result.now plan at callee args) (sym c.in_ok-copy.ensures)
    ∙ ap (λ (s : Source). s at callee args) (sym c.new-injecting.ensures)
    ∙ c.in-Ok-Forward.ensures.answers ∙ ap Some c.in-Ok-Forward.field-0-is
