use Rattle.std.proofs.Common.{sym, subst}
use Rattle.fb_report.specs.Ranges.{IsVersion, IsFaultInRange, IsInRange}
use Rattle.fb_explore.proofs.PlanLines.{last_in_range}
use Rattle.fb_explore.proofs.explorer.Explorer.put_plan.Goals as goal

pub put_line-requires : goal.put_line-requires
unfolding IsInRange
put_line-requires g c =
    let version = c.args.self.now.faults.now.version in
    let last = c.in_ok-last_fault.field-0 in (
      subst IsVersion (sym c.version.ensures) c.proper.ensures.version,
      subst (λ told. IsFaultInRange told last) (sym c.version.ensures)
          (subst (IsFaultInRange version) (sym c.in_ok-last_fault.ensures) (last_in_range version c.args.pending.now.plan c.requires.plan)),
      c.requires.counted,
    )
