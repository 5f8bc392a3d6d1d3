use Rattle.std.proofs.Common.{◌+◌, ◌≤◌, sym, ap, ◌∙◌, subst}
use Rattle.fb_tally.specs.Tallied.{Tallied, with_line}
use Rattle.fb_tally.proofs.Tallies.{tally_push, by_one}
use Rattle.fb_tally.proofs.tally.Tally.add.Goals as goal

pub returns-clause-counted : goal.returns-clause-counted
returns-clause-counted c = λ version lines tallied.
    c.with.ensures ∙ ap (λ tally. with_line tally c.args.line.now) tallied ∙ tally_push version lines c.args.line.now

pub returns-clause-by_one : goal.returns-clause-by_one
returns-clause-by_one c =
    let before = c.args.self.now in
    subst (λ (tally : Tallied). tally.plans + tally.records ≤ before.plans + before.records + 1) (sym c.with.ensures) (by_one before c.args.line.now)
