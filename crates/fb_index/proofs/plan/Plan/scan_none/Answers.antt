use Rattle.std.proofs.Common.{◌≡◌, ap}
use Rattle.std.specs.Prelude.{codes}
use Rattle.fb_index.specs.Plan.{plan_text}
use Rattle.fb_index.proofs.Words.{word-reads}
use Rattle.fb_index.proofs.plan.Plan.scan_none.Goals as goal

pub returns-clause-reads : goal.returns-clause-reads
returns-clause-reads c =
    let none : plan_text c.empty.result ≡ codes "none" = ap plan_text c.empty.ensures in
    word-reads plan_text (codes "none") c.args.scanner.now c.word.new.self c.empty.result none c.if-not-word.ensures
