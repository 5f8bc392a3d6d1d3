use Rattle.std.proofs.Common.{arith}
use Rattle.fb_index.proofs.Numbers.{number-read}
use Rattle.fb_index.proofs.scanner.Scanner.number.Goals as goal

pub returns-clause-reads : goal.returns-clause-reads
returns-clause-reads c = number-read c.args.self.now _ _ (omega (arith, c.if-number-eq0.false)) (rw (← c.self.view_is) c.leading_number-number.ensures)
