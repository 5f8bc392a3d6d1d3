use Rattle.std.proofs.Common.{rules}
use Rattle.fb_syntax.proofs.Fronts.{advances}
use Rattle.fb_syntax.proofs.lexer.next.Goals as goal

pub returns-in-Some-clause-advances : goal.returns-in-Some-clause-advances
returns-in-Some-clause-advances c = advances c.args.left.now c.in-Some.found (search rules)
