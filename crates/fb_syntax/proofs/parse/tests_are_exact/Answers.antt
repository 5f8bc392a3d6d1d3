use Rattle.fb_syntax.proofs.FileExact.{test_exact}
use Rattle.fb_syntax.proofs.parse.tests_are_exact.Goals as goal

pub returns : goal.returns
returns c = λ bytes tree. test_exact bytes tree
