use Rattle.fb_syntax.proofs.FileExact.{services_exact}
use Rattle.fb_syntax.proofs.parse.services_are_exact.Goals as goal

pub returns : goal.returns
returns c = λ bytes tree. services_exact bytes tree
