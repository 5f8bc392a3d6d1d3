use Rattle.fb_syntax.proofs.ExpressionSound.{expression_sound}
use Rattle.fb_syntax.proofs.ExpressionComplete.{expression_again}
use Rattle.fb_syntax.proofs.laws.expressions_are_exact.Goals as goal

pub returns-clause-sound : goal.returns-clause-sound
returns-clause-sound c = λ depth input rest e read. ((expression_sound depth).found input e rest read).spelled

pub returns-clause-complete : goal.returns-clause-complete
returns-clause-complete c = λ depth start rest e spelled stops. (expression_again depth).again start rest e spelled stops
