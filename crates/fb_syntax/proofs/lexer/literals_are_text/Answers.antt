use Rattle.fb_syntax.proofs.Contents.{contents_of_literal}
use Rattle.fb_syntax.proofs.lexer.literals_are_text.Goals as goal

pub returns : goal.returns
returns c = contents_of_literal
