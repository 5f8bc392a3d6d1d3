use Rattle.std.proofs.Common.{◌≡◌, ◌+◌, length}
use Rattle.fb_syntax.specs.Lexing.{lexed_from, put_before}
use Rattle.fb_syntax.proofs.lexer.lex_text.Given as goal

abbrev pub invariant-loop-left : goal.invariant-loop-left
invariant-loop-left l = record {
  same : put_before l.tokens (lexed_from l.at 0 l.left) ≡ lexed_from 0 0 l.bytes;
  counted : l.at + length l.left ≡ length l.bytes;
}

abbrev pub decreases-loop-left : goal.decreases-loop-left
decreases-loop-left l = length l.left
