use Rattle.fb_syntax.proofs.Lexed.{HasTokens-from, lexed-from, IsStuckAt-from, refused-from, no_text, no_text-from}
use Rattle.fb_syntax.proofs.lexer.lexing_is_exact.Goals as goal

pub returns : goal.returns
returns c = record {
  tokens = λ bytes tokens. (HasTokens-from bytes tokens, lexed-from bytes tokens);
  stuck = λ bytes at. (IsStuckAt-from bytes at, refused-from bytes at);
  no_text = λ bytes at. (no_text bytes at, no_text-from bytes at);
}
