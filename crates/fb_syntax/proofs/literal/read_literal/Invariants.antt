use Rattle.std.proofs.Common.{◌≡◌, ◌+◌, false, [], length}
use Rattle.fb_syntax.specs.Lexing.{text_from}
use Rattle.fb_syntax.proofs.literal.read_literal.Given as goal

abbrev pub invariant-loop-left : goal.invariant-loop-left
invariant-loop-left l = record {
  same : text_from l.escaping l.text.items l.len l.left ≡ text_from false [] 1 l.bytes;
  counted : l.len + length l.left ≡ 1 + length l.bytes;
}

abbrev pub decreases-loop-left : goal.decreases-loop-left
decreases-loop-left l = length l.left
