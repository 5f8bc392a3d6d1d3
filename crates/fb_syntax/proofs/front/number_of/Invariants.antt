use Rattle.std.proofs.Common.{◌≡◌, ◌<◌, ◌^◌, drop}
use Rattle.fb_syntax.specs.Tokens.{number_of}
use Rattle.fb_syntax.proofs.Numbers.{more_digits}
use Rattle.fb_syntax.proofs.front.number_of.Given as goal

abbrev pub invariant-loop-digit : goal.invariant-loop-digit
invariant-loop-digit l = record {
  same : more_digits l.number (drop l.digit-index l.digits) ≡ number_of l.digits;
  small : l.number < 2 ^ 63;
}
