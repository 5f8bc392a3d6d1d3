use Rattle.std.proofs.Common.{◌≡◌, ◌++◌, drop}
use Rattle.fb_functest.specs.Reading.{bytes_of}
use Rattle.fb_cli.proofs.trial.joined_lines.Given as goal

abbrev pub invariant-loop-line : goal.invariant-loop-line
invariant-loop-line l = l.bytes.items ++ bytes_of (drop l.line-index l.lines) ≡ bytes_of l.lines
