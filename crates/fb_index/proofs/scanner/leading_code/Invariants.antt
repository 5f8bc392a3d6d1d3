use Rattle.std.proofs.Common.{◌≡◌, length}
use Rattle.fb_index.specs.Automaton.{run, run_from}
use Rattle.fb_index.specs.Reading.{code_automaton}
use Rattle.fb_index.proofs.scanner.leading_code.Given as goal

abbrev pub invariant-loop-left : goal.invariant-loop-left
invariant-loop-left l = run_from code_automaton l.len l.left ≡ run code_automaton l.bytes

abbrev pub decreases-loop-left : goal.decreases-loop-left
decreases-loop-left l = length l.left
