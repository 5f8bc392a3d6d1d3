use Rattle.std.proofs.Common.{◌≡◌, length}
use Rattle.fb_index.specs.Automaton.{run, run_from}
use Rattle.fb_index.specs.Reading.{number_automaton}
use Rattle.fb_index.proofs.scanner.leading_number.Given as goal

abbrev pub invariant-loop-left : goal.invariant-loop-left
invariant-loop-left l = run_from number_automaton l.number l.left ≡ run number_automaton l.bytes

abbrev pub decreases-loop-left : goal.decreases-loop-left
decreases-loop-left l = length l.left
