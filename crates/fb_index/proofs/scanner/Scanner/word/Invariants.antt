use Rattle.std.proofs.Common.{◌≡◌, length}
use Rattle.fb_index.specs.Automaton.{run, run_from}
use Rattle.fb_index.specs.Reading.{word_automaton}
use Rattle.fb_index.proofs.scanner.Scanner.word.Given as goal

abbrev pub invariant-loop-rest : goal.invariant-loop-rest
invariant-loop-rest l = run_from (word_automaton l.word) l.rest l.self ≡ run (word_automaton l.word) l.fn.self

abbrev pub decreases-loop-rest : goal.decreases-loop-rest
decreases-loop-rest l = length l.rest
