use Rattle.std.proofs.Common.{length}
use Rattle.fb_index.specs.Entry.{entry_text}
use Rattle.fb_index.specs.Reading.{entry_automaton}
use Rattle.fb_index.proofs.Lists.{IsListUpTo}
use Rattle.fb_index.proofs.index.Index.scan.Given as goal

abbrev pub invariant-loop-entry : goal.invariant-loop-entry
invariant-loop-entry l = IsListUpTo entry_automaton 47 entry_text l.fn.scanner l.index l.scanner

abbrev pub decreases-loop-entry : goal.decreases-loop-entry
decreases-loop-entry l = length l.scanner
