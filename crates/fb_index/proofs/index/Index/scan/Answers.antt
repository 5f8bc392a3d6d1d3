use Rattle.fb_index.specs.Entry.{entry_text}
use Rattle.fb_index.specs.Reading.{entry_automaton}
use Rattle.fb_index.proofs.Lists.{list-missed, list-read, list-next}
use Rattle.fb_index.proofs.Texts.{entry-silent}
use Rattle.fb_index.proofs.index.Index.scan.Goals as goal

pub returns-in_default-clause-reads : goal.returns-in_default-clause-reads
returns-in_default-clause-reads c =
    list-missed entry_automaton 47 entry-silent entry_text c.args.scanner.now c.loop-entry.index _ _ c.loop-entry.invariant c.in_default.ensures

pub returns-then-not-take-clause-reads : goal.returns-then-not-take-clause-reads
returns-then-not-take-clause-reads c =
    rw c.in_ok-index.ensures
    (list-read entry_automaton 47 entry-silent entry_text c.args.scanner.now c.loop-entry.index _ _ _ _ c.loop-entry.invariant
    c.in-Some.ensures c.if-not-take.ensures)

pub loop-entry-preserved : goal.loop-entry-preserved
loop-entry-preserved c =
    rw c.in_ok-index.ensures
    (list-next entry_automaton 47 entry-silent entry_text c.args.scanner.now c.loop-entry.index _ _ _ _ c.loop-entry.invariant
    c.in-Some.ensures c.if-not-take.ensures)
