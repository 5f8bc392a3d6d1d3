use Rattle.fb_check.specs.Counts.{statement_counts, block_counts, entries_inside, entries_of}
use Rattle.fb_check.proofs.CountPlaces.{stands, length-inside, length-block}
use Rattle.fb_check.proofs.laws.counts_have_places.Goals as goal

pub returns-clause-statement : goal.returns-clause-statement
returns-clause-statement c entries rest k s is = stands entries (entries_inside s) rest k (statement_counts s) is (length-inside s)

pub returns-clause-block : goal.returns-clause-block
returns-clause-block c entries rest k block is = stands entries (entries_of block) rest k (block_counts block) is (length-block block)
