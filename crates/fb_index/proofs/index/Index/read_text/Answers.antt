use Rattle.std.proofs.Common.{◌<◌, length, arith}
use Rattle.std.proofs.lemmas.Bool.Decides.{nat_tests}
use Rattle.fb_index.specs.Index.{index_text}
use Rattle.fb_index.specs.Reading.{index_automaton}
use Rattle.fb_index.proofs.Texts.{index-refused, read-le}
use Rattle.fb_index.proofs.index.Index.read_text.Goals as goal

pub whole-requires : goal.whole-requires
whole-requires c =
    let r = rw c.new-scanner.ensures at c.in_ok-index.ensures.reads in
    omega (arith, read-le index_automaton index_text _ _ _ r)

pub returns-in-Err-clause-refused : goal.returns-in-Err-clause-refused
returns-in-Err-clause-refused c =
    let r = rw c.new-scanner.ensures at c.in_ok-index.ensures.reads in
    let some : 0 < length c.args.bytes.now = grind (arith, nat_tests) in
    index-refused _ _ _ _ _ some r c.len.ensures c.in-Err.ensures
