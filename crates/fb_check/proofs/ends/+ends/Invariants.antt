use Rattle.std.proofs.Common.{◌≡◌, drop, map}
use Rattle.fb_syntax.specs.Views.{view_stmt, view_block, statements_of}
use Rattle.fb_check.specs.Ends.{block_ends}
use Rattle.fb_check.proofs.ends.+ends.Given as goal

-- the block ends where the statements that are left do
abbrev pub invariant-block_ends-loop-stmt : goal.invariant-block_ends-loop-stmt
invariant-block_ends-loop-stmt l =
    block_ends (statements_of (map view_stmt (drop l.stmt-index l.stmt-items))) ≡ block_ends (view_block l.block)
