-- What was read of some bytes, line by line.
use Rattle.std.specs.Prelude.{◌≡◌, ℕ, List, ◌++◌, length}
use Rattle.fb_index.specs.Pieces.{IsFree}
use Rattle.fb_syntax.specs.Trees.{ServicesTree, TestTree}
use Rattle.fb_campaign.specs.Runs.{Choices}
use Rattle.fb_report.specs.declared.line.Line.{Line}
use Rattle.fb_report.specs.Lines.{line_feed}
use Rattle.fb_valid.specs.Valid.{OfEachLine}
use Rattle.fb_valid.specs.Verdict.{ReadsTo, KeepsAll, BreaksFirst}
use Rattle.fb_audit.specs.declared.verdict.Break.{Break}
use Rattle.fb_audit.specs.Rules.{rule_told}
use Rattle.fb_audit.specs.Standing.{StandsFor as HasTaken}
use Rattle.fb_verify.specs.declared.reading.Reading.{Reading}

module _ (services : ServicesTree) (test : TestTree) (choices : Choices) where
  -- these lines were read of the bytes, what is behind the last line feed is kept, and the audit has taken each of them
  pub record HasRead (bytes : List ℕ) (lines : List Line) (reading : Reading) : Type 0 where
    pub read : ReadsTo bytes lines reading.tail.items
    pub free : IsFree line_feed reading.tail.items
    pub counted : reading.count ≡ length lines
    pub taken : HasTaken services test choices lines reading.audit

  -- each whole line is read and keeps the rules on lines
  pub record IsUnbroken (bytes : List ℕ) : Type 0 where
    pub lines : List Line
    pub rest : List ℕ
    pub read : ReadsTo bytes lines rest
    pub free : IsFree line_feed rest
    pub kept : OfEachLine (KeepsAll services test choices) lines

  -- whatever follows these bytes, it is the first break
  abbrev pub IsBrokenBy : List ℕ → Break → Type 0
  IsBrokenBy bytes found = (more : List ℕ) → BreaksFirst services test choices (bytes ++ more) found.line (rule_told found.rule)
