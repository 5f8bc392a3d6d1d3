-- Some reports that nobody's campaign wrote, and where they break.
use Rattle.std.specs.Prelude.{◌≡◌, ℕ, ◌<◌, Bool, true, Option, None, List, [], ◌∷◌, length}
use Rattle.fb_base.specs.declared.reply.Reply.{Reply}
use Rattle.fb_index.specs.Entry.{Occurrence}
use Rattle.fb_index.specs.Pieces.{IsFree}
use Rattle.fb_index.specs.declared.fault.Fault.{Fault}
use Rattle.fb_syntax.specs.Trees.{ServicesTree, TestTree}
use Rattle.fb_tree.specs.declared.outcome.Outcome.{Outcome}
use Rattle.fb_campaign.specs.Runs.{Choices}
use Rattle.fb_report.specs.declared.line.Cause.{Cause}
use Rattle.fb_report.specs.declared.line.Line.{Line}
use Rattle.fb_report.specs.declared.line.Line.TheVariants.{Header, Inv, Plan, End}
use Rattle.fb_report.specs.Lines.{line_feed}
use Rattle.fb_report.specs.Names.{record_named}
use Rattle.fb_report.specs.declared.named.NamedRecord.{NamedRecord}
use Rattle.fb_functest.specs.Reading.{BeginsWith}
use Rattle.fb_valid.specs.Verdict.{CutLine, V1, V2, V3, V4, IsHeader, ReadsTo, BreaksFirst}

pub record ForgedReportsBreak (services : ServicesTree) (test : TestTree) (choices : Choices) : Type 0 where
  -- no bytes at all, and bytes without a line feed
  pub empty : BreaksFirst services test choices [] 1 V1
  pub no_feed : (bytes : List ℕ) → IsFree line_feed bytes → 0 < length bytes → BreaksFirst services test choices bytes 1 CutLine
  -- without its header, or with a second one
  pub no_header : (bytes rest : List ℕ) (line : Line) → BeginsWith line bytes rest → ¬ (IsHeader line) → BreaksFirst services test choices bytes 1 V1
  pub two_headers : (bytes rest next : List ℕ) (version other fuel fuel_too : ℕ) (reduction reduction_too : Bool) →
      ReadsTo bytes (Header version fuel reduction ∷ []) rest → BeginsWith (Header other fuel_too reduction_too) rest next →
      BreaksFirst services test choices bytes 2 V1
  -- a header and an end line alone
  pub no_plan : (bytes rest next : List ℕ) (version fuel : ℕ) (reduction : Bool) (cause : Cause) (plans run pruned failed invs : ℕ) (stopped : Option (List Fault)) →
      ReadsTo bytes (Header version fuel reduction ∷ []) rest → BeginsWith (End cause plans run pruned failed invs stopped) rest next →
      BreaksFirst services test choices bytes 2 V1
  -- a plan line of another version, and a first one that has a parent or a fault or isn't run
  pub other_version : (bytes rest next : List ℕ) (version other fuel id : ℕ) (reduction run : Bool) (parent : Option ℕ) (fault : Option (List Occurrence × Reply))
      (uses : List ℕ) (outcome : Outcome) → ReadsTo bytes (Header version fuel reduction ∷ []) rest → BeginsWith (Plan other id parent fault run uses outcome) rest next →
      ¬ (other ≡ version) → BreaksFirst services test choices bytes 2 V1
  pub no_root : (bytes rest next : List ℕ) (version fuel : ℕ) (reduction run : Bool) (parent : Option ℕ) (fault : Option (List Occurrence × Reply))
      (uses : List ℕ) (outcome : Outcome) → ReadsTo bytes (Header version fuel reduction ∷ []) rest → BeginsWith (Plan version 0 parent fault run uses outcome) rest next →
      ¬ ((parent ≡ None) × (fault ≡ None) × (run ≡ true)) → BreaksFirst services test choices bytes 2 V3
  -- a first inv line that names a method which the services lack, and a first plan line that uses a record where there is none
  pub unknown_method : (bytes rest next : List ℕ) (version fuel owner : ℕ) (reduction : Bool) (made : NamedRecord) →
      ReadsTo bytes (Header version fuel reduction ∷ []) rest → BeginsWith (Inv 0 owner made) rest next → record_named services made ≡ None →
      BreaksFirst services test choices bytes 2 V2
  pub no_record : (bytes rest next : List ℕ) (version fuel place : ℕ) (reduction : Bool) (uses : List ℕ) (outcome : Outcome) →
      ReadsTo bytes (Header version fuel reduction ∷ []) rest → BeginsWith (Plan version 0 None None true (place ∷ uses) outcome) rest next →
      BreaksFirst services test choices bytes 2 V4
