-- When the bytes of a report are valid. Each rule looks at the lines and at single bodies: of an inv line its method's, of
-- a plan line the test's, where calls get the replies that lines tell.
use Rattle.std.specs.Prelude.{◌≡◌, ℕ, Bool, true, List, [], ◌∷◌, ◌++◌}
use Rattle.fb_syntax.specs.Trees.{ServicesTree, TestTree}
use Rattle.fb_campaign.specs.Runs.{Choices}
use Rattle.fb_report.specs.declared.line.Line.{Line}
use Rattle.fb_report.specs.declared.line.Line.TheVariants.{Header}
use Rattle.fb_functest.specs.Reading.{IsReadAs}
use Rattle.fb_valid.specs.Lines.{is_end}
use Rattle.fb_valid.specs.Trees.{IsSpelled}
use Rattle.fb_valid.specs.Rules.{OfInv, OfPlan, IsInPlace, IsNewRecord, HasParent, EndsAsItsTree, IsExtended, UsesEarlier, HasOwner, OwnsSome}

-- it holds of each line, by those above it
abbrev pub OfEachLine : (List Line → Line → Type 0) → List Line → Type 0
OfEachLine Keeps lines = (above : List Line) (line : Line) (below : List Line) → lines ≡ above ++ line ∷ below → Keeps above line

-- the last line is an end line
pub record IsEnded (lines : List Line) : Type 0 where
  pub body : List Line
  pub last : Line
  pub cut : lines ≡ body ++ last ∷ []
  pub ends : is_end last ≡ true

-- each line is in its place, and the last one, alone, is an end line
pub record IsWhole (version : ℕ) (lines : List Line) : Type 0 where
  pub in_place : OfEachLine (IsInPlace version) lines
  pub ended : IsEnded lines

pub record AreOwned (lines : List Line) : Type 0 where
  -- each record is owned by a run line that uses it
  pub owned : OfEachLine (HasOwner lines) lines
  pub earlier : OfEachLine (OfPlan UsesEarlier) lines

-- the bytes are those of a header and of lines below it that keep these rules
pub record IsValid (services : ServicesTree) (test : TestTree) (choices : Choices) (bytes : List ℕ) : Type 0 where
  pub version : ℕ
  pub fuel : ℕ
  pub reduction : Bool
  pub lines : List Line
  pub read : IsReadAs bytes (Header version fuel reduction ∷ lines)
  -- V1: each line has its place, its number and the header's version; the last one has the totals
  pub structure : IsWhole version lines
  -- V2: each inv line has a true record of its own
  pub records : OfEachLine (OfInv (IsNewRecord services fuel)) lines
  -- V3: each plan line but the first extends the plan of one above it, and has a plan of its own
  pub parents : OfEachLine (OfPlan (HasParent services test choices fuel)) lines
  -- V4: the uses of each plan line spell a tree under its plan
  pub trees : OfEachLine (OfPlan (IsSpelled services test fuel)) lines
  -- V5: which ends as the line says
  pub outcomes : OfEachLine (OfPlan (EndsAsItsTree services test fuel)) lines
  -- V6: each extension of a plan line's plan has a line
  pub complete : OfEachLine (OfPlan (IsExtended services test choices fuel lines)) lines
  -- V7: each record is owned by a run line that uses it, and pruned lines use those of lines above
  pub owners : AreOwned lines
  -- V8: with reduction each run line but the first plan line owns a record
  pub reduced : reduction ≡ true → OfEachLine (OfPlan (OwnsSome lines)) lines
