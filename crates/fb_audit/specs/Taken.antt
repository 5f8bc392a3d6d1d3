-- Which lines an audit has taken.
use Rattle.std.specs.Prelude.{◌≡◌, ℕ, Bool, Option, Some, None, List, [], ◌∷◌, ◌++◌}
use Rattle.fb_meaning.specs.Each.{HoldsOfEach}
use Rattle.fb_report.specs.declared.line.Line.{Line}
use Rattle.fb_report.specs.declared.line.Line.TheVariants.{Header}
use Rattle.fb_valid.specs.Valid.{OfEachLine}
use Rattle.fb_valid.specs.Verdict.{Keeps, KeepsAll, IsFirstNot, line_rules}
use Rattle.fb_audit.specs.declared.below.Below.{Below}
use Rattle.fb_audit.specs.declared.taken.Taken.{Taken}
use Rattle.fb_audit.specs.declared.taken.Taken.TheVariants.{Nothing, Lines}
use Rattle.fb_audit.specs.declared.verdict.Rule.{Rule}
use Rattle.fb_audit.specs.Kept.{Basis, IsBelow, choices_of}
use Rattle.fb_audit.specs.Judged.{KeepsOne}
use Rattle.fb_audit.specs.Rules.{rule_told}

-- what lines are judged by, and what was taken
pub record Audited : Type 0 where
  pub basis : Basis
  pub taken : Taken

module _ (basis : Basis) where
  -- the rules on a line, by the lines above it
  abbrev pub KeepsEach : List Line → Line → Type 0
  KeepsEach above line = KeepsAll basis.services basis.test (choices_of basis) above line

  -- a header, and the lines below it of which this is kept
  pub record IsHeaded (lines : List Line) (below : Below) : Type 0 where
    pub version : ℕ
    pub fuel : ℕ
    pub reduction : Bool
    pub above : List Line
    pub cut : lines ≡ Header version fuel reduction ∷ above
    pub is_below : IsBelow basis version fuel reduction above below

  abbrev pub HoldsLines : List Line → Taken → Type 0
  HoldsLines lines Nothing = lines ≡ []
  HoldsLines lines (Lines below) = IsHeaded lines below

  -- these lines, each of which keeps the rules on it
  pub record IsTakenOf (lines : List Line) (taken : Taken) : Type 0 where
    pub holds : HoldsLines lines taken
    pub keep : OfEachLine KeepsEach lines

  -- some lines
  abbrev pub IsTakenOfSome : Taken → Type 0
  IsTakenOfSome taken = (lines : List Line) × IsTakenOf lines taken

  -- a further line keeps the rules on it, and is taken; or it breaks this rule first
  abbrev pub IsNext : List Line → Line → Taken → Option Rule → Type 0
  IsNext lines line taken None = KeepsEach lines line × IsTakenOf (lines ++ line ∷ []) taken
  IsNext lines line taken (Some rule) = IsFirstNot (Keeps basis.services basis.test (choices_of basis) lines line) line_rules (rule_told rule)

  -- below a header too
  abbrev pub IsNextBelow : ℕ → ℕ → Bool → List Line → Line → Below → Option Rule → Type 0
  IsNextBelow version fuel reduction above line below None =
      HoldsOfEach (KeepsOne basis version fuel above line) line_rules × IsBelow basis version fuel reduction (above ++ line ∷ []) below
  IsNextBelow version fuel reduction above line below (Some rule) = IsFirstNot (KeepsOne basis version fuel above line) line_rules (rule_told rule)
