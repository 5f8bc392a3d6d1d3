-- Which line of a report is the first that breaks a rule, and which rule.
use Rattle.std.specs.Prelude.{◌≡◌, ℕ, ◌+◌, ◌<◌, ⊤, Bool, true, Option, Some, None, Err, List, [], ◌∷◌, ◌++◌, length}
use Rattle.fb_base.specs.declared.reply.Reply.{Reply}
use Rattle.fb_index.specs.Entry.{Occurrence}
use Rattle.fb_index.specs.Pieces.{IsFree}
use Rattle.fb_syntax.specs.Trees.{ServicesTree, TestTree}
use Rattle.fb_tree.specs.Calls.{visits_of}
use Rattle.fb_campaign.specs.Plans.{extensions_of}
use Rattle.fb_campaign.specs.Runs.{Choices}
use Rattle.fb_meaning.specs.Each.{HoldsOfEach}
use Rattle.fb_report.specs.declared.line.Line.{Line}
use Rattle.fb_report.specs.declared.line.Line.TheVariants.{Header, Inv, Plan, End}
use Rattle.fb_report.specs.Lines.{line_feed}
use Rattle.fb_reading.specs.Answers.{IsAnswer}
use Rattle.fb_reading.specs.declared.key.LineError.{LineError}
use Rattle.fb_reading.specs.declared.key.LineError.TheVariants as unread
use Rattle.fb_functest.specs.PlanLines.{PlanLine, plan_line_in, with_fault}
use Rattle.fb_functest.specs.Reading.{BeginsWith}
use Rattle.fb_valid.specs.Trees.{IsSpelled, HasLine}
use Rattle.fb_valid.specs.Rules.{OfInv, OfPlan, IsInPlace, IsNewRecord, HasParent, EndsAsItsTree, IsExtended, UsesEarlier, HasOwner, OwnsSome}
use Rattle.fb_valid.specs.Valid.{OfEachLine, IsEnded}

pub data Rule : Type 0 where
  -- bytes behind the last line feed, and those that are no line
  CutLine : Rule
  NotJson : Rule
  BadShape : Rule
  BadNumber : Rule
  -- those of a valid report; an extension that has no line is told by the fault that it adds
  V1 : Rule
  V2 : Rule
  V3 : Rule
  V4 : Rule
  V5 : Rule
  V6 : List Occurrence → Reply → Rule
  V7 : Rule
  V8 : Rule

-- the rules that are tried on a line, in this order
abbrev pub line_rules : List Rule
line_rules = V1 ∷ V2 ∷ V3 ∷ V4 ∷ V7 ∷ V5 ∷ []

-- want of memory says nothing of a line
abbrev pub rule_of : LineError → Option Rule
rule_of unread.NotJson = Some NotJson
rule_of (unread.BadShape named) = Some BadShape
rule_of (unread.BadNumber named) = Some BadNumber
rule_of unread.Memory = None

-- ---- the first of several

-- the first item of which something doesn't hold
pub record IsFirstNot {A : Type 0} (Holds : A → Type 0) (items : List A) (item : A) : Type 0 where
  pub before : List A
  pub after : List A
  pub cut : items ≡ before ++ item ∷ after
  pub hold : HoldsOfEach Holds before
  pub fails : ¬ (Holds item)

-- the first line that doesn't keep a rule, and those above it, which keep it
pub record IsFirstLine (Keeps : List Line → Line → Type 0) (lines above : List Line) (line : Line) : Type 0 where
  pub below : List Line
  pub cut : lines ≡ above ++ line ∷ below
  pub kept : OfEachLine Keeps above
  pub broken : ¬ (Keeps above line)

-- the bytes begin with these lines, and this is left behind them
abbrev pub ReadsTo : List ℕ → List Line → List ℕ → Type 0
ReadsTo bytes [] rest = bytes ≡ rest
ReadsTo bytes (line ∷ lines) rest = (next : List ℕ) × BeginsWith line bytes next × ReadsTo next lines rest

abbrev pub IsHeader : Line → Type 0
IsHeader (Header version fuel reduction) = ⊤
IsHeader (Inv id owner made) = ⊥
IsHeader (Plan version id parent fault run uses outcome) = ⊥
IsHeader (End cause plans run pruned failed invs stopped) = ⊥

module _ (services : ServicesTree) (test : TestTree) (choices : Choices) where
  -- ---- rules on a line

  -- below a header with this version and this fuel, and further lines
  abbrev pub KeepsBelow : ℕ → ℕ → List Line → Line → Rule → Type 0
  KeepsBelow version fuel above line V1 = IsInPlace version above line
  KeepsBelow version fuel above line V2 = OfInv (IsNewRecord services fuel) above line
  KeepsBelow version fuel above line V3 = OfPlan (HasParent services test choices fuel) above line
  KeepsBelow version fuel above line V4 = OfPlan (IsSpelled services test fuel) above line
  KeepsBelow version fuel above line V5 = OfPlan (EndsAsItsTree services test fuel) above line
  KeepsBelow version fuel above line V7 = OfPlan UsesEarlier above line
  KeepsBelow version fuel above line other = ⊤

  -- the first line is a header
  abbrev pub Keeps : List Line → Line → Rule → Type 0
  Keeps [] line rule = IsHeader line
  Keeps (Header version fuel reduction ∷ above) line rule = KeepsBelow version fuel above line rule
  Keeps (first ∷ above) line rule = ⊤

  abbrev pub KeepsAll : List Line → Line → Type 0
  KeepsAll above line = HoldsOfEach (Keeps above line) line_rules

  -- what stands next, below these lines, is no whole line, or isn't read, or is a line of which this is the first rule
  -- that it breaks
  pub data BreaksNext (above : List Line) (rest : List ℕ) (rule : Rule) : Type 0 where
    is_cut : IsFree line_feed rest → 0 < length rest → rule ≡ CutLine → BreaksNext above rest rule
    is_unread : (text more : List ℕ) (why : LineError) → IsFree line_feed text → rest ≡ text ++ line_feed ∷ more → IsAnswer text (Err why)
        → rule_of why ≡ Some rule → BreaksNext above rest rule
    is_broken : (line : Line) (more : List ℕ) → BeginsWith line rest more → IsFirstNot (Keeps above line) line_rules rule → BreaksNext above rest rule

  -- ---- rules on all lines

  -- the first extension without a line, of the first plan line that has one
  pub record LacksLine (fuel : ℕ) (lines above : List Line) (line : Line) (fault : List Occurrence × Reply) : Type 0 where
    pub first_line : IsFirstLine (OfPlan (IsExtended services test choices fuel lines)) lines above line
    pub tells : PlanLine
    pub is_plan : plan_line_in line ≡ Some tells
    pub tree : IsSpelled services test fuel above tells
    pub first : IsFirstNot (HasLine lines) (extensions_of choices (visits_of tree.run) tree.plan) (with_fault tree.plan fault)

  -- below the header: the first line that breaks this rule, where all lines keep those that are tried before it
  pub data BreaksBelow (fuel : ℕ) (reduction : Bool) (lines above : List Line) (line : Line) (rule : Rule) : Type 0 where
    is_not_owned : IsFirstLine (HasOwner lines) lines above line → rule ≡ V7 → BreaksBelow fuel reduction lines above line rule
    owns_none : OfEachLine (HasOwner lines) lines → reduction ≡ true → IsFirstLine (OfPlan (OwnsSome lines)) lines above line → rule ≡ V8
        → BreaksBelow fuel reduction lines above line rule
    lacks_line : OfEachLine (HasOwner lines) lines → (reduction ≡ true → OfEachLine (OfPlan (OwnsSome lines)) lines) → (fault : List Occurrence × Reply)
        → LacksLine fuel lines above line fault → rule ≡ V6 fault.0 fault.1 → BreaksBelow fuel reduction lines above line rule

  -- a rule that is tried behind the last line, with the number of the line that breaks it
  pub data BreaksAtEnd (lines : List Line) (place : ℕ) (rule : Rule) : Type 0 where
    has_no_end : ¬ (IsEnded lines) → place ≡ 1 + length lines → rule ≡ V1 → BreaksAtEnd lines place rule
    breaks_below : IsEnded lines → (version fuel : ℕ) (reduction : Bool) (below above : List Line) (line : Line) → lines ≡ Header version fuel reduction ∷ below
        → BreaksBelow fuel reduction below above line rule → place ≡ 2 + length above → BreaksAtEnd lines place rule

  -- ---- the first line that breaks a rule

  pub data Breaks (lines : List Line) (rest : List ℕ) (place : ℕ) (rule : Rule) : Type 0 where
    on_next : place ≡ 1 + length lines → BreaksNext lines rest rule → Breaks lines rest place rule
    at_end : rest ≡ [] → BreaksAtEnd lines place rule → Breaks lines rest place rule

  -- the lines that are read first keep the rules on lines; then one breaks a rule, or there is none and rules on all lines are
  -- broken. Lines are numbered from 1.
  pub record BreaksFirst (bytes : List ℕ) (place : ℕ) (rule : Rule) : Type 0 where
    pub lines : List Line
    pub rest : List ℕ
    pub read : ReadsTo bytes lines rest
    pub kept : OfEachLine KeepsAll lines
    pub breaks : Breaks lines rest place rule
