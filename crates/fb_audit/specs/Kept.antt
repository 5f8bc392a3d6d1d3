-- What is kept of the lines below a header.
use Rattle.std.specs.Prelude.{◌≡◌, ℕ, ◌≤◌, Bool, List, length}
use Rattle.fb_syntax.specs.Trees.{ServicesTree, TestTree}
use Rattle.fb_campaign.specs.Runs.{Choices}
use Rattle.fb_config.specs.Choices.{choices_for}
use Rattle.fb_config.specs.declared.choices.ChoiceTable.{ChoiceTable}
use Rattle.fb_eval.specs.Units.{most_units}
use Rattle.fb_meaning.specs.Each.{HoldsOfEach}
use Rattle.fb_meaning.specs.Records.{IsTrueRecord}
use Rattle.fb_report.specs.declared.line.Line.{Line}
use Rattle.fb_valid.specs.Lines.{records_told}
use Rattle.fb_tally.specs.Tallied.{tally_of}
use Rattle.fb_tally.specs.Owned.{AreOwnersOf}
use Rattle.fb_book.specs.Books.{AreKnown}
use Rattle.fb_book.specs.Kept.{IsBookOf}
use Rattle.fb_audit.specs.declared.below.Below.{Below}
use Rattle.fb_audit.specs.declared.known.Known.{Known}

-- what lines are judged by
pub record Basis : Type 0 where
  pub services : ServicesTree
  pub test : TestTree
  pub faults : ChoiceTable

abbrev pub choices_of : Basis → Choices
choices_of basis = choices_for basis.faults

-- it tells of records, owners and plans what these lines do
pub record IsKnownOf (basis : Basis) (fuel : ℕ) (lines : List Line) (known : Known) : Type 0 where
  pub records : known.store ≡ records_told basis.services lines
  pub owners : AreOwnersOf lines known.owners
  pub plans : IsBookOf basis.services basis.test (choices_of basis) fuel lines known.book
  -- each callee has a list of choices
  pub has_choices : AreKnown basis.faults known.book.rows

-- they are counted
pub record AreCounted (version : ℕ) (lines : List Line) (below : Below) : Type 0 where
  pub tally : below.tally ≡ tally_of version lines
  pub count : length below.lines.items ≡ length lines

-- it is kept of these lines below a header with this version, this fuel, and reduction or not
pub record IsBelow (basis : Basis) (version fuel : ℕ) (reduction : Bool) (lines : List Line) (below : Below) : Type 0 where
  pub counted : AreCounted version lines below
  pub known : IsKnownOf basis fuel lines below.known
  pub fuel_is : below.fuel ≡ fuel
  pub reduction_is : below.reduction ≡ reduction
  pub small_fuel : fuel ≤ most_units

-- what a line asks before it is taken: the records are true with this fuel, which runs may have
pub record IsProved (basis : Basis) (fuel : ℕ) (known : Known) : Type 0 where
  pub are_true : HoldsOfEach (IsTrueRecord basis.services fuel) known.store
  pub small_fuel : fuel ≤ most_units
  pub has_choices : AreKnown basis.faults known.book.rows
