-- An audit goes on by a line.
use Rattle.std.proofs.Common.{◌≡◌, ℕ, ◌+◌, ◌≤◌, Bool, Option, Some, None, List, [], ◌∷◌, ◌++◌, length, refl, sym, ap, ◌∙◌, subst, arith}
use Rattle.fb_eval.specs.Units.{most_units}
use Rattle.fb_meaning.specs.Each.{HoldsOfEach}
use Rattle.fb_meaning.specs.Records.{IsTrueRecord}
use Rattle.fb_report.specs.declared.line.Line.{Line}
use Rattle.fb_report.specs.declared.line.Line.TheVariants.{Header}
use Rattle.fb_valid.specs.Lines.{records_told}
use Rattle.fb_valid.specs.Rules.{IsInPlace}
use Rattle.fb_valid.specs.Valid.{OfEachLine}
use Rattle.fb_valid.specs.Verdict.{IsFirstNot, IsHeader, Keeps, V1, V2, V3, V4, V5, V7, line_rules}
use Rattle.fb_tally.specs.Tallied.{Tallied, tally_of}
use Rattle.fb_audit.specs.declared.below.Below.{Below}
use Rattle.fb_audit.specs.declared.known.Known.{Known}
use Rattle.fb_audit.specs.declared.taken.Taken.{Taken}
use Rattle.fb_audit.specs.declared.taken.Taken.TheVariants.{Nothing, Lines}
use Rattle.fb_audit.specs.declared.verdict.Rule.{Rule}
use Rattle.fb_audit.specs.Kept.{AreCounted, Basis, IsBelow, IsKnownOf, IsProved, choices_of}
use Rattle.fb_audit.specs.Judged.{ComesNext, IsJudged, KeepsOne}
use Rattle.fb_audit.specs.Rules.{rule_told}
use Rattle.fb_audit.specs.Taken.{IsHeaded, IsNext, IsNextBelow, IsTakenOf, IsTakenOfSome, KeepsEach}
use Rattle.fb_audit.proofs.Above.{one_more, records, records_true}

-- ---- below a header

module _ (basis : Basis) (version fuel : ℕ) (reduction : Bool) (above : List Line) (line : Line) (below : Below) (is_below : IsBelow basis version fuel reduction above below) where
  pub comes_next : (at : ℕ) → IsInPlace version above line → at ≡ length below.lines.items → ComesNext basis version below.fuel above line at below.known
  comes_next at in_place at_is = record {
    in_place = in_place;
    at_is = at_is ∙ is_below.counted.count;
    kept = subst (λ units. IsKnownOf basis units above below.known) (sym is_below.fuel_is) is_below.known;
  }

  pub next_broken : (known : Known) (after : Below) (o : Option Rule) (rule : Rule) → o ≡ Some rule → IsJudged basis version below.fuel above line known o
      → IsNextBelow basis version fuel reduction above line after (Some rule)
  next_broken known after o rule is judged =
      subst (λ units. IsFirstNot (KeepsOne basis version units above line) line_rules (rule_told rule)) is_below.fuel_is
      (subst (IsJudged basis version below.fuel above line known) is judged)

  pub next_taken : (known : Known) (after : Below) (o : Option Rule) → o ≡ None → IsJudged basis version below.fuel above line known o
      → AreCounted version (above ++ line ∷ []) after → after.known ≡ known → after.fuel ≡ below.fuel → after.reduction ≡ below.reduction
      → IsNextBelow basis version fuel reduction above line after None
  next_taken known after o is judged counted known_is fuel_is reduction_is =
      let keeps = subst (IsJudged basis version below.fuel above line known) is judged in (
        subst (λ units. HoldsOfEach (KeepsOne basis version units above line) line_rules) is_below.fuel_is keeps.0,
        record {
          counted = counted;
          known = subst (λ k. IsKnownOf basis fuel (above ++ line ∷ []) k) (sym known_is) (subst (λ units. IsKnownOf basis units (above ++ line ∷ []) known) is_below.fuel_is keeps.1);
          fuel_is = fuel_is ∙ is_below.fuel_is;
          reduction_is = reduction_is ∙ is_below.reduction_is;
          small_fuel = is_below.small_fuel;
        },
      )

-- ---- what an audit knows of what it keeps

module _ (basis : Basis) (below : Below) where
  pub proved : IsTakenOfSome basis (Lines below) → IsProved basis below.fuel below.known
  proved some =
      let taken = some.1 in
      let head = taken.holds in
      let keep = subst (λ lines. OfEachLine (KeepsEach basis) lines) head.cut taken.keep in
      let are_true = records_true basis.services head.fuel [] head.above (records basis.services basis.test (choices_of basis) head.version head.fuel head.reduction head.above keep) in
      record {
        are_true = subst (HoldsOfEach (IsTrueRecord basis.services below.fuel)) (sym head.is_below.known.records)
            (subst (λ units. HoldsOfEach (IsTrueRecord basis.services units) (records_told basis.services head.above)) (sym head.is_below.fuel_is) are_true);
        small_fuel = subst (λ units. units ≤ most_units) (sym head.is_below.fuel_is) head.is_below.small_fuel;
        has_choices = head.is_below.known.has_choices;
      }

  pub room : ((version : ℕ) (lines : List Line) → (tally_of version lines).plans + (tally_of version lines).records ≤ length lines) → IsTakenOfSome basis (Lines below)
      → below.tally.plans + below.tally.records ≤ length below.lines.items
  room more some =
      let head = (some.1).holds in
      let few = more head.version head.above in
      let plans = ap (λ (t : Tallied). t.plans) head.is_below.counted.tally in
      let told = ap (λ (t : Tallied). t.records) head.is_below.counted.tally in
      let count = head.is_below.counted.count in
      omega (arith, few, plans, told, count)

  module _ (lines : List Line) (line : Line) (after : Below) (taken : IsTakenOf basis lines (Lines below)) where
    abbrev head : IsHeaded basis lines below
    head = taken.holds

    pub goes_on : IsNextBelow basis head.version head.fuel head.reduction head.above line after None → IsNext basis lines line (Lines after) None
    goes_on next =
        let keeps : KeepsEach basis lines line = subst (λ ls. KeepsEach basis ls line) (sym head.cut) next.0 in (
          keeps,
          record {
            holds = record {
              version = head.version;
              fuel = head.fuel;
              reduction = head.reduction;
              above = head.above ++ line ∷ [];
              cut = ap (λ ls. ls ++ line ∷ []) head.cut;
              is_below = next.1;
            };
            keep = one_more (KeepsEach basis) lines line taken.keep keeps;
          },
        )

    pub breaks : (rule : Rule) → IsNextBelow basis head.version head.fuel head.reduction head.above line after (Some rule)
        → IsFirstNot (Keeps basis.services basis.test (choices_of basis) lines line) line_rules (rule_told rule)
    breaks rule next = subst (λ ls. IsFirstNot (Keeps basis.services basis.test (choices_of basis) ls line) line_rules (rule_told rule)) (sym head.cut) next

-- ---- the first line

none_above : (Keeps : List Line → Line → Type 0) → OfEachLine Keeps []
none_above Keeps [] line below is = absurd (cc)
none_above Keeps (other ∷ above) line below is = absurd (cc)

pub nothing_taken : (basis : Basis) → IsTakenOf basis [] Nothing
nothing_taken basis = record { holds = refl; keep = none_above (KeepsEach basis) }

pub begins : (basis : Basis) (line : Line) (version fuel : ℕ) (reduction : Bool) (below : Below) → line ≡ Header version fuel reduction → IsBelow basis version fuel reduction [] below
    → IsNext basis [] line (Lines below) None
begins basis line version fuel reduction below is is_below =
    let keeps : KeepsEach basis [] line = subst (λ (other : Line). KeepsEach basis [] other) (sym is) (tt, (tt, (tt, (tt, (tt, (tt, tt)))))) in (
      keeps,
      record {
        holds = record { version = version; fuel = fuel; reduction = reduction; above = []; cut = ap (λ (other : Line). other ∷ []) is; is_below = is_below };
        keep = one_more (KeepsEach basis) [] line (none_above (KeepsEach basis)) keeps;
      },
    )

pub no_header : (basis : Basis) (line : Line) → ¬ (IsHeader line) → IsFirstNot (Keeps basis.services basis.test (choices_of basis) [] line) line_rules V1
no_header basis line fails = record { before = []; after = V2 ∷ V3 ∷ V4 ∷ V7 ∷ V5 ∷ []; cut = refl; hold = tt; fails = fails }

-- ---- as an audit has it

module _ (b basis : Basis) (same : b ≡ basis) (lines : List Line) (line : Line) (below after : Below) (o : Option Rule)
    (judged : (version fuel : ℕ) (reduction : Bool) (above : List Line) → IsBelow b version fuel reduction above below → IsNextBelow b version fuel reduction above line after o)
    (taken : IsTakenOf basis lines (Lines below)) where
  next : IsNextBelow basis (taken.holds).version (taken.holds).fuel (taken.holds).reduction (taken.holds).above line after o
  next =
      subst (λ (k : Basis). (version fuel : ℕ) (reduction : Bool) (above : List Line) → IsBelow k version fuel reduction above below → IsNextBelow k version fuel reduction above line after o) same judged
      (taken.holds).version (taken.holds).fuel (taken.holds).reduction (taken.holds).above (taken.holds).is_below

  pub gone_on : o ≡ None → IsNext basis lines line (Lines after) None
  gone_on is = goes_on basis below lines line after taken
      (subst (IsNextBelow basis (taken.holds).version (taken.holds).fuel (taken.holds).reduction (taken.holds).above line after) is next)

  pub broken_by : (rule : Rule) → o ≡ Some rule → IsFirstNot (Keeps basis.services basis.test (choices_of basis) lines line) line_rules (rule_told rule)
  broken_by rule is = breaks basis below lines line after taken rule
      (subst (IsNextBelow basis (taken.holds).version (taken.holds).fuel (taken.holds).reduction (taken.holds).above line after) is next)

module _ (b basis : Basis) (same : b ≡ basis) (lines : List Line) (line : Line) (taken after : Taken) (o : Option Rule) (stands : IsTakenOf basis lines taken) where
  pub first_next : taken ≡ Nothing → IsNext b [] line after o → IsNext basis lines line after o
  first_next is next =
      let empty : lines ≡ [] = (subst (IsTakenOf basis lines) is stands).holds in
      subst (λ ls. IsNext basis ls line after o) (sym empty) (subst (λ (k : Basis). IsNext k [] line after o) same next)

  pub later_next : (below : Below) → taken ≡ Lines below → ((others : List Line) → IsTakenOf b others (Lines below) → IsNext b others line after o) → IsNext basis lines line after o
  later_next below is next =
      subst (λ (k : Basis). (others : List Line) → IsTakenOf k others (Lines below) → IsNext k others line after o) same next lines (subst (IsTakenOf basis lines) is stands)
