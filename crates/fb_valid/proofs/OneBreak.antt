-- At most one line is the first that breaks a rule, and none in a valid report.
use Rattle.std.proofs.Common.{◌≡◌, ◌⊎◌, ⊎_elim, ℕ, ◌+◌, Bool, Some, None, List, [], ◌∷◌, ◌++◌, length, sym, ap, ◌∙◌, subst, arith}
use Rattle.std.specs.Prelude.{Result, Ok, Err}
use Rattle.std.proofs.lemmas.Option.{same_Some}
use Rattle.fb_base.specs.declared.reply.Reply.{Reply}
use Rattle.fb_index.specs.Entry.{Occurrence}
use Rattle.fb_index.specs.Pieces.{IsFree}
use Rattle.fb_index.specs.declared.fault.Fault.{Fault}
use Rattle.fb_syntax.specs.Trees.{ServicesTree, TestTree}
use Rattle.fb_tree.specs.Calls.{visits_of}
use Rattle.fb_campaign.specs.Plans.{extensions_of}
use Rattle.fb_campaign.specs.Runs.{Choices}
use Rattle.fb_meaning.specs.Spelling.{OneIsSpelled}
use Rattle.fb_report.specs.declared.line.Line.{Line}
use Rattle.fb_report.specs.declared.line.Line.TheVariants.{Header}
use Rattle.fb_report.specs.Lines.{line_feed}
use Rattle.fb_reading.specs.Answers.{IsAnswer}
use Rattle.fb_reading.specs.declared.key.LineError.{LineError}
use Rattle.fb_reading.specs.declared.key.LineError.TheVariants.{Memory}
use Rattle.fb_functest.specs.PlanLines.{plan_line_in, with_fault}
use Rattle.fb_functest.specs.Reading.{BeginsWith}
use Rattle.fb_functest.specs.ReportLines.{last_fault}
use Rattle.fb_valid.specs.Trees.{HasLine}
use Rattle.fb_valid.specs.Rules.{OfInv, OfPlan, IsNewRecord, IsExtended, HasOwner, OwnsSome}
use Rattle.fb_valid.specs.Valid.{OfEachLine, IsEnded, IsValid}
use Rattle.fb_valid.specs.Laws.{OneBreaksFirst, ValidBreaksNone}
use Rattle.fb_valid.specs.Verdict.{Rule, V6, line_rules, rule_of, IsFirstNot, Keeps, KeepsAll, BreaksNext, is_cut, is_unread, is_broken, LacksLine, BreaksBelow, is_not_owned, owns_none, lacks_line, BreaksAtEnd, has_no_end, breaks_below, Breaks, on_next, at_end, BreaksFirst}
use Rattle.fb_valid.proofs.Childhood.{last_added}
use Rattle.fb_valid.proofs.Cuts.{holds_of_first, one_first, kept_line, one_line, cut_once, none_left, not_free, begins_once, Readings, same_lines, goes_on, went_on, readings, reads_all}
use Rattle.fb_valid.proofs.Told.{same_tree}
use Rattle.fb_valid.proofs.TrueAbove.{each_true}

-- a plan and its fault are told by the longer plan
same_fault : (plan other : List Fault) (fault another : List Occurrence × Reply) → with_fault plan fault ≡ with_fault other another → fault ≡ another
same_fault plan other fault another is = same_Some fault another (sym (last_added plan fault) ∙ ap last_fault is ∙ last_added other another)

abbrev refused : LineError → Result Line LineError
refused why = Err why

-- want of memory breaks no rule
forgotten : (why : LineError) (rule : Rule) → refused why ≡ refused Memory → rule_of why ≡ Some rule → ⊥
forgotten why rule memory is_rule =
    let same : why ≡ Memory = cc in
    let none : rule_of why ≡ None = ap rule_of same in
    absurd (cc)

module _ (unique : (bytes : List ℕ) (a b : Result Line LineError) → IsAnswer bytes a → IsAnswer bytes b → (a ≡ Err Memory) ⊎ (b ≡ Err Memory) ⊎ (a ≡ b))
    (one : OneIsSpelled) (services : ServicesTree) (test : TestTree) (choices : Choices) where
  -- ---- what stands next

  is_read : (rest next text more : List ℕ) (line : Line) (why : LineError) (rule : Rule) → BeginsWith line rest next → IsFree line_feed text → rest ≡ text ++ line_feed ∷ more
      → IsAnswer text (Err why) → rule_of why ≡ Some rule → ⊥
  is_read rest next text more line why rule begins free is answer of_rule =
      let parts = cut_once line_feed begins.text text next more begins.free free (sym begins.cut ∙ is) in
      ⊎_elim (λ e. absurd (cc)) (⊎_elim (λ memory. forgotten why rule memory of_rule) (λ e. absurd (cc)))
      (unique text (Ok line) (Err why) (subst (λ t. IsAnswer t (Ok line)) parts.0 begins.read) answer)

  is_whole : (rest next : List ℕ) (line : Line) → BeginsWith line rest next → ¬ (IsFree line_feed rest)
  is_whole rest next line begins free = not_free line_feed begins.text next (subst (IsFree line_feed) begins.cut free)

  -- a line that keeps the rules on lines breaks none
  next_keeps : (lines : List Line) (rest next : List ℕ) (line : Line) (rule : Rule) → BeginsWith line rest next → KeepsAll services test choices lines line
      → ¬ (BreaksNext services test choices lines rest rule)
  next_keeps lines rest next line rule begins keeps (is_cut free long is) = is_whole rest next line begins free
  next_keeps lines rest next line rule begins keeps (is_unread text more why free is answer of_rule) = is_read rest next text more line why rule begins free is answer of_rule
  next_keeps lines rest next line rule begins keeps (is_broken other more also first) =
      let same = begins_once unique rest next more line other begins also in
      holds_of_first (Keeps services test choices lines other) line_rules rule (subst (KeepsAll services test choices lines) same.0 keeps) first

  line_keeps : (lines : List Line) (rest next : List ℕ) (line : Line) (place : ℕ) (rule : Rule) → BeginsWith line rest next → KeepsAll services test choices lines line
      → ¬ (Breaks services test choices lines rest place rule)
  line_keeps lines rest next line place rule begins keeps (on_next at breaks) = next_keeps lines rest next line rule begins keeps breaks
  line_keeps lines rest next line place rule begins keeps (at_end none breaks) = none_left line_feed begins.text next (sym none ∙ begins.cut)

  one_next : (lines : List Line) (rest : List ℕ) (rule other : Rule) → BreaksNext services test choices lines rest rule → BreaksNext services test choices lines rest other → rule ≡ other
  one_next lines rest rule other (is_cut free long is) (is_cut free_too long_too also) = is ∙ sym also
  one_next lines rest rule other (is_cut free long is) (is_unread text more why free_text cut answer of_rule) = absurd (not_free line_feed text more (subst (IsFree line_feed) cut free))
  one_next lines rest rule other (is_cut free long is) (is_broken line more begins first) = absurd (is_whole rest more line begins free)
  one_next lines rest rule other (is_unread text more why free_text cut answer of_rule) (is_cut free long is) = absurd (not_free line_feed text more (subst (IsFree line_feed) cut free))
  one_next lines rest rule other (is_unread text more why free cut answer of_rule) (is_unread text_too more_too why_too free_too cut_too answer_too of_rule_too) =
      let parts = cut_once line_feed text text_too more more_too free free_too (sym cut ∙ cut_too) in
      ⊎_elim (λ memory. absurd (forgotten why rule memory of_rule)) (⊎_elim (λ memory. absurd (forgotten why_too other memory of_rule_too)) told_alike)
      (unique text (Err why) (Err why_too) answer (subst (λ t. IsAnswer t (Err why_too)) (sym parts.0) answer_too))
    where
      told_alike : refused why ≡ refused why_too → rule ≡ other
      told_alike same =
          let why_is : why ≡ why_too = cc in
          same_Some rule other (sym of_rule ∙ ap rule_of why_is ∙ of_rule_too)
  one_next lines rest rule other (is_unread text more why free cut answer of_rule) (is_broken line next begins first) =
      absurd (is_read rest next text more line why rule begins free cut answer of_rule)
  one_next lines rest rule other (is_broken line more begins first) (is_cut free long is) = absurd (is_whole rest more line begins free)
  one_next lines rest rule other (is_broken line next begins first) (is_unread text more why free cut answer of_rule) =
      absurd (is_read rest next text more line why other begins free cut answer of_rule)
  one_next lines rest rule other (is_broken line more begins first) (is_broken line_too more_too begins_too first_too) =
      let same = begins_once unique rest more more_too line line_too begins begins_too in
      one_first (Keeps services test choices lines line_too) line_rules rule other (subst (λ l. IsFirstNot (Keeps services test choices lines l) line_rules rule) same.0 first) first_too

  -- ---- behind the last line

  module _ (fuel : ℕ) (reduction : Bool) (lines : List Line) (records : OfEachLine (OfInv (IsNewRecord services fuel)) lines) where
    one_here : (above : List Line) (line another : Line) (fault fault_too : List Occurrence × Reply) → line ≡ another
        → LacksLine services test choices fuel lines above line fault → LacksLine services test choices fuel lines above another fault_too → fault ≡ fault_too
    one_here above line another fault fault_too line_is lacks too =
        let tells : lacks.tells ≡ too.tells = same_Some lacks.tells too.tells (sym lacks.is_plan ∙ ap plan_line_in line_is ∙ too.is_plan) in
        let each = each_true services fuel lines above (line ∷ lacks.first_line.below) records lacks.first_line.cut in
        let same = same_tree services test 0 fuel one above lacks.tells too.tells tells each lacks.tree too.tree in
        let first = subst (λ plans. IsFirstNot (HasLine lines) plans (with_fault lacks.tree.plan fault)) (λ i. extensions_of choices (visits_of (same.1 i)) (same.0 i)) lacks.first in
        same_fault lacks.tree.plan too.tree.plan fault fault_too
        (one_first (HasLine lines) (extensions_of choices (visits_of too.tree.run) too.tree.plan) (with_fault lacks.tree.plan fault) (with_fault too.tree.plan fault_too) first too.first)

    one_lacks : (above other : List Line) (line another : Line) (fault fault_too : List Occurrence × Reply) → above ≡ other → line ≡ another
        → LacksLine services test choices fuel lines above line fault → LacksLine services test choices fuel lines other another fault_too → fault ≡ fault_too
    one_lacks above other line another fault fault_too above_is line_is lacks too =
        one_here above line another fault fault_too line_is lacks (subst (λ up. LacksLine services test choices fuel lines up another fault_too) (sym above_is) too)

    one_below : (above other : List Line) (line another : Line) (rule rule_too : Rule) → BreaksBelow services test choices fuel reduction lines above line rule
        → BreaksBelow services test choices fuel reduction lines other another rule_too → (above ≡ other) × (rule ≡ rule_too)
    one_below above other line another rule rule_too (is_not_owned first is) (is_not_owned first_too also) =
        ((one_line (HasOwner lines) lines above other line another first first_too).0, is ∙ sym also)
    one_below above other line another rule rule_too (is_not_owned first is) (owns_none owned on first_too also) = absurd (kept_line (HasOwner lines) lines above line owned first)
    one_below above other line another rule rule_too (is_not_owned first is) (lacks_line owned own fault lacks also) = absurd (kept_line (HasOwner lines) lines above line owned first)
    one_below above other line another rule rule_too (owns_none owned on first is) (is_not_owned first_too also) = absurd (kept_line (HasOwner lines) lines other another owned first_too)
    one_below above other line another rule rule_too (owns_none owned on first is) (owns_none owned_too on_too first_too also) =
        ((one_line (OfPlan (OwnsSome lines)) lines above other line another first first_too).0, is ∙ sym also)
    one_below above other line another rule rule_too (owns_none owned on first is) (lacks_line owned_too own fault lacks also) =
        absurd (kept_line (OfPlan (OwnsSome lines)) lines above line (own on) first)
    one_below above other line another rule rule_too (lacks_line owned own fault lacks is) (is_not_owned first_too also) = absurd (kept_line (HasOwner lines) lines other another owned first_too)
    one_below above other line another rule rule_too (lacks_line owned own fault lacks is) (owns_none owned_too on first_too also) =
        absurd (kept_line (OfPlan (OwnsSome lines)) lines other another (own on) first_too)
    one_below above other line another rule rule_too (lacks_line owned own fault lacks is) (lacks_line owned_too own_too fault_too lacks_too also) =
        let at = one_line (OfPlan (IsExtended services test choices fuel lines)) lines above other line another lacks.first_line lacks_too.first_line in
        let same = one_lacks above other line another fault fault_too at.0 at.1 lacks lacks_too in
        (at.0, is ∙ (λ i. V6 ((same i).0) ((same i).1)) ∙ sym also)

  -- of lines that begin with a header, those below it
  records_below : (lines below : List Line) (version fuel : ℕ) (reduction : Bool) → lines ≡ Header version fuel reduction ∷ below → OfEachLine (KeepsAll services test choices) lines
      → OfEachLine (OfInv (IsNewRecord services fuel)) below
  records_below lines below version fuel reduction is kept above line rest cut =
      (kept (Header version fuel reduction ∷ above) line rest (is ∙ ap (λ ls. Header version fuel reduction ∷ ls) cut)).1.0

  same_below : (version fuel version_too fuel_too : ℕ) (reduction reduction_too : Bool) (below below_too above : List Line) (line : Line) (rule : Rule)
      → Header version_too fuel_too reduction_too ∷ below_too ≡ Header version fuel reduction ∷ below → BreaksBelow services test choices fuel_too reduction_too below_too above line rule
      → BreaksBelow services test choices fuel reduction below above line rule
  same_below version fuel version_too fuel_too reduction reduction_too below below_too above line rule is breaks =
      let fuel_is : fuel_too ≡ fuel = cc in
      let reduction_is : reduction_too ≡ reduction = cc in
      let below_is : below_too ≡ below = cc in
      subst (λ f. BreaksBelow services test choices f reduction below above line rule) fuel_is
      (subst (λ r. BreaksBelow services test choices fuel_too r below above line rule) reduction_is
      (subst (λ ls. BreaksBelow services test choices fuel_too reduction_too ls above line rule) below_is breaks))

  one_end : (lines : List Line) (place other : ℕ) (rule rule_too : Rule) → OfEachLine (KeepsAll services test choices) lines → BreaksAtEnd services test choices lines place rule
      → BreaksAtEnd services test choices lines other rule_too → (place ≡ other) × (rule ≡ rule_too)
  one_end lines place other rule rule_too kept (has_no_end none at is) (has_no_end none_too at_too also) = (at ∙ sym at_too, is ∙ sym also)
  one_end lines place other rule rule_too kept (has_no_end none at is) (breaks_below ended version fuel reduction below above line lines_are breaks at_too) = absurd (none ended)
  one_end lines place other rule rule_too kept (breaks_below ended version fuel reduction below above line lines_are breaks at) (has_no_end none at_too is) = absurd (none ended)
  one_end lines place other rule rule_too kept (breaks_below ended version fuel reduction below above line lines_are breaks at)
      (breaks_below ended_too version_too fuel_too reduction_too below_too above_too line_too lines_are_too breaks_too at_too) =
      let same = one_below fuel reduction below (records_below lines below version fuel reduction lines_are kept) above above_too line line_too rule rule_too breaks
      (same_below version fuel version_too fuel_too reduction reduction_too below below_too above_too line_too rule_too (sym lines_are_too ∙ lines_are) breaks_too) in
      (at ∙ ap (λ up. 2 + length up) same.0 ∙ sym at_too, same.1)

  -- ---- the first line that breaks a rule

  nothing_next : (lines : List Line) (rest : List ℕ) (rule : Rule) → rest ≡ [] → ¬ (BreaksNext services test choices lines rest rule)
  nothing_next lines rest rule none (is_cut free long is) = (let empty = ap length none in absurd (omega (arith, long, empty)))
  nothing_next lines rest rule none (is_unread text more why free is answer of_rule) = none_left line_feed text more (sym none ∙ is)
  nothing_next lines rest rule none (is_broken line more begins first) = none_left line_feed begins.text more (sym none ∙ begins.cut)

  one_breaks : (lines : List Line) (rest : List ℕ) (place other : ℕ) (rule rule_too : Rule) → OfEachLine (KeepsAll services test choices) lines
      → Breaks services test choices lines rest place rule → Breaks services test choices lines rest other rule_too → (place ≡ other) × (rule ≡ rule_too)
  one_breaks lines rest place other rule rule_too kept (on_next at breaks) (on_next at_too breaks_too) = (at ∙ sym at_too, one_next lines rest rule rule_too breaks breaks_too)
  one_breaks lines rest place other rule rule_too kept (on_next at breaks) (at_end none breaks_too) = absurd (nothing_next lines rest rule none breaks)
  one_breaks lines rest place other rule rule_too kept (at_end none breaks) (on_next at breaks_too) = absurd (nothing_next lines rest rule_too none breaks_too)
  one_breaks lines rest place other rule rule_too kept (at_end none breaks) (at_end none_too breaks_too) = one_end lines place other rule rule_too kept breaks breaks_too

  one_breaks_first : (bytes : List ℕ) (place other : ℕ) (rule rule_too : Rule) → BreaksFirst services test choices bytes place rule → BreaksFirst services test choices bytes other rule_too
      → (place ≡ other) × (rule ≡ rule_too)
  one_breaks_first bytes place other rule rule_too first too = by (readings unique bytes first.lines first.rest too.lines too.rest first.read too.read)
    where
      by : Readings unique first.lines first.rest too.lines too.rest → (place ≡ other) × (rule ≡ rule_too)
      by (same_lines lines_are rest_is) =
          one_breaks first.lines first.rest place other rule rule_too first.kept first.breaks
          (subst (λ lines. Breaks services test choices lines first.rest other rule_too) (sym lines_are)
          (subst (λ rest. Breaks services test choices too.lines rest other rule_too) (sym rest_is) too.breaks))
      by (goes_on line more next is begins) = absurd (line_keeps first.lines first.rest next line place rule begins (too.kept first.lines line more is) first.breaks)
      by (went_on line more next is begins) = absurd (line_keeps too.lines too.rest next line other rule_too begins (first.kept too.lines line more is) too.breaks)

  -- ---- a valid report

  module _ (bytes : List ℕ) (valid : IsValid services test choices bytes) where
    abbrev header : Line
    header = Header valid.version valid.fuel valid.reduction

    below_header : (above : List Line) (line : Line) (below : List Line) → valid.lines ≡ above ++ line ∷ below → KeepsAll services test choices (header ∷ above) line
    below_header above line below is = (
      valid.structure.in_place above line below is,
      (
        valid.records above line below is,
        (valid.parents above line below is, (valid.trees above line below is, (valid.owners.earlier above line below is, (valid.outcomes above line below is, tt)))),
      ),
    )

    all_keep : OfEachLine (KeepsAll services test choices) (header ∷ valid.lines)
    all_keep [] line below is = subst (KeepsAll services test choices []) (let first : header ≡ line = cc in first) (tt, (tt, (tt, (tt, (tt, (tt, tt))))))
    all_keep (first ∷ above) line below is =
        subst (λ up. KeepsAll services test choices (up ∷ above) line) (let same : header ≡ first = cc in same)
        (below_header above line below (let rest : valid.lines ≡ above ++ line ∷ below = cc in rest))

    is_ended : IsEnded (header ∷ valid.lines)
    is_ended =
        let ended = valid.structure.ended in
        record { body = header ∷ ended.body; last = ended.last; cut = ap (λ ls. header ∷ ls) ended.cut; ends = ended.ends }

    none_below : (above : List Line) (line : Line) (rule : Rule) → ¬ (BreaksBelow services test choices valid.fuel valid.reduction valid.lines above line rule)
    none_below above line rule (is_not_owned first is) = kept_line (HasOwner valid.lines) valid.lines above line valid.owners.owned first
    none_below above line rule (owns_none owned on first is) = kept_line (OfPlan (OwnsSome valid.lines)) valid.lines above line (valid.reduced on) first
    none_below above line rule (lacks_line owned own fault lacks is) =
        kept_line (OfPlan (IsExtended services test choices valid.fuel valid.lines)) valid.lines above line valid.complete lacks.first_line

    none_at_end : (lines : List Line) (place : ℕ) (rule : Rule) → lines ≡ header ∷ valid.lines → ¬ (BreaksAtEnd services test choices lines place rule)
    none_at_end lines place rule is (has_no_end none at also) = none (subst IsEnded (sym is) is_ended)
    none_at_end lines place rule is (breaks_below ended version fuel reduction below above line lines_are breaks at) =
        none_below above line rule (same_below valid.version valid.fuel version fuel valid.reduction reduction valid.lines below above line rule (sym lines_are ∙ is) breaks)

    none_breaks : (lines : List Line) (rest : List ℕ) (place : ℕ) (rule : Rule) → lines ≡ header ∷ valid.lines → rest ≡ [] → ¬ (Breaks services test choices lines rest place rule)
    none_breaks lines rest place rule lines_are none (on_next at breaks) = nothing_next lines rest rule none breaks
    none_breaks lines rest place rule lines_are none (at_end none_too breaks) = none_at_end lines place rule lines_are breaks

    valid_breaks_none : (place : ℕ) (rule : Rule) → ¬ (BreaksFirst services test choices bytes place rule)
    valid_breaks_none place rule first =
        by (readings unique bytes (header ∷ valid.lines) [] first.lines first.rest (reads_all bytes (header ∷ valid.lines) valid.read) first.read)
      where
        by : Readings unique (header ∷ valid.lines) [] first.lines first.rest → ⊥
        by (same_lines lines_are rest_is) = none_breaks first.lines first.rest place rule (sym lines_are) (sym rest_is) first.breaks
        by (goes_on line more next is begins) = none_left line_feed begins.text next begins.cut
        by (went_on line more next is begins) = line_keeps first.lines first.rest next line place rule begins (all_keep first.lines line more is) first.breaks

module _ (unique : (bytes : List ℕ) (a b : Result Line LineError) → IsAnswer bytes a → IsAnswer bytes b → (a ≡ Err Memory) ⊎ (b ≡ Err Memory) ⊎ (a ≡ b)) (one : OneIsSpelled) where
  pub one_breaks_first_law : OneBreaksFirst
  one_breaks_first_law services test choices bytes place other rule another first too = one_breaks_first unique one services test choices bytes place other rule another first too

  pub valid_breaks_none_law : ValidBreaksNone
  valid_breaks_none_law services test choices bytes place rule valid first = valid_breaks_none unique one services test choices bytes valid place rule first
