-- What all lines come to.
use Rattle.std.proofs.Common.{◌≡◌, ℕ, ◌+◌, ◌<◌, ◌-◌, Bool, true, false, not, filter, Option, Some, None, List, [], ◌∷◌, ◌++◌, length, length-append, refl, sym, ap, ◌∙◌, subst, arith}
use Rattle.fb_report.specs.declared.line.Line.{Line}
use Rattle.fb_report.specs.declared.line.Line.TheVariants.{Header}
use Rattle.fb_functest.specs.PlanLines.{PlanLine, plan_lines}
use Rattle.fb_valid.specs.Lines.{is_end}
use Rattle.fb_valid.specs.Rules.{IsInPlace, OfPlan, HasOwner, OwnsSome}
use Rattle.fb_valid.specs.Valid.{OfEachLine, IsEnded}
use Rattle.fb_valid.specs.Verdict as verdict
use Rattle.fb_valid.specs.Verdict.{BreaksAtEnd, BreaksBelow, has_no_end, breaks_below, is_not_owned, owns_none, lacks_line}
use Rattle.fb_tally.specs.Decisions.{Decides}
use Rattle.fb_tally.specs.Firsts.{FirstBreakAt}
use Rattle.fb_tally.specs.Tallied.{Tallied, tally_of}
use Rattle.fb_tally.specs.declared.tally.Totals.{Totals}
use Rattle.fb_book.specs.Laws.{AnswersMissing}
use Rattle.fb_book.specs.declared.missing.Missing.{Missing}
use Rattle.fb_audit.specs.declared.below.Below.{Below}
use Rattle.fb_audit.specs.declared.taken.Taken.TheVariants.{Lines}
use Rattle.fb_audit.specs.Kept.{Basis, choices_of}
use Rattle.fb_audit.specs.Taken.{IsHeaded, IsTakenOf, KeepsEach}
use Rattle.fb_audit.specs.Concluded.{FirstIdleAt, IsConcluded}
use Rattle.fb_audit.proofs.Above.{in_place}

cut_ended : (version fuel : ℕ) (reduction : Bool) (above body : List Line) (last : Line) → Header version fuel reduction ∷ above ≡ body ++ last ∷ [] → is_end last ≡ true → IsEnded above
cut_ended version fuel reduction above [] last is ends =
    let first : Header version fuel reduction ≡ last = cc in
    let other = ap is_end first in
    absurd (cc)
cut_ended version fuel reduction above (line ∷ body) last is ends = record { body = body; last = last; cut = (let rest : above ≡ body ++ last ∷ [] = cc in rest); ends = ends }

cut_within : {A : Type 0} (lines above below : List A) (line : A) → lines ≡ above ++ line ∷ below → length above < length lines
cut_within lines above below line is = (let long = ap length is ∙ length-append above (line ∷ below) in omega (arith, long))

-- lines that are run and those that aren't are all of them
parted : (lines : List PlanLine) → length (filter (λ (line : PlanLine). line.run) lines) + length (filter (λ (line : PlanLine). not line.run) lines) ≡ length lines
parted [] = refl
parted (line ∷ lines) = by line.run refl (parted lines)
  where
    by : (b : Bool) → line.run ≡ b → length (filter (λ (other : PlanLine). other.run) lines) + length (filter (λ (other : PlanLine). not other.run) lines) ≡ length lines
        → length (filter (λ (other : PlanLine). other.run) (line ∷ lines)) + length (filter (λ (other : PlanLine). not other.run) (line ∷ lines)) ≡ length (line ∷ lines)
    by true is rest =
        let run : filter (λ (other : PlanLine). other.run) (line ∷ lines) ≡ line ∷ filter (λ (other : PlanLine). other.run) lines = rw is in
        let none : filter (λ (other : PlanLine). not other.run) (line ∷ lines) ≡ filter (λ (other : PlanLine). not other.run) lines = rw is in
        let one = ap length run in
        let other = ap length none in
        omega (arith, rest, one, other)
    by false is rest =
        let run : filter (λ (other : PlanLine). other.run) (line ∷ lines) ≡ filter (λ (other : PlanLine). other.run) lines = rw is in
        let none : filter (λ (other : PlanLine). not other.run) (line ∷ lines) ≡ line ∷ filter (λ (other : PlanLine). not other.run) lines = rw is in
        let one = ap length run in
        let other = ap length none in
        omega (arith, rest, one, other)

pruned_long : (lines : List PlanLine) → length (filter (λ (line : PlanLine). not line.run) lines) ≡ length lines - length (filter (λ (line : PlanLine). line.run) lines)
pruned_long lines = (let all = parted lines in omega (arith, all))

module _ (basis : Basis) (lines : List Line) (below : Below) (taken : IsTakenOf basis lines (Lines below)) where
  abbrev head : IsHeaded basis lines below
  head = taken.holds

  keep : OfEachLine (KeepsEach basis) (Header head.version head.fuel head.reduction ∷ head.above)
  keep = subst (λ ls. OfEachLine (KeepsEach basis) ls) head.cut taken.keep

  -- whether an end line is last
  pub ended_told : ((version : ℕ) (others : List Line) → OfEachLine (IsInPlace version) others → Decides (IsEnded others) (tally_of version others).ended) → Decides (IsEnded head.above) below.tally.ended
  ended_told law =
      subst (λ (t : Tallied). Decides (IsEnded head.above) t.ended) (sym head.is_below.counted.tally)
      (law head.version head.above (in_place basis.services basis.test (choices_of basis) head.version head.fuel head.reduction head.above keep))

  all_ended : IsEnded head.above → IsEnded lines
  all_ended ended = subst IsEnded (sym head.cut) (record {
    body = Header head.version head.fuel head.reduction ∷ ended.body;
    last = ended.last;
    cut = ap (λ ls. Header head.version head.fuel head.reduction ∷ ls) ended.cut;
    ends = ended.ends;
  })

  none_ended : ¬ (IsEnded head.above) → ¬ (IsEnded lines)
  none_ended none all = none (cut_ended head.version head.fuel head.reduction head.above all.body all.last (sym head.cut ∙ all.cut) all.ends)

  pub breaks_V1 : (at : ℕ) → at ≡ length below.lines.items → ¬ (IsEnded head.above) → BreaksAtEnd basis.services basis.test (choices_of basis) lines (at + 2) verdict.V1
  breaks_V1 at is none =
      let long = ap length head.cut in
      let count = head.is_below.counted.count in
      has_no_end (none_ended none) (omega (arith, is, long, count)) refl

  module _ (ended : IsEnded head.above) where
    breaks_at : (rule : verdict.Rule) (above : List Line) (line : Line) (at : ℕ) → length above ≡ at
        → BreaksBelow basis.services basis.test (choices_of basis) head.fuel head.reduction head.above above line rule
        → BreaksAtEnd basis.services basis.test (choices_of basis) lines (at + 2) rule
    breaks_at rule above line at is breaks =
        breaks_below (all_ended ended) head.version head.fuel head.reduction head.above above line head.cut breaks (omega (arith, is))

    pub breaks_V7 : (o : Option ℕ) (at : ℕ) → o ≡ Some at → FirstBreakAt (HasOwner head.above) head.above o → BreaksAtEnd basis.services basis.test (choices_of basis) lines (at + 2) verdict.V7
    breaks_V7 o at is first =
        let (above, line, cut, long) = subst (FirstBreakAt (HasOwner head.above) head.above) is first in
        breaks_at verdict.V7 above line at long (is_not_owned cut refl)

    module _ (owned : OfEachLine (HasOwner head.above) head.above) where
      pub breaks_V8 : (o : Option ℕ) (at : ℕ) → o ≡ Some at → FirstIdleAt below.reduction head.above o → BreaksAtEnd basis.services basis.test (choices_of basis) lines (at + 2) verdict.V8
      breaks_V8 o at is idle =
          let (on, first) = subst (FirstIdleAt below.reduction head.above) is idle in
          let (above, line, cut, long) = first in
          breaks_at verdict.V8 above line at long (owns_none owned (sym head.is_below.reduction_is ∙ on) cut refl)

      module _ (idle : FirstIdleAt below.reduction head.above None) where
        reduced : head.reduction ≡ true → OfEachLine (OfPlan (OwnsSome head.above)) head.above
        reduced on = idle (head.is_below.reduction_is ∙ on)

        pub breaks_V6 : (o : Option Missing) (missing : Missing) → o ≡ Some missing → AnswersMissing below.known.book (choices_of basis) o
            → BreaksAtEnd basis.services basis.test (choices_of basis) lines (missing.at + 2) (verdict.V6 missing.index missing.reply)
        breaks_V6 o missing is answers =
            let lacks = subst (AnswersMissing below.known.book (choices_of basis)) is answers in
            let (above, line, lack, long) = lacks basis.services basis.test head.fuel head.above head.is_below.known.plans in
            breaks_at (verdict.V6 missing.index missing.reply) above line missing.at long (lacks_line owned reduced (missing.index, missing.reply) lack refl)

        pub concludes : (o : Option Missing) → o ≡ None → AnswersMissing below.known.book (choices_of basis) o → (totals : Totals)
            → totals.plans ≡ below.tally.plans → totals.run ≡ below.tally.run → totals.pruned ≡ below.tally.plans - below.tally.run → totals.failed ≡ below.tally.failed
            → totals.records ≡ below.tally.records → IsConcluded basis.services basis.test (choices_of basis) lines totals
        concludes o is answers totals plans run pruned failed told =
            let complete = subst (AnswersMissing below.known.book (choices_of basis)) is answers in
            let tally = head.is_below.counted.tally in
            record {
              version = head.version;
              fuel = head.fuel;
              reduction = head.reduction;
              below = head.above;
              header = head.cut;
              ended = ended;
              owned = owned;
              reduced = reduced;
              complete = complete basis.services basis.test head.fuel head.above head.is_below.known.plans;
              totals_are = λ i. record {
                plans = (plans ∙ ap (λ (t : Tallied). t.plans) tally) i;
                run = (run ∙ ap (λ (t : Tallied). t.run) tally) i;
                pruned = (pruned ∙ ap (λ (t : Tallied). t.plans - t.run) tally ∙ sym (pruned_long (plan_lines head.above))) i;
                failed = (failed ∙ ap (λ (t : Tallied). t.failed) tally) i;
                records = (told ∙ ap (λ (t : Tallied). t.records) tally) i;
              };
            }

  -- the place of a missing extension's line is below the count of lines
  pub missing_within : (o : Option Missing) (missing : Missing) → o ≡ Some missing → AnswersMissing below.known.book (choices_of basis) o → missing.at < length below.lines.items
  missing_within o missing is answers =
      let lacks = subst (AnswersMissing below.known.book (choices_of basis)) is answers in
      let (above, line, lack, long) = lacks basis.services basis.test head.fuel head.above head.is_below.known.plans in
      let within = cut_within head.above above lack.first_line.below line lack.first_line.cut in
      let count = head.is_below.counted.count in
      omega (arith, within, long, count)
