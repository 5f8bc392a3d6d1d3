-- Forged reports break where they should.
use Rattle.std.proofs.Common.{◌≡◌, ℕ, Bool, true, Option, Some, None, List, [], ◌∷◌, map, slice_get, refl, sym, ap, subst, arith}
use Rattle.std.proofs.lemmas.Option.{same_Some}
use Rattle.fb_base.specs.declared.reply.Reply.{Reply}
use Rattle.fb_index.specs.Entry.{Occurrence}
use Rattle.fb_syntax.specs.Trees.{ServicesTree, TestTree}
use Rattle.fb_tree.specs.Records.{records_in}
use Rattle.fb_tree.specs.declared.outcome.Outcome.{Outcome}
use Rattle.fb_tree.specs.declared.recorded.Record.{Record}
use Rattle.fb_campaign.specs.Runs.{Choices}
use Rattle.fb_report.specs.declared.line.Line.{Line}
use Rattle.fb_report.specs.declared.line.Line.TheVariants.{Header, Inv, Plan, End}
use Rattle.fb_report.specs.Names.{record_named}
use Rattle.fb_report.specs.declared.named.NamedRecord.{NamedRecord}
use Rattle.fb_functest.specs.PlanLines.{PlanLine}
use Rattle.fb_functest.specs.Reading.{BeginsWith}
use Rattle.fb_valid.specs.Trees.{IsSpelled}
use Rattle.fb_valid.specs.Rules.{OfInv, OfPlan, IsInPlace, IsNewRecord, HasParent}
use Rattle.fb_valid.specs.Valid.{OfEachLine}
use Rattle.fb_valid.specs.Verdict.{V1, V2, V3, V4, V5, V7, ReadsTo, KeepsAll, is_cut, is_broken, has_no_end, on_next, at_end, BreaksFirst}
use Rattle.fb_valid.specs.Forged.{ForgedReportsBreak}
use Rattle.fb_valid.proofs.Lists.{in_none}
use Rattle.fb_valid.proofs.Searches.{no_line}
use Rattle.fb_valid.proofs.Unbroken.{not_ended}

module _ (services : ServicesTree) (test : TestTree) (choices : Choices) where
  none_kept : OfEachLine (KeepsAll services test choices) []
  none_kept = no_line (KeepsAll services test choices)

  header_kept : (version fuel : ℕ) (reduction : Bool) → OfEachLine (KeepsAll services test choices) (Header version fuel reduction ∷ [])
  header_kept version fuel reduction [] line below is =
      subst (KeepsAll services test choices []) (let first : Header version fuel reduction ≡ line = cc in first) (tt, (tt, (tt, (tt, (tt, (tt, tt))))))
  header_kept version fuel reduction (first ∷ []) line below is = absurd (cc)
  header_kept version fuel reduction (first ∷ second ∷ above) line below is = absurd (cc)

  -- a line that stands at the second place, where V1 is the first rule that it breaks
  second_breaks : (bytes rest next : List ℕ) (version fuel : ℕ) (reduction : Bool) (line : Line) → ReadsTo bytes (Header version fuel reduction ∷ []) rest → BeginsWith line rest next
      → ¬ (IsInPlace version [] line) → BreaksFirst services test choices bytes 2 V1
  second_breaks bytes rest next version fuel reduction line read begins misplaced = record {
    lines = Header version fuel reduction ∷ [];
    rest = rest;
    read = read;
    kept = header_kept version fuel reduction;
    breaks = on_next refl (is_broken line next begins (record { before = []; after = V2 ∷ V3 ∷ V4 ∷ V7 ∷ V5 ∷ []; cut = refl; hold = tt; fails = misplaced }));
  }

  root_fails : (version fuel : ℕ) (run : Bool) (parent : Option ℕ) (fault : Option (List Occurrence × Reply)) (uses : List ℕ) (outcome : Outcome)
      → ¬ ((parent ≡ None) × (fault ≡ None) × (run ≡ true)) → ¬ (OfPlan (HasParent services test choices fuel) [] (Plan version 0 parent fault run uses outcome))
  root_fails version fuel run parent fault uses outcome not_root rule =
      let line : PlanLine = record { parent = parent; fault = fault; run = run; uses = uses; outcome = outcome } in
      let root = (rule line refl).root refl in
      not_root (root.no_parent, root.no_fault, root.is_run)

  unknown_fails : (fuel owner : ℕ) (made : NamedRecord) → record_named services made ≡ None → ¬ (OfInv (IsNewRecord services fuel) [] (Inv 0 owner made))
  unknown_fails fuel owner made none rule = (let by_numbers = (rule made refl).by_numbers in absurd (cc))

  -- nothing stands at a place of no records
  no_items : (place : ℕ) (uses : List ℕ) (items : List Record) → ¬ (map (slice_get []) (place ∷ uses) ≡ map Some items)
  no_items place uses [] is = absurd (cc)
  no_items place uses (item ∷ items) is = absurd (cc)

  root_holds : (version fuel : ℕ) (uses : List ℕ) (outcome : Outcome) → OfPlan (HasParent services test choices fuel) [] (Plan version 0 None None true uses outcome)
  root_holds version fuel uses outcome tells is =
      let line : PlanLine = record { parent = None; fault = None; run = true; uses = uses; outcome = outcome } in
      let same : line ≡ tells = same_Some line tells is in
      record {
        root = λ none. record {
          no_parent = ap (λ (l : PlanLine). l.parent) (sym same);
          no_fault = ap (λ (l : PlanLine). l.fault) (sym same);
          is_run = ap (λ (l : PlanLine). l.run) (sym same);
        };
        child = λ some. absurd (omega (arith, some));
        is_new = λ plan has_plan has. (let there = has.1 in absurd (cc));
      }

  uses_fail : (version fuel place : ℕ) (uses : List ℕ) (outcome : Outcome) → ¬ (OfPlan (IsSpelled services test fuel) [] (Plan version 0 None None true (place ∷ uses) outcome))
  uses_fail version fuel place uses outcome rule =
      let tree = rule (record { parent = None; fault = None; run = true; uses = place ∷ uses; outcome = outcome }) refl in
      no_items place uses (records_in tree.run.calls) tree.spells.recorded

  pub forged_reports_break : ForgedReportsBreak services test choices
  forged_reports_break = record {
    empty = record { lines = []; rest = []; read = refl; kept = none_kept; breaks = at_end refl (has_no_end not_ended refl refl) };
    no_feed = λ bytes free long. record { lines = []; rest = bytes; read = refl; kept = none_kept; breaks = on_next refl (is_cut free long refl) };
    no_header = λ bytes rest line begins not_header. record {
      lines = [];
      rest = bytes;
      read = refl;
      kept = none_kept;
      breaks = on_next refl (is_broken line rest begins (record { before = []; after = V2 ∷ V3 ∷ V4 ∷ V7 ∷ V5 ∷ []; cut = refl; hold = tt; fails = not_header }));
    };
    two_headers = λ bytes rest next version other fuel fuel_too reduction reduction_too read begins.
        second_breaks bytes rest next version fuel reduction (Header other fuel_too reduction_too) read begins (λ placed. placed.numbered);
    no_plan = λ bytes rest next version fuel reduction cause plans run pruned failed invs stopped read begins.
        second_breaks bytes rest next version fuel reduction (End cause plans run pruned failed invs stopped) read begins
        (λ placed. (let some = placed.numbered.0 in absurd (omega (arith, some))));
    other_version = λ bytes rest next version other fuel id reduction run parent fault uses outcome read begins differs.
        second_breaks bytes rest next version fuel reduction (Plan other id parent fault run uses outcome) read begins (λ placed. differs placed.numbered.0);
    no_root = λ bytes rest next version fuel reduction run parent fault uses outcome read begins not_root. record {
      lines = Header version fuel reduction ∷ [];
      rest = rest;
      read = read;
      kept = header_kept version fuel reduction;
      breaks = on_next refl (is_broken (Plan version 0 parent fault run uses outcome) next begins (record {
        before = V1 ∷ V2 ∷ [];
        after = V4 ∷ V7 ∷ V5 ∷ [];
        cut = refl;
        hold = (record { not_behind_end = λ other has. in_none other has; numbered = (refl, refl) }, (λ made is_made. absurd (cc), tt));
        fails = root_fails version fuel run parent fault uses outcome not_root;
      }));
    };
    unknown_method = λ bytes rest next version fuel owner reduction made read begins none. record {
      lines = Header version fuel reduction ∷ [];
      rest = rest;
      read = read;
      kept = header_kept version fuel reduction;
      breaks = on_next refl (is_broken (Inv 0 owner made) next begins (record {
        before = V1 ∷ [];
        after = V3 ∷ V4 ∷ V7 ∷ V5 ∷ [];
        cut = refl;
        hold = (record { not_behind_end = λ other has. in_none other has; numbered = refl }, tt);
        fails = unknown_fails fuel owner made none;
      }));
    };
    no_record = λ bytes rest next version fuel place reduction uses outcome read begins. record {
      lines = Header version fuel reduction ∷ [];
      rest = rest;
      read = read;
      kept = header_kept version fuel reduction;
      breaks = on_next refl (is_broken (Plan version 0 None None true (place ∷ uses) outcome) next begins (record {
        before = V1 ∷ V2 ∷ V3 ∷ [];
        after = V7 ∷ V5 ∷ [];
        cut = refl;
        hold = (
          record { not_behind_end = λ other has. in_none other has; numbered = (refl, refl) },
          (λ made is_made. absurd (cc), (root_holds version fuel (place ∷ uses) outcome, tt)),
        );
        fails = uses_fail version fuel place uses outcome;
      }));
    };
  }
