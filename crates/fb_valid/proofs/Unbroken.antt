-- A report each of whose lines is read, and none breaks a rule first, can't but be valid.
use Rattle.std.proofs.Common.{◌≡◌, ⊎_elim, ℕ, ◌+◌, Bool, true, false, Option, Some, None, List, [], ◌∷◌, ◌++◌, length, refl, sym, ap, ◌∙◌, subst}
use Rattle.std.proofs.lemmas.Bool.{cases_Bool}
use Rattle.std.proofs.lemmas.Option.{same_Some}
use Rattle.fb_syntax.specs.Trees.{ServicesTree, TestTree}
use Rattle.fb_tree.specs.Calls.{visits_of}
use Rattle.fb_campaign.specs.Plans.{extensions_of}
use Rattle.fb_campaign.specs.Runs.{Choices}
use Rattle.fb_meaning.specs.Each.{HoldsOfEach}
use Rattle.fb_meaning.specs.Spelling.{OneIsSpelled}
use Rattle.fb_report.specs.declared.line.Line.{Line}
use Rattle.fb_report.specs.declared.line.Line.TheVariants.{Header, Inv, Plan, End}
use Rattle.fb_functest.specs.PlanLines.{PlanLine, plan_line_in}
use Rattle.fb_functest.specs.Reading.{BeginsWith, IsReadAs}
use Rattle.fb_valid.specs.Lines.{is_end}
use Rattle.fb_valid.specs.Trees.{IsSpelled, HasLine}
use Rattle.fb_valid.specs.Rules.{OfPlan, IsExtended, HasOwner, OwnsSome}
use Rattle.fb_valid.specs.Valid.{OfEachLine, IsEnded, IsValid}
use Rattle.fb_valid.specs.Laws.{UnbrokenIsValid}
use Rattle.fb_valid.specs.Verdict.{Rule, V1, V6, V7, V8, line_rules, IsFirstNot, IsFirstLine, ReadsTo, Keeps, KeepsAll, is_broken, BreaksBelow, is_not_owned, owns_none, lacks_line, has_no_end, breaks_below, on_next, at_end, BreaksFirst}
use Rattle.fb_valid.proofs.Cuts.{reads_all}
use Rattle.fb_valid.proofs.Lists.{in_same, in_middle}
use Rattle.fb_valid.proofs.PlanRules.{one_more}
use Rattle.fb_valid.proofs.Searches.{Surely, surely, then_surely, either_way, each_or_first, each_line_or_first}
use Rattle.fb_valid.proofs.Told.{each_at, same_tree}
use Rattle.fb_valid.proofs.TrueAbove.{each_true}

-- what is left where the first lines are read
pub record IsReadUpTo (bytes : List ℕ) (above : List Line) (line : Line) : Type 0 where
  pub rest : List ℕ
  pub next : List ℕ
  pub read : ReadsTo bytes above rest
  pub begins : BeginsWith line rest next

read_up_to : (bytes : List ℕ) (above : List Line) (line : Line) (below : List Line) → IsReadAs bytes (above ++ line ∷ below) → IsReadUpTo bytes above line
read_up_to bytes [] line below read = record { rest = bytes; next = read.0; read = refl; begins = read.1 }
read_up_to bytes (first ∷ above) line below read =
    let later = read_up_to read.0 above line below read.2 in
    record { rest = later.rest; next = later.next; read = (read.0, read.1, later.read); begins = later.begins }

pub not_ended : ¬ (IsEnded [])
not_ended ended = by ended.body ended.cut
  where
    by : (body : List Line) → [] ≡ body ++ ended.last ∷ [] → ⊥
    by [] cut = absurd (cc)
    by (first ∷ body) cut = absurd (cc)

-- the end of lines below another one
ended_below : (version fuel : ℕ) (reduction : Bool) (lines : List Line) → IsEnded (Header version fuel reduction ∷ lines) → IsEnded lines
ended_below version fuel reduction lines ended = by ended.body ended.last ended.cut ended.ends
  where
    by : (body : List Line) (last : Line) → Header version fuel reduction ∷ lines ≡ body ++ last ∷ [] → is_end last ≡ true → IsEnded lines
    by [] last cut ends =
        let same : Header version fuel reduction ≡ last = cc in
        let no_end : is_end last ≡ false = sym (ap is_end same) in
        absurd (cc)
    by (first ∷ body) last cut ends = record { body = body; last = last; cut = (let rest : lines ≡ body ++ last ∷ [] = cc in rest); ends = ends }

module _ (one : OneIsSpelled) (services : ServicesTree) (test : TestTree) (choices : Choices) (bytes : List ℕ)
    (none : (place : ℕ) (rule : Rule) → ¬ (BreaksFirst services test choices bytes place rule)) where
  -- ---- lines keep the rules on lines

  keep_lines : (lines : List Line) → IsReadAs bytes lines → Surely (OfEachLine (KeepsAll services test choices) lines)
  keep_lines lines read = then_surely (each_line_or_first (KeepsAll services test choices) lines) (λ found. ⊎_elim (λ each. surely each) (λ first. broken first.0 first.1 first.2) found)
    where
      broken : (above : List Line) (line : Line) → IsFirstLine (KeepsAll services test choices) lines above line → Surely (OfEachLine (KeepsAll services test choices) lines)
      broken above line first =
          let up = read_up_to bytes above line first.below (subst (IsReadAs bytes) first.cut read) in
          then_surely (each_or_first (Keeps services test choices above line) line_rules)
          (λ found. ⊎_elim (λ each. absurd (first.broken each))
          (λ rule. absurd (none (1 + length above) rule.0 (record {
            lines = above;
            rest = up.rest;
            read = up.read;
            kept = first.kept;
            breaks = on_next refl (is_broken line up.next up.begins rule.1);
          }))) found)

  -- ---- and those on all lines

  module _ (version fuel : ℕ) (reduction : Bool) (lines : List Line) (read : IsReadAs bytes (Header version fuel reduction ∷ lines))
      (kept : OfEachLine (KeepsAll services test choices) (Header version fuel reduction ∷ lines)) where
    keeps : (above : List Line) (line : Line) (below : List Line) → lines ≡ above ++ line ∷ below → KeepsAll services test choices (Header version fuel reduction ∷ above) line
    keeps above line below is = kept (Header version fuel reduction ∷ above) line below (ap (λ ls. Header version fuel reduction ∷ ls) is)

    ends : Surely (IsEnded (Header version fuel reduction ∷ lines))
    ends = then_surely (either_way (IsEnded (Header version fuel reduction ∷ lines))) (λ found. ⊎_elim (λ ended. surely ended) (λ not_so. absurd (none _ V1 (record {
      lines = Header version fuel reduction ∷ lines;
      rest = [];
      read = reads_all bytes (Header version fuel reduction ∷ lines) read;
      kept = kept;
      breaks = at_end refl (has_no_end not_so refl refl);
    }))) found)

    module _ (ended : IsEnded (Header version fuel reduction ∷ lines)) where
      not_below : (above : List Line) (line : Line) (rule : Rule) → ¬ (BreaksBelow services test choices fuel reduction lines above line rule)
      not_below above line rule breaks = none (2 + length above) rule (record {
        lines = Header version fuel reduction ∷ lines;
        rest = [];
        read = reads_all bytes (Header version fuel reduction ∷ lines) read;
        kept = kept;
        breaks = at_end refl (breaks_below ended version fuel reduction lines above line refl breaks refl);
      })

      owned : Surely (OfEachLine (HasOwner lines) lines)
      owned =
          then_surely (each_line_or_first (HasOwner lines) lines)
          (λ found. ⊎_elim (λ each. surely each) (λ first. absurd (not_below first.0 first.1 V7 (is_not_owned first.2 refl))) found)

      module _ (owners : OfEachLine (HasOwner lines) lines) where
        own : Surely (reduction ≡ true → OfEachLine (OfPlan (OwnsSome lines)) lines)
        own =
            ⊎_elim
            (λ on. then_surely (each_line_or_first (OfPlan (OwnsSome lines)) lines)
            (λ found. ⊎_elim (λ each. surely (λ again. each)) (λ first. absurd (not_below first.0 first.1 V8 (owns_none owners on first.2 refl))) found))
            (λ off. surely (λ on. absurd (cc)))
            (cases_Bool reduction)

        module _ (owns : reduction ≡ true → OfEachLine (OfPlan (OwnsSome lines)) lines) where
          -- a plan line with its tree
          extended : (above : List Line) (line : Line) (below : List Line) (tells : PlanLine) → lines ≡ above ++ line ∷ below → plan_line_in line ≡ Some tells
              → (tree : IsSpelled services test fuel above tells) → HoldsOfEach (HasLine lines) (extensions_of choices (visits_of tree.run) tree.plan)
              → OfPlan (IsExtended services test choices fuel lines) above line
          extended above line below tells cut is_plan tree each other is_other other_tree longer extends =
              let all_true = each_true services fuel lines above (line ∷ below) (λ up here rest is. (keeps up here rest is).1.0) cut in
              let same = same_tree services test version fuel one above other tells (same_Some other tells (sym is_other ∙ is_plan)) all_true other_tree tree in
              each_at (HasLine lines) (extensions_of choices (visits_of tree.run) tree.plan) each longer
              (in_same longer _ _ (λ i. extensions_of choices (visits_of (same.1 i)) (same.0 i)) extends)

          lacking : (above : List Line) (line : Line) → IsFirstLine (OfPlan (IsExtended services test choices fuel lines)) lines above line
              → (o : Option PlanLine) → plan_line_in line ≡ o → Surely (OfEachLine (OfPlan (IsExtended services test choices fuel lines)) lines)
          lacking above line first None no_plan = absurd (first.broken (λ tells is_plan. absurd (cc)))
          lacking above line first (Some tells) is_plan =
              let tree = (keeps above line first.below first.cut).1.1.1.0 tells is_plan in
              then_surely (each_or_first (HasLine lines) (extensions_of choices (visits_of tree.run) tree.plan))
              (λ found. ⊎_elim
              (λ each. absurd (first.broken (extended above line first.below tells first.cut is_plan tree each)))
              (λ longer. (
              let fault = one_more choices (visits_of tree.run) tree.plan longer.0 (in_same longer.0 _ _ (sym longer.1.cut) (in_middle longer.1.before longer.1.after longer.0)) in
              absurd (not_below above line (V6 fault.0.0 fault.0.1) (lacks_line owners owns fault.0 (record {
                first_line = first;
                tells = tells;
                is_plan = is_plan;
                tree = tree;
                first = subst (IsFirstNot (HasLine lines) (extensions_of choices (visits_of tree.run) tree.plan)) fault.1 longer.1;
              }) refl)))) found)

          complete : Surely (OfEachLine (OfPlan (IsExtended services test choices fuel lines)) lines)
          complete =
              then_surely (each_line_or_first (OfPlan (IsExtended services test choices fuel lines)) lines)
              (λ found. ⊎_elim (λ each. surely each) (λ first. lacking first.0 first.1 first.2 (plan_line_in first.1) refl) found)

          all_kept : OfEachLine (OfPlan (IsExtended services test choices fuel lines)) lines → IsValid services test choices bytes
          all_kept each = record {
            version = version;
            fuel = fuel;
            reduction = reduction;
            lines = lines;
            read = read;
            structure = record { in_place = λ above line below is. (keeps above line below is).0; ended = ended_below version fuel reduction lines ended };
            records = λ above line below is. (keeps above line below is).1.0;
            parents = λ above line below is. (keeps above line below is).1.1.0;
            trees = λ above line below is. (keeps above line below is).1.1.1.0;
            outcomes = λ above line below is. (keeps above line below is).1.1.1.1.1.0;
            complete = each;
            owners = record { owned = owners; earlier = λ above line below is. (keeps above line below is).1.1.1.1.0 };
            reduced = owns;
          }

    is_valid : Surely (IsValid services test choices bytes)
    is_valid =
        then_surely ends
        (λ ended. then_surely (owned ended)
        (λ owners. then_surely (own ended owners)
        (λ owns. then_surely (complete ended owners owns) (λ each. surely (all_kept ended owners owns each)))))

  by_lines : (lines : List Line) → IsReadAs bytes lines → OfEachLine (KeepsAll services test choices) lines → Surely (IsValid services test choices bytes)
  by_lines [] read kept =
      absurd (none 1 V1 (record { lines = []; rest = []; read = read; kept = kept; breaks = at_end refl (has_no_end not_ended refl refl) }))
  by_lines (Header version fuel reduction ∷ lines) read kept = is_valid version fuel reduction lines read kept
  by_lines (Inv id owner made ∷ lines) read kept = absurd (kept [] (Inv id owner made) lines refl).0
  by_lines (Plan version id parent fault run uses outcome ∷ lines) read kept = absurd (kept [] (Plan version id parent fault run uses outcome) lines refl).0
  by_lines (End cause plans run pruned failed invs stopped ∷ lines) read kept = absurd (kept [] (End cause plans run pruned failed invs stopped) lines refl).0

pub unbroken_is_valid : OneIsSpelled → UnbrokenIsValid
unbroken_is_valid one services test choices bytes lines read none =
    then_surely (keep_lines one services test choices bytes none lines read) (by_lines one services test choices bytes none lines read)
