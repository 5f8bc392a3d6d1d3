-- What is known of a piece up to some line feed in it.
use Rattle.std.proofs.Common.{◌≡◌, ℕ, ◌+◌, ◌≤◌, List, [], ◌∷◌, ◌++◌, length, refl, sym, ap, ◌∙◌, subst, append_assoc, arith, drop, length-append}
use Rattle.std.proofs.lemmas.List.{append-nil}
use Rattle.std.proofs.Math.Seq.{drop-append_seam}
use Rattle.std.specs.Prelude.{Option, Some, None}
use Rattle.std.specs.List.{cons_option}
use Rattle.fb_index.specs.Pieces.{IsFree}
use Rattle.fb_syntax.specs.Trees.{ServicesTree, TestTree}
use Rattle.fb_campaign.specs.Runs.{Choices}
use Rattle.fb_report.specs.declared.line.Line.{Line}
use Rattle.fb_report.specs.Lines.{line_feed}
use Rattle.fb_valid.specs.Lines.{owner_in, owners_told}
use Rattle.fb_valid.specs.Verdict.{ReadsTo, BreaksFirst}
use Rattle.fb_audit.specs.declared.verdict.Break.{Break}
use Rattle.fb_audit.specs.Rules.{rule_told}
use Rattle.fb_audit.specs.Standing.{StandsFor as HasTaken}
use Rattle.fb_verify.specs.declared.reading.Reading.{Reading}
use Rattle.fb_verify.specs.Reading.{HasRead, IsBrokenBy}
use Rattle.fb_verify.specs.Taking.{ended, IsTaken}
use Rattle.fb_verify.specs.Ticks.{IsTickedBy}
use Rattle.fb_verify.proofs.ReadOn.{reads_more, free-append}
use Rattle.fb_verify.proofs.Lines.{not_ticked}

-- further lines are read of the bytes behind these ones, with at most one step for each inv line among them
pub record HasWalked (services : ServicesTree) (test : TestTree) (choices : Choices) (bytes : List ℕ) (lines : List Line) (reading : Reading) (before after : ℕ) : Type 0 where
  pub further : List Line
  pub has : HasRead services test choices bytes (lines ++ further) reading
  pub few : after ≤ before + length (owners_told further)

-- so much of the piece is taken, and this is left
pub record IsWalk (start reading : Reading) (piece left : List ℕ) (offset before after : ℕ) : Type 0 where
  pub done : List ℕ
  pub cut : piece ≡ done ++ left
  pub offset_is : offset ≡ length done
  pub walked : (services : ServicesTree) (test : TestTree) (choices : Choices) (bytes : List ℕ) (lines : List Line) → HasRead services test choices bytes lines start
      → HasWalked services test choices (bytes ++ done) lines reading before after

-- ---- counts of inv lines

one_more : (owner : Option ℕ) (all a b : List ℕ) → length all ≡ length a + length b → length (cons_option owner all) ≡ length (cons_option owner a) + length b
one_more None all a b is = is
one_more (Some owner) all a b is = omega (arith, is)

owners-append : (a b : List Line) → length (owners_told (a ++ b)) ≡ length (owners_told a) + length (owners_told b)
owners-append [] b = omega arith
owners-append (line ∷ a) b = one_more (owner_in line) (owners_told (a ++ b)) (owners_told a) (owners_told b) (owners-append a b)

-- ---- from one line feed to the next

pub starts : (reading : Reading) (piece left : List ℕ) (offset evals : ℕ) → left ≡ piece → offset ≡ 0 → IsWalk reading reading piece left offset evals evals
starts reading piece left offset evals is at = record {
  done = [];
  cut = sym is;
  offset_is = at;
  walked = λ services test choices bytes lines has. record {
    further = [];
    has = subst (λ b. HasRead services test choices b (lines ++ []) reading) (sym (append-nil bytes))
        (subst (λ ls. HasRead services test choices bytes ls reading) (sym (append-nil lines)) has);
    few = omega arith;
  };
}

cut_on : (piece done left text next : List ℕ) → piece ≡ done ++ left → left ≡ text ++ line_feed ∷ next → piece ≡ (done ++ ended text) ++ next
cut_on piece done left text next cut is =
    cut ∙ ap (λ l. done ++ l) (is ∙ sym (append_assoc text (line_feed ∷ []) next)) ∙ sym (append_assoc done (ended text) next)

module _ (start reading : Reading) (piece left : List ℕ) (offset before after : ℕ) (walk : IsWalk start reading piece left offset before after) where
  module _ (text next : List ℕ) (is : left ≡ text ++ line_feed ∷ next) (free : IsFree line_feed text) where
    pub goes_on : (later : Reading) (at evals : ℕ) → at ≡ offset + length text + 1
        → ((services : ServicesTree) (test : TestTree) (choices : Choices) (bytes : List ℕ) (lines : List Line) → HasRead services test choices bytes lines reading
        → IsFree line_feed text → IsTaken services test choices (bytes ++ ended text) lines None later after evals)
        → IsWalk start later piece next at before evals
    goes_on later at evals at_is takes = record {
      done = walk.done ++ ended text;
      cut = cut_on piece walk.done left text next walk.cut is;
      offset_is = omega (arith, walk.offset_is, length-append walk.done (ended text), length-append text (line_feed ∷ []));
      walked = λ services test choices bytes lines has.
          let walked = walk.walked services test choices bytes lines has in
          let taken = takes services test choices (bytes ++ walk.done) (lines ++ walked.further) walked.has free in
          record {
            further = walked.further ++ taken.0 ∷ [];
            has = subst (λ b. HasRead services test choices b (lines ++ (walked.further ++ taken.0 ∷ [])) later) (append_assoc bytes walk.done (ended text))
                (subst (λ ls. HasRead services test choices ((bytes ++ walk.done) ++ ended text) ls later) (append_assoc lines walked.further (taken.0 ∷ [])) taken.1);
            few = omega (arith, walked.few, taken.2, owners-append walked.further (taken.0 ∷ []));
          };
    }

    whole : (bytes : List ℕ) → ((bytes ++ walk.done) ++ ended text) ++ next ≡ bytes ++ piece
    whole bytes =
        append_assoc (bytes ++ walk.done) (ended text) next ∙ append_assoc bytes walk.done (ended text ++ next)
        ∙ ap (λ p. bytes ++ p) (sym (append_assoc walk.done (ended text) next) ∙ sym (cut_on piece walk.done left text next walk.cut is))

    pub ticks_on : (evals : ℕ)
        → ((services : ServicesTree) (test : TestTree) (choices : Choices) (bytes : List ℕ) (lines : List Line) → HasRead services test choices bytes lines reading
        → IsFree line_feed text → IsTickedBy (bytes ++ ended text) lines after evals)
        → (services : ServicesTree) (test : TestTree) (choices : Choices) (bytes : List ℕ) (lines : List Line) → HasRead services test choices bytes lines start
        → IsTickedBy (bytes ++ piece) lines before evals
    ticks_on evals ticks services test choices bytes lines has =
        let walked = walk.walked services test choices bytes lines has in
        let ticked = ticks services test choices (bytes ++ walk.done) (lines ++ walked.further) walked.has free in
        record {
          further = walked.further ++ ticked.further;
          rest = ticked.rest ++ next;
          read = subst (λ b. ReadsTo b (lines ++ (walked.further ++ ticked.further)) (ticked.rest ++ next)) (whole bytes)
              (subst (λ ls. ReadsTo (((bytes ++ walk.done) ++ ended text) ++ next) ls (ticked.rest ++ next)) (append_assoc lines walked.further ticked.further)
              (reads_more ((bytes ++ walk.done) ++ ended text) ((lines ++ walked.further) ++ ticked.further) ticked.rest next ticked.read));
          few = omega (arith, walked.few, ticked.few, owners-append walked.further ticked.further);
        }

    pub breaks_here : (found : Break)
        → ((services : ServicesTree) (test : TestTree) (choices : Choices) (bytes : List ℕ) (lines : List Line) → HasRead services test choices bytes lines reading
        → IsFree line_feed text → IsBrokenBy services test choices (bytes ++ ended text) found)
        → (services : ServicesTree) (test : TestTree) (choices : Choices) (bytes : List ℕ) (lines : List Line) → HasRead services test choices bytes lines start
        → IsBrokenBy services test choices (bytes ++ piece) found
    breaks_here found breaks services test choices bytes lines has more =
        let walked = walk.walked services test choices bytes lines has in
        subst (λ b. BreaksFirst services test choices b found.line (rule_told found.rule))
        (sym (append_assoc ((bytes ++ walk.done) ++ ended text) next more) ∙ ap (λ b. b ++ more) (whole bytes))
        (breaks services test choices (bytes ++ walk.done) (lines ++ walked.further) walked.has free (next ++ more))

  -- ---- behind the last line feed

  all_of : (bytes : List ℕ) → (bytes ++ walk.done) ++ left ≡ bytes ++ piece
  all_of bytes = append_assoc bytes walk.done left ∙ ap (λ p. bytes ++ p) (sym walk.cut)

  pub ticks_so_far : (services : ServicesTree) (test : TestTree) (choices : Choices) (bytes : List ℕ) (lines : List Line) → HasRead services test choices bytes lines start
      → IsTickedBy (bytes ++ piece) lines before after
  ticks_so_far services test choices bytes lines has =
      let walked = walk.walked services test choices bytes lines has in
      record {
        further = walked.further;
        rest = reading.tail.items ++ left;
        read = subst (λ b. ReadsTo b (lines ++ walked.further) (reading.tail.items ++ left)) (all_of bytes)
            (reads_more (bytes ++ walk.done) (lines ++ walked.further) reading.tail.items left walked.has.read);
        few = walked.few;
      }

  pub keeps_rest : (later : Reading) → IsFree line_feed left → later.audit ≡ reading.audit → later.count ≡ reading.count
      → later.tail.items ≡ reading.tail.items ++ left
      → (services : ServicesTree) (test : TestTree) (choices : Choices) (bytes : List ℕ) (lines : List Line) → HasRead services test choices bytes lines start
      → (all : List Line) × HasRead services test choices (bytes ++ piece) all later
  keeps_rest later free audit_is count_is tail_is services test choices bytes lines has =
      let walked = walk.walked services test choices bytes lines has in (
        lines ++ walked.further,
        record {
          read = subst (λ t. ReadsTo (bytes ++ piece) (lines ++ walked.further) t) (sym tail_is)
              (subst (λ b. ReadsTo b (lines ++ walked.further) (reading.tail.items ++ left)) (all_of bytes)
              (reads_more (bytes ++ walk.done) (lines ++ walked.further) reading.tail.items left walked.has.read));
          free = subst (IsFree line_feed) (sym tail_is) (free-append line_feed reading.tail.items left walked.has.free free);
          counted = count_is ∙ walked.has.counted;
          taken = subst (HasTaken services test choices (lines ++ walked.further)) (sym audit_is) walked.has.taken;
        },
      )

  pub starts_within : offset ≤ length piece
  starts_within = omega (arith, walk.offset_is, ap length walk.cut, length-append walk.done left)

  pub left_behind : drop offset piece ≡ left
  left_behind = ap (λ at. drop at piece) walk.offset_is ∙ ap (drop (length walk.done)) walk.cut ∙ drop-append_seam walk.done left
