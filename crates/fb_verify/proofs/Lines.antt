-- What is known once the next bytes have ended a line.
use Rattle.std.proofs.Common.{◌≡◌, ℕ, ◌+◌, ◌≤◌, List, [], ◌∷◌, ◌++◌, length, refl, sym, ap, ◌∙◌, subst, append_assoc, arith, length-append}
use Rattle.std.proofs.lemmas.List.{append-nil}
use Rattle.std.specs.Prelude.{Some, None, Result, Ok, Err, OnOk}
use Rattle.fb_index.specs.Pieces.{IsFree}
use Rattle.fb_syntax.specs.Trees.{ServicesTree, TestTree}
use Rattle.fb_campaign.specs.Runs.{Choices}
use Rattle.fb_report.specs.declared.line.Line.{Line}
use Rattle.fb_report.specs.Lines.{line_feed}
use Rattle.fb_reading.specs.Answers.{IsAnswer}
use Rattle.fb_reading.specs.declared.key.LineError.{LineError}
use Rattle.fb_valid.specs.Verdict.{ReadsTo, BreaksFirst, is_unread, is_broken, on_next}
use Rattle.fb_audit.specs.Taken.{Audited}
use Rattle.fb_audit.specs.declared.verdict.Rule.{Rule}
use Rattle.fb_audit.specs.Rules.{rule_told}
use Rattle.fb_audit.specs.Standing.{StandsFor as HasTaken}
use Rattle.fb_verify.specs.declared.reading.Reading.{Reading}
use Rattle.fb_verify.specs.Reading.{HasRead}
use Rattle.fb_verify.specs.Taking.{invs_in, ended, IsJudged, IsTaken}
use Rattle.fb_verify.specs.Ticks.{IsTickedBy}
use Rattle.fb_verify.proofs.ReadOn.{free-append, reads_more, with_feed, begins_here, reads_line}

pub not_ticked : (bytes : List ℕ) (lines : List Line) (rest more : List ℕ) (before after : ℕ) → ReadsTo bytes lines rest → after ≤ before
    → IsTickedBy (bytes ++ more) lines before after
not_ticked bytes lines rest more before after read few = record {
  further = [];
  rest = rest ++ more;
  read = subst (λ ls. ReadsTo (bytes ++ more) ls (rest ++ more)) (sym (append-nil lines)) (reads_more bytes lines rest more read);
  few = omega arith;
}

module _ (bytes : List ℕ) (lines : List Line) (tail text : List ℕ) (reads : ReadsTo bytes lines tail) (free : IsFree line_feed tail) (free_too : IsFree line_feed text) where
  pub ticked : (read : Result Line LineError) (before after : ℕ) → IsAnswer (tail ++ text) read → after ≤ before + invs_in read
      → IsTickedBy (bytes ++ ended text) lines before after
  ticked (Ok line) before after answer few =
      record { further = line ∷ []; rest = []; read = reads_line bytes lines tail text line reads free free_too answer; few = few }
  ticked (Err why) before after answer few = not_ticked bytes lines tail (ended text) before after reads (omega arith)

  module _ (services : ServicesTree) (test : TestTree) (choices : Choices) where
    pub taken : (read : Result Line LineError) (reading : Reading) (before after : ℕ) → IsAnswer (tail ++ text) read → after ≤ before + invs_in read
        → IsJudged services test choices lines read None reading.audit → OnOk read (reading.tail.items ≡ []) → reading.count ≡ length lines + 1
        → IsTaken services test choices (bytes ++ ended text) lines None reading before after
    taken (Ok line) reading before after answer few judged none count =
        let empty = sym none in (
          line,
          record {
            read = subst (ReadsTo (bytes ++ ended text) (lines ++ line ∷ [])) empty (reads_line bytes lines tail text line reads free free_too answer);
            free = subst (IsFree line_feed) empty tt;
            counted = count ∙ sym (length-append lines (line ∷ []));
            taken = judged.1;
          },
          few,
        )
    taken (Err why) reading before after answer few judged none count = absurd judged

    ahead : (more : List ℕ) → ReadsTo ((bytes ++ ended text) ++ more) lines (tail ++ (ended text ++ more))
    ahead more = subst (λ b. ReadsTo b lines (tail ++ (ended text ++ more))) (sym (append_assoc bytes (ended text) more)) (reads_more bytes lines tail (ended text ++ more) reads)

    pub broken : (audit : Audited) → HasTaken services test choices lines audit → (read : Result Line LineError) (rule : Rule) (after : Audited) (place : ℕ) → IsAnswer (tail ++ text) read
        → IsJudged services test choices lines read (Some rule) after → place ≡ 1 + length lines
        → (more : List ℕ) → BreaksFirst services test choices ((bytes ++ ended text) ++ more) place (rule_told rule)
    broken audit has (Ok line) rule after place answer judged at more = record {
      lines = lines;
      rest = tail ++ (ended text ++ more);
      read = ahead more;
      kept = has.kept;
      breaks = on_next at (is_broken line more (begins_here tail text more line free free_too answer) judged);
    }
    broken audit has (Err why) rule after place answer judged at more = record {
      lines = lines;
      rest = tail ++ (ended text ++ more);
      read = ahead more;
      kept = has.kept;
      breaks = on_next at (is_unread (tail ++ text) more why (free-append line_feed tail text free free_too) (with_feed tail text more) answer judged);
    }
