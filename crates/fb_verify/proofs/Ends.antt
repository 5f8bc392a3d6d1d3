-- What is found once no more bytes follow, and what is known of a checker that was fed.
use Rattle.std.proofs.Common.{◌≡◌, ◌==◌, inl, inr, ℕ, Bool, true, List, [], ◌∷◌, ◌++◌, length, Result, Ok, refl, sym, ap, ◌∙◌, subst, arith}
use Rattle.std.specs.Prelude.{IfOk}
use Rattle.fb_syntax.specs.Trees.{ServicesTree, TestTree}
use Rattle.fb_campaign.specs.Runs.{Choices}
use Rattle.fb_report.specs.declared.line.Line.{Line}
use Rattle.fb_valid.specs.Valid.{IsValid}
use Rattle.fb_valid.specs.Verdict.{ReadsTo, BreaksFirst, at_end}
use Rattle.fb_audit.specs.declared.verdict.Conclusion.{Conclusion}
use Rattle.fb_audit.specs.declared.verdict.Conclusion.TheVariants.{Valid, Broken}
use Rattle.fb_tally.specs.declared.tally.Totals.{Totals}
use Rattle.fb_audit.specs.declared.verdict.Break.{Break}
use Rattle.fb_audit.specs.Rules.{rule_told}
use Rattle.fb_audit.specs.Concluded.{IsConcluded, Concludes, totals_of}
use Rattle.fb_audit.specs.Laws.{ConcludedLinesAreValid}
use Rattle.fb_verify.specs.declared.reading.Reading.{Reading}
use Rattle.fb_verify.specs.Reading.{HasRead, IsUnbroken}
use Rattle.fb_report.specs.Lines.{line_feed}
use Rattle.fb_verify.specs.Ticks.{IsTickedBy, IsTickedInPiece}
use Rattle.fb_verify.proofs.Lines.{not_ticked}
use Rattle.fb_verify.proofs.ReadOn.{reads_whole}

pub given : {T E : Type 0} (result : Result T E) (item : T) (P : T → Type 0) → result ≡ Ok item → IfOk result P → P item
given result item P is holds = subst (λ r. IfOk r P) is holds

pub empty-items : (items : List ℕ) → true ≡ (length items == 0) → items ≡ []
empty-items [] is = refl
empty-items (x ∷ items) is = absurd (grind (arith, is))

-- ---- the steps of all bytes

none-read : (lines : List Line) (rest : List ℕ) → ReadsTo [] lines rest → lines ≡ []
none-read [] rest read = refl
none-read (line ∷ lines) rest read = absurd (never-begins read.1.text read.0 read.1.cut)
  where
    never-begins : (text next : List ℕ) → [] ≡ text ++ line_feed ∷ next → ⊥
    never-begins [] next is = cc
    never-begins (x ∷ text) next is = cc

pub ticked-whole : (report : List ℕ) (before after : ℕ) → IsTickedInPiece [] report before after → IsTickedBy report [] before after
ticked-whole report before after (inl same) = not_ticked [] [] [] report before after refl (omega (arith, same))
ticked-whole report before after (inr ticked) = subst (λ lines. IsTickedBy report lines before after) (none-read ticked.0 ticked.1 ticked.2) ticked.4

module _ (services : ServicesTree) (test : TestTree) (choices : Choices) (bytes : List ℕ) (lines : List Line) (reading : Reading) (has : HasRead services test choices bytes lines reading) where
  all-read : reading.tail.items ≡ [] → ReadsTo bytes lines []
  all-read none = subst (ReadsTo bytes lines) none has.read

  pub valid : ConcludedLinesAreValid → reading.tail.items ≡ [] → (totals : Totals) → IsConcluded services test choices lines totals
      → (found : IsValid services test choices bytes) × (totals ≡ totals_of found.lines)
  valid law none totals concluded =
      law services test choices bytes lines totals (reads_whole bytes lines (all-read none)) has.taken.kept concluded

  pub broken : reading.tail.items ≡ [] → (found : Break) → Concludes services test choices lines (Broken found)
      → BreaksFirst services test choices bytes found.line (rule_told found.rule)
  broken none found concluded = record {
    lines = lines;
    rest = [];
    read = all-read none;
    kept = has.taken.kept;
    breaks = at_end refl concluded;
  }

  pub unbroken : IsUnbroken services test choices bytes
  unbroken = record { lines = lines; rest = reading.tail.items; read = has.read; free = has.free; kept = has.taken.kept }
