-- Bytes that begin with lines, once more bytes follow or a further line is read.
use Rattle.std.proofs.Common.{◌≡◌, ℕ, List, [], ◌∷◌, ◌++◌, refl, sym, ap, ◌∙◌, subst, append_assoc}
use Rattle.std.proofs.lemmas.List.{append-nil}
use Rattle.std.specs.Prelude.{Ok}
use Rattle.fb_index.specs.Pieces.{IsFree}
use Rattle.fb_report.specs.declared.line.Line.{Line}
use Rattle.fb_report.specs.Lines.{line_feed}
use Rattle.fb_reading.specs.Answers.{IsAnswer}
use Rattle.fb_functest.specs.Reading.{BeginsWith, IsReadAs}
use Rattle.fb_valid.specs.Verdict.{ReadsTo}
use Rattle.fb_verify.specs.Taking.{ended}

pub free-append : (sign : ℕ) (a b : List ℕ) → IsFree sign a → IsFree sign b → IsFree sign (a ++ b)
free-append sign [] b free other = other
free-append sign (x ∷ a) b free other = (free.0, free-append sign a b free.1 other)

begins_more : (line : Line) (bytes next more : List ℕ) → BeginsWith line bytes next → BeginsWith line (bytes ++ more) (next ++ more)
begins_more line bytes next more begins = record {
  text = begins.text;
  free = begins.free;
  cut = ap (λ b. b ++ more) begins.cut ∙ append_assoc begins.text (line_feed ∷ next) more;
  read = begins.read;
}

pub reads_more : (bytes : List ℕ) (lines : List Line) (rest more : List ℕ) → ReadsTo bytes lines rest → ReadsTo (bytes ++ more) lines (rest ++ more)
reads_more bytes [] rest more read = ap (λ b. b ++ more) read
reads_more bytes (line ∷ lines) rest more read =
    (read.0 ++ more, begins_more line bytes read.0 more read.1, reads_more read.0 lines rest more read.2)

reads_next : (bytes : List ℕ) (lines : List Line) (rest next : List ℕ) (line : Line) → ReadsTo bytes lines rest → BeginsWith line rest next
    → ReadsTo bytes (lines ++ line ∷ []) next
reads_next bytes [] rest next line read begins = (next, subst (λ b. BeginsWith line b next) (sym read) begins, refl)
reads_next bytes (first ∷ lines) rest next line read begins = (read.0, read.1, reads_next read.0 lines rest next line read.2 begins)

-- nothing is left
pub reads_whole : (bytes : List ℕ) (lines : List Line) → ReadsTo bytes lines [] → IsReadAs bytes lines
reads_whole bytes [] read = read
reads_whole bytes (line ∷ lines) read = (read.0, read.1, reads_whole read.0 lines read.2)

-- ---- the line that the next bytes end

-- what is behind its line feed stands apart
pub with_feed : (tail text more : List ℕ) → tail ++ (ended text ++ more) ≡ (tail ++ text) ++ line_feed ∷ more
with_feed tail text more = ap (λ b. tail ++ b) (append_assoc text (line_feed ∷ []) more) ∙ sym (append_assoc tail text (line_feed ∷ more))

pub begins_here : (tail text more : List ℕ) (line : Line) → IsFree line_feed tail → IsFree line_feed text → IsAnswer (tail ++ text) (Ok line)
    → BeginsWith line (tail ++ (ended text ++ more)) more
begins_here tail text more line free free_too read = record {
  text = tail ++ text;
  free = free-append line_feed tail text free free_too;
  cut = with_feed tail text more;
  read = read;
}

pub reads_line : (bytes : List ℕ) (lines : List Line) (tail text : List ℕ) (line : Line) → ReadsTo bytes lines tail → IsFree line_feed tail → IsFree line_feed text
    → IsAnswer (tail ++ text) (Ok line) → ReadsTo (bytes ++ ended text) (lines ++ line ∷ []) []
reads_line bytes lines tail text line read free free_too answer =
    reads_next (bytes ++ ended text) lines (tail ++ ended text) [] line (reads_more bytes lines tail (ended text) read)
    (subst (λ b. BeginsWith line (tail ++ b) []) (append-nil (ended text)) (begins_here tail text [] line free free_too answer))
