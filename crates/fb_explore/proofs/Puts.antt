-- Puts, one after another.
use Rattle.std.proofs.Common.{◌≡◌, ℕ, Option, Some, None, Result, Ok, Err, List, [], ◌∷◌, ◌++◌, refl, sym, ap, ◌∙◌, subst, arith, append_assoc, append-nil}
use Rattle.std.specs.Result.{IsErrOf, IsErrAnd}
use Rattle.std.proofs.lemmas.Grind.{flat_map-append}
use Rattle.std.proofs.lemmas.List.Concat.{flat_map-cons}
use Rattle.std.proofs.lemmas.List.Elements.{All-append, All-cons, All-nil}
use Rattle.fb_base.specs.Count.{Rose, NeverFell}
use Rattle.fb_files.specs.Told.{BothTold}
use Rattle.fb_report.specs.declared.line.Line.{Line}
use Rattle.fb_report.specs.Bytes.{line_bytes}
use Rattle.fb_report.specs.Ranges.{IsProperLine}
use Rattle.fb_functest.specs.Reading.{bytes_of}
use Rattle.fb_explore.specs.declared.error.PutError.{PutError}
use Rattle.fb_explore.specs.declared.error.PutError.TheVariants.{Failed, Memory}
use Rattle.fb_explore.specs.Puts.{Puts, HavePutLines, stop_of}

told_same : {A : Type 0} (P : A → A → Type 0) → ((x : A) → P x x) → (o : Option A) → BothTold P o o
told_same P same None = tt
told_same P same (Some x) = same x

told_then : {A : Type 0} (P Q R : A → A → Type 0) → ((x y z : A) → P x y → Q y z → R x z) → (u v w : Option A) → BothTold P u v → BothTold Q v w → BothTold R u w
told_then P Q R both None None None h k = tt
told_then P Q R both None None (Some z) h k = absurd k
told_then P Q R both None (Some y) w h k = absurd h
told_then P Q R both (Some x) None w h k = absurd h
told_then P Q R both (Some x) (Some y) None h k = absurd k
told_then P Q R both (Some x) (Some y) (Some z) h k = both x y z h k

told_also : {A : Type 0} (P Q : A → A → Type 0) → ((x y : A) → P x y → Q x y) → (u v : Option A) → BothTold P u v → BothTold Q u v
told_also P Q also None None h = tt
told_also P Q also None (Some y) h = absurd h
told_also P Q also (Some x) None h = absurd h
told_also P Q also (Some x) (Some y) h = also x y h

-- nothing is put
pub put_nothing : (written : Option (List ℕ)) (faults : ℕ) → HavePutLines [] None written faults written faults
put_nothing written faults = record {
  content = told_same (Puts [] None) (λ x. sym (append-nil x)) written;
  cause = λ failed. absurd (cc);
  count = omega arith;
  proper = λ none. All-nil IsProperLine;
}

-- memory is wanting before anything is put
pub put_wanting : (lines : List Line) (written : Option (List ℕ)) (faults : ℕ) → HavePutLines lines (Some Memory) written faults written faults
put_wanting lines written faults = record {
  content = told_same (Puts (bytes_of lines) (Some Memory)) (λ x. ([], (bytes_of lines, refl), sym (append-nil x))) written;
  cause = λ failed. absurd (cc);
  count = omega arith;
  proper = λ none. absurd (cc);
}

pub failed_is : {A : Type 0} (r : Result A PutError) → stop_of r ≡ Some Failed → IsErrOf r Failed
failed_is (Ok x) is = absurd (cc)
failed_is (Err e) is = let same : e ≡ Failed = cc in ap Err same

-- a line is put
pub put_one : (line : Line) (r : Result (Unit {0}) PutError) (u v : Option (List ℕ)) (f g : ℕ) → IsProperLine line
    → BothTold (Puts (line_bytes line) (stop_of r)) u v → (IsErrOf r Failed → Rose f g) → NeverFell f g → HavePutLines (line ∷ []) (stop_of r) u f v g
put_one line r u v f g is content cause count = record {
  content = subst (λ bytes. BothTold (Puts bytes (stop_of r)) u v) (sym (flat_map-cons line_bytes line [] ∙ append-nil (line_bytes line))) content;
  cause = λ failed. cause (failed_is r failed);
  count = count;
  proper = λ none. All-cons IsProperLine line [] is (All-nil IsProperLine);
}

joined : (first second : List ℕ) (stop : Option PutError) (x y z : List ℕ) → Puts first None x y → Puts second stop y z → Puts (first ++ second) stop x z
joined first second None x y z h k = k ∙ ap (λ front. front ++ second) h ∙ append_assoc x first second
joined first second (Some error) x y z h k = (
  first ++ k.0,
  (k.1.0, ap (λ rest. first ++ rest) k.1.1 ∙ sym (append_assoc first k.0 k.1.0)),
  k.2 ∙ ap (λ front. front ++ k.0) h ∙ append_assoc x first k.0,
)

rose_later : (f g h : ℕ) → NeverFell f g → Rose g h → Rose f h
rose_later f g h count rose = omega (arith, count, rose)

-- and then more
pub put_then : (first second : List Line) (stop : Option PutError) (u v w : Option (List ℕ)) (f g h : ℕ)
    → HavePutLines first None u f v g → HavePutLines second stop v g w h → HavePutLines (first ++ second) stop u f w h
put_then first second stop u v w f g h one other = record {
  content = subst (λ bytes. BothTold (Puts bytes stop) u w) (sym (flat_map-append line_bytes first second))
      (told_then (Puts (bytes_of first) None) (Puts (bytes_of second) stop) (Puts (bytes_of first ++ bytes_of second) stop)
      (joined (bytes_of first) (bytes_of second) stop) u v w one.content other.content);
  cause = λ failed. rose_later f g h one.count (other.cause failed);
  count = (let before = one.count in let later = other.count in omega (arith, before, later));
  proper = λ none. All-append IsProperLine first second (one.proper refl) (other.proper none);
}

short : (first second : List ℕ) (error : PutError) (x y : List ℕ) → Puts first (Some error) x y → Puts (first ++ second) (Some error) x y
short first second error x y h = (h.0, (h.1.0 ++ second, ap (λ bytes. bytes ++ second) h.1.1 ∙ append_assoc h.0 h.1.0 second), h.2)

-- what stopped didn't come to what follows
pub put_short : (first second : List Line) (error : PutError) (u v : Option (List ℕ)) (f g : ℕ)
    → HavePutLines first (Some error) u f v g → HavePutLines (first ++ second) (Some error) u f v g
put_short first second error u v f g one = record {
  content = subst (λ bytes. BothTold (Puts bytes (Some error)) u v) (sym (flat_map-append line_bytes first second))
      (told_also (Puts (bytes_of first) (Some error)) (Puts (bytes_of first ++ bytes_of second) (Some error)) (short (bytes_of first) (bytes_of second) error) u v one.content);
  cause = one.cause;
  count = one.count;
  proper = λ none. absurd (cc);
}

whole_front : (bytes x y : List ℕ) → Puts bytes None x y → Puts bytes (Some Memory) x y
whole_front bytes x y is = (bytes, ([], sym (append-nil bytes)), is)

-- memory is wanting behind all lines
pub put_whole : (lines : List Line) (u v : Option (List ℕ)) (f g : ℕ) → HavePutLines lines None u f v g → HavePutLines lines (Some Memory) u f v g
put_whole lines u v f g all = record {
  content = told_also (Puts (bytes_of lines) None) (Puts (bytes_of lines) (Some Memory)) (whole_front (bytes_of lines)) u v all.content;
  cause = λ failed. absurd (cc);
  count = all.count;
  proper = λ none. absurd (cc);
}

-- ---- the exits of a `?`

-- what holds of the error holds of what is returned
pub exits : {A E : Type 0} (P : Result A E → Type 0) (r : Result A E) (error : E) → IsErrAnd r (λ e. e ≡ error) → P (Err error) → P r
exits P (Ok x) error is holds = absurd is
exits P (Err e) error is holds = subst (λ e. P (Err e)) (sym is) holds

-- a put stopped
pub stops : {A : Type 0} (lines : List Line) (r : Result A PutError) (error : PutError) (u v : Option (List ℕ)) (f g : ℕ) → IsErrAnd r (λ e. e ≡ error)
    → HavePutLines lines (Some error) u f v g → HavePutLines lines (stop_of r) u f v g
stops lines r error u v f g is put = exits (λ r. HavePutLines lines (stop_of r) u f v g) r error is put
