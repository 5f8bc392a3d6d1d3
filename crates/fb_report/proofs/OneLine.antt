-- What is written of a line has no line feed: the text of a JSON without floats has none.
use Rattle.std.proofs.Common.{◌≡◌, ◌≢◌, ℕ, zero, suc, ◌+◌, ◌/◌, ◌%◌, ◌^◌, ◌<◌, Bool, true, false, cond, List, [], ◌∷◌, ◌++◌, pos, negsuc, refl, sym, subst, arith}
use Rattle.std.specs.Prelude.{nat_lt}
use Rattle.std.specs.Char.{digit_char}
use Rattle.std.specs.Fmt.{decimal}
use Rattle.std.proofs.lemmas.Bool.Decides.{nat_tests}
use Rattle.std.proofs.lemmas.Fmt.{decimal_by_steps}
use Rattle.std.proofs.lemmas.List.Concat.{flat_map-cons}
use Rattle.json.specs.Print.{escape_letter, escape_byte, escape, quoted}
use Rattle.serde_json.specs.Data.{Num, unsigned, negative, float, Data, null, boolean, number, string, array, object, Items, no_items, item, Members, no_members, member}
use Rattle.serde_json.specs.Written.{number_text, comma_if, compact_text, items_text, members_text}
use Rattle.fb_index.specs.Pieces.{IsFree}
use Rattle.fb_report.specs.declared.line.Line.{Line}
use Rattle.fb_report.specs.Bytes.{line_text}
use Rattle.fb_report.specs.Lines.{line_feed}
use Rattle.fb_report.specs.Ranges.{IsProperLine}
use Rattle.fb_report.specs.Trees.{line_tree}
use Rattle.fb_report.specs.Writable.{IsInteger, IsWritable, AreWritable, HoldWritable}
use Rattle.fb_report.proofs.WritableLines.{line-writable}

free-joined : (sign : ℕ) (xs ys : List ℕ) → IsFree sign xs → IsFree sign ys → IsFree sign (xs ++ ys)
free-joined sign [] ys free more = more
free-joined sign (x ∷ xs) ys free more = (free.0, free-joined sign xs ys free.1 more)

-- ---- numbers

digit-other : (n : ℕ) → 48 + n ≢ 10
digit-other n same = omega (arith, same)

decimal-free : (n : ℕ) → n < 2 ^ 64 → IsFree 10 (decimal n)
decimal-free n small =
    decimal_by_steps (λ _ ds. IsFree 10 ds) (λ n few. (digit-other n, tt))
    (λ n ds many free. free-joined 10 ds ((48 + n % 10) ∷ []) free (digit-other (n % 10), tt)) n small

number-free : (n : Num) → IsInteger n → IsFree 10 (number_text n)
number-free (unsigned n) fits = decimal-free n fits
number-free (negative (pos n)) fits = absurd fits
number-free (negative (negsuc n)) fits = ((λ same. omega (arith, same)), decimal-free (suc n) (omega (arith, fits)))
number-free (float x) fits = absurd fits

-- ---- texts

digit_char-other : (n : ℕ) → digit_char n ≢ 10
digit_char-other n same = grind (arith, nat_tests)

letter-other : (x : ℕ) → escape_letter x ≢ 10
letter-other x same = grind (arith, nat_tests)

byte-free : (x : ℕ) → IsFree 10 (escape_byte x)
unfolding escape_byte
byte-free x = by (nat_lt 0 (escape_letter x)) (nat_lt x 32) refl
  where
    by : (has_letter is_control : Bool) → nat_lt x 32 ≡ is_control
        → IsFree 10 (cond has_letter (92 ∷ escape_letter x ∷ []) (cond is_control (92 ∷ 117 ∷ 48 ∷ 48 ∷ digit_char (x / 16) ∷ digit_char (x % 16) ∷ []) (x ∷ [])))
    by true control is = ((λ same. omega (arith, same)), (letter-other x, tt))
    by false true is = (
      (λ same. omega (arith, same)),
      ((λ same. omega (arith, same)), ((λ same. omega (arith, same)), ((λ same. omega (arith, same)), (digit_char-other (x / 16), (digit_char-other (x % 16), tt))))),
    )
    by false false is = ((λ same. grind (arith, nat_tests)), tt)

escape-free : (s : List ℕ) → IsFree 10 (escape s)
escape-free [] = tt
escape-free (x ∷ s) = subst (IsFree 10) (sym (flat_map-cons escape_byte x s)) (free-joined 10 (escape_byte x) (escape s) (byte-free x) (escape-free s))

quoted-free : (s : List ℕ) → IsFree 10 (quoted s)
quoted-free s = ((λ same. omega (arith, same)), free-joined 10 (escape s) (34 ∷ []) (escape-free s) ((λ same. omega (arith, same)), tt))

-- ---- all JSON

literal-free : (b : Bool) → IsFree 10 (compact_text (boolean b))
literal-free true = ((λ same. omega (arith, same)), ((λ same. omega (arith, same)), ((λ same. omega (arith, same)), ((λ same. omega (arith, same)), tt))))
literal-free false =
    ((λ same. omega (arith, same)), ((λ same. omega (arith, same)), ((λ same. omega (arith, same)), ((λ same. omega (arith, same)), ((λ same. omega (arith, same)), tt)))))

comma-free : (later : Bool) → IsFree 10 (comma_if later)
comma-free true = ((λ same. omega (arith, same)), tt)
comma-free false = tt

mutual
  text-free : (levels : ℕ) (d : Data) → IsWritable levels d → IsFree 10 (compact_text d)
  text-free levels null h = ((λ same. omega (arith, same)), ((λ same. omega (arith, same)), ((λ same. omega (arith, same)), ((λ same. omega (arith, same)), tt))))
  text-free levels (boolean b) h = literal-free b
  text-free levels (number n) h = number-free n h
  text-free levels (string s) h = quoted-free s
  text-free zero (array ds) h = absurd h
  text-free (suc levels) (array ds) h = ((λ same. omega (arith, same)), items-free false levels ds h)
  text-free zero (object ms) h = absurd h
  text-free (suc levels) (object ms) h = ((λ same. omega (arith, same)), members-free false levels ms h.1)

  items-free : (later : Bool) (levels : ℕ) (ds : Items) → AreWritable levels ds → IsFree 10 (items_text later ds)
  items-free later levels no_items h = ((λ same. omega (arith, same)), tt)
  items-free later levels (item d ds) h =
      free-joined 10 (comma_if later) (compact_text d ++ items_text true ds) (comma-free later)
      (free-joined 10 (compact_text d) (items_text true ds) (text-free levels d h.0) (items-free true levels ds h.1))

  members-free : (later : Bool) (levels : ℕ) (ms : Members) → HoldWritable levels ms → IsFree 10 (members_text later ms)
  members-free later levels no_members h = ((λ same. omega (arith, same)), tt)
  members-free later levels (member k d ms) h =
      free-joined 10 (comma_if later) (quoted k ++ 58 ∷ (compact_text d ++ members_text true ms)) (comma-free later)
      (free-joined 10 (quoted k) (58 ∷ (compact_text d ++ members_text true ms)) (quoted-free k)
      ((λ same. omega (arith, same)), free-joined 10 (compact_text d) (members_text true ms) (text-free levels d h.0) (members-free true levels ms h.1)))

pub line-free : (line : Line) → IsProperLine line → IsFree line_feed (line_text line)
line-free line proper = text-free 127 (line_tree line) (line-writable line proper)
