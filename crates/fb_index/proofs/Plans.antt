-- Where a plan's text is refused.
use Rattle.std.proofs.Common.{◌≡◌, ◌≢◌, ◌⊎◌, inl, inr, ℕ, zero, suc, ◌+◌, ◌-◌, ◌<◌, ◌≤◌, Bool, true, false, Option, Some, None, List, [], ◌∷◌, ◌++◌, leb, length, take, refl, ap, sym, ◌∙◌, subst, arith, append_assoc, append-nil, length-append}
use Rattle.std.specs.Prelude.{codes}
use Rattle.std.specs.List.{All}
use Rattle.std.proofs.lemmas.Bool.{false≢true}
use Rattle.std.proofs.lemmas.Bool.Decides.{nat_tests}
use Rattle.std.proofs.lemmas.List.{take-append-le}
use Rattle.std.proofs.lemmas.List.Elements.{All-nil, All-push, All-head, All-tail}
use Rattle.std.proofs.Math.Seq.{take-append-add}
use Rattle.fb_index.specs.Automaton.{Reads, begins_with, run}
use Rattle.fb_index.specs.Entry.{Occurrence}
use Rattle.fb_index.specs.Index.{IsIndex, index_text}
use Rattle.fb_index.specs.Fault.{IsSpelledFault, IsFaultText, IsFaultRefusedAt, LacksValueAt, RefusesFault, fault_text}
use Rattle.fb_index.specs.Pieces.{IsFree, up_to, behind}
use Rattle.fb_index.specs.Plan.{IsPlanText, PlanLacksValueAt, IsPlanRefusedAt, RefusesPlan, plan_text}
use Rattle.fb_index.specs.Reading.{index_automaton, word_automaton}
use Rattle.fb_index.specs.Refusal.{BeginsSome, IsRefusedAt, IsTextOf}
use Rattle.fb_index.specs.Spelling.{reply_text}
use Rattle.fb_index.specs.declared.error.PlanError.{PlanError}
use Rattle.fb_index.specs.declared.error.PlanError.TheVariants.{BadPlan, Memory}
use Rattle.fb_index.specs.declared.fault.Fault.{Fault}
use Rattle.fb_index.proofs.Bools.{eqb-same}
use Rattle.fb_index.proofs.Cuts.{cut-parts, rest_of, up_to-free, up_to-sign, up_to-front, stripped, first-piece, no-items, open_up}
use Rattle.fb_index.proofs.Faults.{value-of-fault}
use Rattle.fb_index.proofs.Free.{split-same}
use Rattle.fb_index.proofs.Lists.{AreItems, joined, closed, joined-push}
use Rattle.fb_index.proofs.Texts.{index-spells, read-refused, refused-wider}
use Rattle.fb_index.proofs.Unique.{fault-free, index-some}
use Rattle.fb_index.proofs.Words.{word-spells}

pub spelled-free : (f : Fault) → IsSpelledFault f → IsFree 44 (fault_text f)
spelled-free f is = fault-free f is.0

abbrev pub whole_faults : List Fault → List ℕ
whole_faults = closed 44 fault_text

abbrev IsFaultsText : List ℕ → Type 0
IsFaultsText = IsTextOf (AreItems IsSpelledFault) (joined 44 fault_text)

from-plan : (t : List ℕ) → begins_with 110 t ≡ false → IsPlanText t → IsFaultsText t
from-plan t other (plan, each, same) = by plan each same
  where
    by : (plan : List Fault) → All IsSpelledFault plan → t ≡ plan_text plan → IsFaultsText t
    by [] each same = absurd (false≢true (sym other ∙ ap (begins_with 110) same))
    by (f ∷ plan) each same = (f ∷ plan, record { some = omega arith; each = each }, same)

pub plan_text-push : (plan : List Fault) (fault : Fault) → joined 44 fault_text (plan ++ fault ∷ []) ≡ plan_text (plan ++ fault ∷ [])
plan_text-push [] fault = refl
plan_text-push (f ∷ plan) fault = refl

-- behind whole faults stands what is no fault, and that is the same wherever the faults are cut off
pub same-left : (faults others : List Fault) (left rest : List ℕ) → All IsSpelledFault faults → All IsSpelledFault others →
    whole_faults faults ++ left ≡ whole_faults others ++ rest → ¬ (IsFaultText (up_to 44 left)) → ¬ (IsFaultText (up_to 44 rest)) → left ≡ rest
same-left [] [] left rest each all same none no_other = same
same-left [] (g ∷ others) left rest each all same none no_other =
    let is = All-head IsSpelledFault g others all in
    let piece : up_to 44 left ≡ fault_text g =
    ap (up_to 44) (same ∙ open_up 44 fault_text (fault_text g) (whole_faults others) rest) ∙ up_to-sign 44 (fault_text g) _ (spelled-free g is) in
    absurd (none (g, is, piece))
same-left (f ∷ faults) [] left rest each all same none no_other =
    let is = All-head IsSpelledFault f faults each in
    let piece : up_to 44 rest ≡ fault_text f =
    ap (up_to 44) (sym same ∙ open_up 44 fault_text (fault_text f) (whole_faults faults) left) ∙ up_to-sign 44 (fault_text f) _ (spelled-free f is) in
    absurd (no_other (f, is, piece))
same-left (f ∷ faults) (g ∷ others) left rest each all same none no_other =
    let is_f = All-head IsSpelledFault f faults each in
    let is_g = All-head IsSpelledFault g others all in
    let parts = split-same 44 (fault_text f) (fault_text g) _ _ (spelled-free f is_f) (spelled-free g is_g)
    (sym (open_up 44 fault_text (fault_text f) (whole_faults faults) left) ∙ same ∙ open_up 44 fault_text (fault_text g) (whole_faults others) rest) in
    same-left faults others left rest (All-tail IsSpelledFault f faults each) (All-tail IsSpelledFault g others all) parts.1 none no_other

begins-same : (m : ℕ) (bytes rest : List ℕ) → 0 < m → m ≤ length bytes → begins_with 110 (take m bytes ++ rest) ≡ begins_with 110 bytes
begins-same zero bytes rest some within = absurd (omega (arith, some))
begins-same (suc m) [] rest some within = absurd (omega (arith, within))
begins-same (suc m) (b ∷ bytes) rest some within = refl

front-free : (k : ℕ) (bytes : List ℕ) → IsFree 44 bytes → IsFree 44 (take k bytes)
front-free zero bytes free = tt
front-free (suc k) [] free = tt
front-free (suc k) (b ∷ bytes) free = (free.0, front-free k bytes free.1)

at-most : (a b : ℕ) (t : Bool) → leb a b ≡ t → (a ≤ b) ⊎ (b < a)
at-most a b true test = inl (grind (arith, nat_tests))
at-most a b false test = inr (grind (arith, nat_tests))

module _ (bytes left : List ℕ) (faults : List Fault) (each : All IsSpelledFault faults) (read : bytes ≡ whole_faults faults ++ left)
    (other : begins_with 110 bytes ≡ false) (place : ℕ) (r : IsRefusedAt IsFaultText (up_to 44 left) place) where
  abbrev start : ℕ
  start = length (whole_faults faults)

  piece-parts : left ≡ up_to 44 left ++ rest_of 44 (behind 44 left)
  piece-parts = cut-parts 44 left

  no-plan : ¬ (IsPlanText bytes)
  no-plan is = no-items 44 fault_text IsSpelledFault spelled-free bytes left faults each read r.no_text (from-plan bytes other is)

  nowhere : ((n : ℕ) → ¬ (LacksValueAt (up_to 44 left) n)) → (n : ℕ) → ¬ (PlanLacksValueAt bytes n)
  nowhere none n m =
      let mm = m.missing in
      let no_fault : ¬ (IsFaultText (up_to 44 m.rest)) =
      λ is. mm.no_value (value-of-fault (up_to 44 m.rest) mm.rest mm.index mm.is_index mm.parts is) in
      let same = same-left faults m.faults left m.rest each m.each (sym read ∙ m.parts) r.no_text no_fault in
      none m.inside (subst (λ xs. LacksValueAt (up_to 44 xs) m.inside) (sym same) m.missing)

  front-is : (k : ℕ) → take (start + k) bytes ≡ whole_faults faults ++ take k left
  front-is k = ap (take (start + k)) read ∙ take-append-add (whole_faults faults) left k

  piece-front : (k : ℕ) → k ≤ length (up_to 44 left) → take k left ≡ take k (up_to 44 left)
  piece-front k small = ap (take k) piece-parts ∙ take-append-le k (up_to 44 left) (rest_of 44 (behind 44 left)) small

  begins : BeginsSome IsPlanText (take (start + place) bytes)
  begins =
      let t = r.begins.0 in
      let f = r.begins.1.0 in
      let rest = r.begins.2.0 in
      let text : joined 44 fault_text (faults ++ f ∷ []) ≡ take (start + place) bytes ++ rest =
      joined-push 44 fault_text faults f ∙ ap (λ xs. whole_faults faults ++ xs) (sym r.begins.1.2 ∙ r.begins.2.1)
      ∙ sym (append_assoc (whole_faults faults) (take place (up_to 44 left)) rest)
      ∙ ap (λ xs. xs ++ rest) (ap (λ xs. whole_faults faults ++ xs) (sym (piece-front place r.within)) ∙ sym (front-is place)) in (
        joined 44 fault_text (faults ++ f ∷ []),
        (faults ++ f ∷ [], All-push IsSpelledFault faults f each r.begins.1.1, plan_text-push faults f),
        (rest, text),
      )

  size : length bytes ≡ start + length left
  size = ap length read ∙ length-append (whole_faults faults) left

  piece-size : length left ≡ length (up_to 44 left) + length (rest_of 44 (behind 44 left))
  piece-size = ap length piece-parts ∙ length-append (up_to 44 left) (rest_of 44 (behind 44 left))

  -- what begins like whole faults, so many bytes of what is left, and more
  longest-by : (k : ℕ) (rest : List ℕ) → k ≤ length left → IsTextOf IsSpelledFault fault_text (up_to 44 (take k left ++ rest)) →
      (k ≤ length (up_to 44 left)) ⊎ (length (up_to 44 left) < k) → k ≤ place
  longest-by k rest within (f, is, same) (inl small) =
      let front : up_to 44 (take k left ++ rest) ≡ take k (up_to 44 left) ++ up_to 44 rest =
      ap (λ xs. up_to 44 (xs ++ rest)) (piece-front k small) ∙ up_to-front 44 (take k (up_to 44 left)) rest (front-free k _ (up_to-free 44 left)) in
      r.longest k small (fault_text f, (f, is, refl), (up_to 44 rest, sym same ∙ front))
  longest-by k rest within (f, is, same) (inr large) = by (behind 44 left) refl
    where
      by : (o : Option (List ℕ)) → behind 44 left ≡ o → k ≤ place
      by None ends = absurd (omega (arith, within, large, piece-size, ap (λ p. length (rest_of 44 p)) ends))
      by (Some more) goes =
          let n = k - length (up_to 44 left) - 1 in
          let is_k : k ≡ length (up_to 44 left) + suc n = omega (arith, large) in
          let front : take k left ≡ up_to 44 left ++ 44 ∷ take n more =
          ap (λ m. take m left) is_k ∙ ap (take (length (up_to 44 left) + suc n)) (piece-parts ∙ ap (λ p. up_to 44 left ++ rest_of 44 p) goes)
          ∙ take-append-add (up_to 44 left) (44 ∷ more) (suc n) in
          let piece : up_to 44 (take k left ++ rest) ≡ up_to 44 left =
          ap (λ xs. up_to 44 (xs ++ rest)) front ∙ ap (up_to 44) (append_assoc (up_to 44 left) (44 ∷ take n more) rest)
          ∙ up_to-sign 44 (up_to 44 left) _ (up_to-free 44 left) in
          absurd (r.no_text (f, is, sym piece ∙ same))

  longest : (m : ℕ) → m ≤ length bytes → BeginsSome IsPlanText (take m bytes) → m ≤ start + place
  longest m within (t, is, (rest, parts)) = by (at-most m start _ refl)
    where
      by : (m ≤ start) ⊎ (start < m) → m ≤ start + place
      by (inl small) = omega (arith, small)
      by (inr large) =
          let k = m - start in
          let is_m : m ≡ start + k = omega (arith, large) in
          let no_n : begins_with 110 t ≡ false =
          ap (begins_with 110) parts ∙ begins-same m bytes rest (omega (arith, large)) within ∙ other in
          let faults_text = from-plan t no_n is in
          let cut : whole_faults faults ++ (take k left ++ rest) ≡ joined 44 fault_text faults_text.0 =
          sym (append_assoc (whole_faults faults) (take k left) rest)
          ∙ ap (λ xs. xs ++ rest) (sym (front-is k) ∙ ap (λ n. take n bytes) (sym is_m)) ∙ sym parts ∙ faults_text.2 in
          let strip = stripped 44 fault_text IsSpelledFault spelled-free faults (take k left ++ rest) faults_text.0 each faults_text.1 cut in
          let first = first-piece 44 fault_text IsSpelledFault spelled-free (take k left ++ rest) strip in
          let fits : k ≤ length left = omega (arith, within, size, is_m) in
          let small = longest-by k rest fits first (at-most k (length (up_to 44 left)) _ refl) in
          omega (arith, is_m, small)

  plan-refused-at : IsRefusedAt IsPlanText bytes (start + place)
  plan-refused-at = record {
    no_text = no-plan;
    within = omega (arith, size, piece-size, r.within);
    begins = begins;
    longest = longest;
  }

-- a refusal of the piece behind whole faults
pub faults-refused : (bytes left : List ℕ) (faults : List Fault) (place : ℕ) → All IsSpelledFault faults → bytes ≡ whole_faults faults ++ left →
    begins_with 110 bytes ≡ false → IsFaultRefusedAt (up_to 44 left) place → IsPlanRefusedAt bytes (length (whole_faults faults) + place)
faults-refused bytes left faults place each read other (inl (no_fault, missing)) =
    inl (
      (λ is. no-items 44 fault_text IsSpelledFault spelled-free bytes left faults each read no_fault (from-plan bytes other is)),
      record { faults = faults; each = each; rest = left; parts = read; inside = place; missing = missing; placed = refl },
    )
faults-refused bytes left faults place each read other (inr (none, r)) =
    inr (nowhere bytes left faults each read other place r none, plan-refused-at bytes left faults each read other place r)

-- so says a refusal of the piece, which tells where it starts
pub faults-refuse : (bytes left : List ℕ) (faults : List Fault) (start : ℕ) (error : PlanError) → All IsSpelledFault faults →
    bytes ≡ whole_faults faults ++ left → begins_with 110 bytes ≡ false → start ≡ length bytes - length left →
    RefusesFault start (up_to 44 left) error → RefusesPlan bytes error
faults-refuse bytes left faults start (BadPlan offset) each read other starts (place, same, r) =
    let size : length bytes ≡ length (whole_faults faults) + length left = ap length read ∙ length-append (whole_faults faults) left in
    let at : length (whole_faults faults) + place ≡ offset = omega (arith, size, starts, same) in
    subst (λ (n : ℕ). IsPlanRefusedAt bytes n) at (faults-refused bytes left faults place each read other r)
faults-refuse bytes left faults start Memory each read other starts r = tt

-- ---- the empty plan

-- an index begins with a digit
index-first : (index : List Occurrence) (rest more : List ℕ) → IsIndex index → 0 < length index → index_text index ++ rest ≡ 110 ∷ more → ⊥
index-first index rest more is some same = by (index_text index) refl same
  where
    by : (t : List ℕ) → index_text index ≡ t → t ++ rest ≡ 110 ∷ more → ⊥
    by [] empty same = none index some empty
      where
        none : (index : List Occurrence) → 0 < length index → index_text index ≡ [] → ⊥
        none [] some empty = omega (arith, some)
        none (e ∷ index) some empty = index-some e index (sym empty)
    by (b ∷ t) first same =
        let is_n : b ≡ 110 = cc in
        let whole : index_text index ≡ 110 ∷ t = first ∙ ap (λ c. c ∷ t) is_n in
        let a = index-spells.accepts (index_text index) (index, record { some = some; each = is }, refl) in
        let left : 110 ∷ t ≡ [] = subst (λ (xs : List ℕ). (run index_automaton xs).1 ≡ []) whole a.all in
        absurd cc

fault-first : (f : Fault) (rest more : List ℕ) → IsSpelledFault f → fault_text f ++ rest ≡ 110 ∷ more → ⊥
fault-first f rest more is same =
    index-first f.index _ more is.0.0 is.1 (sym (append_assoc (index_text f.index) (61 ∷ reply_text f.reply) rest) ∙ same)

none-into : (t : List ℕ) → t ≡ codes "none" → IsPlanText t
none-into t same = ([], All-nil IsSpelledFault, same)

none-either : (t : List ℕ) → IsPlanText t → (t ≡ codes "none") ⊎ ((rest : List ℕ) → t ≢ 110 ∷ rest)
none-either t (plan, each, same) = by plan each same
  where
    by : (plan : List Fault) → All IsSpelledFault plan → t ≡ plan_text plan → (t ≡ codes "none") ⊎ ((rest : List ℕ) → t ≢ 110 ∷ rest)
    by [] each same = inl same
    by (f ∷ []) each same =
        inr (λ rest begins. fault-first f [] rest (All-head IsSpelledFault f [] each) (append-nil (fault_text f) ∙ sym same ∙ begins))
    by (f ∷ g ∷ plan) each same =
        inr (λ rest begins. fault-first f _ rest (All-head IsSpelledFault f (g ∷ plan) each) (sym same ∙ begins))

none-missing : (bytes : List ℕ) (place : ℕ) → ¬ (PlanLacksValueAt (110 ∷ bytes) place)
none-missing bytes place m = by m.faults m.each m.parts
  where
    by : (faults : List Fault) → All IsSpelledFault faults → 110 ∷ bytes ≡ whole_faults faults ++ m.rest → ⊥
    by [] each parts =
        let mm = m.missing in
        let front : index_text mm.index ++ (codes "=ok:" ++ mm.rest ++ rest_of 44 (behind 44 m.rest)) ≡ 110 ∷ bytes =
        sym (regroup (index_text mm.index) (codes "=ok:") mm.rest (rest_of 44 (behind 44 m.rest)))
        ∙ ap (λ xs. xs ++ rest_of 44 (behind 44 m.rest)) (sym mm.parts) ∙ sym (cut-parts 44 m.rest) ∙ sym parts in
        index-first mm.index _ bytes mm.is_index mm.at_call front
      where
        regroup : (a b c d : List ℕ) → ((a ++ b) ++ c) ++ d ≡ a ++ ((b ++ c) ++ d)
        regroup a b c d = simp append_assoc
    by (f ∷ faults) each parts =
        fault-first f _ bytes (All-head IsSpelledFault f faults each)
        (sym (open_up 44 fault_text (fault_text f) (whole_faults faults) m.rest) ∙ sym parts)

pub none-refused : (bytes rest : List ℕ) (plan : Option (List Fault)) (left offset : ℕ) → begins_with 110 bytes ≡ true →
    Reads (word_automaton (codes "none")) plan_text bytes plan rest → left ≡ length rest →
    (offset ≡ length bytes - left) × (left ≡ 0 → plan ≡ None) → IsPlanRefusedAt bytes offset
none-refused [] rest plan left offset begun r counted missed = absurd (false≢true begun)
none-refused (b ∷ bytes) rest plan left offset begun r counted (behind, short) =
    let is_n : b ≡ 110 = eqb-same b 110 begun in
    inr (
      (λ place m. none-missing bytes place (subst (λ (c : ℕ). PlanLacksValueAt (c ∷ bytes) place) is_n m)),
      subst (λ (c : ℕ). IsRefusedAt IsPlanText (c ∷ bytes) offset) (sym is_n)
          (refused-wider (λ t. t ≡ codes "none") IsPlanText 110 bytes offset none-into none-either
          (read-refused (word_automaton (codes "none")) plan_text (λ t. t ≡ codes "none") (word-spells (codes "none")) (110 ∷ bytes) rest plan
          left offset (subst (λ (c : ℕ). Reads (word_automaton (codes "none")) plan_text (c ∷ bytes) plan rest) is_n r)
          (record { counted = counted; behind = behind; short = short }))),
    )
