-- The texts of entries, indexes, faults and plans, and where others are refused.
use Rattle.std.proofs.Common.{◌≡◌, is_some, length-append, ◌+◌, ◌≢◌, ℕ, zero, suc, ◌-◌, ◌<◌, ◌≤◌, false, Option, None, List, [], ◌∷◌, ◌++◌, ◌⊎◌, inl, inr, length, take, refl, ap, sym, ◌∙◌, subst, arith}
use Rattle.std.proofs.lemmas.Bool.Decides.{nat_tests}
use Rattle.fb_base.specs.Name.{IsName}
use Rattle.fb_index.specs.Automaton.{Automaton, Reads, run}
use Rattle.fb_index.specs.Entry.{Occurrence, IsEntry, entry_text}
use Rattle.fb_index.specs.Index.{IsIndex, IsIndexText, index_text}
use Rattle.fb_index.specs.Fault.{coded_text}
use Rattle.fb_index.specs.declared.fault.Coded.{Coded}
use Rattle.fb_index.specs.Reading.{with_name_byte, number_automaton, code_automaton, entry_automaton, index_automaton, coded_automaton}
use Rattle.fb_index.specs.Refusal.{BeginsSome, IsRefusedAt, IsTextOf}
use Rattle.fb_index.proofs.Automata.{Spells, IsSilent, refused, no_text, taken}
use Rattle.fb_index.proofs.Sequences.{IsSequence, sequence-spells}
use Rattle.fb_index.proofs.Lists.{AreItems, list-spells}
use Rattle.fb_index.proofs.Numbers.{IsNumberText, number-spells}
use Rattle.fb_index.proofs.Codes.{code-spells}

-- the same texts in other words
spells-as : {Q : Type 0} (m : Automaton Q) (A B : List ℕ → Type 0) → ((t : List ℕ) → A t → B t) → ((t : List ℕ) → B t → A t) →
    Spells m A → Spells m B
spells-as m A B to back s = record {
  accepts = λ t b. s.accepts t (back t b);
  accepted = λ t a. to t (s.accepted t a);
  lives = λ t taken. let some = s.lives t taken in (some.0, to some.0 some.1, some.2);
}

-- ---- entries and indexes

pub entry-spells : Spells entry_automaton (IsTextOf IsEntry entry_text)
entry-spells =
    spells-as entry_automaton (IsSequence IsNumberText IsNumberText 46) (IsTextOf IsEntry entry_text) to back
    (sequence-spells number_automaton 46 number_automaton (λ _. refl) IsNumberText IsNumberText number-spells number-spells)
  where
    to : (t : List ℕ) → IsSequence IsNumberText IsNumberText 46 t → IsTextOf IsEntry entry_text t
    to t s =
        let site = s.is_first.0 in
        let count = s.is_second.0 in (
          record { site = site; count = count },
          (s.is_first.1, s.is_second.1),
          s.parts ∙ (λ i. s.is_first.2 i ++ 46 ∷ s.is_second.2 i),
        )

    back : (t : List ℕ) → IsTextOf IsEntry entry_text t → IsSequence IsNumberText IsNumberText 46 t
    back t (e, is, same) =
        record { first = _; second = _; is_first = (e.site, is.0, refl); is_second = (e.count, is.1, refl); parts = same }

pub entry-silent : IsSilent entry_automaton 47
entry-silent (inl q) = refl
entry-silent (inr q) = refl

-- an index below the root
abbrev pub IsChildText : List ℕ → Type 0
IsChildText = IsTextOf (AreItems IsEntry) index_text

pub index-spells : Spells index_automaton IsChildText
index-spells = list-spells entry_automaton 47 entry-silent entry_text IsEntry entry-spells

-- ---- indexes with a code

pub index-silent : IsSilent index_automaton 61
index-silent (inl q) = refl
index-silent (inr q) = refl

-- its parts can be spelled
abbrev pub IsCoded : Coded → Type 0
IsCoded coded = AreItems IsEntry coded.index × IsName coded.code

pub coded-spells : Spells coded_automaton (IsTextOf IsCoded coded_text)
coded-spells =
    spells-as coded_automaton (IsSequence IsChildText IsName 61) (IsTextOf IsCoded coded_text) to back
    (sequence-spells index_automaton 61 code_automaton index-silent IsChildText IsName index-spells code-spells)
  where
    to : (t : List ℕ) → IsSequence IsChildText IsName 61 t → IsTextOf IsCoded coded_text t
    to t s =
        let index = s.is_first.0 in
        let items = s.is_first.1 in (
          record { index = index; code = s.second },
          (record { each = items.each; some = items.some }, s.is_second),
          s.parts ∙ ap (λ xs. xs ++ 61 ∷ s.second) s.is_first.2,
        )

    back : (t : List ℕ) → IsTextOf IsCoded coded_text t → IsSequence IsChildText IsName 61 t
    back t (f, is, same) = record { first = _; second = _; is_first = (f.index, is.0, refl); is_second = is.1; parts = same }

pub code-silent : (q : ℕ) → with_name_byte q 44 ≡ None
code-silent q = grind (arith, nat_tests)

pub colon-silent : (q : ℕ) → with_name_byte q 58 ≡ None
colon-silent q = grind (arith, nat_tests)

-- ---- where a text is refused

-- further texts change no refusal, where they begin with another byte
pub refused-wider : (A B : List ℕ → Type 0) (b : ℕ) (bytes : List ℕ) (offset : ℕ) → ((t : List ℕ) → A t → B t) →
    ((t : List ℕ) → B t → A t ⊎ ((rest : List ℕ) → t ≢ b ∷ rest)) → IsRefusedAt A (b ∷ bytes) offset → IsRefusedAt B (b ∷ bytes) offset
refused-wider A B b bytes offset into either r = record {
  no_text = λ is. no_text-by (b ∷ bytes) refl (either (b ∷ bytes) is);
  within = r.within;
  begins = (r.begins.0, into r.begins.0 r.begins.1, r.begins.2);
  longest = longest;
}
  where
    no_text-by : (t : List ℕ) → t ≡ b ∷ bytes → A t ⊎ ((rest : List ℕ) → t ≢ b ∷ rest) → ⊥
    no_text-by t same (inl is) = r.no_text (subst A same is)
    no_text-by t same (inr other) = other bytes same

    by : (n : ℕ) (t more : List ℕ) → suc n ≤ length (b ∷ bytes) → t ≡ b ∷ take n bytes ++ more →
        A t ⊎ ((rest : List ℕ) → t ≢ b ∷ rest) → suc n ≤ offset
    by n t more within parts (inl is) = r.longest (suc n) within (t, is, (more, parts))
    by n t more within parts (inr other) = absurd (other _ parts)

    longest : (n : ℕ) → n ≤ length (b ∷ bytes) → BeginsSome B (take n (b ∷ bytes)) → n ≤ offset
    longest zero within some = omega arith
    longest (suc n) within (t, is, (more, parts)) = by n t more within parts (either t is)

-- nothing was read, or not all bytes were taken: then the bytes that are left, by their number, tell the offset
pub record IsMissed {T : Type 0} (item : Option T) (bytes rest : List ℕ) (left offset : ℕ) : Type 0 where
  pub counted : left ≡ length rest
  pub behind : offset ≡ length bytes - left
  pub short : left ≡ 0 → item ≡ None

pub read-refused : {Q T : Type 0} (m : Automaton Q) (text : T → List ℕ) (A : List ℕ → Type 0) → Spells m A →
    (bytes rest : List ℕ) (item : Option T) (left offset : ℕ) → Reads m text bytes item rest → IsMissed item bytes rest left offset →
    IsRefusedAt A bytes offset
read-refused m text A spells bytes rest item left offset r missed =
    let short : rest ≡ [] → m.is_final (run m bytes).0 ≡ false =
    λ empty. r.whole ∙ ap is_some (missed.short (missed.counted ∙ ap length empty)) in
    let at : length bytes - length (run m bytes).1 ≡ offset =
    ap (λ (xs : List ℕ). length bytes - length xs) r.stopped ∙ ap (λ n. length bytes - n) (sym missed.counted) ∙ sym missed.behind in
    subst (λ (n : ℕ). IsRefusedAt A bytes n) at (refused m A spells bytes (no_text m A spells bytes rest r.stopped short))

-- a text of an index is empty, or that of a child
index-into : (t : List ℕ) → IsChildText t → IsIndexText t
index-into t (index, are, same) = (index, are.each, same)

index-either : (b : ℕ) (t : List ℕ) → IsIndexText t → IsChildText t ⊎ ((rest : List ℕ) → t ≢ b ∷ rest)
index-either b t (index, each, same) = by index each same
  where
    by : (index : List Occurrence) → IsIndex index → t ≡ index_text index → IsChildText t ⊎ ((rest : List ℕ) → t ≢ b ∷ rest)
    by [] each same = inr (λ rest other. cc)
    by (e ∷ index) each same = inl (e ∷ index, record { some = omega arith; each = each }, same)

pub index-refused : (bytes rest : List ℕ) (index : Option (List Occurrence)) (left offset : ℕ) → 0 < length bytes →
    Reads index_automaton index_text bytes index rest → left ≡ length rest → (offset ≡ length bytes - left) × (left ≡ 0 → index ≡ None) →
    IsRefusedAt IsIndexText bytes offset
index-refused [] rest index left offset some r counted (behind, short) = absurd (omega arith)
index-refused (b ∷ bytes) rest index left offset some r counted (behind, short) =
    refused-wider IsChildText IsIndexText b bytes offset index-into (index-either b)
    (read-refused index_automaton index_text IsChildText index-spells (b ∷ bytes) rest index left offset r
    (record { counted = counted; behind = behind; short = short }))

-- what is left is no more than there was
pub read-le : {Q T : Type 0} (m : Automaton Q) (text : T → List ℕ) (bytes rest : List ℕ) (item : Option T) → Reads m text bytes item rest →
    length rest ≤ length bytes
read-le m text bytes rest item r =
    let t = taken m m.start bytes in
    let size : length bytes ≡ length t.front + length (run m bytes).1 = ap length t.parts ∙ length-append _ _ in
    omega (arith, ap length r.stopped)
