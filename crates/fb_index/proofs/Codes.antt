-- Codes, byte by byte.
use Rattle.std.proofs.Common.{add-zero, ◌≡◌, ℕ, suc, ◌+◌, ◌<◌, ◌≤◌, Bool, true, false, Some, None, List, [], ◌∷◌, ◌++◌, length, take, ◌&&◌, ltb, leb, eqb, cond, refl, ap, sym, ◌∙◌, arith, append-nil, length-append}
use Rattle.std.specs.List.{list_all}
use Rattle.std.specs.Char.{is_ascii_lowercase}
use Rattle.std.proofs.lemmas.Bool.Decides.{nat_tests}
use Rattle.std.proofs.lemmas.List.Folds.{list_all-append}
use Rattle.fb_base.specs.Name.{IsName, is_name_byte, longest_name}
use Rattle.fb_index.specs.Automaton.{Reads, run, run_from}
use Rattle.fb_index.specs.Reading.{with_name_byte, code_automaton}
use Rattle.fb_index.specs.Refusal.{BeginsSome}
use Rattle.fb_index.proofs.Bools.{and-parts, and-true, ltb-some}
use Rattle.fb_index.proofs.Automata.{taken, front-take, kept, IsTaken, Spells}

-- the bytes that may stand at this place
abbrev fits_at : ℕ → ℕ → Bool
fits_at place byte = cond (eqb place 0) (is_ascii_lowercase byte) (is_name_byte byte)

record IsByteAt (place byte next : ℕ) : Type 0 where
  small : place < longest_name
  fits : fits_at place byte ≡ true
  is : next ≡ place + 1

below : (place : ℕ) → ltb place longest_name ≡ true → place < longest_name
below place small = grind (arith, nat_tests)

step-cases : (t : Bool) (place byte next : ℕ) → (ltb place longest_name && fits_at place byte) ≡ t →
    cond t (Some (place + 1)) None ≡ Some next → IsByteAt place byte next
step-cases true place byte next test step =
    let parts = and-parts (ltb place longest_name) (fits_at place byte) test in
    record { small = below place parts.0; fits = parts.1; is = cc }
step-cases false place byte next test step = absurd cc

step-is : (place byte next : ℕ) → with_name_byte place byte ≡ Some next → IsByteAt place byte next
step-is place byte next step = step-cases _ place byte next refl step

-- the bytes so far, which are a name once there is one
abbrev IsBegun : List ℕ → Type 0
IsBegun [] = Unit {0}
IsBegun (first ∷ rest) = IsName (first ∷ rest)

record Holds (place : ℕ) (read : List ℕ) : Type 0 where
  counted : place ≡ length read
  begun : IsBegun read

inside : (n : ℕ) → leb n longest_name ≡ true → n ≤ longest_name
inside n small = grind (arith, nat_tests)

within : (n : ℕ) → n ≤ longest_name → leb n longest_name ≡ true
within n small = grind (arith, nat_tests)

later : (place byte : ℕ) → 0 < place → fits_at place byte ≡ is_name_byte byte
later place byte some = grind (arith, nat_tests)

fits-later : (place byte : ℕ) → 0 < place → fits_at place byte ≡ true → is_name_byte byte ≡ true
fits-later place byte some fits = sym (later place byte some) ∙ fits

name-push : (read : List ℕ) (byte : ℕ) → IsBegun read → length read < longest_name → fits_at (length read) byte ≡ true → IsBegun (read ++ byte ∷ [])
name-push [] byte begun small fits = and-true (is_ascii_lowercase byte) true fits refl
name-push (first ∷ rest) byte begun small fits =
    let n = suc (length (rest ++ byte ∷ [])) in
    let front = and-parts (leb (suc (length rest)) longest_name && is_ascii_lowercase first) (list_all is_name_byte rest) begun in
    let letter = (and-parts (leb (suc (length rest)) longest_name) (is_ascii_lowercase first) front.0).1 in
    let long : leb n longest_name ≡ true = within n (omega (arith, length-append rest (byte ∷ []))) in
    let named : list_all is_name_byte (rest ++ byte ∷ []) ≡ true =
    list_all-append is_name_byte rest (byte ∷ []) ∙ and-true _ _ front.1 (and-true (is_name_byte byte) true (fits-later _ byte (omega arith) fits) refl) in
    and-true _ _ (and-true (leb n longest_name) (is_ascii_lowercase first) long letter) named

keeps : (place : ℕ) (read : List ℕ) (byte next : ℕ) → Holds place read → with_name_byte place byte ≡ Some next → Holds next (read ++ byte ∷ [])
keeps place read byte next so_far step =
    let met = step-is place byte next step in
    record {
      counted = omega (arith, met.is, so_far.counted, length-append read (byte ∷ []));
      begun = name-push read byte so_far.begun (omega (arith, met.small, so_far.counted)) (rw (← so_far.counted) met.fits);
    }

held : (bytes : List ℕ) → IsTaken code_automaton bytes → Holds (run code_automaton bytes).0 bytes
held bytes taken = kept code_automaton Holds keeps 0 [] bytes (record { counted = refl; begun = tt }) taken

none : (place : ℕ) → ltb 0 place ≡ true → place ≡ 0 → ⊥
none place some is = grind (arith, nat_tests)

accepted : (place : ℕ) (bytes : List ℕ) → ltb 0 place ≡ true → Holds place bytes → IsName bytes
accepted place [] final holds = absurd (none place final holds.counted)
accepted place (first ∷ rest) final holds = holds.begun

lives : (place : ℕ) (bytes : List ℕ) → Holds place bytes → BeginsSome IsName bytes
lives place [] holds = (97 ∷ [], refl, (97 ∷ [], refl))
lives place (first ∷ rest) holds = (first ∷ rest, holds.begun, ([], sym (append-nil (first ∷ rest))))

above : (place : ℕ) → place < longest_name → ltb place longest_name ≡ true
above place small = grind (arith, nat_tests)

steps : (place byte : ℕ) → place < longest_name → fits_at place byte ≡ true → with_name_byte place byte ≡ Some (place + 1)
steps place byte small fits =
    let test : (ltb place longest_name && fits_at place byte) ≡ true = and-true _ _ (above place small) fits in
    rw test refl

-- behind its first byte a name goes on to its end
runs : (place : ℕ) (bytes : List ℕ) → 0 < place → place + length bytes ≤ longest_name → list_all is_name_byte bytes ≡ true →
    run_from code_automaton place bytes ≡ (place + length bytes, [])
runs place [] some small named = ap (λ n. (n, [])) (sym (add-zero place))
runs place (byte ∷ bytes) some small named =
    let parts = and-parts (is_name_byte byte) (list_all is_name_byte bytes) named in
    let step = steps place byte (omega arith) (later place byte some ∙ parts.0) in
    let rest = runs (place + 1) bytes (omega arith) (omega arith) parts.1 in
    let count : place + 1 + length bytes ≡ place + suc (length bytes) = omega arith in
    rw step (rest ∙ ap (λ n. (n, [])) count)

accepts : (bytes : List ℕ) → IsName bytes → run code_automaton bytes ≡ (length bytes, [])
accepts [] named = absurd cc
accepts (first ∷ rest) named =
    let front = and-parts (leb (suc (length rest)) longest_name && is_ascii_lowercase first) (list_all is_name_byte rest) named in
    let parts = and-parts (leb (suc (length rest)) longest_name) (is_ascii_lowercase first) front.0 in
    let step = steps 0 first (omega arith) parts.1 in
    let count : 1 + length rest ≡ suc (length rest) = omega arith in
    rw step (runs 1 rest (omega arith) (omega (arith, inside (suc (length rest)) parts.0)) front.1 ∙ ap (λ n. (n, [])) count)

some : (bytes : List ℕ) → IsName bytes → 0 < length bytes
some [] named = absurd cc
some (first ∷ rest) named = omega arith

pub code-spells : Spells code_automaton IsName
code-spells = record {
  accepts = λ bytes named. record { all = rw (accepts bytes named) refl; final = rw (accepts bytes named) (ltb-some (length bytes) (some bytes named)) };
  accepted = λ bytes a. accepted (run code_automaton bytes).0 bytes a.final (held bytes a.all);
  lives = λ bytes taken. lives (run code_automaton bytes).0 bytes (held bytes taken);
}

-- ---- reads

pub record CodeStop (before after : List ℕ) (len : ℕ) : Type 0 where
  pub front : List ℕ
  pub parts : before ≡ front ++ after
  pub counted : len ≡ length front
  pub taken_is : take len before ≡ front
  pub begun : IsBegun front

-- the code so far stands at the front
pub code-stop : (before after : List ℕ) (len : ℕ) → run code_automaton before ≡ (len, after) → CodeStop before after len
code-stop before after len stops =
    let t = taken code_automaton 0 before in
    let h = held t.front (ap (λ (s : ℕ × List ℕ). s.1) t.ends) in
    let same : (run code_automaton t.front).0 ≡ len = ap (λ (s : ℕ × List ℕ). s.0) t.ends ∙ ap (λ (s : ℕ × List ℕ). s.0) stops in
    let parts : before ≡ t.front ++ after = t.parts ∙ ap (λ (s : ℕ × List ℕ). t.front ++ s.1) stops in
    let counted : len ≡ length t.front = sym same ∙ h.counted in
    let taken_is : take len before ≡ t.front =
    ap (λ n. take n before) counted ∙ front-take t.front after before parts in
    record { front = t.front; parts = parts; counted = counted; taken_is = taken_is; begun = h.begun }

pub code-missed : (before after : List ℕ) (len : ℕ) → run code_automaton before ≡ (len, after) → ¬ (IsName (take len before)) →
    Reads code_automaton (λ (code : List ℕ). code) before None before
code-missed before after len stops unnamed = by s.front s.parts s.counted s.taken_is s.begun
  where
    s : CodeStop before after len
    s = code-stop before after len stops

    by : (front : List ℕ) → before ≡ front ++ after → len ≡ length front → take len before ≡ front → IsBegun front →
        Reads code_automaton (λ (code : List ℕ). code) before None before
    by [] parts counted taken_is begun =
        let whole : run code_automaton before ≡ (0, before) = stops ∙ (λ i. (counted i, sym parts i)) in
        record { stopped = rw whole refl; whole = rw whole refl; spelled = tt }
    by (first ∷ rest) parts counted taken_is begun = absurd (unnamed (rw taken_is begun))

pub code-read : (before after : List ℕ) (len : ℕ) (code : List ℕ) → run code_automaton before ≡ (len, after) → IsName (take len before) →
    code ≡ take len before → Reads code_automaton (λ (code : List ℕ). code) before (Some code) after
code-read before after len code stops named same =
    let s = code-stop before after len stops in
    let there : 0 < len = omega (arith, some (take len before) named, ap length s.taken_is, s.counted) in
    record {
      stopped = rw stops refl;
      whole = rw stops (ltb-some len there);
      spelled = s.parts ∙ ap (λ xs. xs ++ after) (sym s.taken_is ∙ sym same);
    }
