-- What an automaton takes of a text, and which texts it spells.
use Rattle.std.proofs.Common.{◌≡◌, ℕ, zero, suc, ◌+◌, ◌-◌, ◌≤◌, Bool, true, false, Option, Some, None, ◌&&◌, eqb, List, [], ◌∷◌, ◌++◌, length, take, refl, ap, sym, ◌∙◌, subst, arith, append_assoc, append-nil, length-append}
use Rattle.std.proofs.lemmas.Bool.Decides.{nat_tests}
use Rattle.std.proofs.lemmas.Bool.{false≢true}
use Rattle.std.proofs.lemmas.List.{take-append-le, take_all}
use Rattle.std.specs.Option.{option_map_or}
use Rattle.fb_index.specs.Automaton.{Automaton, run, run_from}
use Rattle.fb_index.specs.Refusal.{BeginsSome, IsRefusedAt}

module _ {Q : Type 0} (m : Automaton Q) where
  -- ---- one step

  abbrev onward : Option Q → Q → ℕ → List ℕ → Q × List ℕ
  onward o q b bs = option_map_or (λ next. run_from m next bs) o (q, b ∷ bs)

  append-onward : (o : Option Q) (q : Q) (b : ℕ) (bs more : List ℕ) →
      ((next : Q) → (run_from m next bs).1 ≡ [] → run_from m next (bs ++ more) ≡ run_from m (run_from m next bs).0 more) →
      (onward o q b bs).1 ≡ [] → onward o q b (bs ++ more) ≡ run_from m (onward o q b bs).0 more
  append-onward None q b bs more rest taken = absurd cc
  append-onward (Some next) q b bs more rest taken = rest next taken

  -- what takes a front goes on behind it
  pub run_from-append : (q : Q) (bytes more : List ℕ) → (run_from m q bytes).1 ≡ [] →
      run_from m q (bytes ++ more) ≡ run_from m (run_from m q bytes).0 more
  run_from-append q [] more taken = refl
  run_from-append q (b ∷ bs) more taken =
      append-onward (m.step q b) q b bs more (λ next. run_from-append next bs more) taken

  front-onward : (o : Option Q) (q : Q) (b : ℕ) (bs more : List ℕ) →
      ((next : Q) → (run_from m next (bs ++ more)).1 ≡ [] → (run_from m next bs).1 ≡ []) →
      (onward o q b (bs ++ more)).1 ≡ [] → (onward o q b bs).1 ≡ []
  front-onward None q b bs more rest taken = absurd cc
  front-onward (Some next) q b bs more rest taken = rest next taken

  -- what takes all takes each front
  pub run_from-front : (q : Q) (bytes more : List ℕ) → (run_from m q (bytes ++ more)).1 ≡ [] → (run_from m q bytes).1 ≡ []
  run_from-front q [] more taken = refl
  run_from-front q (b ∷ bs) more taken =
      front-onward (m.step q b) q b bs more (λ next. run_from-front next bs more) taken

  -- the front that is taken
  pub record Taken (q : Q) (bytes : List ℕ) (stop : Q × List ℕ) : Type 0 where
    pub front : List ℕ
    pub parts : bytes ≡ front ++ stop.1
    pub ends : run_from m q front ≡ (stop.0, [])

  taken-onward : (o : Option Q) (q : Q) (b : ℕ) (bs : List ℕ) → m.step q b ≡ o →
      ((next : Q) → Taken next bs (run_from m next bs)) → Taken q (b ∷ bs) (onward o q b bs)
  taken-onward None q b bs is rest = record { front = []; parts = refl; ends = refl }
  taken-onward (Some next) q b bs is rest =
      let t = rest next in
      record { front = b ∷ t.front; parts = ap (λ xs. b ∷ xs) t.parts; ends = rw is t.ends }

  pub taken : (q : Q) (bytes : List ℕ) → Taken q bytes (run_from m q bytes)
  taken q [] = record { front = []; parts = refl; ends = refl }
  taken q (b ∷ bs) = taken-onward (m.step q b) q b bs refl (λ next. taken next bs)

  stuck-onward : (o : Option Q) (q end : Q) (b c : ℕ) (bs rest : List ℕ) → m.step q b ≡ o →
      ((next : Q) → run_from m next bs ≡ (end, c ∷ rest) → m.step end c ≡ None) →
      onward o q b bs ≡ (end, c ∷ rest) → m.step end c ≡ None
  stuck-onward None q end b c bs rest is go stops =
      let left : b ∷ bs ≡ c ∷ rest = ap (λ (s : Q × List ℕ). s.1) stops in
      let state : q ≡ end = ap (λ (s : Q × List ℕ). s.0) stops in
      cc
  stuck-onward (Some next) q end b c bs rest is go stops = go next stops

  -- it stops where no state follows
  pub stuck : (q end : Q) (c : ℕ) (bytes rest : List ℕ) → run_from m q bytes ≡ (end, c ∷ rest) → m.step end c ≡ None
  stuck q end c [] rest stops =
      let left : [] ≡ c ∷ rest = ap (λ (s : Q × List ℕ). s.1) stops in
      absurd cc
  stuck q end c (b ∷ bs) rest stops =
      stuck-onward (m.step q b) q end b c bs rest refl (λ next. stuck next end c bs rest) stops

  longest-onward : (o : Option Q) (q : Q) (b n : ℕ) (bs : List ℕ) →
      ((next : Q) → (run_from m next (take n bs)).1 ≡ [] → n + length (run_from m next bs).1 ≤ length bs) →
      (onward o q b (take n bs)).1 ≡ [] → suc n + length (onward o q b bs).1 ≤ suc (length bs)
  longest-onward None q b n bs rest taken = absurd cc
  longest-onward (Some next) q b n bs rest taken = omega (arith, rest next taken)

  -- no longer front is taken
  pub longest : (q : Q) (n : ℕ) (bytes : List ℕ) → n ≤ length bytes → (run_from m q (take n bytes)).1 ≡ [] →
      n + length (run_from m q bytes).1 ≤ length bytes
  longest q zero bytes within all =
      let t = taken q bytes in
      let size : length bytes ≡ length t.front + length (run_from m q bytes).1 = ap length t.parts ∙ length-append _ _ in
      omega arith
  longest q (suc n) [] within all = absurd (omega arith)
  longest q (suc n) (b ∷ bs) within all =
      longest-onward (m.step q b) q b n bs (λ next. longest next n bs (omega arith)) all

-- ---- from one automaton to another

module _ {P Q : Type 0} (m : Automaton P) (n : Automaton Q) (f : P → Q)
    (follows : (p : P) (b : ℕ) (next : P) → m.step p b ≡ Some next → n.step (f p) b ≡ Some (f next)) where
  lift-onward : (o : Option P) (p : P) (b : ℕ) (bs : List ℕ) → m.step p b ≡ o →
      ((next : P) → run_from n (f next) bs ≡ run_from n (f (run_from m next bs).0) (run_from m next bs).1) →
      run_from n (f p) (b ∷ bs) ≡ run_from n (f (onward m o p b bs).0) (onward m o p b bs).1
  lift-onward None p b bs is rest = refl
  lift-onward (Some next) p b bs is rest = rw (follows p b next is) (rest next)

  -- an automaton that follows another takes what that one takes, and maybe more behind it
  pub run_from-lift : (p : P) (bytes : List ℕ) →
      run_from n (f p) bytes ≡ run_from n (f (run_from m p bytes).0) (run_from m p bytes).1
  run_from-lift p [] = refl
  run_from-lift p (b ∷ bs) = lift-onward (m.step p b) p b bs refl (λ next. run_from-lift next bs)

-- what each step keeps of the bytes so far holds of all that is taken
module _ {Q : Type 0} (m : Automaton Q) (Holds : Q → List ℕ → Type 0)
    (keeps : (q : Q) (read : List ℕ) (b : ℕ) (next : Q) → Holds q read → m.step q b ≡ Some next → Holds next (read ++ b ∷ [])) where
  kept-onward : (o : Option Q) (q : Q) (read : List ℕ) (b : ℕ) (bs : List ℕ) → m.step q b ≡ o → Holds q read →
      ((next : Q) (more : List ℕ) → Holds next more → (run_from m next bs).1 ≡ [] → Holds (run_from m next bs).0 (more ++ bs)) →
      (onward m o q b bs).1 ≡ [] → Holds (onward m o q b bs).0 (read ++ b ∷ bs)
  kept-onward None q read b bs is holds rest taken = absurd cc
  kept-onward (Some next) q read b bs is holds rest taken =
      subst (Holds (run_from m next bs).0) (append_assoc read (b ∷ []) bs)
      (rest next (read ++ b ∷ []) (keeps q read b next holds is) taken)

  pub kept : (q : Q) (read bytes : List ℕ) → Holds q read → (run_from m q bytes).1 ≡ [] → Holds (run_from m q bytes).0 (read ++ bytes)
  kept q read [] holds taken = subst (Holds q) (sym (append-nil read)) holds
  kept q read (b ∷ bs) holds taken =
      kept-onward (m.step q b) q read b bs refl holds (λ next more. kept next more bs) taken

-- ---- which texts are spelled

-- the automaton takes all of these bytes
abbrev pub IsTaken : {Q : Type 0} → Automaton Q → List ℕ → Type 0
IsTaken m bytes = (run m bytes).1 ≡ []

pub record Accepts {Q : Type 0} (m : Automaton Q) (bytes : List ℕ) : Type 0 where
  pub all : IsTaken m bytes
  pub final : m.is_final (run m bytes).0 ≡ true

-- it accepts exactly these texts, and takes only what begins one
pub record Spells {Q : Type 0} (m : Automaton Q) (IsText : List ℕ → Type 0) : Type 0 where
  pub accepts : (bytes : List ℕ) → IsText bytes → Accepts m bytes
  pub accepted : (bytes : List ℕ) → Accepts m bytes → IsText bytes
  pub lives : (bytes : List ℕ) → IsTaken m bytes → BeginsSome IsText bytes

pub front-take : (front rest bytes : List ℕ) → bytes ≡ front ++ rest → take (length front) bytes ≡ front
front-take front rest bytes parts = rw (parts, take-append-le (length front) front rest (omega arith)) (take_all _ _ (omega arith))

-- one more byte
pub run-push : {Q : Type 0} (m : Automaton Q) (read : List ℕ) (b : ℕ) (q next : Q) → run m read ≡ (q, []) → m.step q b ≡ Some next →
    run m (read ++ b ∷ []) ≡ (next, [])
run-push m read b q next so_far step =
    let taken = ap (λ (s : _ × List ℕ). s.1) so_far in
    run_from-append m m.start read (b ∷ []) taken ∙ rw (so_far, step) refl

module _ {Q : Type 0} (m : Automaton Q) (IsText : List ℕ → Type 0) (spells : Spells m IsText) where
  pub begins-taken : (bytes : List ℕ) → BeginsSome IsText bytes → IsTaken m bytes
  begins-taken bytes (text, is_text, (rest, parts)) =
      run_from-front m m.start bytes rest (rw (← parts) (spells.accepts text is_text).all)

  -- what is no text is refused where the automaton stops
  pub refused : (bytes : List ℕ) → ¬ (IsText bytes) →
      IsRefusedAt IsText bytes (length bytes - length (run m bytes).1)
  refused bytes other = record {
    no_text = other;
    within = omega arith;
    begins = rw front_is (spells.lives t.front (ap (λ (s : Q × List ℕ). s.1) t.ends));
    longest = λ n within some.
        let fits = longest m m.start n bytes within (begins-taken (take n bytes) some) in
        omega arith;
  }
    where
      t : Taken m m.start bytes (run m bytes)
      t = taken m m.start bytes

      front_is : take (length bytes - length (run m bytes).1) bytes ≡ t.front
      front_is =
          let size : length bytes ≡ length t.front + length (run m bytes).1 = ap length t.parts ∙ length-append _ _ in
          let k : length bytes - length (run m bytes).1 ≡ length t.front = omega arith in
          rw k (front-take t.front (run m bytes).1 bytes t.parts)

  -- where the automaton stops short, or in a state that is not final, the bytes are no text
  pub no_text : (bytes rest : List ℕ) → (run m bytes).1 ≡ rest → (rest ≡ [] → m.is_final (run m bytes).0 ≡ false) → ¬ (IsText bytes)
  no_text bytes rest stops short is_text =
      let a = spells.accepts bytes is_text in
      let open_end : m.is_final (run m bytes).0 ≡ false = short (sym stops ∙ a.all) in
      absurd (false≢true (sym open_end ∙ a.final))

-- ---- signs

-- no state follows on this sign
abbrev pub IsSilent : {Q : Type 0} → Automaton Q → ℕ → Type 0
IsSilent {Q} m sign = (q : Q) → m.step q sign ≡ None

pub both-true : (b sign : ℕ) (final : Bool) → (eqb b sign && final) ≡ true → (b ≡ sign) × (final ≡ true)
both-true b sign final h = grind (arith, nat_tests)

pub Some-same : {A : Type 0} (Holds : A → List ℕ → Type 0) (read : List ℕ) (a b : A) → Some a ≡ Some b → Holds a read → Holds b read
Some-same {A} Holds read a b same holds =
    let alike : a ≡ b = cc in
    subst (λ (x : A). Holds x read) alike holds
