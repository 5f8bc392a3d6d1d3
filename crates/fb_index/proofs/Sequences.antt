-- Two texts with a sign between them.
use Rattle.std.proofs.Common.{◌≡◌, ◌≢◌, is_some, IfSome, ℕ, Bool, true, false, Option, Some, None, List, [], ◌∷◌, ◌++◌, ◌⊎◌, inl, inr, ◌&&◌, eqb, cond, refl, ap, sym, ◌∙◌, arith, append_assoc}
use Rattle.std.specs.Option.{option_map, option_or}
use Rattle.std.proofs.lemmas.Bool.Decides.{nat_tests}
use Rattle.fb_index.specs.Automaton.{Automaton, Reads, run, run_from, sequence}
use Rattle.fb_index.specs.Refusal.{BeginsSome}
use Rattle.fb_index.proofs.Bools.{eqb-itself}
use Rattle.fb_index.proofs.Automata.{run_from-append, run_from-lift, stuck, run-push, kept, IsTaken, Accepts, Spells, IsSilent, both-true, Some-same}

-- one text, the sign, and another
pub record IsSequence (IsFirst IsSecond : List ℕ → Type 0) (sign : ℕ) (bytes : List ℕ) : Type 0 where
  pub first : List ℕ
  pub second : List ℕ
  pub is_first : IsFirst first
  pub is_second : IsSecond second
  pub parts : bytes ≡ first ++ sign ∷ second

module _ {P Q : Type 0} (m : Automaton P) (sign : ℕ) (n : Automaton Q) (silent : IsSilent m sign) where
  abbrev both : Automaton (P ⊎ Q)
  both = sequence m sign n

  follows-first : (p : P) (b : ℕ) (next : P) → m.step p b ≡ Some next → both.step (inl p) b ≡ Some (inl next)
  follows-first p b next is = rw is refl

  follows-second : (q : Q) (b : ℕ) (next : Q) → n.step q b ≡ Some next → both.step (inr q) b ≡ Some (inr next)
  follows-second q b next is = rw is refl

  -- behind a whole first text the sign leads to the second
  crossed : (p : P) → m.is_final p ≡ true → both.step (inl p) sign ≡ Some (inr n.start)
  crossed p final = rw (silent p, eqb-itself sign, final) refl

  pub run-first : (p : P) (bytes : List ℕ) →
      run_from both (inl p) bytes ≡ run_from both (inl (run_from m p bytes).0) (run_from m p bytes).1
  run-first = run_from-lift m both inl follows-first

  pub run-second : (q : Q) (bytes : List ℕ) →
      run_from both (inr q) bytes ≡ run_from both (inr (run_from n q bytes).0) (run_from n q bytes).1
  run-second = run_from-lift n both inr follows-second

  -- the second text begins behind the sign
  pub run-crossed : (p : P) (bytes : List ℕ) → m.is_final p ≡ true → run_from both (inl p) (sign ∷ bytes) ≡ run_from both (inr n.start) bytes
  run-crossed p bytes final = rw (crossed p final) refl

  module _ (IsFirst IsSecond : List ℕ → Type 0) (first : Spells m IsFirst) (second : Spells n IsSecond) where
    abbrev Holds : P ⊎ Q → List ℕ → Type 0
    Holds (inl p) read = run m read ≡ (p, [])
    Holds (inr q) read = IsSequence IsFirst (λ more. run n more ≡ (q, [])) sign read

    keeps-sign : (t : Bool) (p : P) (read : List ℕ) (b : ℕ) (next : P ⊎ Q) → (eqb b sign && m.is_final p) ≡ t → run m read ≡ (p, []) →
        cond t (Some (inr n.start)) None ≡ Some next → Holds next (read ++ b ∷ [])
    keeps-sign true p read b next is so_far step =
        let met = both-true b sign (m.is_final p) is in
        let final : m.is_final (run m read).0 ≡ true = rw so_far met.1 in
        let whole : Accepts m read = record { all = ap (λ (s : P × List ℕ). s.1) so_far; final = final } in
        let found : IsSequence IsFirst (λ more. run n more ≡ (n.start, [])) sign (read ++ b ∷ []) =
        record { first = read; second = []; is_first = first.accepted read whole; is_second = refl; parts = ap (λ c. read ++ c ∷ []) met.0 } in
        Some-same Holds _ (inr n.start) next step found
    keeps-sign false p read b next is so_far step = absurd cc

    keeps-first : (o : Option P) (p : P) (read : List ℕ) (b : ℕ) (next : P ⊎ Q) → m.step p b ≡ o → run m read ≡ (p, []) →
        option_or (option_map inl o) (cond (eqb b sign && m.is_final p) (Some (inr n.start)) None) ≡ Some next → Holds next (read ++ b ∷ [])
    keeps-first None p read b next is so_far step = keeps-sign _ p read b next refl so_far step
    keeps-first (Some more) p read b next is so_far step =
        Some-same Holds _ (inl more) next step (run-push m read b p more so_far is)

    keeps-second : (o : Option Q) (q : Q) (read : List ℕ) (b : ℕ) (next : P ⊎ Q) → n.step q b ≡ o → Holds (inr q) read →
        option_map inr o ≡ Some next → Holds next (read ++ b ∷ [])
    keeps-second None q read b next is so_far step = absurd cc
    keeps-second (Some more) q read b next is so_far step =
        let longer : read ++ b ∷ [] ≡ so_far.first ++ sign ∷ (so_far.second ++ b ∷ []) =
        ap (λ xs. xs ++ b ∷ []) so_far.parts ∙ append_assoc so_far.first (sign ∷ so_far.second) (b ∷ []) in
        let found : IsSequence IsFirst (λ more'. run n more' ≡ (more, [])) sign (read ++ b ∷ []) =
        record {
          first = so_far.first;
          second = so_far.second ++ b ∷ [];
          is_first = so_far.is_first;
          is_second = run-push n so_far.second b q more so_far.is_second is;
          parts = longer;
        } in
        Some-same Holds _ (inr more) next step found

    keeps : (s : P ⊎ Q) (read : List ℕ) (b : ℕ) (next : P ⊎ Q) → Holds s read → both.step s b ≡ Some next → Holds next (read ++ b ∷ [])
    keeps (inl p) read b next so_far step = keeps-first _ p read b next refl so_far step
    keeps (inr q) read b next so_far step = keeps-second _ q read b next refl so_far step

    held : (bytes : List ℕ) → IsTaken both bytes → Holds (run both bytes).0 bytes
    held bytes taken = kept both Holds keeps (inl m.start) [] bytes refl taken

    sequence-accepts : (bytes : List ℕ) → IsSequence IsFirst IsSecond sign bytes → Accepts both bytes
    sequence-accepts bytes s =
        let a = first.accepts s.first s.is_first in
        let c = second.accepts s.second s.is_second in
        let p = (run m s.first).0 in
        let opening : run both s.first ≡ (inl p, []) = run-first m.start s.first ∙ rw a.all refl in
        let ending : run_from both (inr n.start) s.second ≡ (inr (run n s.second).0, []) = run-second n.start s.second ∙ rw c.all refl in
        let taken : (run both s.first).1 ≡ [] = rw opening refl in
        let whole : run both bytes ≡ (inr (run n s.second).0, []) =
        rw (s.parts, run_from-append both (inl m.start) s.first (sign ∷ s.second) taken, opening, run-crossed p s.second a.final) ending in
        record { all = rw whole refl; final = rw whole c.final }

    sequence-accepted : (s : P ⊎ Q) (bytes : List ℕ) → both.is_final s ≡ true → Holds s bytes → IsSequence IsFirst IsSecond sign bytes
    sequence-accepted (inl p) bytes final holds = absurd cc
    sequence-accepted (inr q) bytes final holds =
        let whole : Accepts n holds.second = record { all = rw holds.is_second refl; final = rw holds.is_second final } in
        record {
          first = holds.first;
          second = holds.second;
          is_first = holds.is_first;
          is_second = second.accepted holds.second whole;
          parts = holds.parts;
        }

    sequence-lives : (s : P ⊎ Q) (bytes : List ℕ) → Holds s bytes → BeginsSome (IsSequence IsFirst IsSecond sign) bytes
    sequence-lives (inl p) bytes holds =
        let opening : BeginsSome IsFirst bytes = first.lives bytes (rw holds refl) in
        let ending : BeginsSome IsSecond [] = second.lives [] refl in
        let text = opening.0 ++ sign ∷ ending.0 in (
          text,
          record { first = opening.0; second = ending.0; is_first = opening.1; is_second = ending.1; parts = refl },
          (opening.2.0 ++ sign ∷ ending.0, ap (λ xs. xs ++ sign ∷ ending.0) opening.2.1 ∙ append_assoc bytes opening.2.0 (sign ∷ ending.0)),
        )
    sequence-lives (inr q) bytes holds =
        let ending : BeginsSome IsSecond holds.second = second.lives holds.second (rw holds.is_second refl) in
        let text = holds.first ++ sign ∷ ending.0 in
        let parts : text ≡ bytes ++ ending.2.0 =
        ap (λ xs. holds.first ++ sign ∷ xs) ending.2.1 ∙ sym (append_assoc holds.first (sign ∷ holds.second) ending.2.0)
        ∙ ap (λ xs. xs ++ ending.2.0) (sym holds.parts) in (
          text,
          record { first = holds.first; second = ending.0; is_first = holds.is_first; is_second = ending.1; parts = refl },
          (ending.2.0, parts),
        )

    pub sequence-spells : Spells both (IsSequence IsFirst IsSecond sign)
    sequence-spells = record {
      accepts = sequence-accepts;
      accepted = λ bytes a. sequence-accepted (run both bytes).0 bytes a.final (held bytes a.all);
      lives = λ bytes taken. sequence-lives (run both bytes).0 bytes (held bytes taken);
    }

  -- ---- reads

  no-sign : (c : ℕ) (final : Bool) → (final ≡ false) ⊎ (c ≢ sign) → (eqb c sign && final) ≡ false
  no-sign c final (inl open_end) = grind (arith, nat_tests)
  no-sign c final (inr other) = grind (arith, nat_tests)

  stops-in-first : (p : P) (c : ℕ) → m.step p c ≡ None → (m.is_final p ≡ false) ⊎ (c ≢ sign) → both.step (inl p) c ≡ None
  stops-in-first p c stuck_at missed = rw (stuck_at, no-sign c (m.is_final p) missed) refl

  -- a text that stops in its first part, or behind it
  stays : (before after : List ℕ) (p : P) → run m before ≡ (p, after) → ((rest : List ℕ) (c : ℕ) → after ≡ c ∷ rest → (m.is_final p ≡ false) ⊎ (c ≢ sign)) →
      run both before ≡ (inl p, after)
  stays before [] p stops missed = run-first m.start before ∙ rw stops refl
  stays before (c ∷ rest) p stops missed =
      let next = stops-in-first p c (stuck m m.start p c before rest stops) (missed rest c refl) in
      run-first m.start before ∙ rw (stops, next) refl

  ends : (bytes after : List ℕ) (q : Q) → run n bytes ≡ (q, after) → run_from both (inr n.start) bytes ≡ (inr q, after)
  ends bytes [] q stops = run-second n.start bytes ∙ rw stops refl
  ends bytes (c ∷ rest) q stops =
      let next = stuck n n.start q c bytes rest stops in
      run-second n.start bytes ∙ rw (stops, next) refl

  module _ {X Z : Type 0} (first : X → List ℕ) (text : Z → List ℕ) (before : List ℕ) where
    pub missed-first : (after : List ℕ) → Reads m first before None after → Reads both text before None after
    missed-first after r =
        let p = (run m before).0 in
        let stops : run m before ≡ (p, after) = ap (λ xs. (p, xs)) r.stopped in
        let whole = stays before after p stops (λ rest c same. inl r.whole) in
        record { stopped = rw whole refl; whole = rw whole refl; spelled = tt }

    pub missed-sign : (middle after : List ℕ) (x : X) → Reads m first before (Some x) middle →
        (after ≡ middle) × ((rest : List ℕ) → middle ≢ sign ∷ rest) → Reads both text before None after
    missed-sign middle after x r (same, other) =
        let p = (run m before).0 in
        let stops : run m before ≡ (p, middle) = ap (λ xs. (p, xs)) r.stopped in
        let whole = stays before middle p stops (λ rest c is. inr (λ too. other rest (is ∙ ap (λ b. b ∷ rest) too))) in
        record { stopped = rw whole (sym same); whole = rw whole refl; spelled = tt }

    pub read-both : {Y : Type 0} (second : Y → List ℕ) (middle rest after : List ℕ) (x : X) (y : Option Y) (z : Option Z) →
        Reads m first before (Some x) middle → middle ≡ sign ∷ rest → Reads n second rest y after → is_some y ≡ is_some z →
        IfSome z (λ found. before ≡ text found ++ after) → Reads both text before z after
    read-both second middle rest after x y z r met s same spelled =
        let p = (run m before).0 in
        let stops : run m before ≡ (p, sign ∷ rest) = ap (λ xs. (p, xs)) (r.stopped ∙ met) in
        let q = (run n rest).0 in
        let ending : run n rest ≡ (q, after) = ap (λ xs. (q, xs)) s.stopped in
        let whole : run both before ≡ (inr q, after) =
        run-first m.start before ∙ rw (stops, run-crossed p rest r.whole) (ends rest after q ending) in
        record { stopped = rw whole refl; whole = rw whole (s.whole ∙ same); spelled = spelled }

-- both parts and the sign between them, in front of what follows
pub parts-both : (sign : ℕ) (before middle rest after first second : List ℕ) → before ≡ first ++ middle → middle ≡ sign ∷ rest →
    rest ≡ second ++ after → before ≡ (first ++ sign ∷ second) ++ after
parts-both sign before middle rest after first second starts met ends =
    starts ∙ ap (λ xs. first ++ xs) (met ∙ ap (λ xs. sign ∷ xs) ends) ∙ sym (append_assoc first (sign ∷ second) after)
