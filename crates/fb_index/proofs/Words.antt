-- One fixed word.
use Rattle.std.proofs.Common.{◌≡◌, ◌≢◌, ◌<◌, ◌≤◌, length, get_or, ℕ, Bool, true, false, Some, None, List, [], ◌∷◌, ◌++◌, eqb, cond, refl, ap, sym, ◌∙◌, subst, arith, append_assoc, append-nil}
use Rattle.std.proofs.lemmas.Bool.Decides.{nat_tests}
use Rattle.fb_index.specs.Automaton.{Reads, run, run_from}
use Rattle.fb_index.specs.Reading.{is_nothing, word_step, word_automaton}
use Rattle.fb_index.proofs.Bools.{eqb-itself, eqb-differs}
use Rattle.fb_index.proofs.Automata.{taken, kept, IsTaken, Spells}

module _ (word : List ℕ) where
  runs : (rest : List ℕ) → run_from (word_automaton word) rest rest ≡ ([], [])
  runs [] = refl
  runs (next ∷ rest) = rw (eqb-itself next) (runs rest)

  -- the bytes so far, and those to come
  abbrev Holds : List ℕ → List ℕ → Type 0
  Holds rest read = word ≡ read ++ rest

  keeps-byte : (t : Bool) (b c : ℕ) (rest read next : List ℕ) → eqb b c ≡ t → Holds (c ∷ rest) read → cond t (Some rest) None ≡ Some next →
      Holds next (read ++ b ∷ [])
  keeps-byte true b c rest read next test so_far step =
      let same : c ≡ b = grind (arith, nat_tests) in
      let longer : word ≡ (read ++ b ∷ []) ++ rest =
      so_far ∙ ap (λ d. read ++ d ∷ rest) same ∙ sym (append_assoc read (b ∷ []) rest) in
      let alike : rest ≡ next = cc in
      subst (λ (xs : List ℕ). Holds xs (read ++ b ∷ [])) alike longer
  keeps-byte false b c rest read next test so_far step = absurd cc

  keeps : (rest read : List ℕ) (b : ℕ) (next : List ℕ) → Holds rest read → word_step rest b ≡ Some next → Holds next (read ++ b ∷ [])
  keeps [] read b next so_far step = absurd cc
  keeps (c ∷ rest) read b next so_far step = keeps-byte _ b c rest read next refl so_far step

  held : (bytes : List ℕ) → IsTaken (word_automaton word) bytes → Holds (run (word_automaton word) bytes).0 bytes
  held bytes taken = kept (word_automaton word) Holds keeps word [] bytes refl taken

  accepted : (rest bytes : List ℕ) → is_nothing rest ≡ true → Holds rest bytes → bytes ≡ word
  accepted [] bytes final holds = sym (holds ∙ append-nil bytes)
  accepted (c ∷ rest) bytes final holds = absurd cc

  pub word-spells : Spells (word_automaton word) (λ bytes. bytes ≡ word)
  word-spells = record {
    accepts = λ bytes same. record { all = rw (same, runs word) refl; final = rw (same, runs word) refl };
    accepted = λ bytes a. accepted (run (word_automaton word) bytes).0 bytes a.final (held bytes a.all);
    lives = λ bytes taken. (word, refl, ((run (word_automaton word) bytes).0, held bytes taken));
  }

-- ---- reads, from what is still to come of the word

abbrev IsStopped : List ℕ × List ℕ → List ℕ → Bool → Type 0
IsStopped stop after whole = (stop.1 ≡ after) × (is_nothing stop.0 ≡ whole)

pub word-missed : (word rest left after : List ℕ) (stop : List ℕ × List ℕ) → 1 ≤ length rest →
    (after ≡ left) × ((more : List ℕ) → left ≢ get_or rest 0 0 ∷ more) → run_from (word_automaton word) rest left ≡ stop → IsStopped stop after false
word-missed word [] left after stop some missed is = absurd (omega arith)
word-missed word (next ∷ rest) [] after stop some (same, other) is = rw (← is, same) (refl, refl)
word-missed word (next ∷ rest) (b ∷ left) after stop some (same, other) is =
    let test = eqb-differs b next (λ alike. other left (ap (λ c. c ∷ left) alike)) in
    let here : run_from (word_automaton word) (next ∷ rest) (b ∷ left) ≡ (next ∷ rest, b ∷ left) = rw test refl in
    rw (← is, here, same) (refl, refl)

pub word-read : (word rest left : List ℕ) (stop : List ℕ × List ℕ) → length rest < 1 →
    run_from (word_automaton word) rest left ≡ stop → IsStopped stop left true
word-read word [] [] stop all is = rw (← is) (refl, refl)
word-read word [] (b ∷ left) stop all is = rw (← is) (refl, refl)
word-read word (next ∷ rest) left stop all is = absurd (omega arith)

-- what is whole begins with the word
held-any : (word before after : List ℕ) → is_nothing (run (word_automaton word) before).0 ≡ true →
    (run (word_automaton word) before).1 ≡ after → before ≡ word ++ after
held-any word before after whole stopped =
    let t = taken (word_automaton word) word before in
    let state = ap (λ (s : List ℕ × List ℕ). s.0) t.ends in
    let final : is_nothing (run (word_automaton word) t.front).0 ≡ true = rw state whole in
    let front : t.front ≡ word = (word-spells word).accepted t.front (record { all = ap (λ (s : List ℕ × List ℕ). s.1) t.ends; final = final }) in
    t.parts ∙ (λ i. front i ++ stopped i)

-- the one item that this word spells
pub word-reads : {Item : Type 0} (text : Item → List ℕ) (word before after : List ℕ) (item : Item) → text item ≡ word →
    IsStopped (run (word_automaton word) before) after true → Reads (word_automaton word) text before (Some item) after
word-reads text word before after item spells (stopped, whole) =
    let h = held-any word before after whole stopped in
    record { stopped = stopped; whole = whole; spelled = h ∙ ap (λ xs. xs ++ after) (sym spells) }
