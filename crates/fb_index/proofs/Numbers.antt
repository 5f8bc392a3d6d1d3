-- Numbers, digit by digit.
use Rattle.std.proofs.Common.{◌≡◌, ℕ, zero, suc, ◌+◌, ◌-◌, ◌*◌, ◌/◌, ◌%◌, ◌^◌, ◌<◌, ◌≤◌, Bool, true, false, Some, None, List, [], ◌∷◌, ◌++◌, ◌&&◌, ltb, cond, refl, ap, sym, ◌∙◌, arith, append-nil}
use Rattle.std.specs.Fmt.{decimal}
use Rattle.std.specs.Char.{is_ascii_digit}
use Rattle.std.proofs.lemmas.Bool.Decides.{nat_tests}
use Rattle.std.proofs.lemmas.Fmt.{decimal_digit, decimal_step, decimal_by_steps}
use Rattle.fb_index.specs.Automaton.{run, Reads}
use Rattle.fb_index.specs.Entry.{IsNumber}
use Rattle.fb_index.specs.Reading.{with_digit, number_automaton}
use Rattle.fb_index.specs.Refusal.{BeginsSome, IsTextOf}
use Rattle.fb_index.proofs.Bools.{ltb-some}
use Rattle.fb_index.proofs.Automata.{taken, run-push, kept, IsTaken, Spells}

digit-some : (n b next : ℕ) → 48 ≤ b → b < 58 → next ≡ n * 10 + (b - 48) → 0 < next → next < 2 ^ 32 → with_digit n b ≡ Some next
digit-some n b next low high is some small = grind (arith, nat_tests)

-- what a step with a digit tells
record IsDigitOf (n b next : ℕ) : Type 0 where
  low : 48 ≤ b
  high : b < 58
  is : next ≡ n * 10 + (b - 48)
  number : IsNumber next

digit-cases : (n b next : ℕ) (t : Bool) → (is_ascii_digit b && ltb 0 (n * 10 + (b - 48)) && ltb (n * 10 + (b - 48)) (2 ^ 32)) ≡ t →
    cond t (Some (n * 10 + (b - 48))) None ≡ Some next → IsDigitOf n b next
digit-cases n b next true test step =
    let is : next ≡ n * 10 + (b - 48) = cc in
    let some : 0 < n * 10 + (b - 48) = grind (arith, nat_tests) in
    let small : n * 10 + (b - 48) < 2 ^ 32 = grind (arith, nat_tests) in
    record { low = grind (arith, nat_tests); high = grind (arith, nat_tests); is = is; number = rw is (some, small) }
digit-cases n b next false test step = absurd cc

digit-is : (n b next : ℕ) → with_digit n b ≡ Some next → IsDigitOf n b next
digit-is n b next step = digit-cases n b next _ refl step

-- the digits so far; 0 has none
abbrev digits : ℕ → List ℕ
digits zero = []
digits (suc n) = decimal (suc n)

digits-some : (n : ℕ) → 1 ≤ n → digits n ≡ decimal n
digits-some zero some = absurd (omega arith)
digits-some (suc n) some = refl

digits-push : (n b next : ℕ) → IsDigitOf n b next → digits n ++ b ∷ [] ≡ digits next
digits-push zero b next d =
    let small : next < 10 = omega (arith, d.low, d.high, d.is) in
    let same : b ≡ 48 + next = omega (arith, d.low, d.is) in
    rw (digits-some next d.number.0, decimal_digit next small, same) refl
digits-push (suc n) b next d =
    let large : 10 ≤ next = omega (arith, d.is) in
    let front : next / 10 ≡ suc n = omega (arith, d.low, d.high, d.is) in
    let last : 48 + next % 10 ≡ b = omega (arith, d.low, d.high, d.is) in
    let step = decimal_step next large (omega (arith, d.number)) in
    rw (digits-some next d.number.0, step, front, last) refl

abbrev Runs : ℕ → List ℕ → Type 0
Runs n ds = IsNumber n → run number_automaton ds ≡ (n, [])

runs-one : (n : ℕ) → n < 10 → Runs n ((48 + n) ∷ [])
runs-one n small is = rw (digit-some 0 (48 + n) n (omega arith) (omega arith) (omega arith) is.0 is.1) refl

runs-more : (n : ℕ) (ds : List ℕ) → 10 ≤ n → Runs (n / 10) ds → Runs n (ds ++ ((48 + n % 10) ∷ []))
runs-more n ds large rest is =
    run-push number_automaton ds (48 + n % 10) (n / 10) n (rest (omega arith, omega arith))
    (digit-some (n / 10) (48 + n % 10) n (omega arith) (omega arith) (omega arith) is.0 is.1)

run-decimal : (n : ℕ) → IsNumber n → run number_automaton (decimal n) ≡ (n, [])
run-decimal n is = decimal_by_steps Runs runs-one runs-more n (omega arith) is

-- the number so far, and its digits
record Holds (n : ℕ) (read : List ℕ) : Type 0 where
  small : n < 2 ^ 32
  spelled : read ≡ digits n

keeps : (n : ℕ) (read : List ℕ) (b next : ℕ) → Holds n read → with_digit n b ≡ Some next → Holds next (read ++ b ∷ [])
keeps n read b next so_far step =
    let d = digit-is n b next step in
    record { small = d.number.1; spelled = ap (λ xs. xs ++ b ∷ []) so_far.spelled ∙ digits-push n b next d }

held : (bytes : List ℕ) → IsTaken number_automaton bytes → Holds (run number_automaton bytes).0 bytes
held bytes taken = kept number_automaton Holds keeps 0 [] bytes (record { small = omega arith; spelled = refl }) taken

abbrev pub IsNumberText : List ℕ → Type 0
IsNumberText = IsTextOf IsNumber decimal

accepted : (n : ℕ) (bytes : List ℕ) → ltb 0 n ≡ true → Holds n bytes → IsNumberText bytes
accepted zero bytes final holds = absurd cc
accepted (suc n) bytes final holds = (suc n, (omega arith, holds.small), holds.spelled)

lives : (n : ℕ) (bytes : List ℕ) → Holds n bytes → BeginsSome IsNumberText bytes
lives zero bytes holds = (decimal 1, (1, (omega arith, omega arith), refl), (decimal 1, rw holds.spelled refl))
lives (suc n) bytes holds = (bytes, accepted (suc n) bytes (ltb-some (suc n) (omega arith)) holds, ([], sym (append-nil bytes)))

pub number-spells : Spells number_automaton IsNumberText
number-spells = record {
  accepts = λ bytes (n, is, same).
      let whole : run number_automaton bytes ≡ (n, []) = rw same (run-decimal n is) in
      record { all = rw whole refl; final = rw whole (ltb-some n is.0) };
  accepted = λ bytes a. accepted (run number_automaton bytes).0 bytes a.final (held bytes a.all);
  lives = λ bytes taken. lives (run number_automaton bytes).0 bytes (held bytes taken);
}

-- a read of a number takes what the automaton takes
pub number-read : (before after : List ℕ) (n : ℕ) → 1 ≤ n → run number_automaton before ≡ (n, after) →
    Reads number_automaton decimal before (Some n) after
number-read before after n some stops =
    let t = taken number_automaton 0 before in
    let front = held t.front (ap (λ (s : ℕ × List ℕ). s.1) t.ends) in
    let number : (run number_automaton t.front).0 ≡ n = ap (λ (s : ℕ × List ℕ). s.0) t.ends ∙ ap (λ (s : ℕ × List ℕ). s.0) stops in
    let same : t.front ≡ decimal n = front.spelled ∙ ap digits number ∙ digits-some n some in
    let rest : (run number_automaton before).1 ≡ after = ap (λ (s : ℕ × List ℕ). s.1) stops in
    let spelled : before ≡ decimal n ++ after = t.parts ∙ (λ i. same i ++ rest i) in
    record { stopped = rw stops refl; whole = rw stops (ltb-some n some); spelled = spelled }
