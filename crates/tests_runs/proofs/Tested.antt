-- Records that pass the test agree.
use Rattle.std.proofs.Common.{◌≡◌, ◌==◌, ◌&&◌, ◌+◌, ◌<◌, ◌≤◌, ℕ, zero, suc, Bool, true, false, true≢false, List, [], ◌∷◌, length, take, map, Some, slice_get, All, Decides, ◌⊎◌, inl, inr, refl, sym, ap, subst, ◌∙◌, arith}
use Rattle.std.proofs.lemmas.Bool.Decides.{Decides-and, Decides-eqb, not_from_Decides}
use Rattle.std.proofs.Math.Nat.{eq-or-lt_of_le}
use Rattle.std.proofs.lemmas.Option.{slice_get-get_or}
use Rattle.std.proofs.lemmas.Slice.Eq.{slice_eq-Decides}
use Rattle.std.specs.Cmp.Lexicographic.{pointwise}
use Rattle.fb_base.specs.Values.{same_value}
use Rattle.fb_base.specs.SameLaws.{same_value-Decides}
use Rattle.fb_base.specs.Replies.{same_reply, same_reply-Decides}
use Rattle.fb_tree.specs.declared.asked.Asked.{Asked}
use Rattle.fb_tree.specs.declared.recorded.Record.{Record}
use Rattle.fb_tree.specs.Agreement.{RecordsAgree, AreApart, AskTheSame, EndTheSame}
use Rattle.tests_runs.specs.Agreeing.{asks_alike, calls_agree, records_agree}

-- both ask the same
record AreAlike (a b : Asked) : Type 0 where
  entry_is : a.entry ≡ b.entry
  callee_is : a.callee ≡ b.callee
  args_are : a.args ≡ b.args

alike_from_test : (a b : Asked) → asks_alike a b ≡ true → AreAlike a b
unfolding asks_alike
alike_from_test a b e =
    let numbers = Decides-and _ _ (Decides-eqb a.entry.site b.entry.site) (Decides-eqb a.entry.count b.entry.count) in
    let callees = Decides-and _ _ numbers (Decides-eqb a.callee.0 b.callee.0) in
    let parts = (Decides-and _ _ callees (slice_eq-Decides same_value-Decides a.args b.args _ refl)).0 e in
    record {
      entry_is = (λ i. record { site = parts.0.0.0 i; count = parts.0.0.1 i });
      callee_is = (λ i. record { 0 = parts.0.1 i });
      args_are = parts.1;
    }

-- both make a further call, and ask the same
record AskAt (k : ℕ) (xs ys : List Asked) : Type 0 where
  first : Asked
  second : Asked
  first_is : slice_get xs k ≡ Some first
  second_is : slice_get ys k ≡ Some second
  alike : AreAlike first second

-- how two lists of calls go on after some of them
abbrev GoOn : Bool → ℕ → List Asked → List Asked → Type 0
GoOn holds k xs ys =
    (length xs < k) ⊎ (length ys < k) ⊎ (¬ (map (λ a. a.reply) (take k xs) ≡ map (λ a. a.reply) (take k ys)))
    ⊎ AskAt k xs ys ⊎ ((length xs ≡ k) × (xs ≡ ys) × (holds ≡ true))

one_more : (holds : Bool) (k : ℕ) (a b : Asked) (xs ys : List Asked) → AreAlike a b → a.reply ≡ b.reply
    → GoOn holds k xs ys → GoOn holds (suc k) (a ∷ xs) (b ∷ ys)
one_more holds k a b xs ys alike same (inl few) = inl (omega (arith, few))
one_more holds k a b xs ys alike same (inr (inl few)) = inr (inl (omega (arith, few)))
one_more holds k a b xs ys alike same (inr (inr (inl apart))) = inr (inr (inl (λ e. apart (cc))))
one_more holds k a b xs ys alike same (inr (inr (inr (inl ask)))) =
    inr (inr (inr (inl (record { first = ask.first; second = ask.second; first_is = ask.first_is; second_is = ask.second_is; alike = ask.alike }))))
one_more holds k a b xs ys alike same (inr (inr (inr (inr end)))) =
    inr (inr (inr (inr (ap suc end.0, same_calls, end.2))))
  where
    same_call : a ≡ b
    same_call i = record { entry = alike.entry_is i; callee = alike.callee_is i; args = alike.args_are i; reply = same i }

    same_calls : (a ∷ xs) ≡ (b ∷ ys)
    same_calls i = same_call i ∷ end.1 i

go_on_from_test : (holds : Bool) (k : ℕ) (xs ys : List Asked) → calls_agree holds xs ys ≡ true → GoOn holds k xs ys
unfolding calls_agree
go_on_from_test holds zero [] [] e = inr (inr (inr (inr (refl, refl, e))))
go_on_from_test holds (suc k) [] [] e = inl (omega arith)
go_on_from_test holds k [] (b ∷ ys) e = absurd (true≢false (sym e))
go_on_from_test holds k (a ∷ xs) [] e = absurd (true≢false (sym e))
go_on_from_test holds k (a ∷ xs) (b ∷ ys) e = by (asks_alike a b) refl (same_reply a.reply b.reply) refl (λ h k. go_on_from_test holds k xs ys h) k
  where
    by : (asks : Bool) → asks_alike a b ≡ asks → (got : Bool) → same_reply a.reply b.reply ≡ got
        → (calls_agree holds xs ys ≡ true → (k : ℕ) → GoOn holds k xs ys) → (k : ℕ) → GoOn holds k (a ∷ xs) (b ∷ ys)
    by false asks got is further k = absurd (true≢false (let h : calls_agree holds (a ∷ xs) (b ∷ ys) ≡ false = cc in sym e ∙ h))
    by true asks got is further zero =
        inr (inr (inr (inl (record { first = a; second = b; first_is = refl; second_is = refl; alike = alike_from_test a b asks }))))
    by true asks false is further (suc k) =
        inr (inr (inl (λ same. not_from_Decides _ (same_reply-Decides a.reply b.reply) is (cc))))
    by true asks true is further (suc k) =
        one_more holds k a b xs ys (alike_from_test a b asks) ((same_reply-Decides a.reply b.reply).0 is)
        (further (let h : calls_agree holds (a ∷ xs) (b ∷ ys) ≡ calls_agree holds xs ys = cc in sym h ∙ e) k)

pub agree_from_test : (a b : Record) → records_agree a b ≡ true → RecordsAgree a b
unfolding records_agree
agree_from_test a b e k = by (a.method.0 == b.method.0) refl (pointwise same_value a.args b.args) refl
  where
    args : Decides (pointwise same_value a.args b.args) (a.args ≡ b.args)
    args = slice_eq-Decides same_value-Decides a.args b.args _ refl

    holds : Bool
    holds = same_reply a.reply b.reply && a.steps == b.steps

    of_calls : a.method ≡ b.method → a.args ≡ b.args → GoOn holds k a.calls b.calls → AreApart k a b ⊎ AskTheSame k a b ⊎ EndTheSame k a b
    of_calls method arguments (inl few) = inl (inr (inr (inl few)))
    of_calls method arguments (inr (inl few)) = inl (inr (inr (inr (inl few))))
    of_calls method arguments (inr (inr (inl apart))) = inl (inr (inr (inr (inr apart))))
    of_calls method arguments (inr (inr (inr (inl ask)))) =
        inr (inl (record {
          first = ask.first;
          second = ask.second;
          first_asked = ask.first_is;
          second_asked = ask.second_is;
          same_entry = ask.alike.entry_is;
          same_callee = ask.alike.callee_is;
          same_args = ask.alike.args_are;
        }))
    of_calls method arguments (inr (inr (inr (inr end)))) =
        let ends = (Decides-and _ _ (same_reply-Decides a.reply b.reply) (Decides-eqb a.steps b.steps)).0 end.2 in
        inr (inr (end.0, (λ i. record { method = method i; args = arguments i; calls = end.1 i; reply = ends.0 i; steps = ends.1 i })))

    by : (same : Bool) → (a.method.0 == b.method.0) ≡ same → (alike : Bool) → pointwise same_value a.args b.args ≡ alike
        → AreApart k a b ⊎ AskTheSame k a b ⊎ EndTheSame k a b
    by false is alike are = inl (inl (λ m. not_from_Decides _ (Decides-eqb a.method.0 b.method.0) is (ap (λ n. n.0) m)))
    by true is false are = inl (inr (inl (not_from_Decides _ args are)))
    by true is true are =
        let number = (Decides-eqb a.method.0 b.method.0).0 is in
        of_calls (λ i. record { 0 = number i }) (args.0 are)
        (go_on_from_test holds k a.calls b.calls (let h : records_agree a b ≡ calls_agree holds a.calls b.calls = cc in sym h ∙ e))

-- what agrees with those before and passes the test at the next agrees with that one too
pub one_further : (item : Record) (records : List Record) (id : ℕ) (next : Record) → slice_get records id ≡ Some next → records_agree item next ≡ true
    → ((j : ℕ) (known : Record) → j < id → slice_get records j ≡ Some known → RecordsAgree item known)
    → (j : ℕ) (known : Record) → j < id + 1 → slice_get records j ≡ Some known → RecordsAgree item known
one_further item records id next at test before j known low is = elim (eq-or-lt_of_le (let h : j ≤ id = omega (arith, low) in h))
    [ inl here ↦ subst (RecordsAgree item) (let e : next ≡ known = cc in e) (agree_from_test item next test) | inr earlier ↦ before j known earlier is ]

pub agrees_with_each : (item : Record) (records : List Record) (n : ℕ) → length records ≤ n
    → ((j : ℕ) (known : Record) → j < n → slice_get records j ≡ Some known → RecordsAgree item known) → All (RecordsAgree item) records
agrees_with_each item records n long each k d low = each k _ (omega (arith, low, long)) (slice_get-get_or records k d low)
