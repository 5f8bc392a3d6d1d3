-- The record of an evaluation is that of any other with the same replies; true records agree.
use Rattle.std.specs.Bool.{Decides}
use Rattle.std.specs.Cmp.Lexicographic.{pointwise}
use Rattle.std.specs.Prelude.{◌≡◌, ◌⊎◌, ◌==◌, Bool, true, false, codes, ℕ, suc, ◌<◌, ◌≤◌, List, [], ◌∷◌, map, length, take, slice_get, Option, Some, None}
use Rattle.std.proofs.Common.{refl, sym, ap, ◌∙◌, subst, append-nil, arith, inl, inr}
use Rattle.std.proofs.lemmas.Bool.{cases_lt}
use Rattle.std.proofs.lemmas.List.{take-map}
use Rattle.std.proofs.lemmas.Option.{slice_get_past}
use Rattle.std.proofs.lemmas.Bool.Decides.{Decides-eqb}
use Rattle.std.proofs.lemmas.Slice.Eq.{slice_eq-Decides}
use Rattle.fb_base.specs.Values.{same_value}
use Rattle.fb_base.specs.SameLaws.{same_value-Decides}
use Rattle.fb_base.specs.Replies.{same_reply, same_reply-Decides}
use Rattle.fb_base.specs.declared.reply.Reply.TheVariants as reply
use Rattle.fb_base.specs.declared.method.MethodId.{MethodId}
use Rattle.fb_base.specs.declared.value.Value.{Value}
use Rattle.fb_base.specs.declared.reply.Reply.{Reply}
use Rattle.fb_index.specs.Entry.{Occurrence}
use Rattle.fb_syntax.specs.Trees.{MethodTree, ServicesTree}
use Rattle.fb_check.specs.Programs.{method_at}
use Rattle.fb_tree.specs.Agreement.{AskTheSame, AreApart, EndTheSame, replies_before}
use Rattle.fb_tree.specs.Runs.{Tree, Invocation, CallList, NoCalls}
use Rattle.fb_tree.specs.Records.{asked_of, record_of}
use Rattle.fb_tree.specs.declared.asked.Asked.{Asked}
use Rattle.fb_tree.specs.declared.recorded.Record.{Record}
use Rattle.fb_transport.specs.Sources.{Source}
use Rattle.fb_meaning.specs.Evaluations.{Spent, Missing, Done, then_on, Flow, State, Going}
use Rattle.fb_meaning.specs.Positions.{beginning}
use Rattle.fb_meaning.specs.Meaning.{meaning, method_meaning}
use Rattle.fb_meaning.specs.Bodies.{OfMethod, statements_go, method_state, invocation_of, body_goes, reply_of_flow}
use Rattle.fb_meaning.specs.RecordLaws.{replies_of, SameRepliesSameRecord, TrueRecordsAgree}
use Rattle.fb_meaning.specs.Records.{IsTrueRecord, record_source}
use Rattle.fb_meaning.proofs.Pairs.{framed}
use Rattle.fb_meaning.proofs.Meetings.{Ends, GoOn, Part}
use Rattle.fb_meaning.proofs.SameReplies.{GetsFirst, AskAlike, AreSame, AskOn, MeetBelow, bodies_meet}

-- two records are equal, with at most k calls, or behind k calls both ask for the same
pub data RecordsMeet (k : ℕ) (a b : Record) : Type 0 where
  Equal : a ≡ b → length a.calls ≤ k → RecordsMeet k a b
  AskSame : AskAlike k a.calls b.calls → RecordsMeet k a b

abbrev record_so : MethodId → List Value → Flow → State → Record
record_so method args flow t = record { method = method; args = args; calls = asked_of t.calls; reply = reply_of_flow flow; steps = t.steps }

all_replies : (calls : CallList) → GetsFirst calls (map (λ asked. asked.reply) (asked_of calls))
all_replies calls = record { rest = []; are = sym (append-nil (map (λ (a : Asked). a.reply) (asked_of calls))) }

module _ (k : ℕ) (method : MethodId) (args : List Value) where
  ends_meet : (mine theirs : List Reply) (agree : take k mine ≡ take k theirs) (bound : ℕ) (f g : Flow) (t u : State) → Ends (AreSame k bound) (AskOn k mine theirs agree) f g t u → RecordsMeet k (record_so method args f t) (record_so method args g u)
  ends_meet mine theirs agree bound f g t u (GoOn e same) =
      Equal (ap (λ flow. record_so method args flow t) e
      ∙ ap (λ asked. record { method = method; args = args; calls = asked; reply = reply_of_flow g; steps = t.steps }) same.asked
      ∙ ap (λ n. record { method = method; args = args; calls = asked_of u.calls; reply = reply_of_flow g; steps = n }) same.steps) same.few
  ends_meet mine theirs agree bound f g t u (Part apart) = AskSame apart.asks

  -- what a body that is done makes
  record_made : (f : Flow) (t : State) (tree : Tree) (left : ℕ) → then_on (Done f t) (invocation_of method args) ≡ Done tree left → record_of tree ≡ record_so method args f t
  record_made f t tree left e =
      let made : Invocation method args t.calls (reply_of_flow f) t.steps ≡ tree = cc in
      sym (ap record_of made)

  gets_all : (f : Flow) (t : State) (item : Record) (whole : List Reply) → item ≡ record_so method args f t → whole ≡ replies_of item → GetsFirst t.calls whole
  gets_all f t item whole e w =
      let calls : item.calls ≡ asked_of t.calls = ap (λ r. r.calls) e in
      let are : map (λ (a : Asked). a.reply) (asked_of t.calls) ≡ whole = sym (w ∙ ap (map (λ (a : Asked). a.reply)) calls) in
      subst (GetsFirst t.calls) are (all_replies t.calls)

  module _ (mine theirs : List Reply) (agree : take k mine ≡ take k theirs) (bound : ℕ) where
    trees_meet : (x y : Going) (first second : Tree) (left rest : ℕ)
        → then_on x (invocation_of method args) ≡ Done first left → then_on y (invocation_of method args) ≡ Done second rest
        → mine ≡ replies_of (record_of first) → theirs ≡ replies_of (record_of second)
        → MeetBelow k mine theirs agree bound x y → RecordsMeet k (record_of first) (record_of second)
    trees_meet Spent y first second left rest e f a b m = absurd (cc)
    trees_meet Missing y first second left rest e f a b m = absurd (cc)
    trees_meet (Done c t) Spent first second left rest e f a b m = absurd (cc)
    trees_meet (Done c t) Missing first second left rest e f a b m = absurd (cc)
    trees_meet (Done c t) (Done d u) first second left rest e f a b m =
        let here : record_of first ≡ record_so method args c t = record_made c t first left e in
        let there : record_of second ≡ record_so method args d u = record_made d u second rest f in
        subst (λ r. RecordsMeet k r (record_of second)) (sym here)
        (subst (λ r. RecordsMeet k (record_so method args c t) r) (sym there)
        (ends_meet mine theirs agree bound c d t u (m (record { first = gets_all c t (record_of first) mine here a; second = gets_all d u (record_of second) theirs there b }))))

    bodies : (services : ServicesTree) (one other : Source) (here there : List Occurrence) (body : Option MethodTree) (fuel also : ℕ) (first second : Tree) (left rest : ℕ)
        → bound ≡ suc fuel
        → body_goes (meaning services one) body method args here fuel ≡ Done first left → body_goes (meaning services other) body method args there also ≡ Done second rest
        → mine ≡ replies_of (record_of first) → theirs ≡ replies_of (record_of second) → RecordsMeet k (record_of first) (record_of second)
    bodies services one other here there None fuel also first second left rest is e f a b =
        let one_tree : Invocation method args NoCalls (reply.Err (codes "internal")) 0 ≡ first = cc in
        let other_tree : Invocation method args NoCalls (reply.Err (codes "internal")) 0 ≡ second = cc in
        let none : (record_of first).calls ≡ [] = sym (ap (λ tree. (record_of tree).calls) one_tree) in
        let few : length (record_of first).calls ≡ 0 = ap length none in
        Equal (ap record_of (sym one_tree ∙ other_tree)) (omega (arith, few))
    bodies services one other here there (Some body) fuel also first second left rest is e f a b =
        trees_meet _ _ first second left rest e f a b
        (subst (λ n. MeetBelow k mine theirs agree n (statements_go (meaning services one) (framed OfMethod here) beginning body.body (method_state body args fuel))
        (statements_go (meaning services other) (framed OfMethod there) beginning body.body (method_state body args also))) (sym is)
        (bodies_meet k mine theirs agree services one other here there body args fuel also))

  -- evaluations by any sources, at any indexes, with any fuels
  pub records_meet : (services : ServicesTree) (one other : Source) (fuel also : ℕ) (here there : List Occurrence) (first second : Tree) (left rest : ℕ)
      → method_meaning services one fuel method args here ≡ Done first left → method_meaning services other also method args there ≡ Done second rest
      → take k (replies_of (record_of first)) ≡ take k (replies_of (record_of second)) → RecordsMeet k (record_of first) (record_of second)
  unfolding method_meaning
  records_meet services one other fuel also here there first second left rest e f agree =
      bodies (replies_of (record_of first)) (replies_of (record_of second)) agree (suc fuel) services one other here there
      (method_at services method.0) fuel also first second left rest refl e f refl refl

-- ---- the same replies

past_end : (k : ℕ) (xs ys : List Asked) → AskAlike k xs ys → length xs ≤ k → ⊥
past_end k xs ys asks h =
    let none : slice_get xs k ≡ None = slice_get_past xs k h in
    let some : slice_get xs k ≡ Some asks.first = asks.first_asked in
    cc

take_all : {A : Type 0} (xs : List A) → take (length xs) xs ≡ xs
take_all [] = refl
take_all (x ∷ xs) = ap (λ rest. x ∷ rest) (take_all xs)

equal_where_all : (k : ℕ) (first second : Record) → length first.calls ≤ k → RecordsMeet k first second → first ≡ second
equal_where_all k first second h (Equal same few) = same
equal_where_all k first second h (AskSame asks) = absurd (past_end k first.calls second.calls asks h)

pub same_replies_same_record : SameRepliesSameRecord
same_replies_same_record services method args one other fuel also here there first second left rest e f same =
    equal_where_all (length (record_of first).calls) (record_of first) (record_of second) (omega arith)
    (records_meet (length (record_of first).calls) method args services one other fuel also here there first second left rest e f
    (ap (take (length (record_of first).calls)) same))

-- ---- true records

ask_the_same : (k : ℕ) (a b : Record) → AskAlike k a.calls b.calls → AskTheSame k a b
ask_the_same k a b h = record {
  first = h.first;
  second = h.second;
  first_asked = h.first_asked;
  second_asked = h.second_asked;
  same_entry = h.same_entry;
  same_callee = h.same_callee;
  same_args = h.same_args;
}

-- either two things are equal, or they aren't
abbrev IsOrNot : Type 0 → Type 0
IsOrNot P = P ⊎ (¬ P)

by_test : {P : Type 0} (b : Bool) → Decides b P → IsOrNot P
by_test true h = inl (h.0 refl)
by_test false h = inr (λ p. let e : false ≡ true = h.1 p in cc)

same_numbers : (a b : MethodId) → IsOrNot (a ≡ b)
same_numbers a b = of_number (by_test (a.0 == b.0) (Decides-eqb a.0 b.0))
  where
    of_number : IsOrNot (a.0 ≡ b.0) → IsOrNot (a ≡ b)
    of_number (inl e) = let wrap : ℕ → MethodId = λ n. record { 0 = n } in inl (ap wrap e)
    of_number (inr n) = inr (λ e. n (ap (λ m. m.0) e))

same_values : (a b : List Value) → IsOrNot (a ≡ b)
same_values a b = by_test (pointwise same_value a b) (slice_eq-Decides same_value-Decides a b _ refl)

same_replies : (a b : List Reply) → IsOrNot (a ≡ b)
same_replies a b = by_test (pointwise same_reply a b) (slice_eq-Decides same_reply-Decides a b _ refl)

agree_where : (k : ℕ) (a b : Record) → RecordsMeet k a b → k ≤ length a.calls → AreApart k a b ⊎ AskTheSame k a b ⊎ EndTheSame k a b
agree_where k a b (Equal same few) h = inr (inr (omega (arith, few, h), same))
agree_where k a b (AskSame asks) h = inr (inl (ask_the_same k a b asks))

-- the replies of a record's first calls
first_replies : (k : ℕ) (item : Record) → take k (replies_of item) ≡ replies_before k item
first_replies k item = take-map (λ (a : Asked). a.reply) k item.calls

module _ (services : ServicesTree) (fuel also : ℕ) (a b : Record) (one : IsTrueRecord services fuel a) (other : IsTrueRecord services also b) where
  true_records_meet : (k : ℕ) → a.method ≡ b.method → a.args ≡ b.args → replies_before k a ≡ replies_before k b → RecordsMeet k a b
  true_records_meet k same_method same_args same =
      let evaluated : method_meaning services (record_source b) also a.method a.args [] ≡ Done other.tree other.left =
      ap (λ m. method_meaning services (record_source b) also m a.args []) same_method
      ∙ ap (λ args. method_meaning services (record_source b) also b.method args []) same_args ∙ other.evaluated in
      let replies : take k (replies_of (record_of one.tree)) ≡ take k (replies_of (record_of other.tree)) =
      ap (λ item. take k (replies_of item)) one.recorded ∙ first_replies k a ∙ same ∙ sym (first_replies k b)
      ∙ sym (ap (λ item. take k (replies_of item)) other.recorded) in
      subst (λ item. RecordsMeet k item b) one.recorded
      (subst (RecordsMeet k (record_of one.tree)) other.recorded
      (records_meet k a.method a.args services (record_source a) (record_source b) fuel also [] [] one.tree other.tree one.left other.left one.evaluated evaluated replies))

  by_replies : (k : ℕ) → a.method ≡ b.method → a.args ≡ b.args → k ≤ length a.calls → IsOrNot (replies_before k a ≡ replies_before k b) → AreApart k a b ⊎ AskTheSame k a b ⊎ EndTheSame k a b
  by_replies k m args h (inl same) = agree_where k a b (true_records_meet k m args same) h
  by_replies k m args h (inr other_replies) = inl (inr (inr (inr (inr other_replies))))

  by_lengths : (k : ℕ) → a.method ≡ b.method → a.args ≡ b.args → (length a.calls < k) ⊎ (k ≤ length a.calls) → (length b.calls < k) ⊎ (k ≤ length b.calls)
      → AreApart k a b ⊎ AskTheSame k a b ⊎ EndTheSame k a b
  by_lengths k m args (inl short) second = inl (inr (inr (inl short)))
  by_lengths k m args (inr long) (inl short) = inl (inr (inr (inr (inl short))))
  by_lengths k m args (inr long) (inr also_long) = by_replies k m args long (same_replies (replies_before k a) (replies_before k b))

  by_args : (k : ℕ) → a.method ≡ b.method → IsOrNot (a.args ≡ b.args) → AreApart k a b ⊎ AskTheSame k a b ⊎ EndTheSame k a b
  by_args k m (inl args) = by_lengths k m args (cases_lt (length a.calls) k) (cases_lt (length b.calls) k)
  by_args k m (inr other_args) = inl (inr (inl other_args))

  by_method : (k : ℕ) → IsOrNot (a.method ≡ b.method) → AreApart k a b ⊎ AskTheSame k a b ⊎ EndTheSame k a b
  by_method k (inl m) = by_args k m (same_values a.args b.args)
  by_method k (inr other_method) = inl (inl other_method)

pub true_records_agree : TrueRecordsAgree
true_records_agree services fuel also first second one other k = by_method services fuel also first second one other k (same_numbers first.method second.method)
