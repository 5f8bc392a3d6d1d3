-- A JSON has one refusal at most, and that of a line has none.
use Rattle.std.proofs.Common.{◌≡◌, ℕ, Bool, not, Ordering, Less, Equal, Greater, nat_cmp, List, Option, Some, None, inl, inr, refl, sym, ap, ◌∙◌, subst}
use Rattle.std.specs.Cmp.Lexicographic.{slice_cmp}
use Rattle.std.proofs.lemmas.Cmp.{nat_list_cmp_total, tied_itself}
use Rattle.serde_json.specs.Data.{Data, null, boolean, number, string, array, object, Members, no_members, member}
use Rattle.serde_json.specs.Find.{as_object}
use Rattle.fb_reading.specs.declared.key.Key.{Key}
use Rattle.fb_reading.specs.declared.key.LineError.{LineError}
use Rattle.fb_reading.specs.declared.key.LineError.TheVariants.{NotJson}
use Rattle.fb_reading.specs.declared.sort.Sort.{Sort}
use Rattle.fb_reading.specs.declared.sort.Sort.TheVariants as sort
use Rattle.fb_reading.specs.Keys.{key_text}
use Rattle.fb_reading.specs.Refusals.{Lacks, LacksBy, at_key, at_end, wrong_shape, wrong_number, value_at, number_at, IsRefused, members_refused, sort_refused, sort_of, plan_refused}
use Rattle.fb_reading.specs.Shapes.{is_null}

-- ---- the wanted key is there or not

level-itself : (key : List ℕ) → slice_cmp nat_cmp key key ≡ Equal
level-itself key = tied_itself nat_list_cmp_total key

by-order : (o : Ordering) (wanted : Key) (e : LineError) → o ≡ Equal → LacksBy o wanted e → ⊥
by-order Less wanted e level lacks = cc
by-order Equal wanted e level lacks = lacks
by-order Greater wanted e level lacks = cc

there : (wanted : Key) (d : Data) (rest : Members) (e : LineError) → Lacks wanted (member (key_text wanted) d rest) e → ⊥
there wanted d rest e lacks = by-order _ wanted e (level-itself (key_text wanted)) lacks

one-lack : (o : Ordering) (wanted : Key) (e f : LineError) → LacksBy o wanted e → LacksBy o wanted f → e ≡ f
one-lack Less wanted e f a b = a ∙ sym b
one-lack Equal wanted e f a b = absurd a
one-lack Greater wanted e f a b = a ∙ sym b

lacks-once : (wanted : Key) (ms : Members) (e f : LineError) → Lacks wanted ms e → Lacks wanted ms f → e ≡ f
lacks-once wanted no_members e f a b = a ∙ sym b
lacks-once wanted (member k d ms) e f a b = one-lack _ wanted e f a b

lack-keyed : (o : Ordering) (wanted : Key) → LacksBy o wanted NotJson → ⊥
lack-keyed Less wanted lacks = cc
lack-keyed Equal wanted lacks = lacks
lack-keyed Greater wanted lacks = cc

lacks-keyed : (wanted : Key) (ms : Members) → Lacks wanted ms NotJson → ⊥
lacks-keyed wanted no_members lacks = cc
lacks-keyed wanted (member k d ms) lacks = lack-keyed _ wanted lacks

-- it refuses some members for one reason at most, which has a key
record TellsOne (Refuses : Members → LineError → Type 0) : Type 0 where
  once : (ms : Members) (e f : LineError) → Refuses ms e → Refuses ms f → e ≡ f
  keyed : (ms : Members) → Refuses ms NotJson → ⊥

module _ (wanted : Key) (IsRight : Data → Type 0) (wrong : Key → Data → LineError) (Refuses : Data → Members → LineError → Type 0) where
  -- where the wanted key stands before these
  lacks-none : (d : Data) (ms rest : Members) (e : LineError) → ms ≡ member (key_text wanted) d rest → Lacks wanted ms e → ⊥
  lacks-none d ms rest e same lacks = there wanted d rest e (subst (λ xs. Lacks wanted xs e) same lacks)

  same-value : (ms rest left : Members) (d c : Data) → ms ≡ member (key_text wanted) d rest → ms ≡ member (key_text wanted) c left → d ≡ c
  same-value ms rest left d c a b = cc

  same-rest : (ms rest left : Members) (d c : Data) → ms ≡ member (key_text wanted) d rest → ms ≡ member (key_text wanted) c left → rest ≡ left
  same-rest ms rest left d c a b = cc

  key-once : ((d : Data) → TellsOne (Refuses d)) → (ms : Members) (e f : LineError) → at_key wanted IsRight wrong Refuses ms e → at_key wanted IsRight wrong Refuses ms f → e ≡ f
  unfolding at_key
  key-once later ms e f (inl (inl a)) (inl (inl b)) = lacks-once wanted ms e f a b
  key-once later ms e f (inl (inl a)) (inl (inr (d, rest, same, bad, is))) = absurd (lacks-none d ms rest e same a)
  key-once later ms e f (inl (inl a)) (inr (d, rest, same, right, refused)) = absurd (lacks-none d ms rest e same a)
  key-once later ms e f (inl (inr (d, rest, same, bad, is))) (inl (inl b)) = absurd (lacks-none d ms rest f same b)
  key-once later ms e f (inl (inr (d, rest, same, bad, is))) (inl (inr (c, left, this, worse, was))) = is ∙ ap (wrong wanted) (same-value ms rest left d c same this) ∙ sym was
  key-once later ms e f (inl (inr (d, rest, same, bad, is))) (inr (c, left, this, right, refused)) = absurd (bad (subst IsRight (sym (same-value ms rest left d c same this)) right))
  key-once later ms e f (inr (d, rest, same, right, refused)) (inl (inl b)) = absurd (lacks-none d ms rest f same b)
  key-once later ms e f (inr (d, rest, same, right, refused)) (inl (inr (c, left, this, bad, was))) = absurd (bad (subst IsRight (same-value ms rest left d c same this) right))
  key-once later ms e f (inr (d, rest, same, right, refused)) (inr (c, left, this, well, other)) =
      (later c).once left e f (subst (λ x. Refuses x left e) (same-value ms rest left d c same this) (subst (λ xs. Refuses d xs e) (same-rest ms rest left d c same this) refused)) other

  key-keyed : ((d : Data) → TellsOne (Refuses d)) → ((d : Data) → NotJson ≡ wrong wanted d → ⊥) → (ms : Members) → at_key wanted IsRight wrong Refuses ms NotJson → ⊥
  unfolding at_key
  key-keyed later named ms (inl (inl lacks)) = lacks-keyed wanted ms lacks
  key-keyed later named ms (inl (inr (d, rest, same, bad, is))) = named d is
  key-keyed later named ms (inr (d, rest, same, right, refused)) = (later d).keyed rest refused

  key-tells : ((d : Data) → TellsOne (Refuses d)) → ((d : Data) → NotJson ≡ wrong wanted d → ⊥) → TellsOne (at_key wanted IsRight wrong Refuses)
  key-tells later named = record { once = key-once later; keyed = key-keyed later named }

  pub key-passes : (d : Data) (rest : Members) (e : LineError) → IsRight d → (Refuses d rest e → ⊥) → at_key wanted IsRight wrong Refuses (member (key_text wanted) d rest) e → ⊥
  unfolding at_key
  key-passes d rest e right later (inl (inl lacks)) = there wanted d rest e lacks
  key-passes d rest e right later (inl (inr (c, left, same, bad, is))) = bad (subst IsRight (same-value _ rest left d c refl same) right)
  key-passes d rest e right later (inr (c, left, same, well, refused)) =
      later (subst (λ x. Refuses x rest e) (sym (same-value _ rest left d c refl same)) (subst (λ xs. Refuses c xs e) (sym (same-rest _ rest left d c refl same)) refused))

shape-keyed : (wanted : Key) (d : Data) → NotJson ≡ wrong_shape wanted d → ⊥
shape-keyed wanted d same = cc

number-keyed : (wanted : Key) (d : Data) → NotJson ≡ wrong_number wanted d → ⊥
number-keyed wanted null same = cc
number-keyed wanted (boolean b) same = cc
number-keyed wanted (number n) same = cc
number-keyed wanted (string s) same = cc
number-keyed wanted (array ds) same = cc
number-keyed wanted (object ms) same = cc

end-once : (ms : Members) (e f : LineError) → at_end ms e → at_end ms f → e ≡ f
end-once no_members e f a b = absurd a
end-once (member k d ms) e f a b = a ∙ sym b

end-keyed : (ms : Members) → at_end ms NotJson → ⊥
end-keyed no_members a = a
end-keyed (member k d ms) a = cc

end-tells : TellsOne at_end
end-tells = record { once = end-once; keyed = end-keyed }

value-tells : (wanted : Key) (IsRight : Data → Type 0) (Refuses : Members → LineError → Type 0) → TellsOne Refuses → TellsOne (value_at wanted IsRight Refuses)
value-tells wanted IsRight Refuses later = key-tells wanted IsRight wrong_shape (λ d. Refuses) (λ d. later) (shape-keyed wanted)

number-tells : (wanted : Key) (IsRight : Data → Type 0) (Refuses : Members → LineError → Type 0) → TellsOne Refuses → TellsOne (number_at wanted IsRight Refuses)
number-tells wanted IsRight Refuses later = key-tells wanted IsRight wrong_number (λ d. Refuses) (λ d. later) (number-keyed wanted)

plan-tells : (faulted : Bool) → TellsOne (plan_refused faulted)
plan-tells faulted =
    number-tells _ _ _ (value-tells _ _ _ (value-tells _ _ _ (value-tells _ _ _ (number-tells _ _ _ (value-tells _ _ _ (value-tells _ _ _ end-tells))))))

sort-tells : (told : Sort) → TellsOne (sort_refused told)
sort-tells sort.Header = number-tells _ _ _ (value-tells _ _ _ (value-tells _ _ _ (number-tells _ _ _ end-tells)))
sort-tells sort.Inv =
    value-tells _ _ _ (value-tells _ _ _ (number-tells _ _ _ (value-tells _ _ _ (value-tells _ _ _ (number-tells _ _ _ (value-tells _ _ _ (number-tells _ _ _ end-tells)))))))
sort-tells sort.CodePlan = key-tells _ _ _ _ (λ d. plan-tells (not (is_null d))) (shape-keyed _)
sort-tells sort.ReplyPlan = key-tells _ _ _ _ (λ d. plan-tells (not (is_null d))) (shape-keyed _)
sort-tells sort.End =
    value-tells _ _ _ (number-tells _ _ _ (number-tells _ _ _ (value-tells _ _ _ (number-tells _ _ _ (number-tells _ _ _ (number-tells _ _ _ (value-tells _ _ _ end-tells)))))))

members-once : (told : Option Sort) (ms : Option Members) (e f : LineError) → members_refused told ms e → members_refused told ms f → e ≡ f
members-once (Some told) (Some ms) e f a b = (sort-tells told).once ms e f a b
members-once (Some told) None e f a b = a ∙ sym b
members-once None ms e f a b = a ∙ sym b

members-keyed : (told : Option Sort) (ms : Option Members) → members_refused told ms NotJson → ⊥
members-keyed (Some told) (Some ms) a = (sort-tells told).keyed ms a
members-keyed (Some told) None a = cc
members-keyed None ms a = cc

pub refused-once : (d : Data) (e f : LineError) → IsRefused d e → IsRefused d f → e ≡ f
unfolding IsRefused
refused-once d e f a b = members-once (sort_of d) (as_object d) e f a b

pub refused-keyed : (d : Data) → IsRefused d NotJson → ⊥
unfolding IsRefused
refused-keyed d a = members-keyed (sort_of d) (as_object d) a
