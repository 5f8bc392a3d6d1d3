-- Where a fault's text is refused.
use Rattle.std.proofs.Common.{◌≡◌, ◌≢◌, ◌⊎◌, inl, inr, is_some, IfSome, ℕ, ◌+◌, ◌-◌, ◌<◌, true, Option, Some, None, List, [], ◌∷◌, ◌++◌, length, take, drop, refl, ap, sym, ◌∙◌, arith, append_assoc, length-append}
use Rattle.std.specs.Prelude.{codes}
use Rattle.std.proofs.lemmas.Bool.{false≢true}
use Rattle.std.proofs.lemmas.List.{append_cancel_left, append_cancel_right, take-append-drop}
use Rattle.fb_base.specs.Replies.{IsProperReply}
use Rattle.fb_base.specs.declared.reply.Reply.{Reply}
use Rattle.fb_base.specs.declared.reply.Reply.TheVariants as reply
use Rattle.fb_index.specs.Automaton.{Automaton, Reads, run}
use Rattle.fb_index.specs.Entry.{Occurrence, IsEntry}
use Rattle.fb_index.specs.Index.{IsIndex, index_text}
use Rattle.fb_index.specs.Fault.{IsSpelledFault, IsFaultText, IsFaultRefusedAt, coded_text, fault_text}
use Rattle.fb_index.specs.Reading.{coded_automaton}
use Rattle.fb_index.specs.Refusal.{BeginsSome, IsRefusedAt, IsTextOf}
use Rattle.fb_index.specs.Spelling.{IsValueText, reply_text, value_spelling}
use Rattle.fb_index.specs.declared.fault.Coded.{Coded}
use Rattle.fb_index.specs.declared.fault.Fault.{Fault}
use Rattle.fb_index.proofs.Automata.{Accepts, IsSilent, run_from-append}
use Rattle.fb_index.proofs.Lists.{AreItems}
use Rattle.fb_index.proofs.Texts.{IsCoded, coded-spells, colon-silent, read-refused}
use Rattle.fb_index.proofs.Unique.{index-split, no-code}

-- ---- what begins like a fault with a value

abbrev pub value_front : List Occurrence → List ℕ
value_front index = index_text index ++ codes "=ok:"

abbrev ok_text : List Occurrence → List ℕ
ok_text index = index_text index ++ codes "=ok"

with-colon : (index : List Occurrence) (rest : List ℕ) → value_front index ++ rest ≡ ok_text index ++ 58 ∷ rest
with-colon index rest =
    append_assoc (index_text index) (codes "=ok:") rest ∙ sym (append_assoc (index_text index) (codes "=ok") (58 ∷ rest))

pub with-equals : (index : List Occurrence) (rest : List ℕ) → value_front index ++ rest ≡ index_text index ++ 61 ∷ (codes "ok:" ++ rest)
with-equals index rest = append_assoc (index_text index) (codes "=ok:") rest

-- behind what is accepted, the automaton stops at a sign on which no state follows
stops-at : {Q : Type 0} (m : Automaton Q) (sign : ℕ) → IsSilent m sign → (bytes rest : List ℕ) → Accepts m bytes →
    run m (bytes ++ sign ∷ rest) ≡ ((run m bytes).0, sign ∷ rest)
stops-at m sign silent bytes rest a =
    run_from-append m m.start bytes (sign ∷ rest) a.all ∙ rw (silent (run m bytes).0) refl

coded-silent : IsSilent coded_automaton 58
coded-silent (inl (inl q)) = refl
coded-silent (inl (inr q)) = refl
coded-silent (inr q) = rw (colon-silent q) refl

-- the code `ok` was read, and `:` is left
record EndsInOk (item : Option Coded) (after rest : List ℕ) : Type 0 where
  coded : Coded
  is : item ≡ Some coded
  ok : coded.code ≡ codes "ok"
  colon : after ≡ 58 ∷ rest

ends-in-ok : (bytes after rest : List ℕ) (item : Option Coded) (index : List Occurrence) → IsIndex index → 0 < length index →
    IfSome item (λ coded. IsIndex coded.index) → Reads coded_automaton coded_text bytes item after → bytes ≡ value_front index ++ rest →
    EndsInOk item after rest
ends-in-ok bytes after rest item index is_index some indexes r same = by item indexes r.whole r.spelled
  where
    whole : bytes ≡ ok_text index ++ 58 ∷ rest
    whole = same ∙ with-colon index rest

    accepts : Accepts coded_automaton (ok_text index)
    accepts =
        coded-spells.accepts (ok_text index)
        (record { index = index; code = codes "ok" }, (record { some = some; each = is_index }, refl), refl)

    stops : run coded_automaton bytes ≡ ((run coded_automaton (ok_text index)).0, 58 ∷ rest)
    stops = ap (run coded_automaton) whole ∙ stops-at coded_automaton 58 coded-silent (ok_text index) rest accepts

    left : after ≡ 58 ∷ rest
    left = sym r.stopped ∙ ap (λ (s : _ × List ℕ). s.1) stops

    final : coded_automaton.is_final (run coded_automaton bytes).0 ≡ true
    final = ap (λ (s : _ × List ℕ). coded_automaton.is_final s.0) stops ∙ accepts.final

    by : (item : Option Coded) → IfSome item (λ coded. IsIndex coded.index) →
        coded_automaton.is_final (run coded_automaton bytes).0 ≡ is_some item → IfSome item (λ coded. bytes ≡ coded_text coded ++ after) →
        EndsInOk item after rest
    by None indexes told spelled = absurd (false≢true (sym told ∙ final))
    by (Some coded) indexes told spelled =
        let texts : coded_text coded ++ 58 ∷ rest ≡ ok_text index ++ 58 ∷ rest =
        ap (λ xs. coded_text coded ++ xs) (sym left) ∙ sym spelled ∙ whole in
        let fronts = append_cancel_right (coded_text coded) (ok_text index) (58 ∷ rest) texts in
        record { coded = coded; is = refl; ok = (index-split coded.index index coded.code (codes "ok") indexes is_index fronts).1; colon = left }

-- ---- where no such front stands

-- two ways to cut one list
cut-both : (a b c d : List ℕ) → a ++ b ≡ c ++ d → ((x : List ℕ) × (a ≡ c ++ x)) ⊎ ((x : ℕ) × ((y : List ℕ) × (c ≡ a ++ x ∷ y)))
cut-both a b [] d same = inl (a, refl)
cut-both [] b (z ∷ c) d same = inr (z, (c, refl))
cut-both (x ∷ a) b (z ∷ c) d same =
    let head : x ≡ z = cc in
    let tail : a ++ b ≡ c ++ d = cc in
    more head (cut-both a b c d tail)
  where
    more : x ≡ z → ((y : List ℕ) × (a ≡ c ++ y)) ⊎ ((y : ℕ) × ((w : List ℕ) × (c ≡ a ++ y ∷ w))) →
        ((y : List ℕ) × (x ∷ a ≡ z ∷ c ++ y)) ⊎ ((y : ℕ) × ((w : List ℕ) × (z ∷ c ≡ x ∷ a ++ y ∷ w)))
    more head (inl (y, same)) = inl (y, (λ i. head i ∷ same i))
    more head (inr (y, (w, same))) = inr (y, (w, (λ i. sym head i ∷ same i)))

module _ (bytes : List ℕ) (other : (index : List Occurrence) (rest : List ℕ) → IsIndex index → 0 < length index → bytes ≢ value_front index ++ rest) where
  into-fault : (t : List ℕ) → IsTextOf IsCoded coded_text t → IsFaultText t
  into-fault t (coded, is, same) =
      (record { index = coded.index; reply = reply.Err coded.code }, ((is.0.each, is.1), is.0.some), same)

  no-fault : (f : Fault) → IsSpelledFault f → bytes ≡ fault_text f → ¬ (IsTextOf IsCoded coded_text bytes) → ⊥
  no-fault f is same none = by f.reply is.0.1 same
    where
      by : (r : Reply) → IsProperReply r → bytes ≡ index_text f.index ++ 61 ∷ reply_text r → ⊥
      by (reply.Ok v) proper same = other f.index (value_spelling v) is.0.0 is.1 (same ∙ sym (with-equals f.index (value_spelling v)))
      by (reply.Err code) proper same =
          none (record { index = f.index; code = code }, (record { some = is.1; each = is.0.0 }, proper), same)

  -- a front that begins a fault begins one with a code
  begins-coded : (n : ℕ) → BeginsSome IsFaultText (take n bytes) → BeginsSome (IsTextOf IsCoded coded_text) (take n bytes)
  begins-coded n (t, (f, is, same), (rest, parts)) = by f.reply is.0.1 same
    where
      items : AreItems IsEntry f.index
      items = record { some = is.1; each = is.0.0 }

      cases : (v : List ℕ) → t ≡ value_front f.index ++ v →
          ((x : List ℕ) × (ok_text f.index ≡ take n bytes ++ x)) ⊎ ((x : ℕ) × ((y : List ℕ) × (take n bytes ≡ ok_text f.index ++ x ∷ y))) →
          BeginsSome (IsTextOf IsCoded coded_text) (take n bytes)
      cases v same (inl (x, front)) =
          (ok_text f.index, (record { index = f.index; code = codes "ok" }, (items, refl), refl), (x, front))
      cases v same (inr (x, (y, longer))) =
          let whole : ok_text f.index ++ (x ∷ (y ++ rest)) ≡ ok_text f.index ++ 58 ∷ v =
          sym (append_assoc (ok_text f.index) (x ∷ y) rest) ∙ ap (λ xs. xs ++ rest) (sym longer) ∙ sym parts ∙ same ∙ with-colon f.index v in
          let behind : x ∷ (y ++ rest) ≡ 58 ∷ v = append_cancel_left (ok_text f.index) _ _ whole in
          let colon : x ≡ 58 = cc in
          let form : bytes ≡ value_front f.index ++ (y ++ drop n bytes) =
          sym (take-append-drop n bytes) ∙ ap (λ xs. xs ++ drop n bytes) (longer ∙ ap (λ c. ok_text f.index ++ c ∷ y) colon)
          ∙ append_assoc (ok_text f.index) (58 ∷ y) (drop n bytes) ∙ sym (with-colon f.index (y ++ drop n bytes)) in
          absurd (other f.index (y ++ drop n bytes) is.0.0 is.1 form)

      by : (r : Reply) → IsProperReply r → t ≡ index_text f.index ++ 61 ∷ reply_text r → BeginsSome (IsTextOf IsCoded coded_text) (take n bytes)
      by (reply.Err code) proper same = (t, (record { index = f.index; code = code }, (items, proper), same), (rest, parts))
      by (reply.Ok v) proper same =
          let front : t ≡ value_front f.index ++ value_spelling v = same ∙ sym (with-equals f.index (value_spelling v)) in
          let two : ok_text f.index ++ 58 ∷ value_spelling v ≡ take n bytes ++ rest =
          sym (with-colon f.index (value_spelling v)) ∙ sym front ∙ parts in
          cases (value_spelling v) front (cut-both (ok_text f.index) _ (take n bytes) rest two)

  coded-refused : (offset : ℕ) → IsRefusedAt (IsTextOf IsCoded coded_text) bytes offset → IsFaultRefusedAt bytes offset
  coded-refused offset r =
      inr (
        (λ place missing. other missing.index missing.rest missing.is_index missing.at_call missing.parts),
        record {
          no_text = λ (f, is, same). no-fault f is same r.no_text;
          within = r.within;
          begins = (r.begins.0, into-fault r.begins.0 r.begins.1, r.begins.2);
          longest = λ n within some. r.longest n within (begins-coded n some);
        },
      )

-- no fault with a code was read, and what was read leads to no value
pub fault-missed : (bytes after : List ℕ) (item : Option Coded) (left offset : ℕ) → IfSome item (λ coded. IsIndex coded.index) →
    Reads coded_automaton coded_text bytes item after → left ≡ length after → offset ≡ length bytes - left → (left ≡ 0 → item ≡ None) →
    ((coded : Coded) (rest : List ℕ) → item ≡ Some coded → coded.code ≡ codes "ok" → after ≢ 58 ∷ rest) → IsFaultRefusedAt bytes offset
fault-missed bytes after item left offset indexes r counted behind short leads =
    coded-refused bytes
    (λ index rest is_index some same.
    let e = ends-in-ok bytes after rest item index is_index some indexes r same in
    leads e.coded rest e.is e.ok e.colon)
    offset
    (read-refused coded_automaton coded_text (IsTextOf IsCoded coded_text) coded-spells bytes after item left offset r
    (record { counted = counted; behind = behind; short = short }))

-- ---- a value

-- a fault's text that begins so has a value
pub value-of-fault : (bytes rest : List ℕ) (index : List Occurrence) → IsIndex index → bytes ≡ value_front index ++ rest → IsFaultText bytes →
    IsValueText rest
value-of-fault bytes rest index is_index front (f, is, same) = by f.reply is.0.1 same
  where
    by : (r : Reply) → IsProperReply r → bytes ≡ index_text f.index ++ 61 ∷ reply_text r → IsValueText rest
    by (reply.Ok v) proper same =
        let parts = index-split f.index index (codes "ok:" ++ value_spelling v) (codes "ok:" ++ rest) is.0.0 is_index
        (sym same ∙ front ∙ with-equals index rest) in
        (v, proper, append_cancel_left (codes "ok:") rest (value_spelling v) (sym parts.1))
    by (reply.Err code) proper same =
        let parts = index-split f.index index code (codes "ok:" ++ rest) is.0.0 is_index (sym same ∙ front ∙ with-equals index rest) in
        absurd (no-code code rest proper parts.1)

front-of : (coded : Coded) (after rest : List ℕ) → coded.code ≡ codes "ok" → after ≡ 58 ∷ rest →
    coded_text coded ++ after ≡ value_front coded.index ++ rest
front-of coded after rest ok colon =
    (λ i. (index_text coded.index ++ 61 ∷ ok i) ++ colon i) ∙ sym (with-colon coded.index rest)

pub value-missing : (bytes after rest : List ℕ) (coded : Coded) (left offset : ℕ) → IsIndex coded.index → 0 < length coded.index →
    bytes ≡ coded_text coded ++ after → coded.code ≡ codes "ok" → after ≡ 58 ∷ rest → left ≡ length rest → offset ≡ length bytes - left →
    ¬ (IsValueText rest) → IsFaultRefusedAt bytes offset
value-missing bytes after rest coded left offset is_index some spelled ok colon counted behind none =
    let front : bytes ≡ value_front coded.index ++ rest = spelled ∙ front-of coded after rest ok colon in
    let size : length bytes ≡ length (value_front coded.index) + length rest = ap length front ∙ length-append (value_front coded.index) rest in
    inl (
      (λ is. none (value-of-fault bytes rest coded.index is_index front is)),
      record {
        index = coded.index;
        is_index = is_index;
        at_call = some;
        rest = rest;
        parts = front;
        placed = omega (arith, size, counted, behind);
        no_value = none;
      },
    )

-- the code that was read is `ok` and a colon is left, or it leads to no value
pub coded-leads : (coded : Coded) (after : List ℕ) → (coded.code ≡ codes "ok" → (rest : List ℕ) → after ≢ 58 ∷ rest) →
    (other : Coded) (rest : List ℕ) → Some coded ≡ Some other → other.code ≡ codes "ok" → after ≢ 58 ∷ rest
coded-leads coded after leads other rest same ok =
    let alike : coded ≡ other = cc in
    leads (ap (λ (c : Coded). c.code) alike ∙ ok) rest
