-- Lines are told by their JSON.
use Rattle.std.proofs.Common.{◌≡◌, ℕ, ◌^◌, ◌<◌, Bool, true, false, List, Option, Some, None, decimal, codes, inl, inr, refl, sym, ap, ◌∙◌, subst, arith}
use Rattle.std.specs.Prelude.{IfSome}
use Rattle.std.specs.List.{All}
use Rattle.std.proofs.lemmas.Fmt.{decimal_injective}
use Rattle.std.proofs.lemmas.List.{append_cancel_left}
use Rattle.std.proofs.lemmas.Slice.Eq.{bytes_eq-Decides}
use Rattle.std.specs.Prelude.{bytes_eq}
use Rattle.serde_json.specs.Data.{Data, string, boolean, object, null, Members, member}
use Rattle.fb_base.specs.declared.method.MethodName.{MethodName}
use Rattle.fb_base.specs.declared.reply.Reply.{Reply}
use Rattle.fb_base.specs.declared.reply.Reply.TheVariants as reply
use Rattle.fb_base.specs.Replies.{IsProperReply}
use Rattle.fb_base.specs.Values.{IsProper}
use Rattle.fb_index.specs.Entry.{Occurrence}
use Rattle.fb_index.specs.Index.{IsIndex, index_text}
use Rattle.fb_index.specs.Plan.{IsPlan, plan_text}
use Rattle.fb_index.specs.declared.fault.Fault.{Fault}
use Rattle.fb_tree.specs.declared.outcome.Outcome.{Outcome}
use Rattle.fb_tree.specs.declared.outcome.Outcome.TheVariants as outcome
use Rattle.fb_report.specs.declared.line.Cause.{Cause}
use Rattle.fb_report.specs.declared.line.Cause.TheVariants as cause
use Rattle.fb_report.specs.declared.line.Line.{Line}
use Rattle.fb_report.specs.declared.line.Line.TheVariants.{Header, Inv, Plan, End}
use Rattle.fb_report.specs.declared.named.NamedAsked.{NamedAsked}
use Rattle.fb_report.specs.declared.named.NamedRecord.{NamedRecord}
use Rattle.fb_report.specs.Ranges.{IsLong, IsMethodName, IsProperCall, IsProperRecord, IsProperOutcome, IsProperLine, IsInRange, IsVersion, IsFaultInRange}
use Rattle.fb_report.specs.Trees.{code_of, end_tree, fault_key, faulted_index, faulted_reply, plan_line_tree, plan_members, cause_tree, call_tree, index_tree, inv_tree, line_tree, list_tree, method_tree, number_tree, optional_tree, outcome_tree, plan_tree, reply_tree, value_tree}
use Rattle.fb_reading.specs.Answers.{IsLine}
use Rattle.fb_reading.proofs.Numerals.{name-free, decimal-free}
use Rattle.fb_reading.proofs.Signs.{parted-same}
use Rattle.fb_reading.proofs.Told.{list-told, reply-told, value-told}

-- ---- texts and members

other-text : (a b : List ℕ) → bytes_eq a b ≡ false → a ≡ b → ⊥
other-text a b differ same =
    let clash : true ≡ false = sym ((bytes_eq-Decides a b).1 same) ∙ differ in
    cc

text-told : (a b : List ℕ) → string a ≡ string b → a ≡ b
text-told a b same = cc

other-string : (a b : List ℕ) → bytes_eq a b ≡ false → string a ≡ string b → ⊥
other-string a b differ same = other-text a b differ (text-told a b same)

pub opened : {ms ns : Members} → object ms ≡ object ns → ms ≡ ns
opened same = cc

first-key : {k l : List ℕ} {d e : Data} {ms ns : Members} → object (member k d ms) ≡ object (member l e ns) → k ≡ l
first-key same = cc

value-same : {k l : List ℕ} {d e : Data} {ms ns : Members} → member k d ms ≡ member l e ns → d ≡ e
value-same same = cc

rest-same : {k l : List ℕ} {d e : Data} {ms ns : Members} → member k d ms ≡ member l e ns → ms ≡ ns
rest-same same = cc

boolean-told : (a b : Bool) → boolean a ≡ boolean b → a ≡ b
boolean-told a b same = cc

-- ---- parts

number-told : (m n : ℕ) → number_tree m ≡ number_tree n → m ≡ n
number-told m n same = cc

method-told : (a b : MethodName) → IsMethodName a → IsMethodName b → method_tree a ≡ method_tree b → a ≡ b
method-told a b p q same =
    let texts = text-told _ _ same in
    let parts = parted-same 46 a.service b.service a.method b.method (name-free 46 _ refl refl p.0) (name-free 46 _ refl refl q.0) texts in
    (λ i. record { service = parts.0 i; method = parts.1 i })

decimal-told : (m n : ℕ) → m < 2 ^ 32 → n < 2 ^ 32 → decimal m ≡ decimal n → m ≡ n
decimal-told m n p q same = decimal_injective m n (omega arith) (omega arith) same

outcome-told : (a b : Outcome) → IsProperOutcome a → IsProperOutcome b → outcome_tree a ≡ outcome_tree b → a ≡ b
outcome-told outcome.Passed outcome.Passed p q same = refl
outcome-told outcome.Passed (outcome.AssertFailed n) p q same = absurd (other-string _ _ refl same)
outcome-told outcome.Passed (outcome.CallFailed s d) p q same = absurd (other-string _ _ refl same)
outcome-told outcome.Passed (outcome.Fault n) p q same = absurd (other-string _ _ refl same)
outcome-told (outcome.AssertFailed m) outcome.Passed p q same = absurd (other-string _ _ refl same)
outcome-told (outcome.AssertFailed m) (outcome.AssertFailed n) p q same =
    let texts = text-told _ _ same in
    ap outcome.AssertFailed (decimal-told m n p q (append_cancel_left (codes "assert_failed ") _ _ texts))
outcome-told (outcome.AssertFailed m) (outcome.CallFailed s d) p q same = absurd (other-string _ _ refl same)
outcome-told (outcome.AssertFailed m) (outcome.Fault n) p q same = absurd (other-string _ _ refl same)
outcome-told (outcome.CallFailed r c) outcome.Passed p q same = absurd (other-string _ _ refl same)
outcome-told (outcome.CallFailed r c) (outcome.AssertFailed n) p q same = absurd (other-string _ _ refl same)
outcome-told (outcome.CallFailed r c) (outcome.CallFailed s d) p q same =
    let texts = append_cancel_left (codes "call_failed ") _ _ (text-told _ _ same) in
    let parts = parted-same 32 (decimal r) (decimal s) c d (decimal-free 32 r (omega arith) (omega (arith, p.0))) (decimal-free 32 s (omega arith) (omega (arith, q.0))) texts in
    let sites = decimal-told r s p.0 q.0 parts.0 in
    (λ i. outcome.CallFailed (sites i) (parts.1 i))
outcome-told (outcome.CallFailed r c) (outcome.Fault n) p q same = absurd (other-string _ _ refl same)
outcome-told (outcome.Fault m) outcome.Passed p q same = absurd (other-string _ _ refl same)
outcome-told (outcome.Fault m) (outcome.AssertFailed n) p q same = absurd (other-string _ _ refl same)
outcome-told (outcome.Fault m) (outcome.CallFailed s d) p q same = absurd (other-string _ _ refl same)
outcome-told (outcome.Fault m) (outcome.Fault n) p q same =
    let texts = text-told _ _ same in
    ap outcome.Fault (decimal-told m n p q (append_cancel_left (codes "fault ") _ _ texts))

cause-told : (a b : Cause) → cause_tree a ≡ cause_tree b → a ≡ b
cause-told cause.Completed cause.Completed same = refl
cause-told cause.Completed cause.Fuel same = absurd (other-string _ _ refl same)
cause-told cause.Completed cause.Budget same = absurd (other-string _ _ refl same)
cause-told cause.Fuel cause.Completed same = absurd (other-string _ _ refl same)
cause-told cause.Fuel cause.Fuel same = refl
cause-told cause.Fuel cause.Budget same = absurd (other-string _ _ refl same)
cause-told cause.Budget cause.Completed same = absurd (other-string _ _ refl same)
cause-told cause.Budget cause.Fuel same = absurd (other-string _ _ refl same)
cause-told cause.Budget cause.Budget same = refl

values-told : (xs ys : List _) → All IsProper xs → All IsProper ys → list_tree value_tree xs ≡ list_tree value_tree ys → xs ≡ ys
values-told xs ys p q same = list-told IsProper value_tree value-told xs ys p q same

call-told : (a b : NamedAsked) → IsProperCall a → IsProperCall b → call_tree a ≡ call_tree b → a ≡ b
call-told a b p q same =
    let at_args = opened same in
    let at_callee = rest-same at_args in
    let at_count = rest-same at_callee in
    let at_reply = rest-same at_count in
    let at_site = rest-same at_reply in
    let args = values-told a.args b.args p.args q.args (value-same at_args) in
    let callees = method-told a.callee b.callee p.callee q.callee (value-same at_callee) in
    let counts = number-told a.entry.count b.entry.count (value-same at_count) in
    let replies = reply-told a.reply b.reply p.reply q.reply (value-same at_reply) in
    let sites = number-told a.entry.site b.entry.site (value-same at_site) in
    (λ i. record { entry = record { site = sites i; count = counts i }; callee = callees i; args = args i; reply = replies i })

-- ---- inv lines

record-told : (id j plan k : ℕ) (a b : NamedRecord) → IsProperRecord a → IsProperRecord b → inv_tree id plan a ≡ inv_tree j k b → Inv id plan a ≡ Inv j k b
record-told id j plan k a b p q same =
    let at_args = opened same in
    let at_calls = rest-same at_args in
    let at_id = rest-same at_calls in
    let at_kind = rest-same at_id in
    let at_method = rest-same at_kind in
    let at_plan = rest-same at_method in
    let at_reply = rest-same at_plan in
    let at_steps = rest-same at_reply in
    let args = values-told a.args b.args p.args q.args (value-same at_args) in
    let calls = list-told IsProperCall call_tree call-told a.calls b.calls p.calls q.calls (value-same at_calls) in
    let ids = number-told id j (value-same at_id) in
    let methods = method-told a.method b.method p.method q.method (value-same at_method) in
    let plans = number-told plan k (value-same at_plan) in
    let replies = reply-told a.reply b.reply p.reply q.reply (value-same at_reply) in
    let steps = number-told a.steps b.steps (value-same at_steps) in
    (λ i. Inv (ids i) (plans i) (record { method = methods i; args = args i; calls = calls i; reply = replies i; steps = steps i }))

-- ---- plan lines, whose first key tells their version

abbrev FitsFault : Option (List Occurrence × Reply) → Type 0
FitsFault fault = IfSome fault (λ f. IsIndex f.0 × IsProperReply f.1)

by-version : (P : ℕ → ℕ → Type 0) → P 1 1 → P 1 2 → P 2 1 → P 2 2 → (v w : ℕ) → IsVersion v → IsVersion w → P v w
by-version P one other another two v w (inl a) (inl b) = subst (λ x. P x w) (sym a) (subst (P 1) (sym b) one)
by-version P one other another two v w (inl a) (inr b) = subst (λ x. P x w) (sym a) (subst (P 1) (sym b) other)
by-version P one other another two v w (inr a) (inl b) = subst (λ x. P x w) (sym a) (subst (P 2) (sym b) another)
by-version P one other another two v w (inr a) (inr b) = subst (λ x. P x w) (sym a) (subst (P 2) (sym b) two)

key-other : (key : List ℕ) → (codes "code" ≡ key → ⊥) → (codes "fault" ≡ key → ⊥) → (v : ℕ) → IsVersion v → fault_key v ≡ key → ⊥
key-other key one two v (inl a) same = one (subst (λ x. fault_key x ≡ key) a same)
key-other key one two v (inr a) same = two (subst (λ x. fault_key x ≡ key) a same)

reply-is-some : (r : Reply) → reply_tree r ≡ null → ⊥
reply-is-some (reply.Ok v) same = cc
reply-is-some (reply.Err code) same = cc

replies-told : (f g : Option (List Occurrence × Reply)) → FitsFault f → FitsFault g → optional_tree reply_tree (faulted_reply f) ≡ optional_tree reply_tree (faulted_reply g) → faulted_reply f ≡ faulted_reply g
replies-told None None p q same = refl
replies-told None (Some g) p q same = absurd (reply-is-some g.1 (sym same))
replies-told (Some f) None p q same = absurd (reply-is-some f.1 same)
replies-told (Some f) (Some g) p q same = ap Some (reply-told f.1 g.1 p.1 q.1 same)

-- in version 1
codes-told : (f g : Option (List Occurrence × Reply)) → IsFaultInRange 1 f → IsFaultInRange 1 g → optional_tree string (code_of (faulted_reply f)) ≡ optional_tree string (code_of (faulted_reply g))
    → faulted_reply f ≡ faulted_reply g
codes-told None None p q same = refl
codes-told (Some (i, reply.Ok v)) g p q same = absurd (omega (arith, p.1))
codes-told f (Some (j, reply.Ok w)) p q same = absurd (omega (arith, q.1))
codes-told None (Some (j, reply.Err d)) p q same = absurd cc
codes-told (Some (i, reply.Err c)) None p q same = absurd cc
codes-told (Some (i, reply.Err c)) (Some (j, reply.Err d)) p q same =
    let texts : c ≡ d = cc in
    ap (λ code. Some (reply.Err code)) texts

fault-told : (f g : Option (List Occurrence × Reply)) → faulted_index f ≡ faulted_index g → faulted_reply f ≡ faulted_reply g → f ≡ g
fault-told None None index reply = refl
fault-told None (Some g) index reply = absurd cc
fault-told (Some f) None index reply = absurd cc
fault-told (Some f) (Some g) index reply =
    let places : f.0 ≡ g.0 = cc in
    let replies : f.1 ≡ g.1 = cc in
    (λ i. Some (places i, replies i))

parent-told : (p q : Option ℕ) → optional_tree number_tree p ≡ optional_tree number_tree q → p ≡ q
parent-told None None same = refl
parent-told None (Some n) same = absurd cc
parent-told (Some m) None same = absurd cc
parent-told (Some m) (Some n) same =
    let numbers : m ≡ n = cc in
    ap Some numbers

uses-told : (xs ys : List ℕ) → All IsLong xs → All IsLong ys → list_tree number_tree xs ≡ list_tree number_tree ys → xs ≡ ys
uses-told xs ys p q same = list-told IsLong number_tree (λ m n a b e. number-told m n e) xs ys p q same

-- texts of indexes and of plans tell them
module _ (indexes : (a b : List Occurrence) → IsIndex a → IsIndex b → index_text a ≡ index_text b → a ≡ b) (plans : (a b : List Fault) → IsPlan a → IsPlan b → plan_text a ≡ plan_text b → a ≡ b) where
  index-told : (f g : Option (List Occurrence × Reply)) → FitsFault f → FitsFault g → optional_tree index_tree (faulted_index f) ≡ optional_tree index_tree (faulted_index g) → faulted_index f ≡ faulted_index g
  index-told None None p q same = refl
  index-told None (Some g) p q same = absurd cc
  index-told (Some f) None p q same = absurd cc
  index-told (Some f) (Some g) p q same =
      let texts : index_text f.0 ≡ index_text g.0 = cc in
      ap Some (indexes f.0 g.0 p.0 q.0 texts)

  stopped-told : (a b : Option (List Fault)) → IfSome a IsPlan → IfSome b IsPlan → optional_tree plan_tree a ≡ optional_tree plan_tree b → a ≡ b
  stopped-told None None p q same = refl
  stopped-told None (Some b) p q same = absurd cc
  stopped-told (Some a) None p q same = absurd cc
  stopped-told (Some a) (Some b) p q same =
      let texts : plan_text a ≡ plan_text b = cc in
      ap Some (plans a b p q texts)

  module _ (id j : ℕ) (parent above : Option ℕ) (f g : Option (List Occurrence × Reply)) (run ran : Bool) (uses used : List ℕ) (o u : Outcome)
      (p : FitsFault f) (q : FitsFault g) (all : All IsLong uses) (others : All IsLong used) (ends : IsProperOutcome o) (ended : IsProperOutcome u) where
    rest-told : (version : ℕ) → faulted_reply f ≡ faulted_reply g → plan_members id parent (faulted_index f) run uses o ≡ plan_members j above (faulted_index g) ran used u
        → Plan version id parent f run uses o ≡ Plan version j above g ran used u
    rest-told version replies at_id =
        let at_index = rest-same at_id in
        let at_kind = rest-same at_index in
        let at_outcome = rest-same at_kind in
        let at_parent = rest-same at_outcome in
        let at_run = rest-same at_parent in
        let at_uses = rest-same at_run in
        let ids = number-told id j (value-same at_id) in
        let faults = fault-told f g (index-told f g p q (value-same at_index)) replies in
        let outcomes = outcome-told o u ends ended (value-same at_outcome) in
        let parents = parent-told parent above (value-same at_parent) in
        let runs = boolean-told run ran (value-same at_run) in
        let numbers = uses-told uses used all others (value-same at_uses) in
        (λ i. Plan version (ids i) (parents i) (faults i) (runs i) (numbers i) (outcomes i))

    AreTold : ℕ → ℕ → Type 0
    AreTold v w =
        IsFaultInRange v f → IsFaultInRange w g → plan_line_tree v id parent f run uses o ≡ plan_line_tree w j above g ran used u
        → Plan v id parent f run uses o ≡ Plan w j above g ran used u

    one-told : AreTold 1 1
    unfolding AreTold
    one-told x y same = rest-told 1 (codes-told f g x y (value-same (opened same))) (rest-same (opened same))

    two-told : AreTold 2 2
    unfolding AreTold
    two-told x y same = rest-told 2 (replies-told f g p q (value-same (opened same))) (rest-same (opened same))

    other-told : AreTold 1 2
    unfolding AreTold
    other-told x y same = absurd (other-text (codes "code") (codes "fault") refl (first-key same))

    another-told : AreTold 2 1
    unfolding AreTold
    another-told x y same = absurd (other-text (codes "fault") (codes "code") refl (first-key same))

    plan-told : (v w : ℕ) → IsVersion v → IsVersion w → AreTold v w
    plan-told v w a b = by-version AreTold one-told other-told another-told two-told v w a b

  end-told : (a b : Cause) (plans_a plans_b run ran pruned cut failed lost invs seen : ℕ) (stopped halted : Option (List Fault)) → IfSome stopped IsPlan → IfSome halted IsPlan
      → end_tree a plans_a run pruned failed invs stopped ≡ end_tree b plans_b ran cut lost seen halted → End a plans_a run pruned failed invs stopped ≡ End b plans_b ran cut lost seen halted
  end-told a b plans_a plans_b run ran pruned cut failed lost invs seen stopped halted p q same =
      let at_cause = opened same in
      let at_failed = rest-same at_cause in
      let at_invs = rest-same at_failed in
      let at_kind = rest-same at_invs in
      let at_plans = rest-same at_kind in
      let at_pruned = rest-same at_plans in
      let at_run = rest-same at_pruned in
      let at_stopped = rest-same at_run in
      let causes = cause-told a b (value-same at_cause) in
      let fails = number-told failed lost (value-same at_failed) in
      let records = number-told invs seen (value-same at_invs) in
      let lines = number-told plans_a plans_b (value-same at_plans) in
      let prunes = number-told pruned cut (value-same at_pruned) in
      let runs = number-told run ran (value-same at_run) in
      let stops = stopped-told stopped halted p q (value-same at_stopped) in
      (λ i. End (causes i) (lines i) (runs i) (prunes i) (fails i) (records i) (stops i))

  pub line-told : (a b : Line) → IsLine a → IsLine b → line_tree a ≡ line_tree b → a ≡ b
  unfolding IsProperLine IsInRange line_tree AreTold
  line-told (Header version fuel reduction) (Header other energy reduced) p q same =
      let at_fuel = opened same in
      let at_kind = rest-same at_fuel in
      let at_reduction = rest-same at_kind in
      let at_version = rest-same at_reduction in
      let fuels = number-told fuel energy (value-same at_fuel) in
      let flags = boolean-told reduction reduced (value-same at_reduction) in
      let versions = number-told version other (value-same at_version) in
      (λ i. Header (versions i) (fuels i) (flags i))
  line-told (Header version fuel reduction) (Inv id plan made) p q same = absurd (other-text _ _ refl (first-key same))
  line-told (Header version fuel reduction) (Plan v id parent fault run uses outcome) p q same =
      absurd (key-other (codes "fuel") (other-text _ _ refl) (other-text _ _ refl) v q.1.0 (sym (first-key same)))
  line-told (Header version fuel reduction) (End cause plans_b run pruned failed invs stopped) p q same = absurd (other-text _ _ refl (first-key same))
  line-told (Inv id plan made) (Header version fuel reduction) p q same = absurd (other-text _ _ refl (first-key same))
  line-told (Inv id plan made) (Inv j k kept) p q same = record-told id j plan k made kept p.0.2 q.0.2 same
  line-told (Inv id plan made) (Plan v j parent fault run uses outcome) p q same =
      absurd (key-other (codes "args") (other-text _ _ refl) (other-text _ _ refl) v q.1.0 (sym (first-key same)))
  line-told (Inv id plan made) (End cause plans_b run pruned failed invs stopped) p q same = absurd (other-text _ _ refl (first-key same))
  line-told (Plan v id parent fault run uses outcome) (Header version fuel reduction) p q same =
      absurd (key-other (codes "fuel") (other-text _ _ refl) (other-text _ _ refl) v p.1.0 (first-key same))
  line-told (Plan v id parent fault run uses outcome) (Inv j plan made) p q same =
      absurd (key-other (codes "args") (other-text _ _ refl) (other-text _ _ refl) v p.1.0 (first-key same))
  line-told (Plan v id parent fault run uses outcome) (Plan w j above other ran used ended) p q same =
      plan-told id j parent above fault other run ran uses used outcome ended p.0.fault_fits q.0.fault_fits p.0.uses_fits q.0.uses_fits p.0.outcome_fits q.0.outcome_fits v w p.1.0 q.1.0 p.1.1 q.1.1 same
  line-told (Plan v id parent fault run uses outcome) (End cause plans_b ran pruned failed invs stopped) p q same =
      absurd (key-other (codes "cause") (other-text _ _ refl) (other-text _ _ refl) v p.1.0 (first-key same))
  line-told (End cause plans_a run pruned failed invs stopped) (Header version fuel reduction) p q same = absurd (other-text _ _ refl (first-key same))
  line-told (End cause plans_a run pruned failed invs stopped) (Inv id plan made) p q same = absurd (other-text _ _ refl (first-key same))
  line-told (End cause plans_a run pruned failed invs stopped) (Plan v id parent fault ran uses outcome) p q same =
      absurd (key-other (codes "cause") (other-text _ _ refl) (other-text _ _ refl) v q.1.0 (sym (first-key same)))
  line-told (End a plans_a run pruned failed invs stopped) (End b plans_b ran cut lost seen halted) p q same =
      end-told a b plans_a plans_b run ran pruned cut failed lost invs seen stopped halted p.0.stopped_fits q.0.stopped_fits same
