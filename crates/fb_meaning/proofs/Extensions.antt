-- Calls are only added at the end.
use Rattle.std.specs.Prelude.{◌≡◌, ℕ, zero, suc, ◌-◌, ◌<◌, nat_le, Bool, true, false, if◌then◌else◌, List, [], ◌∷◌, ◌++◌, map, length, take, slice_get, Option, Some, None, ⊤}
use Rattle.std.proofs.Common.{refl, sym, ap, ◌∙◌, append_assoc, append-nil, arith}
use Rattle.fb_base.specs.declared.method.MethodId.{MethodId}
use Rattle.fb_base.specs.declared.reply.Reply.{Reply}
use Rattle.fb_index.specs.Entry.{Occurrence}
use Rattle.fb_syntax.specs.Trees.{Statement, ServicesTree}
use Rattle.fb_tree.specs.Runs.{Tree, CallList, AndCall, How, Ran, Known as KnownHow}
use Rattle.fb_tree.specs.Records.{asked_of}
use Rattle.fb_transport.specs.Sources.{Source}
use Rattle.fb_transport.specs.declared.decision.Decision.{Decision}
use Rattle.fb_transport.specs.declared.decision.Decision.TheVariants.{Forward, Fault, Known}
use Rattle.fb_meaning.specs.Evaluations.{Evaluation, Spent, Missing, Done, then_on, State, begun}
use Rattle.fb_meaning.specs.Positions.{Position}
use Rattle.fb_meaning.specs.Meaning.{meaning}
use Rattle.fb_meaning.specs.Bodies.{Frame, Meaning, PreparedCall, returned, decided, decided_by, index_of_call, reply_of, asked_and_got}
use Rattle.fb_meaning.specs.CallLaws.{Answer, extended, ExtendsCalls}
use Rattle.fb_meaning.proofs.Steps.{Kept, IsStepRelation, kept_on, meaning_keeps}

-- ---- items by place

pub item_at_end : {A : Type 0} (xs rest : List A) (x : A) → slice_get (xs ++ x ∷ rest) (length xs) ≡ Some x
item_at_end [] rest x = refl
item_at_end (y ∷ xs) rest x = item_at_end xs rest x

pub item_stays : {A : Type 0} (xs more : List A) (k : ℕ) (x : A) → slice_get xs k ≡ Some x → slice_get (xs ++ more) k ≡ Some x
item_stays [] more k x e = absurd (cc)
item_stays (y ∷ xs) more zero x e = e
item_stays (y ∷ xs) more (suc k) x e = item_stays xs more k x e

pub item_of_front : {A : Type 0} (n k : ℕ) (xs : List A) → n < k → slice_get (take k xs) n ≡ slice_get xs n
item_of_front n zero xs h = absurd (omega arith)
item_of_front n (suc k) [] h = refl
item_of_front zero (suc k) (x ∷ xs) h = refl
item_of_front (suc n) (suc k) (x ∷ xs) h = item_of_front n k xs (omega (arith, h))

-- ---- extensions

pub extended_more : (calls : CallList) (first second : List Answer) → extended (extended calls first) second ≡ extended calls (first ++ second)
extended_more calls [] second = refl
extended_more calls (added ∷ first) second = extended_more (AndCall calls added.0 added.1) first second

pub asked_of_extended : (calls : CallList) (added : List Answer) → asked_of (extended calls added) ≡ asked_of calls ++ map (λ a. a.0) added
asked_of_extended calls [] = sym (append-nil (asked_of calls))
asked_of_extended calls (answer ∷ added) = asked_of_extended (AndCall calls answer.0 answer.1) added ∙ append_assoc (asked_of calls) (answer.0 ∷ []) (map (λ a. a.0) added)

pub record Extends (before after : State) : Type 0 where
  pub calls : ExtendsCalls before.calls after.calls

pub extends : IsStepRelation Extends
extends = record {
  same = λ t. record { calls = ([], refl) };
  joined = λ a b c h k. record {
    calls = (h.calls.0 ++ k.calls.0, k.calls.1 ∙ ap (λ calls. extended calls k.calls.0) h.calls.1 ∙ extended_more a.calls h.calls.0 k.calls.0);
  };
  assigned = λ t variables. record { calls = ([], refl) };
  unit = λ t left is. record { calls = ([], refl) };
}

-- a call that returned is one more
pub record AddsCall (t : State) (request : PreparedCall) (got : Reply) (after : State) : Type 0 where
  pub how : How
  pub calls : after.calls ≡ AndCall t.calls (asked_and_got request got) how
  pub variables : after.variables ≡ t.variables
  pub steps : after.steps ≡ t.steps

abbrev pub AddsDone : State → PreparedCall → Evaluation Reply State → Type 0
AddsDone t request Spent = ⊤
AddsDone t request Missing = ⊤
AddsDone t request (Done got after) = AddsCall t request got after

module _ (services : ServicesTree) (run : Meaning) (request : PreparedCall) (t : State) where
  ran_adds : (x : Evaluation Tree ℕ) → AddsDone t request (then_on x (λ tree left. returned t request (Ran tree) (reply_of tree) left))
  ran_adds Spent = tt
  ran_adds Missing = tt
  ran_adds (Done tree left) = record { how = Ran tree; calls = refl; variables = refl; steps = refl }

  known_adds : (got : Reply) (steps : ℕ) (injected : List MethodId) (fits : Bool)
      → AddsDone t request (if fits then returned t request (KnownHow steps injected) got (t.fuel - steps) else Spent)
  known_adds got steps injected false = tt
  known_adds got steps injected true = record { how = KnownHow steps injected; calls = refl; variables = refl; steps = refl }

  decision_adds : (index : List Occurrence) (decision : Option Decision) → AddsDone t request (decided_by services run index decision request t)
  decision_adds index None = tt
  decision_adds index (Some Forward) = ran_adds _
  decision_adds index (Some (Fault got)) = record { how = _; calls = refl; variables = refl; steps = refl }
  decision_adds index (Some (Known got steps injected)) = known_adds got steps injected (nat_le steps t.fuel)

pub call_adds : (services : ServicesTree) (source : Source) (run : Meaning) (frame : Frame) (request : PreparedCall) (t : State)
    → AddsDone t request (decided services source run frame request t)
call_adds services source run frame request t = decision_adds services run request t (index_of_call frame request) _

adds_extends : (t : State) (request : PreparedCall) (x : Evaluation Reply State) → AddsDone t request x → Kept Extends t x
adds_extends t request Spent h = tt
adds_extends t request Missing h = tt
adds_extends t request (Done got after) h = record { calls = ((asked_and_got request got, h.how) ∷ [], h.calls) }

pub call_extends : (services : ServicesTree) (source : Source) (run : Meaning) (frame : Frame) (request : PreparedCall) (t : State)
    → Kept Extends t (decided services source run frame request t)
call_extends services source run frame request t = adds_extends t request _ (call_adds services source run frame request t)

pub meaning_extends : (services : ServicesTree) (source : Source) (frame : Frame) (at : Position) (s : Statement) (t : State)
    → Kept Extends t (meaning services source frame at s t)
meaning_extends services source =
    meaning_keeps (λ _. Extends) (λ _. extends) services source
    (λ run keeps frame at service method args request t left e is.
    kept_on Extends extends t (begun left t) _ (extends.unit t left e) (call_extends services source run frame request (begun left t)))
