-- A script of a record's replies decides as the record's source does.
use Rattle.std.proofs.Common.{◌≡◌, ◌↔◌, ℕ, Bool, true, false, IsTrue, Option, Some, None, List, [], ◌∷◌, map, find, Ok, Err, refl, sym, ap, ◌∙◌, if◌then◌else◌}
use Rattle.std.specs.Option.{option_map}
use Rattle.std.proofs.lemmas.Bool.{false≢true}
use Rattle.fb_base.specs.declared.reply.Reply.{Reply}
use Rattle.fb_base.specs.declared.value.Value.{Value}
use Rattle.fb_index.specs.Entry.{Occurrence, same_entry}
use Rattle.fb_syntax.specs.Trees.{ServicesTree}
use Rattle.fb_tree.specs.Runs.{Tree, Invocation, CallList, NoCalls, AndCall, How, Faulted, Ran, Known as KnownHow}
use Rattle.fb_tree.specs.Records.{record_of}
use Rattle.fb_tree.specs.declared.asked.Asked.{Asked}
use Rattle.fb_tree.specs.declared.recorded.Record.{Record}
use Rattle.fb_transport.specs.Sources.{Source, reply_at, scripted, script_source}
use Rattle.fb_transport.specs.declared.decision.Decision.{Decision}
use Rattle.fb_transport.specs.declared.decision.Decision.TheVariants.{Forward, Known}
use Rattle.fb_meaning.specs.CallLaws.{AreDecided, IsDecidedSo}
use Rattle.fb_meaning.specs.DecidedCalls.{MethodsAreDecided}
use Rattle.fb_meaning.specs.DecisionLaws.{SameDecisionsSameTree}
use Rattle.fb_meaning.specs.Evaluations.{Evaluation, Spent, Missing, Done}
use Rattle.fb_meaning.specs.Meaning.{method_meaning}
use Rattle.fb_meaning.specs.Parting.{calls_in}
use Rattle.fb_meaning.specs.Records.{has_entry, known_reply, record_source}
use Rattle.fb_meaning.specs.Replays.{IsMadeAgain}
use Rattle.fb_eval.specs.Locals.{EndsWithRecord}
use Rattle.fb_eval.specs.declared.stop.Stop.TheVariants as stop
use Rattle.fb_evidence.specs.Deciding.{Decides}
use Rattle.fb_evidence.specs.Scripts.{reply_in}

-- ---- sources

abbrev known_of : Asked → Decision
known_of asked = Known asked.reply 0 []

pub known_at_entry : (calls : List Asked) (entry : Occurrence) → option_map scripted (reply_at (map reply_in calls) entry) ≡ known_reply calls entry
known_at_entry [] entry = refl
known_at_entry (asked ∷ calls) entry = by (same_entry asked.entry entry) (known_at_entry calls entry)
  where
    by : (b : Bool) → option_map scripted (reply_at (map reply_in calls) entry) ≡ known_reply calls entry
        → option_map scripted (option_map (λ (pair : Occurrence × Reply). pair.1) (if b then Some (reply_in asked) else find (λ pair. same_entry pair.0 entry) (map reply_in calls)))
        ≡ option_map known_of (if b then Some asked else find (has_entry entry) calls)
    by true later = refl
    by false later = later

abbrev script_of : Record → Source
script_of item = script_source (map reply_in item.calls)

-- sources that give the same at the calls of a body itself
abbrev AgreeAtCalls : Source → Source → Type 0
AgreeAtCalls one other = (entry : Occurrence) (callee : ℕ) (args : List Value) → one (entry ∷ []) callee args ≡ other (entry ∷ []) callee args

-- and let no callee be evaluated there
abbrev ForwardsNone : Source → Type 0
ForwardsNone source = (entry : Occurrence) (callee : ℕ) (args : List Value) → ¬ (source (entry ∷ []) callee args ≡ Some Forward)

agree_at_calls : (item : Record) → AgreeAtCalls (script_of item) (record_source item)
agree_at_calls item entry callee args = known_at_entry item.calls entry

record_forwards_none : (item : Record) → ForwardsNone (record_source item)
record_forwards_none item entry callee args is = by (find (has_entry entry) item.calls) is
  where
    by : (found : Option Asked) → ¬ (option_map known_of found ≡ Some Forward)
    by None is = absurd (cc)
    by (Some asked) is = absurd (cc)

-- ---- evaluations

module _ (one other : Source) (agree : AgreeAtCalls one other) (none : ForwardsNone one) where
  decided_so : (asked : Asked) (how : How) → IsDecidedSo one (asked.entry ∷ []) asked how → IsDecidedSo other (asked.entry ∷ []) asked how
  unfolding AreDecided
  decided_so asked Faulted so = sym (agree asked.entry asked.callee.0 asked.args) ∙ so
  decided_so asked (Ran (Invocation method args calls reply steps)) so = absurd (none asked.entry asked.callee.0 asked.args so.0)
  decided_so asked (KnownHow steps injected) so = sym (agree asked.entry asked.callee.0 asked.args) ∙ so

  decided_too : (calls : CallList) → AreDecided one [] calls → AreDecided other [] calls
  unfolding AreDecided
  decided_too NoCalls decided = tt
  decided_too (AndCall before asked how) decided = (decided_too before decided.0, decided_so asked how decided.1)

module _ (are : MethodsAreDecided) (same : SameDecisionsSameTree) (services : ServicesTree) (fuel : ℕ) (item : Record) where
  -- what one source makes the other makes too
  made_too : (one other : Source) → AgreeAtCalls one other → ForwardsNone one → (tree : Tree) (left : ℕ)
      → method_meaning services one fuel item.method item.args [] ≡ Done tree left → method_meaning services other fuel item.method item.args [] ≡ Done tree left
  made_too one other agree none tree left done =
      same services one other fuel item.method item.args [] [] tree left done
      (decided_too one other agree none (calls_in tree) (are services one fuel item.method item.args [] tree left done).decided)

  script_makes : (tree : Tree) (left : ℕ) → method_meaning services (record_source item) fuel item.method item.args [] ≡ Done tree left
      → method_meaning services (script_of item) fuel item.method item.args [] ≡ Done tree left
  script_makes = made_too (record_source item) (script_of item) (λ entry callee args. sym (agree_at_calls item entry callee args)) (record_forwards_none item)

  record_makes : (tree : Tree) (left : ℕ) → method_meaning services (script_of item) fuel item.method item.args [] ≡ Done tree left
      → method_meaning services (record_source item) fuel item.method item.args [] ≡ Done tree left
  record_makes = made_too (script_of item) (record_source item) (agree_at_calls item)
      (λ entry callee args is. record_forwards_none item entry callee args (sym (agree_at_calls item entry callee args) ∙ is))

  one_tree : (means : Evaluation Tree ℕ) (tree other : Tree) (left rest : ℕ) → means ≡ Done tree left → means ≡ Done other rest → tree ≡ other
  one_tree means tree other left rest here there = (let both = sym here ∙ there in done_same both)
    where
      done_same : ◌≡◌ {A = Evaluation Tree ℕ} (Done tree left) (Done other rest) → tree ≡ other
      done_same both = cc

  never_spent : (means : Evaluation Tree ℕ) (tree : Tree) (left : ℕ) → means ≡ Spent → ¬ (means ≡ Done tree left)
  never_spent means tree left spent done = (let both = sym spent ∙ done in absurd (cc))

  never_missing : (means : Evaluation Tree ℕ) (tree : Tree) (left : ℕ) → means ≡ Missing → ¬ (means ≡ Done tree left)
  never_missing means tree left missing done = (let both = sym missing ∙ done in absurd (cc))

  -- the evaluation by a script of the record's replies
  module _ (source : Source) (replies : List (Occurrence × Reply)) (args : List Value) (units : ℕ)
      (gives : source ≡ script_source replies) (replies_are : replies ≡ map reply_in item.calls) (args_are : args ≡ item.args) (units_are : units ≡ fuel) where
    abbrev means_here : Evaluation Tree ℕ
    means_here = method_meaning services source units item.method args []

    means_script : means_here ≡ method_meaning services (script_of item) fuel item.method item.args []
    means_script =
        ap (λ s. method_meaning services s units item.method args []) (gives ∙ ap script_source replies_are)
        ∙ ap (λ n. method_meaning services (script_of item) n item.method args []) units_are
        ∙ ap (λ a. method_meaning services (script_of item) fuel item.method a []) args_are

    pub done_decides : (left : ℕ) (made : Record) (answer : Bool) → EndsWithRecord means_here left (Ok made) → IsTrue answer ↔ (made ≡ item)
        → Decides (IsMadeAgain services fuel item) answer
    done_decides left made true ends equal = record {
      tree = ends.0;
      left = left;
      done = record_makes ends.0 left (sym means_script ∙ ends.1);
      recorded = ends.2 ∙ equal.0 refl;
    }
    done_decides left made false ends equal = λ again.
        let one = one_tree means_here ends.0 again.tree left again.left ends.1 (means_script ∙ script_makes again.tree again.left again.done) in
        false≢true (equal.1 (sym ends.2 ∙ ap record_of one ∙ again.recorded))

    pub spent_decides : (left : ℕ) → EndsWithRecord means_here left (Err stop.Spent) → ¬ (IsMadeAgain services fuel item)
    spent_decides left spent again = never_spent means_here again.tree again.left spent (means_script ∙ script_makes again.tree again.left again.done)

    pub missing_decides : (left : ℕ) → EndsWithRecord means_here left (Err stop.Missing) → ¬ (IsMadeAgain services fuel item)
    missing_decides left missing again = never_missing means_here again.tree again.left missing (means_script ∙ script_makes again.tree again.left again.done)
