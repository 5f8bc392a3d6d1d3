-- Calls that are added to others, and the parts of a tree.
use Rattle.std.proofs.Common.{◌≡◌, ◌≤◌, ◌+◌, List, [], ◌∷◌, ◌++◌, map, refl, sym, ap, ◌∙◌, arith, append_assoc, append-nil}
use Rattle.fb_index.specs.Entry.{Occurrence}
use Rattle.fb_tree.specs.Runs.{Tree, Invocation, CallList, NoCalls, AndCall, How, Ran}
use Rattle.fb_tree.specs.Records.{asked_of, record_of, records_of, records_in, records_below, steps_of, steps_in, steps_below}
use Rattle.fb_tree.specs.Calls.{calls_within, calls_below, injected_of, injected_in}
use Rattle.fb_tree.specs.declared.asked.Asked.{Asked}
use Rattle.fb_tree.specs.declared.recorded.Record.{Record}
use Rattle.fb_transport.specs.Sources.{Source}
use Rattle.fb_meaning.specs.Bodies.{reply_of}
use Rattle.fb_meaning.specs.CallLaws.{Answer, answers_of, extended, ExtendsCalls, AreDecided, IsDecidedSo}
use Rattle.fb_meaning.specs.Each.{HoldsOfEach}
use Rattle.fb_meaning.specs.Parting.{calls_in}
use Rattle.fb_stitch.proofs.Lists.{each_front, each_behind}

-- ---- calls that are added

extended_more : (calls : CallList) (first second : List Answer) → extended (extended calls first) second ≡ extended calls (first ++ second)
extended_more calls [] second = refl
extended_more calls (added ∷ first) second = extended_more (AndCall calls added.0 added.1) first second

-- any calls are added to none
pub from_none : (calls : CallList) → ExtendsCalls NoCalls calls
from_none calls = (answers_of calls, by calls)
  where
    by : (calls : CallList) → calls ≡ extended NoCalls (answers_of calls)
    by NoCalls = refl
    by (AndCall before asked how) =
        ap (λ calls. AndCall calls asked how) (by before) ∙ extended_more NoCalls (answers_of before) ((asked, how) ∷ [])

pub asked_of_extended : (calls : CallList) (added : List Answer) → asked_of (extended calls added) ≡ asked_of calls ++ map (λ a. a.0) added
asked_of_extended calls [] = sym (append-nil (asked_of calls))
asked_of_extended calls (answer ∷ added) = asked_of_extended (AndCall calls answer.0 answer.1) added ∙ append_assoc (asked_of calls) (answer.0 ∷ []) (map (λ a. a.0) added)

decided_front : (source : Source) (index : List Occurrence) (calls : CallList) (added : List Answer)
    → AreDecided source index (extended calls added) → AreDecided source index calls
unfolding AreDecided
decided_front source index calls [] h = h
decided_front source index calls (answer ∷ added) h = (decided_front source index (AndCall calls answer.0 answer.1) added h).0

pub decided_first : (source : Source) (index : List Occurrence) (calls : CallList) (asked : Asked) (how : How) (added : List Answer)
    → AreDecided source index (extended calls ((asked, how) ∷ added)) → IsDecidedSo source (index ++ asked.entry ∷ []) asked how
unfolding AreDecided
decided_first source index calls asked how added h = (decided_front source index (AndCall calls asked how) added h).1

recorded_front : (P : Record → Type 0) (calls : CallList) (added : List Answer)
    → HoldsOfEach P (records_in (extended calls added)) → HoldsOfEach P (records_in calls)
unfolding records_in
recorded_front P calls [] h = h
recorded_front P calls (answer ∷ added) h =
    each_front P (records_in calls) (records_below answer.1) (recorded_front P (AndCall calls answer.0 answer.1) added h)

pub recorded_first : (P : Record → Type 0) (calls : CallList) (asked : Asked) (how : How) (added : List Answer)
    → HoldsOfEach P (records_in (extended calls ((asked, how) ∷ added))) → HoldsOfEach P (records_below how)
unfolding records_in
recorded_first P calls asked how added h = each_behind P (records_in calls) (records_below how) (recorded_front P (AndCall calls asked how) added h)

steps_front : (calls : CallList) (added : List Answer) → steps_in calls ≤ steps_in (extended calls added)
unfolding steps_in
steps_front calls [] = omega arith
steps_front calls (answer ∷ added) = omega (arith, steps_front (AndCall calls answer.0 answer.1) added)

pub steps_with_first : (calls : CallList) (asked : Asked) (how : How) (added : List Answer)
    → steps_in calls + steps_below how ≤ steps_in (extended calls ((asked, how) ∷ added))
unfolding steps_in
steps_with_first calls asked how added = steps_front (AndCall calls asked how) added

-- ---- the parts of a tree

pub calls_recorded : (tree : Tree) → (record_of tree).calls ≡ asked_of (calls_in tree)
calls_recorded (Invocation method args calls reply steps) = refl

pub records_parts : (tree : Tree) → records_of tree ≡ record_of tree ∷ records_in (calls_in tree)
unfolding records_of
records_parts (Invocation method args calls reply steps) = refl

pub steps_parts : (tree : Tree) → steps_of tree ≡ (record_of tree).steps + steps_in (calls_in tree)
unfolding steps_of
steps_parts (Invocation method args calls reply steps) = refl

pub calls_parts : (index : List Occurrence) (tree : Tree) → calls_below index (Ran tree) ≡ calls_within index (calls_in tree)
unfolding calls_within
calls_parts index (Invocation method args calls reply steps) = refl

pub injected_parts : (tree : Tree) → injected_of tree ≡ injected_in (calls_in tree)
unfolding injected_of
injected_parts (Invocation method args calls reply steps) = refl

pub reply_recorded : (tree : Tree) → (record_of tree).reply ≡ reply_of tree
reply_recorded (Invocation method args calls reply steps) = refl
