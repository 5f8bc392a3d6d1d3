-- Where calls part ways, visits do.
use Rattle.std.specs.Prelude.{◌≡◌, None, List, [], ◌∷◌, ◌++◌, map}
use Rattle.std.proofs.Common.{refl, sym, ap, subst, ◌∙◌, append_assoc, append-nil}
use Rattle.std.proofs.lemmas.List.{map-append}
use Rattle.fb_base.specs.declared.method.MethodId.{MethodId}
use Rattle.fb_index.specs.Entry.{Occurrence}
use Rattle.fb_tree.specs.Runs.{Tree, Invocation, CallList, AndCall, How, Ran}
use Rattle.fb_tree.specs.Calls.{PlacedCall, calls_within, calls_below, call_at, visit_of}
use Rattle.fb_tree.specs.declared.asked.Asked.{Asked}
use Rattle.fb_tree.specs.declared.visit.Visit.{Visit}
use Rattle.fb_meaning.specs.CallLaws.{Answer, extended}
use Rattle.fb_meaning.specs.Parting.{PartWays, PartHere, PartBelow, calls_in, VisitsPart, VisitsPartToo}

abbrev visits_within : List Occurrence → CallList → List Visit
visits_within index calls = map visit_of (calls_within index calls)

-- what comes behind a list of calls comes behind its visits
record ComesBehind (index : List Occurrence) (calls : CallList) (more : List Answer) : Type 0 where
  rest : List Visit
  are : visits_within index (extended calls more) ≡ visits_within index calls ++ rest

comes_behind : (index : List Occurrence) (calls : CallList) (more : List Answer) → ComesBehind index calls more
unfolding calls_within
comes_behind index calls [] = record { rest = []; are = sym (append-nil (visits_within index calls)) }
comes_behind index calls (answer ∷ more) =
    let after = comes_behind index (AndCall calls answer.0 answer.1) more in
    let here : List PlacedCall = call_at (index ++ answer.0.entry ∷ []) answer.0 answer.1 ∷ calls_below (index ++ answer.0.entry ∷ []) answer.1 in
    record {
      rest = map visit_of here ++ after.rest;
      are = after.are ∙ ap (λ vs. vs ++ after.rest) (map-append visit_of (calls_within index calls) here) ∙ append_assoc (visits_within index calls) (map visit_of here) after.rest;
    }

visits_below : List Occurrence → How → List Visit
visits_below index how = map visit_of (calls_below index how)

record Opened (index : List Occurrence) (calls before : CallList) (asked : Asked) (how : How) : Type 0 where
  rest : List Visit
  are : visits_within index calls ≡ visits_within index before ++ (visit_of (call_at (index ++ asked.entry ∷ []) asked how) ∷ (visits_below (index ++ asked.entry ∷ []) how ++ rest))

opened : (index : List Occurrence) (calls before : CallList) (asked : Asked) (how : How) (more : List Answer) → calls ≡ extended (AndCall before asked how) more → Opened index calls before asked how
unfolding calls_within visits_below
opened index calls before asked how more e =
    let behind = comes_behind index (AndCall before asked how) more in
    let here : List PlacedCall = call_at (index ++ asked.entry ∷ []) asked how ∷ calls_below (index ++ asked.entry ∷ []) how in
    record {
      rest = behind.rest;
      are = ap (visits_within index) e ∙ behind.are
          ∙ ap (λ vs. vs ++ behind.rest) (map-append visit_of (calls_within index before) here)
          ∙ append_assoc (visits_within index before) (map visit_of here) behind.rest;
    }

below_tree : (index : List Occurrence) (tree : Tree) → visits_below index (Ran tree) ≡ visits_within index (calls_in tree)
unfolding calls_within visits_below
below_tree index (Invocation method args calls reply steps) = refl

-- what stands before and behind two lists that part
around : (first second before rest other_rest : List Visit) (a b : Visit) → a ≡ b → VisitsPart first second
    → VisitsPart (before ++ (a ∷ (first ++ rest))) (before ++ (b ∷ (second ++ other_rest)))
around first second before rest other_rest a b same part = record {
  shared = before ++ a ∷ part.shared;
  here = part.here;
  there = part.there;
  after_here = part.after_here ++ rest;
  after_there = part.after_there ++ other_rest;
  first_visits =
      ap (λ vs. before ++ (a ∷ (vs ++ rest))) part.first_visits
      ∙ ap (λ vs. before ++ (a ∷ vs)) (append_assoc part.shared (part.here ∷ part.after_here) rest)
      ∙ sym (append_assoc before (a ∷ part.shared) (part.here ∷ (part.after_here ++ rest)));
  second_visits =
      ap (λ v. before ++ (v ∷ (second ++ other_rest))) (sym same)
      ∙ ap (λ vs. before ++ (a ∷ (vs ++ other_rest))) part.second_visits
      ∙ ap (λ vs. before ++ (a ∷ vs)) (append_assoc part.shared (part.there ∷ part.after_there) other_rest)
      ∙ sym (append_assoc before (a ∷ part.shared) (part.there ∷ (part.after_there ++ other_rest)));
  same_index = part.same_index;
  same_callee = part.same_callee;
  other_fault = part.other_fault;
}

abbrev unfailed_visit : List Occurrence → MethodId → Visit
unfailed_visit index callee = record { index = index; callee = callee; fault = None }

calls_part : (index : List Occurrence) (calls others : CallList) → PartWays calls others → VisitsPart (visits_within index calls) (visits_within index others)
calls_part index calls others (PartHere before asked other how other_how more other_more e f same differ) =
    let mine = opened index calls before asked how more e in
    let theirs = opened index others before other other_how other_more f in
    record {
      shared = visits_within index before;
      here = visit_of (call_at (index ++ asked.entry ∷ []) asked how);
      there = visit_of (call_at (index ++ other.entry ∷ []) other other_how);
      after_here = visits_below (index ++ asked.entry ∷ []) how ++ mine.rest;
      after_there = visits_below (index ++ other.entry ∷ []) other_how ++ theirs.rest;
      first_visits = mine.are;
      second_visits = theirs.are;
      same_index = ap (λ entry. index ++ entry ∷ []) same.same_entry;
      same_callee = same.same_callee;
      other_fault = differ;
    }
calls_part index calls others (PartBelow before asked other tree other_tree more other_more e f same below) =
    let mine = opened index calls before asked (Ran tree) more e in
    let theirs = opened index others before other (Ran other_tree) other_more f in
    let inside : VisitsPart (visits_within (index ++ asked.entry ∷ []) (calls_in tree)) (visits_within (index ++ asked.entry ∷ []) (calls_in other_tree)) =
    calls_part (index ++ asked.entry ∷ []) (calls_in tree) (calls_in other_tree) below in
    let entries : index ++ asked.entry ∷ [] ≡ index ++ other.entry ∷ [] = ap (λ entry. index ++ entry ∷ []) same.same_entry in
    let first : visits_below (index ++ asked.entry ∷ []) (Ran tree) ≡ visits_within (index ++ asked.entry ∷ []) (calls_in tree) = below_tree (index ++ asked.entry ∷ []) tree in
    let second : visits_below (index ++ other.entry ∷ []) (Ran other_tree) ≡ visits_within (index ++ asked.entry ∷ []) (calls_in other_tree) =
    below_tree (index ++ other.entry ∷ []) other_tree ∙ ap (λ i. visits_within i (calls_in other_tree)) (sym entries) in
    let visit : visit_of (call_at (index ++ asked.entry ∷ []) asked (Ran tree)) ≡ visit_of (call_at (index ++ other.entry ∷ []) other (Ran other_tree)) =
    ap (λ i. unfailed_visit i asked.callee) entries
    ∙ ap (unfailed_visit (index ++ other.entry ∷ [])) same.same_callee in
    let parts = around (visits_within (index ++ asked.entry ∷ []) (calls_in tree)) (visits_within (index ++ asked.entry ∷ []) (calls_in other_tree))
    (visits_within index before) mine.rest theirs.rest
    (visit_of (call_at (index ++ asked.entry ∷ []) asked (Ran tree))) (visit_of (call_at (index ++ other.entry ∷ []) other (Ran other_tree))) visit inside in
    subst (λ vs. VisitsPart vs (visits_within index others))
    (sym (mine.are ∙ ap (λ vs. visits_within index before ++ (visit_of (call_at (index ++ asked.entry ∷ []) asked (Ran tree)) ∷ (vs ++ mine.rest))) first))
    (subst (VisitsPart (visits_within index before ++ (visit_of (call_at (index ++ asked.entry ∷ []) asked (Ran tree)) ∷ (visits_within (index ++ asked.entry ∷ []) (calls_in tree) ++ mine.rest))))
    (sym (theirs.are ∙ ap (λ vs. visits_within index before ++ (visit_of (call_at (index ++ other.entry ∷ []) other (Ran other_tree)) ∷ (vs ++ theirs.rest))) second)) parts)

pub visits_part_too : VisitsPartToo
visits_part_too first second part = calls_part [] first.calls second.calls part
