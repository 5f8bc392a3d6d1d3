-- The entries of one body's calls differ.
use Rattle.std.specs.Prelude.{◌≡◌, ◌≤◌, List, [], ◌∷◌, ◌++◌, map}
use Rattle.std.proofs.Common.{sym, subst, arith}
use Rattle.std.proofs.lemmas.List.{map-append}
use Rattle.fb_index.specs.Entry.{Occurrence}
use Rattle.fb_tree.specs.Runs.{Tree, Invocation, CallList, NoCalls, AndCall, How, Ran}
use Rattle.fb_tree.specs.Records.{asked_of, record_of}
use Rattle.fb_tree.specs.Calls.{calls_at}
use Rattle.fb_tree.specs.declared.asked.Asked.{Asked}
use Rattle.fb_meaning.specs.CallLaws.{AreCounted, AreCountedBelow}
use Rattle.fb_meaning.specs.Each.{HoldsOfEach, AreApart}
use Rattle.fb_meaning.specs.RecordLaws.{TrueEntriesDiffer}
use Rattle.fb_meaning.specs.Records.{record_source}
use Rattle.fb_meaning.proofs.CallRecords.{method_counted}
use Rattle.fb_meaning.proofs.PlacedCalls.{each_joined, each_so, new_count}

abbrev pub entries_of : CallList → List Occurrence
entries_of calls = map (λ asked. asked.entry) (asked_of calls)

record IsEntryOf (calls : CallList) (entry : Occurrence) : Type 0 where
  counted : entry.count ≤ calls_at entry.site calls

pub entries_next : (before : CallList) (asked : Asked) (how : How) → entries_of (AndCall before asked how) ≡ entries_of before ++ (asked.entry ∷ [])
entries_next before asked how = map-append (λ (a : Asked). a.entry) (asked_of before) (asked ∷ [])

each_counted : (calls : CallList) → AreCounted calls → HoldsOfEach (IsEntryOf calls) (entries_of calls)
unfolding AreCounted
each_counted NoCalls h = tt
each_counted (AndCall before asked how) h =
    subst (HoldsOfEach (IsEntryOf (AndCall before asked how))) (sym (entries_next before asked how))
    (each_joined (IsEntryOf (AndCall before asked how)) (entries_of before) (asked.entry ∷ [])
    (each_so (IsEntryOf before) (IsEntryOf (AndCall before asked how)) (λ entry e. record { counted = omega (arith, e.counted) }) (entries_of before) (each_counted before h.0))
    (record { counted = new_count before asked how h.1 }, tt))

apart_and_one : {A : Type 0} (xs : List A) (x : A) → AreApart xs → HoldsOfEach (λ y. ¬ (y ≡ x)) xs → AreApart (xs ++ (x ∷ []))
apart_and_one [] x h k = (tt, tt)
apart_and_one (y ∷ xs) x h k = (each_joined (λ z. ¬ (y ≡ z)) xs (x ∷ []) h.0 (k.0, tt), apart_and_one xs x h.1 k.1)

pub entries_apart : (calls : CallList) → AreCounted calls → AreApart (entries_of calls)
unfolding AreCounted
entries_apart NoCalls h = tt
entries_apart (AndCall before asked how) h =
    subst AreApart (sym (entries_next before asked how))
    (apart_and_one (entries_of before) asked.entry (entries_apart before h.0)
    (each_so (IsEntryOf before) (λ entry. ¬ (entry ≡ asked.entry))
    (λ entry e same.
    let counted : asked.entry.count ≤ calls_at asked.entry.site before = subst (λ x. x.count ≤ calls_at x.site before) same e.counted in
    omega (arith, counted, h.1))
    (entries_of before) (each_counted before h.0)))

pub of_tree : (tree : Tree) → AreCountedBelow (Ran tree) → AreApart (map (λ asked. asked.entry) (record_of tree).calls)
unfolding AreCounted
of_tree (Invocation method args calls reply steps) h = entries_apart calls h

pub true_entries_differ : TrueEntriesDiffer
true_entries_differ services fuel item true_item =
    subst (λ r. AreApart (map (λ asked. asked.entry) r.calls)) true_item.recorded
    (of_tree true_item.tree (method_counted services (record_source item) fuel item.method item.args [] true_item.tree true_item.left true_item.evaluated))
