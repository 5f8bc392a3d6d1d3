-- Records that are known, and one more.
use Rattle.std.proofs.Common.{◌≡◌, ℕ, ◌<◌, ◌≤◌, ◌⊎◌, inl, inr, Bool, true, false, cond, nat_le, Some, None, option_and_then, List, [], ◌∷◌, ◌++◌, length, Contains, refl, sym, ap, ◌∙◌, subst, arith}
use Rattle.std.specs.List.{All, filter_map, list_any, position_or_len}
use Rattle.std.proofs.lemmas.Bool.Decides.{nat_tests}
use Rattle.std.proofs.lemmas.List.Elements.{filter_map-append}
use Rattle.std.proofs.lemmas.Map.Views.{Contains-from_any, list_any-from_Contains}
use Rattle.std.proofs.lemmas.Option.{same_Some}
use Rattle.fb_syntax.specs.Trees.{ServicesTree}
use Rattle.fb_tree.specs.Agreement.{RecordsAgree}
use Rattle.fb_tree.specs.Sameness.{same_record, same_record-Decides, same_record_equiv}
use Rattle.fb_tree.specs.declared.recorded.Record.{Record}
use Rattle.fb_meaning.specs.Each.{HoldsOfEach}
use Rattle.fb_meaning.specs.RecordLaws.{TrueRecordsAgree}
use Rattle.fb_meaning.specs.Records.{IsTrueRecord}
use Rattle.fb_report.specs.declared.line.Line.{Line}
use Rattle.fb_report.specs.declared.named.NamedRecord.{NamedRecord}
use Rattle.fb_report.specs.Names.{record_named}
use Rattle.fb_store.specs.Following.{number_of, with_record}
use Rattle.fb_valid.specs.Lines.{made_in, record_in, records_told}
use Rattle.fb_evidence.specs.NewRecords.{AddsIfNew, IsJudged, TakesRecord, TellsNew}
use Rattle.fb_evidence.proofs.Each.{all_so, each_push}

-- ---- places

-- the first place is within the list exactly where an item passes
abbrev IsPlaced : {A : Type 0} → (A → Bool) → List A → Type 0
IsPlaced p xs = ((list_any p xs ≡ true) × (position_or_len p xs < length xs)) ⊎ ((list_any p xs ≡ false) × (position_or_len p xs ≡ length xs))

placed : {A : Type 0} (p : A → Bool) (xs : List A) → IsPlaced p xs
placed p [] = inr (refl, refl)
placed p (x ∷ xs) = by (p x) refl (placed p xs)
  where
    by : (b : Bool) → p x ≡ b → IsPlaced p xs → IsPlaced p (x ∷ xs)
    by true here later = inl (rw here refl, rw here (omega arith))
    by false here (inl later) = inl (rw here later.0, (let low = later.1 in rw here (omega (arith, low))))
    by false here (inr later) = inr (rw here later.0, (let same = later.1 in rw here (omega (arith, same))))

-- ---- a record more

with_known : (known : List Record) (item : Record) → list_any (same_record item) known ≡ true → with_record known item ≡ known
unfolding with_record
with_known known item is = ap (λ b. cond b known (known ++ item ∷ [])) is

with_new : (known : List Record) (item : Record) → list_any (same_record item) known ≡ false → with_record known item ≡ known ++ item ∷ []
unfolding with_record
with_new known item is = ap (λ b. cond b known (known ++ item ∷ [])) is

among : (known : List Record) (item : Record) → list_any (same_record item) known ≡ true → Contains known item
among known item is = Contains-from_any (λ x y. (same_record-Decides x y).0) item known is

not_among : (known : List Record) (item : Record) → list_any (same_record item) known ≡ false → ¬ (Contains known item)
not_among known item is has = (let both = sym is ∙ list_any-from_Contains same_record_equiv item known has in absurd (cc))

-- its number is one of the known ones' exactly where it is among them
pub adds_if_new : (item : Record) (old new : List Record) (count id : ℕ) → count ≡ length old → id ≡ number_of old item → new ≡ with_record old item
    → AddsIfNew item old new (nat_le count id)
unfolding number_of
adds_if_new item old new count id many numbered added = by (placed (same_record item) old)
  where
    by : IsPlaced (same_record item) old → AddsIfNew item old new (nat_le count id)
    by (inl known) =
        let low : id < count = (let within = known.1 in omega (arith, within, numbered, many)) in
        let no : nat_le count id ≡ false = grind (arith, nat_tests) in
        subst (AddsIfNew item old new) (sym no) (among old item known.0, added ∙ with_known old item known.0)
    by (inr fresh) =
        let high : count ≤ id = (let behind = fresh.1 in omega (arith, behind, numbered, many)) in
        let is : nat_le count id ≡ true = grind (arith, nat_tests) in
        subst (AddsIfNew item old new) (sym is) (not_among old item fresh.0, added ∙ with_new old item fresh.0)

pub agrees_with : TrueRecordsAgree → (services : ServicesTree) (fuel : ℕ) (item : Record) (known : List Record) → IsTrueRecord services fuel item
    → HoldsOfEach (IsTrueRecord services fuel) known → All (RecordsAgree item) known
agrees_with law services fuel item known is each =
    all_so (IsTrueRecord services fuel) (RecordsAgree item) (λ other also. law services fuel fuel item other is also) known each

-- ---- the rule

module _ (services : ServicesTree) (fuel : ℕ) (made : NamedRecord) where
  -- no record of the line is true
  pub never_new : (known : List Record) → IsJudged services fuel made None → TellsNew services fuel made known false
  never_new known none above told new = none new.item new.by_numbers new.is_true

  module _ (item : Record) (judged : IsJudged services fuel made (Some item)) (old new : List Record) where
    pub tells_new : (answer : Bool) → AddsIfNew item old new answer → TellsNew services fuel made old answer
    tells_new true adds above told = record {
      item = item;
      by_numbers = judged.0;
      is_true = judged.1;
      is_new = λ has. adds.0 (subst (λ known. Contains known item) told has);
    }
    tells_new false adds above told = λ fresh.
        let one = same_Some item fresh.item (sym judged.0 ∙ fresh.by_numbers) in
        fresh.is_new (subst (Contains (records_told services above)) one (subst (λ known. Contains known item) (sym told) adds.0))

    one_told : (line : Line) → made_in line ≡ Some made → filter_map (record_in services) (line ∷ []) ≡ item ∷ []
    one_told line is = (let found : record_in services line ≡ Some item = ap (option_and_then (record_named services)) is ∙ judged.0 in rw found refl)

    told_too : new ≡ old ++ item ∷ [] → (above : List Line) (line : Line) → records_told services above ≡ old → made_in line ≡ Some made
        → records_told services (above ++ line ∷ []) ≡ new
    told_too added above line told is =
        filter_map-append (record_in services) above (line ∷ [])
        ∙ ap (λ front. front ++ filter_map (record_in services) (line ∷ [])) told ∙ ap (λ last. old ++ last) (one_told line is) ∙ sym added

    pub takes_record : (answer : Bool) → AddsIfNew item old new answer → TakesRecord services fuel made old new answer
    takes_record true adds = record { item = item; by_numbers = judged.0; is_true = judged.1; added = adds.1; told = told_too adds.1 }
    takes_record false adds = adds.1

    pub still_true : (answer : Bool) → AddsIfNew item old new answer → HoldsOfEach (IsTrueRecord services fuel) old → HoldsOfEach (IsTrueRecord services fuel) new
    still_true true adds each = subst (HoldsOfEach (IsTrueRecord services fuel)) (sym adds.1) (each_push (IsTrueRecord services fuel) old item each judged.1)
    still_true false adds each = subst (HoldsOfEach (IsTrueRecord services fuel)) (sym adds.1) each
