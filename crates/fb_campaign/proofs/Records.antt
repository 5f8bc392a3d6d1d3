-- Which records are known, which are new, and by which numbers they are used.
use Rattle.std.proofs.Common.{◌≡◌, ⊎_elim, ℕ, suc, ◌+◌, ◌<◌, Bool, true, false, cond, not, ltb, Some, None, List, [], ◌∷◌, ◌++◌, map, position, length, slice_get, Contains, refl, sym, ap, ◌∙◌, subst, arith, append_assoc}
use Rattle.std.specs.List.{list_all, position_or_len}
use Rattle.std.proofs.lemmas.Bool.{cases_Bool, or_cases, or_left, or_right, and_parts, and_cases, cond-true, cond-false, not_from_true, not_from_false, lt-ltb}
use Rattle.std.proofs.lemmas.List.Elements.{Contains-append_left, Contains-append_right}
use Rattle.fb_tree.specs.Sameness.{same_record, same_record-Decides}
use Rattle.fb_tree.specs.declared.recorded.Record.{Record}
use Rattle.fb_campaign.specs.Runs.{Went, AreDistinct}
use Rattle.fb_campaign.specs.Plans.{AreAmong}
use Rattle.fb_campaign.specs.Campaign.{is_among, is_covered, new_records, uses_of}
use Rattle.fb_campaign.proofs.Lists.{in_none, in_head, in_tail, in_cases, filter_map_some}

-- ---- what is known

pub among_has : (known : List Record) (item : Record) → is_among known item ≡ true → Contains known item
among_has [] item is = absurd (cc)
among_has (first ∷ known) item is =
    ⊎_elim (λ same. subst (Contains (first ∷ known)) (sym ((same_record-Decides item first).0 same)) (in_head first known))
    (λ later. in_tail item first known (among_has known item later)) (or_cases (same_record item first) (is_among known item) is)

pub has_among : (known : List Record) (item : Record) → Contains known item → is_among known item ≡ true
has_among [] item has = in_none item has
has_among (first ∷ known) item has =
    ⊎_elim (λ same. or_left (same_record item first) (is_among known item) ((same_record-Decides item first).1 (sym same)))
    (λ later. or_right (same_record item first) (is_among known item) (has_among known item later)) (in_cases item first known has)

all_among : (known records : List Record) → list_all (is_among known) records ≡ true → AreAmong records known
all_among known [] is item has = in_none item has
all_among known (first ∷ records) is item has =
    let parts = and_parts (is_among known first) (list_all (is_among known) records) is in
    ⊎_elim (λ same. subst (Contains known) same (among_has known first parts.0)) (λ later. all_among known records parts.1 item later)
    (in_cases item first records has)

pub covered_among : (known : List Record) (went : Went) → is_covered known went ≡ true → AreAmong went.records known
covered_among known went is = all_among known went.records is

-- a record that isn't known
pub record Missing (known records : List Record) : Type 0 where
  pub item : Record
  pub there : Contains records item
  pub unknown : ¬ (Contains known item)

one_missing : (known records : List Record) → list_all (is_among known) records ≡ false → Missing known records
one_missing known [] is = absurd (cc)
one_missing known (first ∷ records) is =
    ⊎_elim
    (λ none. record { item = first; there = in_head first records; unknown = λ has. (let known_is = has_among known first has in absurd (cc)) })
    (λ later. (let rest = one_missing known records later in record { item = rest.item; there = in_tail rest.item first records rest.there; unknown = rest.unknown }))
    (and_cases (is_among known first) (list_all (is_among known) records) is)

pub uncovered_missing : (known : List Record) (went : Went) → is_covered known went ≡ false → Missing known went.records
uncovered_missing known went is = one_missing known went.records is

-- ---- what is new

new_at : (known : List Record) (item : Record) (items : List Record) (b : Bool) → is_among known item ≡ b
    → new_records known (item ∷ items) ≡ cond b (new_records known items) (item ∷ new_records (known ++ item ∷ []) items)
new_at known item items b is =
    ap (λ t. cond t (new_records known items) (item ∷ new_records (known ++ item ∷ []) items)) is

pub record AreNew (known records fresh : List Record) : Type 0 where
  pub among : AreAmong fresh records
  pub unknown : (item : Record) → Contains fresh item → ¬ (Contains known item)
  pub differ : AreDistinct fresh
  pub all : AreAmong records (known ++ fresh)

pub are_new : (known records : List Record) → AreNew known records (new_records known records)
are_new known [] = record {
  among = λ item has. has;
  unknown = λ item has. in_none item has;
  differ = tt;
  all = λ item has. in_none item has;
}
are_new known (first ∷ records) = further (is_among known first) refl (are_new known records) (are_new (known ++ first ∷ []) records)
  where
    further : (b : Bool) → is_among known first ≡ b → AreNew known records (new_records known records)
        → AreNew (known ++ first ∷ []) records (new_records (known ++ first ∷ []) records) → AreNew known (first ∷ records) (new_records known (first ∷ records))
    further true is rest unused =
        let same = new_at known first records true is in
        subst (AreNew known (first ∷ records)) (sym same)
        (record {
          among = λ item has. in_tail item first records (rest.among item has);
          unknown = rest.unknown;
          differ = rest.differ;
          all = λ item has. ⊎_elim
              (λ here. subst (Contains (known ++ new_records known records)) here
              (Contains-append_left known (new_records known records) first (among_has known first is)))
              (λ later. rest.all item later) (in_cases item first records has);
        })
    further false is unused rest =
        let fresh = new_records (known ++ first ∷ []) records in
        let same = new_at known first records false is in
        subst (AreNew known (first ∷ records)) (sym same)
        (record {
          among = λ item has. ⊎_elim (λ here. subst (Contains (first ∷ records)) here (in_head first records))
              (λ later. in_tail item first records (rest.among item later)) (in_cases item first fresh has);
          unknown = λ item has old. ⊎_elim
              (λ here. (let known_is = has_among known first (subst (Contains known) (sym here) old) in absurd (cc)))
              (λ later. rest.unknown item later (Contains-append_left known (first ∷ []) item old)) (in_cases item first fresh has);
          differ = (λ has. rest.unknown first has (Contains-append_right known (first ∷ []) first (in_head first [])), rest.differ);
          all = λ item has. ⊎_elim
              (λ here. subst (Contains (known ++ first ∷ fresh)) here (Contains-append_right known (first ∷ fresh) first (in_head first fresh)))
              (λ later. subst (λ items. Contains items item) (append_assoc known (first ∷ []) fresh) (rest.all item later)) (in_cases item first records has);
        })

-- ---- by which numbers records are used

module _ {A : Type 0} (p : A → Bool) where
  found_before : (x : A) (xs : List A) → Contains xs x → p x ≡ true
      → (position_or_len p xs < length xs) × ((y : A) × (slice_get xs (position_or_len p xs) ≡ Some y) × (p y ≡ true))
  found_before x [] has passes = in_none x has
  found_before x (y ∷ xs) has passes =
      ⊎_elim
      (λ here. (let zero_at : position_or_len p (y ∷ xs) ≡ 0 = cond-false (not (p y)) (1 + position_or_len p xs) 0 (not_from_true (p y) here) in
      at_place y (y ∷ xs) (position_or_len p (y ∷ xs)) 0 zero_at (omega arith) refl here))
      (λ not_here. (
      let next_at : position_or_len p (y ∷ xs) ≡ 1 + position_or_len p xs = cond-true (not (p y)) (1 + position_or_len p xs) 0 (not_from_false (p y) not_here) in
      let rest = found_before x xs (⊎_elim (λ same. (let passed = ap p same ∙ passes in absurd (cc))) (λ later. later) (in_cases x y xs has)) passes in
      let below = rest.0 in
      at_place rest.1.0 (y ∷ xs) (position_or_len p (y ∷ xs)) (suc (position_or_len p xs)) (next_at ∙ omega arith) (omega (arith, below)) rest.1.1 rest.1.2))
      (cases_Bool (p y))
    where
      at_place : (z : A) (zs : List A) (k j : ℕ) → k ≡ j → j < length zs → slice_get zs j ≡ Some z → p z ≡ true
          → (k < length zs) × ((w : A) × (slice_get zs k ≡ Some w) × (p w ≡ true))
      at_place z zs k j same below there passed = (omega (arith, same, below), (z, ap (slice_get zs) same ∙ there, passed))

  pub position_found : (x : A) (xs : List A) → Contains xs x → p x ≡ true
      → (k : ℕ) × (position p xs ≡ Some k) × ((y : A) × (slice_get xs k ≡ Some y) × (p y ≡ true))
  position_found x xs has passes =
      let found = found_before x xs has passes in
      let k : ℕ = position_or_len p xs in
      (k, cond-true (ltb k (length xs)) (Some k) None (lt-ltb k (length xs) found.0), found.1)

-- the numbers of records that are known name them
pub uses_name : (known records : List Record) → AreAmong records known → map (slice_get known) (uses_of known records) ≡ map Some records
uses_name known [] among = refl
uses_name known (item ∷ records) among =
    let found = position_found (same_record item) item known (among item (in_head item records)) ((same_record-Decides item item).1 refl) in
    let at = found.2 in
    let same = (same_record-Decides item at.0).0 at.2 in
    let used = filter_map_some (λ r. position (same_record r) known) item records found.0 found.1 in
    ap (map (slice_get known)) used
    ∙ λ i. (at.1 ∙ ap Some (sym same)) i ∷ uses_name known records (λ other has. among other (in_tail other item records has)) i
