-- What a line more tells.
use Rattle.std.proofs.Common.{◌≡◌, ℕ, zero, suc, ◌<◌, ◌≤◌, Option, Some, None, List, [], ◌∷◌, ◌++◌, All, map, length, length-append, slice_get, append-nil, refl, ap, ◌∙◌, arith}
use Rattle.std.specs.Prelude.{option_and_then}
use Rattle.std.proofs.lemmas.List.Elements.{All-cons, All-nil, filter_map-append}
use Rattle.fb_syntax.specs.Trees.{ServicesTree}
use Rattle.fb_tree.specs.declared.recorded.Record.{Record}
use Rattle.fb_meaning.specs.Spelling.{AreAt}
use Rattle.fb_report.specs.declared.line.Line.{Line}
use Rattle.fb_report.specs.declared.line.Line.TheVariants.{Header, Inv, Plan, End}
use Rattle.fb_report.specs.Names.{record_named}
use Rattle.fb_functest.specs.PlanLines.{PlanLine, plan_line_in}
use Rattle.fb_valid.specs.Lines.{made_in, record_in, owners_told, records_told}

-- a plan line is no inv line
pub makes_none : (line : Line) (told : PlanLine) → plan_line_in line ≡ Some told → made_in line ≡ None
makes_none (Header version fuel reduction) told tells = refl
makes_none (Inv id owner made) told tells = absurd (cc)
makes_none (Plan version id parent fault run uses outcome) told tells = refl
makes_none (End cause plans run pruned failed invs stopped) told tells = refl

-- so no record more is told
pub same_records : (services : ServicesTree) (above : List Line) (line : Line) → made_in line ≡ None → records_told services (above ++ line ∷ []) ≡ records_told services above
same_records services above line none =
    filter_map-append (record_in services) above (line ∷ [])
    ∙ ap (λ rest. records_told services above ++ rest) tells_none
    ∙ append-nil (records_told services above)
  where
    no_record : record_in services line ≡ None
    no_record = ap (option_and_then (record_named services)) none

    tells_none : records_told services (line ∷ []) ≡ []
    tells_none = rw no_record

module _ (services : ServicesTree) where
  one_less : (o : Option Record) (line : Line) (lines : List Line) → record_in services line ≡ o → length (records_told services (line ∷ lines)) ≤ suc (length (records_told services lines))
  one_less None line lines is = (let same : records_told services (line ∷ lines) ≡ records_told services lines = rw is in let long = ap length same in omega (arith, long))
  one_less (Some item) line lines is =
      (let same : records_told services (line ∷ lines) ≡ item ∷ records_told services lines = rw is in let long = ap length same in omega (arith, long))

  more_told : (line : Line) (lines : List Line) → length (records_told services lines) ≤ length (owners_told lines)
      → length (records_told services (line ∷ lines)) ≤ length (owners_told (line ∷ lines))
  more_told (Header version fuel reduction) lines few = few
  more_told (Inv id owner made) lines few = (let one = one_less (record_in services (Inv id owner made)) (Inv id owner made) lines refl in omega (arith, one, few))
  more_told (Plan version id parent fault run uses outcome) lines few = few
  more_told (End cause plans run pruned failed invs stopped) lines few = few

  -- records are told by inv lines alone
  pub told_by_inv : (lines : List Line) → length (records_told services lines) ≤ length (owners_told lines)
  told_by_inv [] = omega arith
  told_by_inv (line ∷ lines) = more_told line lines (told_by_inv lines)

get_within : {A : Type 0} (xs : List A) (k : ℕ) (x : A) → slice_get xs k ≡ Some x → k < length xs
get_within [] k x is = absurd (cc)
get_within (y ∷ xs) zero x is = omega arith
get_within (y ∷ xs) (suc k) x is = (let below = get_within xs k x is in omega (arith, below))

-- places at which items stand are below the count of all
pub at_places : {A : Type 0} (all : List A) (bound : ℕ) (places : List ℕ) (items : List A) → length all ≤ bound → AreAt all places items → All (λ place. place < bound) places
at_places all bound [] items few at = All-nil (λ place. place < bound)
at_places all bound (place ∷ places) [] few at = absurd (cc)
at_places all bound (place ∷ places) (item ∷ items) few at =
    let first : slice_get all place ≡ Some item = cc in
    let others : map (slice_get all) places ≡ map Some items = cc in
    let within = get_within all place item first in
    All-cons (λ place. place < bound) place places (omega (arith, within, few)) (at_places all bound places items few others)

-- a byte more is kept of a line more
pub count_more : (bytes next : List ℕ) (byte : ℕ) (lines : List Line) (line : Line) → next ≡ bytes ++ byte ∷ [] → length bytes ≡ length lines → length next ≡ length (lines ++ line ∷ [])
count_more bytes next byte lines line is same = (let long = ap length is ∙ length-append bytes (byte ∷ []) in let longer = length-append lines (line ∷ []) in omega (arith, long, longer, same))
