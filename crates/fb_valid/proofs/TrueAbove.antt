-- The records of lines that keep the rule on records are true.
use Rattle.std.proofs.Common.{◌≡◌, ℕ, Option, Some, None, List, ◌∷◌, ◌++◌, Contains, refl, sym, ap, ◌∙◌, subst, append_assoc}
use Rattle.std.specs.Prelude.{option_and_then}
use Rattle.std.proofs.lemmas.Option.{same_Some}
use Rattle.fb_syntax.specs.Trees.{ServicesTree}
use Rattle.fb_tree.specs.declared.recorded.Record.{Record}
use Rattle.fb_meaning.specs.Each.{HoldsOfEach}
use Rattle.fb_meaning.specs.Records.{IsTrueRecord}
use Rattle.fb_report.specs.declared.line.Line.{Line}
use Rattle.fb_report.specs.declared.named.NamedRecord.{NamedRecord}
use Rattle.fb_report.specs.Names.{record_named}
use Rattle.fb_valid.specs.Lines.{made_in, record_in, records_told}
use Rattle.fb_valid.specs.Rules.{OfInv, IsNewRecord}
use Rattle.fb_valid.specs.Valid.{OfEachLine}
use Rattle.fb_valid.proofs.Lists.{get_in, made_number}
use Rattle.fb_valid.proofs.Told.{each_member}

module _ (services : ServicesTree) (fuel : ℕ) where
  true_if_made : (above : List Line) (line : Line) (item : Record) (o : Option NamedRecord) → made_in line ≡ o → record_in services line ≡ Some item
      → ((made : NamedRecord) → made_in line ≡ Some made → IsNewRecord services fuel above made) → IsTrueRecord services fuel item
  true_if_made above line item None none is new =
      let gone : record_in services line ≡ None = ap (option_and_then (record_named services)) none in
      absurd (cc)
  true_if_made above line item (Some made) some is new =
      let found : record_in services line ≡ record_named services made = ap (option_and_then (record_named services)) some in
      let here = new made some in
      subst (IsTrueRecord services fuel) (same_Some here.item item (sym here.by_numbers ∙ sym found ∙ is)) here.is_true

  -- those of the first lines
  pub each_true : (lines above rest : List Line) → OfEachLine (OfInv (IsNewRecord services fuel)) lines → lines ≡ above ++ rest
      → HoldsOfEach (IsTrueRecord services fuel) (records_told services above)
  each_true lines above rest records is = each_member (IsTrueRecord services fuel) (records_told services above) is_true
    where
      is_true : (item : Record) → Contains (records_told services above) item → IsTrueRecord services fuel item
      is_true item has =
          let at = get_in (records_told services above) item has in
          let made = (made_number (record_in services) above at.0 item at.1).2 in
          true_if_made made.above made.item item (made_in made.item) refl made.makes
          (records made.above made.item (made.below ++ rest)
          (is ∙ ap (λ ls. ls ++ rest) made.is ∙ append_assoc made.above (made.item ∷ made.below) rest))
