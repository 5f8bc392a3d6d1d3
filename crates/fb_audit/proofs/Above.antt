-- What the rules on lines give of the lines below a header.
use Rattle.std.proofs.Common.{◌≡◌, ◌⊎◌, inl, inr, ⊎_elim, ℕ, Bool, Option, Some, None, List, [], ◌∷◌, ◌++◌, append_assoc, refl, sym, ap, ◌∙◌, subst}
use Rattle.std.proofs.lemmas.Option.{same_Some}
use Rattle.fb_syntax.specs.Trees.{ServicesTree, TestTree}
use Rattle.fb_campaign.specs.Runs.{Choices}
use Rattle.fb_tree.specs.declared.recorded.Record.{Record}
use Rattle.fb_meaning.specs.Each.{HoldsOfEach}
use Rattle.fb_meaning.specs.Records.{IsTrueRecord}
use Rattle.fb_report.specs.declared.line.Line.{Line}
use Rattle.fb_report.specs.declared.line.Line.TheVariants.{Header, Inv, Plan, End}
use Rattle.fb_valid.specs.Lines.{record_in, records_told}
use Rattle.fb_valid.specs.Rules.{OfInv, OfPlan, IsInPlace, IsNewRecord, HasParent, EndsAsItsTree, UsesEarlier}
use Rattle.fb_valid.specs.Trees.{IsSpelled}
use Rattle.fb_valid.specs.Valid.{OfEachLine}
use Rattle.fb_valid.specs.Verdict.{KeepsAll, KeepsBelow, line_rules}

-- ---- a line more

-- a list is cut at its last item, or at one before it
last_or_front : (body above below : List Line) (last x : Line) → body ++ last ∷ [] ≡ above ++ x ∷ below → ((body ≡ above) × (last ≡ x)) ⊎ ((rest : List Line) × (body ≡ above ++ x ∷ rest))
last_or_front [] [] below last x is = inl (refl, (cc))
last_or_front [] (y ∷ []) below last x is = absurd (cc)
last_or_front [] (y ∷ z ∷ above) below last x is = absurd (cc)
last_or_front (y ∷ body) [] below last x is = inr (body, ap (λ z. z ∷ body) (let first : y ≡ x = cc in first))
last_or_front (y ∷ body) (z ∷ above) below last x is =
    let first : y ≡ z = cc in
    ⊎_elim (λ at_end. inl ((λ i. first i ∷ at_end.0 i), at_end.1))
    (λ early. inr (early.0, λ i. first i ∷ early.1 i))
    (last_or_front body above below last x (let rest : body ++ last ∷ [] ≡ above ++ x ∷ below = cc in rest))

pub one_more : (Keeps : List Line → Line → Type 0) (lines : List Line) (line : Line) → OfEachLine Keeps lines → Keeps lines line → OfEachLine Keeps (lines ++ line ∷ [])
one_more Keeps lines line each last above other below is =
    ⊎_elim (λ same. subst (Keeps above) same.1 (subst (λ ls. Keeps ls line) same.0 last)) (λ early. each above other early.0 early.1)
    (last_or_front lines above below line other is)

-- ---- true records

module _ (services : ServicesTree) (fuel : ℕ) where
  true_of : (above : List Line) (line : Line) (item : Record) → OfInv (IsNewRecord services fuel) above line → record_in services line ≡ Some item → IsTrueRecord services fuel item
  true_of above (Header version units reduction) item new is = absurd (cc)
  true_of above (Inv id owner made) item new is =
      let here = new made refl in
      subst (IsTrueRecord services fuel) (same_Some here.item item (sym here.by_numbers ∙ is)) here.is_true
  true_of above (Plan version id parent fault run uses outcome) item new is = absurd (cc)
  true_of above (End cause plans run pruned failed invs stopped) item new is = absurd (cc)

  pub records_true : (front rest : List Line) → ((above : List Line) (line : Line) (below : List Line) → front ++ rest ≡ above ++ line ∷ below → OfInv (IsNewRecord services fuel) above line)
      → HoldsOfEach (IsTrueRecord services fuel) (records_told services rest)
  records_true front [] each = tt
  records_true front (line ∷ rest) each =
      by (record_in services line) refl
      (records_true (front ++ line ∷ []) rest (λ above other below is. each above other below (sym (append_assoc front (line ∷ []) rest) ∙ is)))
    where
      by : (o : Option Record) → record_in services line ≡ o → HoldsOfEach (IsTrueRecord services fuel) (records_told services rest)
          → HoldsOfEach (IsTrueRecord services fuel) (records_told services (line ∷ rest))
      by None is later =
          (let same : records_told services (line ∷ rest) ≡ records_told services rest = rw is in subst (HoldsOfEach (IsTrueRecord services fuel)) (sym same) later)
      by (Some item) is later =
          (let same : records_told services (line ∷ rest) ≡ item ∷ records_told services rest = rw is in
          subst (HoldsOfEach (IsTrueRecord services fuel)) (sym same) (true_of front line item (each front line rest refl) is, later))

-- ---- each rule

module _ (services : ServicesTree) (test : TestTree) (choices : Choices) (version fuel : ℕ) (reduction : Bool) (above : List Line) (keep : OfEachLine (KeepsAll services test choices) (Header version fuel reduction ∷ above)) where
  each : OfEachLine (λ front line. HoldsOfEach (KeepsBelow services test choices version fuel front line) line_rules) above
  each front line rest is = keep (Header version fuel reduction ∷ front) line rest (ap (λ lines. Header version fuel reduction ∷ lines) is)

  pub in_place : OfEachLine (IsInPlace version) above
  in_place front line rest is = (each front line rest is).0

  pub records : OfEachLine (OfInv (IsNewRecord services fuel)) above
  records front line rest is = ((each front line rest is).1).0

  pub parents : OfEachLine (OfPlan (HasParent services test choices fuel)) above
  parents front line rest is = (((each front line rest is).1).1).0

  pub trees : OfEachLine (OfPlan (IsSpelled services test fuel)) above
  trees front line rest is = ((((each front line rest is).1).1).1).0

  pub earlier : OfEachLine (OfPlan UsesEarlier) above
  earlier front line rest is = (((((each front line rest is).1).1).1).1).0

  pub outcomes : OfEachLine (OfPlan (EndsAsItsTree services test fuel)) above
  outcomes front line rest is = ((((((each front line rest is).1).1).1).1).1).0
