-- The report's lines of a campaign's lines, part by part.
use Rattle.std.proofs.Common.{◌≡◌, ℕ, ◌+◌, Bool, true, false, cond, Option, Some, None, List, [], ◌∷◌, ◌++◌, length, filter, refl, sym, ap, ◌∙◌, append_assoc, append-nil}
use Rattle.std.specs.Prelude.{option_map, option_and_then}
use Rattle.std.specs.List.{last_or, sum_by}
use Rattle.std.proofs.lemmas.List.Elements.{filter_map-append}
use Rattle.std.proofs.lemmas.List.Sums.{sum_by-append}
use Rattle.std.proofs.lemmas.Option.{same_Some}
use Rattle.fb_syntax.specs.Trees.{ServicesTree}
use Rattle.fb_campaign.specs.Reports.{Line as CampaignLine, Planned, plan_of_line, plan_lines, run_lines}
use Rattle.fb_report.specs.declared.line.Line.{Line}
use Rattle.fb_report.specs.Names.{each_of}
use Rattle.fb_functest.specs.ReportLines.{line_of, with_above, lines_below}
use Rattle.fb_explore.specs.Ends.{uses_in}

-- ---- lists

pub last_push : {A : Type 0} (o : Option A) (xs : List A) (x : A) → last_or o (xs ++ x ∷ []) ≡ Some x
last_push o [] x = refl
last_push o (y ∷ xs) x = last_push (Some y) xs x

-- ---- parts

-- both parts have their lines
pub record AreParts {A B : Type 0} (f : A → Option B) (xs ys : List A) (out : List B) : Type 0 where
  pub first : List B
  pub others : List B
  pub first_are : each_of f xs ≡ Some first
  pub others_are : each_of f ys ≡ Some others
  pub out_is : out ≡ first ++ others

pub parts_of : {A B : Type 0} (f : A → Option B) (xs ys : List A) (out : List B) → each_of f (xs ++ ys) ≡ Some out → AreParts f xs ys out
parts_of f [] ys out is = record { first = []; others = out; first_are = refl; others_are = is; out_is = refl }
parts_of {A} {B} f (x ∷ xs) ys out is = by (λ zs. parts_of f xs ys zs) (f x) refl (each_of f (xs ++ ys)) refl is
  where
    by : ((zs : List B) → each_of f (xs ++ ys) ≡ Some zs → AreParts f xs ys zs) → (o : Option B) → f x ≡ o → (os : Option (List B)) → each_of f (xs ++ ys) ≡ os
        → option_and_then (λ y. option_map (λ zs. y ∷ zs) os) o ≡ Some out → AreParts f (x ∷ xs) ys out
    by rest None one os more e = absurd (cc)
    by rest (Some y) one None more e = absurd (cc)
    by rest (Some y) one (Some zs) more e =
        let parts = rest zs more in
        record {
          first = y ∷ parts.first;
          others = parts.others;
          first_are = ap (option_and_then (λ z. option_map (λ us. z ∷ us) (each_of f xs))) one ∙ ap (option_map (λ us. y ∷ us)) parts.first_are;
          others_are = parts.others_are;
          out_is = sym (same_Some (y ∷ zs) out e) ∙ ap (λ us. y ∷ us) parts.out_is;
        }

pub joined_parts : {A B : Type 0} (f : A → Option B) (xs ys : List A) (first others : List B) → each_of f xs ≡ Some first → each_of f ys ≡ Some others
    → each_of f (xs ++ ys) ≡ Some (first ++ others)
joined_parts f [] ys first others one other = other ∙ ap (λ front. Some (front ++ others)) (same_Some [] first one)
joined_parts {A} {B} f (x ∷ xs) ys first others one other =
    let parts = parts_of f (x ∷ []) xs first one in
    by (joined_parts f xs ys parts.others others parts.others_are other) (f x) refl
  where
    parts : AreParts f (x ∷ []) xs first
    parts = parts_of f (x ∷ []) xs first one

    by : each_of f (xs ++ ys) ≡ Some (parts.others ++ others) → (o : Option B) → f x ≡ o → each_of f (x ∷ xs ++ ys) ≡ Some (first ++ others)
    by rest None none = absurd (let wrong = ap (option_and_then (λ z. option_map (λ us. z ∷ us) (Some []))) (sym none) ∙ parts.first_are in cc)
    by rest (Some y) here =
        let front : y ∷ [] ≡ parts.first =
        same_Some (y ∷ []) parts.first (sym (ap (option_and_then (λ z. option_map (λ us. z ∷ us) (Some []))) here) ∙ parts.first_are) in
        ap (option_and_then (λ z. option_map (λ us. z ∷ us) (each_of f (xs ++ ys)))) here
        ∙ ap (option_map (λ us. y ∷ us)) rest
        ∙ ap (λ us. Some (us ++ others)) (ap (λ us. us ++ parts.others) front ∙ sym parts.out_is)

-- ---- lines

above_parts : (above xs ys : List CampaignLine) → with_above above (xs ++ ys) ≡ with_above above xs ++ with_above (above ++ xs) ys
above_parts above [] ys = ap (λ lines. with_above lines ys) (sym (append-nil above))
above_parts above (x ∷ xs) ys =
    ap (λ rest. (above, x) ∷ rest)
    (above_parts (above ++ x ∷ []) xs ys ∙ ap (λ lines. with_above (above ++ x ∷ []) xs ++ with_above lines ys) (append_assoc above (x ∷ []) xs))

-- the lines of both parts
pub record AreLinesOf (services : ServicesTree) (version : ℕ) (above xs ys : List CampaignLine) (out : List Line) : Type 0 where
  pub first : List Line
  pub others : List Line
  pub first_are : lines_below services version above xs ≡ Some first
  pub others_are : lines_below services version (above ++ xs) ys ≡ Some others
  pub out_is : out ≡ first ++ others

module _ (services : ServicesTree) (version : ℕ) (above xs ys : List CampaignLine) where
  abbrev told_line : List CampaignLine × CampaignLine → Option Line
  told_line placed = line_of services version placed.0 placed.1

  pub cut_lines : (out : List Line) → lines_below services version above (xs ++ ys) ≡ Some out → AreLinesOf services version above xs ys out
  cut_lines out is =
      let parts = parts_of told_line (with_above above xs) (with_above (above ++ xs) ys) out (ap (each_of told_line) (sym (above_parts above xs ys)) ∙ is) in
      record { first = parts.first; others = parts.others; first_are = parts.first_are; others_are = parts.others_are; out_is = parts.out_is }

  pub join_lines : (first others : List Line) → lines_below services version above xs ≡ Some first → lines_below services version (above ++ xs) ys ≡ Some others
      → lines_below services version above (xs ++ ys) ≡ Some (first ++ others)
  join_lines first others one other =
      ap (each_of told_line) (above_parts above xs ys) ∙ joined_parts told_line (with_above above xs) (with_above (above ++ xs) ys) first others one other

-- ---- counts

filter_join : {A : Type 0} (p : A → Bool) (xs ys : List A) → filter p (xs ++ ys) ≡ filter p xs ++ filter p ys
filter_join p [] ys = refl
filter_join p (x ∷ xs) ys = by (p x) refl (filter_join p xs ys)
  where
    by : (b : Bool) → p x ≡ b → filter p (xs ++ ys) ≡ filter p xs ++ filter p ys → filter p (x ∷ xs ++ ys) ≡ filter p (x ∷ xs) ++ filter p ys
    by true is rest = ap (λ b. cond b (x ∷ filter p (xs ++ ys)) (filter p (xs ++ ys))) is ∙ ap (λ more. x ∷ more) rest
        ∙ sym (ap (λ b. cond b (x ∷ filter p xs) (filter p xs) ++ filter p ys) is)
    by false is rest = ap (λ b. cond b (x ∷ filter p (xs ++ ys)) (filter p (xs ++ ys))) is ∙ rest
        ∙ sym (ap (λ b. cond b (x ∷ filter p xs) (filter p xs) ++ filter p ys) is)

pub uses_join : (xs ys : List CampaignLine) → uses_in (xs ++ ys) ≡ uses_in xs + uses_in ys
uses_join xs ys =
    ap (λ planned. sum_by (λ (line : Planned). length line.uses) (filter (λ (line : Planned). line.is_run) planned)) (filter_map-append plan_of_line xs ys)
    ∙ ap (sum_by (λ (line : Planned). length line.uses)) (filter_join (λ (line : Planned). line.is_run) (plan_lines xs) (plan_lines ys))
    ∙ sum_by-append (λ (line : Planned). length line.uses) (run_lines xs) (run_lines ys)
