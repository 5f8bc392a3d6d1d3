-- What the items of joined things are made into.
use Rattle.std.proofs.Common.{◌≡◌, List, [], ◌∷◌, ◌++◌, refl, ap, ◌∙◌}
use Rattle.std.specs.List.{flat_map, join_by}
use Rattle.std.proofs.lemmas.Grind.{flat_map-append}
use Rattle.fb_print.specs.Items.{Item}

module _ {A : Type 0} (make : Item → List A) where
  flat_further : (between : List Item) (things : List (List Item))
      → flat_map make (flat_map (λ thing. between ++ thing) things) ≡ flat_map (λ thing. flat_map make between ++ flat_map make thing) things
  flat_further between [] = refl
  flat_further between (thing ∷ things) =
      flat_map-append make (between ++ thing) (flat_map (λ other. between ++ other) things)
      ∙ ap (λ l. l ++ flat_map make (flat_map (λ other. between ++ other) things)) (flat_map-append make between thing)
      ∙ ap (λ l. (flat_map make between ++ flat_map make thing) ++ l) (flat_further between things)

  pub flat_join : (between : List Item) (things : List (List Item))
      → flat_map make (join_by (λ thing. thing) between things) ≡ join_by (flat_map make) (flat_map make between) things
  flat_join between [] = refl
  flat_join between (thing ∷ things) =
      flat_map-append make thing (flat_map (λ other. between ++ other) things) ∙ ap (λ l. flat_map make thing ++ l) (flat_further between things)
