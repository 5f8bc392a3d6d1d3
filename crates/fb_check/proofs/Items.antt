-- The item that a loop over a vector is at.
use Rattle.std.proofs.Common.{◌≡◌, ℕ, ◌+◌, ◌<◌, ◌≤◌, List, ◌∷◌, map, length, get_or, drop, All, sym, ap, ◌∙◌, subst}
use Rattle.std.proofs.lemmas.List.{drop_more, get_or-map, length-map}
use Rattle.std.proofs.lemmas.List.Elements.{All-get_or}
use Rattle.fb_syntax.specs.declared.services.Service.{Service}
use Rattle.fb_syntax.specs.Views.{view_method, view_service}
use Rattle.fb_syntax.specs.Limits.{most_methods}
use Rattle.fb_syntax.specs.Kept.{KeepsMethod, KeepsService}

-- the items that are left begin with it
pub items_left : {X : Type 0} (xs : List X) (i : ℕ) (x : X) → i < length xs → x ≡ get_or xs i x → drop i xs ≡ x ∷ drop (i + 1) xs
items_left xs i x within is = drop_more xs i x within ∙ ap (λ y. y ∷ drop (i + 1) xs) (sym is)

-- what holds of each view holds of its view
pub holds_at : {X Y : Type 0} (P : Y → Type 0) (view : X → Y) (xs : List X) (i : ℕ) (x : X) → All P (map view xs) → i < length xs → x ≡ get_or xs i x → P (view x)
holds_at P view xs i x all within is =
    subst P (get_or-map view xs i x (view x) within ∙ ap view (sym is))
    (All-get_or P (map view xs) i (view x) (rw (length-map xs view) within) all)

-- what the methods of a service keep
pub methods_kept : (services : List Service) (i : ℕ) (service : Service) → All KeepsService (map view_service services) → i < length services → service ≡ get_or services i service
    → (length service.methods.items ≤ most_methods) × All KeepsMethod (map view_method service.methods.items)
methods_kept services i service all within is =
    let kept = holds_at KeepsService view_service services i service all within is in
    (rw (← length-map service.methods.items view_method) kept.methods_counted, kept.methods)
