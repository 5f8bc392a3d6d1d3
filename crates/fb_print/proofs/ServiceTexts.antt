-- The texts of services, by the vectors that the code's trees hold.
use Rattle.std.proofs.Common.{◌≡◌, List, [], ◌∷◌, ◌++◌, map, codes, append_assoc, refl, ap, sym, ◌∙◌}
use Rattle.std.specs.List.{flat_map, join_by}
use Rattle.fb_syntax.specs.declared.services.Services.{Services}
use Rattle.fb_syntax.specs.declared.services.Service.{Service}
use Rattle.fb_syntax.specs.declared.services.Param.{Param}
use Rattle.fb_syntax.specs.declared.sign.Sign.TheVariants as sign
use Rattle.fb_syntax.specs.Views.{view_param, view_method, view_service, view_services}
use Rattle.fb_print.specs.Items.{Item, Blank, Line, sign, comma_separated, spelling, items_text}
use Rattle.fb_print.specs.Services.{param_items, params_items, method_items, service_items, services_text}
use Rattle.fb_print.specs.Printed.{param_text, method_text, service_text}
use Rattle.fb_print.proofs.Flattening.{flat_join}
use Rattle.fb_print.proofs.ExpressionTexts.{items_text-append}

-- the text of all is the texts of each
items_text-each : {A Seen : Type 0} (items : Seen → List Item) (view : A → Seen) (xs : List A)
    → items_text (flat_map items (map view xs)) ≡ flat_map (λ x. items_text (items (view x))) xs
items_text-each items view [] = refl
items_text-each items view (x ∷ xs) =
    items_text-append (items (view x)) (flat_map items (map view xs)) ∙ ap (λ l. items_text (items (view x)) ++ l) (items_text-each items view xs)

further_params : (params : List Param)
    → flat_map (λ thing. codes ", " ++ items_text thing) (map param_items (map view_param params)) ≡ flat_map (λ param. codes ", " ++ param_text param) params
further_params [] = refl
further_params (param ∷ params) = ap (λ l. (codes ", " ++ param_text param) ++ l) (further_params params)

listed : (params : List Param)
    → items_text (comma_separated (map param_items (map view_param params))) ≡ join_by param_text (codes ", ") params
listed [] = refl
listed (param ∷ params) =
    flat_join spelling (sign sign.Comma ∷ Blank ∷ []) (map param_items (map view_param (param ∷ params)))
    ∙ ap (λ l. param_text param ++ l) (further_params params)

pub params_text : (params : List Param)
    → codes "(" ++ (join_by param_text (codes ", ") params ++ codes ")") ≡ items_text (params_items (map view_param params))
params_text params =
    ap (λ l. codes "(" ++ l)
    (ap (λ l. l ++ codes ")") (sym (listed params)) ∙ sym (items_text-append (comma_separated (map param_items (map view_param params))) (sign sign.CloseParen ∷ [])))

pub service_lines : (service : Service)
    → (codes "service " ++ service.name) ++ (codes " {" ++ (flat_map method_text service.methods.items ++ codes "\n}\n")) ≡ service_text service
service_lines service =
    let methods = flat_map (λ method. Line 1 ∷ method_items method) (map view_method service.methods.items) in
    ap (λ l. codes "service " ++ service.name ++ (codes " {" ++ l))
    (sym (items_text-append (methods ++ Line 0 ∷ sign sign.CloseBrace ∷ []) (Line 0 ∷ [])
    ∙ ap (λ l. l ++ codes "\n") (items_text-append methods (Line 0 ∷ sign sign.CloseBrace ∷ []))
    ∙ append_assoc (items_text methods) (codes "\n}") (codes "\n")
    ∙ ap (λ l. l ++ codes "\n}\n") (items_text-each (λ method. Line 1 ∷ method_items method) view_method service.methods.items)))

pub print_text : (services : Services)
    → flat_map service_text services.list.items ≡ services_text (view_services services)
print_text services = sym (items_text-each service_items view_service services.list.items)
