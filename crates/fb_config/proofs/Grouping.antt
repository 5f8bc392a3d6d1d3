-- The choices for a method by the items of its service alone, and those for all methods service by service.
use Rattle.std.proofs.Common.{◌≡◌, ℕ, suc, Bool, true, false, ◌&&◌, bytes_eq, cond, List, [], ◌∷◌, ◌++◌, map, filter, flat_map, refl, sym, ap, ◌∙◌}
use Rattle.std.proofs.lemmas.List.{map-append}
use Rattle.fb_base.specs.declared.method.MethodName.{MethodName}
use Rattle.fb_base.specs.declared.reply.Reply.{Reply}
use Rattle.fb_syntax.specs.Trees.{MethodTree, ServiceTree, ServicesTree}
use Rattle.fb_check.specs.declared.signature.Signature.{Signature}
use Rattle.fb_check.specs.Declarations.{service_signatures, signatures_from}
use Rattle.fb_config.specs.declared.fault_item.FaultItem.{FaultItem}
use Rattle.fb_config.specs.ReadItems.{is_meant}
use Rattle.fb_config.specs.Once.{each_once}
use Rattle.fb_config.specs.Choices.{means, replies_for, choices_of, choices_in, choices_by}

-- other items say nothing of the service's methods
replies_kept : (name : MethodName) (items : List FaultItem) → flat_map (replies_for name) (filter (λ (i : FaultItem). bytes_eq i.callee name.service) items) ≡ flat_map (replies_for name) items
replies_kept name [] = refl
replies_kept name (item ∷ items) = by (bytes_eq item.callee name.service) refl (replies_kept name items) where
  by : (b : Bool) → bytes_eq item.callee name.service ≡ b
      → flat_map (replies_for name) (filter (λ (i : FaultItem). bytes_eq i.callee name.service) items) ≡ flat_map (replies_for name) items
      → flat_map (replies_for name) (cond b (item ∷ filter (λ (i : FaultItem). bytes_eq i.callee name.service) items) (filter (λ (i : FaultItem). bytes_eq i.callee name.service) items))
      ≡ replies_for name item ++ flat_map (replies_for name) items
  by true is rest = ap (λ more. replies_for name item ++ more) rest
  by false is rest = rest ∙ sym (ap (λ b. cond (b && is_meant item.method name.method) item.replies [] ++ flat_map (replies_for name) items) is)

choices_kept_of : (name : MethodName) (items : List FaultItem) → choices_of (filter (λ (i : FaultItem). bytes_eq i.callee name.service) items) name ≡ choices_of items name
unfolding choices_of
choices_kept_of name items = ap each_once (replies_kept name items)

pub choices_kept : (items kept : List FaultItem) (service : List ℕ) (methods : List MethodTree) → kept ≡ filter (λ (i : FaultItem). bytes_eq i.callee service) items
    → choices_in kept service methods ≡ choices_in items service methods
choices_kept items kept service [] is = refl
choices_kept items kept service (method ∷ methods) is =
    let name : MethodName = record { service = service; method = method.name } in
    λ i. (ap (λ xs. choices_of xs name) is ∙ choices_kept_of name items) i ∷ choices_kept items kept service methods is i

module _ (items : List FaultItem) where
  in_service : (service : List ℕ) (s m : ℕ) (methods : List MethodTree) → choices_in items service methods ≡ map (λ (x : Signature). choices_of items x.name) (service_signatures service s m methods)
  in_service service s m [] = refl
  in_service service s m (method ∷ methods) = ap (λ rest. choices_of items (record { service = service; method = method.name }) ∷ rest) (in_service service s (suc m) methods)

  -- service by service, they are those of all signatures
  pub by_signature : (s : ℕ) (services : List ServiceTree) → flat_map (choices_by items) services ≡ map (λ (x : Signature). choices_of items x.name) (signatures_from s services)
  by_signature s [] = refl
  by_signature s (service ∷ services) =
      (λ i. in_service service.name s 1 service.methods i ++ by_signature (suc s) services i)
      ∙ sym (map-append (λ (x : Signature). choices_of items x.name) (service_signatures service.name s 1 service.methods) (signatures_from (suc s) services))
