-- Replies that are kept by entry.
use Rattle.std.proofs.Common.{◌≡◌, Bool, true, false, ◌&&◌, Option, Some, None, option_map, find, List, [], ◌∷◌, ◌++◌, refl, sym, ◌∙◌, if◌then◌else◌}
use Rattle.std.specs.Option.{option_or}
use Rattle.std.specs.declared.cmp.Ordering.{Ordering}
use Rattle.std.specs.declared.cmp.Ordering.TheVariants.{Less, Equal, Greater}
use Rattle.std.specs.Ordering.{is_eq, nat_cmp, ordering_then}
use Rattle.std.specs.Cmp.{unsigned_ties}
use Rattle.fb_base.specs.declared.reply.Reply.{Reply}
use Rattle.fb_index.specs.Entry.{Occurrence, same_entry, entry_cmp}
use Rattle.fb_transport.specs.Sources.{reply_at}

both : (x y : Ordering) → is_eq (ordering_then x y) ≡ (is_eq x && is_eq y)
both Less y = refl
both Equal y = refl
both Greater y = refl

-- a map compares entries as they are compared for being the same
pub is_eq_entries : (a b : Occurrence) → is_eq (entry_cmp a b) ≡ same_entry a b
is_eq_entries a b =
    both (nat_cmp a.site b.site) (nat_cmp a.count b.count)
    ∙ sym (λ i. unsigned_ties a.site b.site i && unsigned_ties a.count b.count i)

-- the last reply counts where no earlier one does
pub reply_at_push : (replies : List (Occurrence × Reply)) (pair : Occurrence × Reply) (entry : Occurrence) (kept : Option Reply)
    → option_or (reply_at (replies ++ pair ∷ []) entry) kept ≡ option_or (reply_at replies entry) (if same_entry pair.0 entry then Some pair.1 else kept)
reply_at_push [] pair entry kept = here (same_entry pair.0 entry)
  where
    here : (same : Bool)
        → option_or (option_map (λ (p : Occurrence × Reply). p.1) (if same then Some pair else None)) kept ≡ (if same then Some pair.1 else kept)
    here true = refl
    here false = refl
reply_at_push (first ∷ replies) pair entry kept = there (same_entry first.0 entry) (reply_at_push replies pair entry kept)
  where
    there : (same : Bool)
        → option_or (reply_at (replies ++ pair ∷ []) entry) kept ≡ option_or (reply_at replies entry) (if same_entry pair.0 entry then Some pair.1 else kept)
        → option_or (option_map (λ (p : Occurrence × Reply). p.1) (if same then Some first else find (λ p. same_entry p.0 entry) (replies ++ pair ∷ []))) kept
        ≡ option_or (option_map (λ (p : Occurrence × Reply). p.1) (if same then Some first else find (λ p. same_entry p.0 entry) replies))
        (if same_entry pair.0 entry then Some pair.1 else kept)
    there true behind = refl
    there false behind = behind
