-- When two kinds are the same.
use Rattle.std.specs.Prelude.{◌≡◌, Bool, true, false}
use Rattle.std.specs.Bool.{Decides}
use Rattle.std.specs.Cmp.{IsEquivalence, decided}
use Rattle.std.proofs.Common.{refl}
use Rattle.fb_base.specs.declared.kind.Kind.{Kind}
use Rattle.fb_base.specs.declared.kind.Kind.TheVariants.{Int, Bool as Boolean, Text, Ints, Bools, Texts}

abbrev pub same_kind : Kind → Kind → Bool
same_kind Int Int = true
same_kind Boolean Boolean = true
same_kind Text Text = true
same_kind Ints Ints = true
same_kind Bools Bools = true
same_kind Texts Texts = true
same_kind _ _ = false

pub same_kind-Decides : (k l : Kind) → Decides (same_kind k l) (k ≡ l)
same_kind-Decides Int Int = (λ e. refl, λ e. refl)
same_kind-Decides Boolean Boolean = (λ e. refl, λ e. refl)
same_kind-Decides Text Text = (λ e. refl, λ e. refl)
same_kind-Decides Ints Ints = (λ e. refl, λ e. refl)
same_kind-Decides Bools Bools = (λ e. refl, λ e. refl)
same_kind-Decides Texts Texts = (λ e. refl, λ e. refl)
same_kind-Decides _ _ = (λ e. cc, λ e. cc)

pub same_kind_equiv : IsEquivalence same_kind
same_kind_equiv = decided same_kind same_kind-Decides
