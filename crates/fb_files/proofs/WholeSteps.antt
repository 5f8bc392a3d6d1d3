-- Steps of reading to the end and of writing everything.
use Rattle.std.proofs.Common.{◌≡◌, ◌≢◌, ℕ, ◌-◌, List, ◌++◌, length, take, drop, Option, None, Some, Err, IfSome, refl, sym, ◌∙◌, ap, append_assoc, take-append-drop}
use Rattle.std.proofs.lemmas.List.{take_rest}
use Rattle.fb_files.specs.Whole.{ReadsWhole}
use Rattle.fb_files.specs.declared.error.LoadError.{LoadError}
use Rattle.fb_files.specs.declared.error.LoadError.TheVariants.{Failed, TooLong, Memory}

-- a read that fails says nothing of the bytes
pub stopped : (known : Option (List ℕ)) (limit : ℕ) (error : LoadError) → error ≢ TooLong
    → IfSome known (λ left. ReadsWhole left limit (Err error))
stopped None limit error other = tt
stopped (Some left) limit Failed other = tt
stopped (Some left) limit TooLong other = absurd (other refl)
stopped (Some left) limit Memory other = tt

-- a write took the first n of the bytes that were left
pub taken : (all written left : List ℕ) (n : ℕ) → all ≡ written ++ left
    → all ≡ (written ++ take n left) ++ take (length left - n) (drop n left)
taken all written left n is =
    rw take_rest (is ∙ ap (λ l. written ++ l) (sym (take-append-drop n left)) ∙ sym (append_assoc written (take n left) (drop n left)))
