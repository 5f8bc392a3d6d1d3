-- Keys that are level are the same.
use Rattle.std.proofs.Common.{◌≡◌, ℕ, List, Equal, nat_cmp, is_eq, sym, ap, ◌∙◌}
use Rattle.std.proofs.lemmas.Map.Text.{is_eq-slice_cmp}
use Rattle.std.proofs.lemmas.Slice.Eq.{bytes_eq-Decides}
use Rattle.std.specs.Cmp.Lexicographic.{slice_cmp}

pub same-key : (a b : List ℕ) → slice_cmp nat_cmp a b ≡ Equal → a ≡ b
same-key a b level = (bytes_eq-Decides a b).0 (sym (is_eq-slice_cmp a b) ∙ ap is_eq level)
