-- The numbers in a kept body have 32 bits.
use Rattle.std.proofs.Common.{◌≡◌, ℕ, suc, List, [], ◌∷◌, slice_get, Some, sym, subst, arith}
use Rattle.std.proofs.Math.Logic.{∥∥₁_elim}
use Rattle.std.specs.Coded.{le_prop}
use Rattle.std.specs.List.{All, flat_map}
use Rattle.std.proofs.lemmas.List.Concat.{flat_map-cons}
use Rattle.std.proofs.lemmas.List.Elements.{All-append}
use Rattle.std.proofs.lemmas.Option.{get_or_from_slice_get, slice_get_within}
use Rattle.fb_syntax.specs.Kept.{KeepsBody, KeepsMethod, KeepsService, KeepsServicesLimits, KeepsTestLimits}
use Rattle.fb_syntax.specs.Trees.{MethodTree, ServiceTree, ServicesTree, Statements, TestTree}
use Rattle.fb_check.specs.Counts.{AreSmall, all_counts}
use Rattle.fb_check.specs.Programs.{method_at}
use Rattle.fb_check.proofs.Sums.{body_small}

all_of_all : {S M : Type 0} (parts : S → List M) (Q : S → Type 0) (P : M → Type 0) → ((s : S) → Q s → All P (parts s)) → (xs : List S) → All Q xs → All P (flat_map parts xs)
all_of_all parts Q P each [] h = λ k d past. absurd (omega (arith, past))
all_of_all parts Q P each (s ∷ xs) h =
    subst (All P) (sym (flat_map-cons parts s xs))
    (All-append P (parts s) (flat_map parts xs) (each s (h 0 s (omega arith))) (all_of_all parts Q P each xs (λ k d within. h (suc k) d (omega (arith, within)))))

one_of_all : {M : Type 0} (P : M → Type 0) (xs : List M) (k : ℕ) (x : M) → All P xs → slice_get xs k ≡ Some x → P x
one_of_all P xs k x h is = subst P (get_or_from_slice_get xs k x x is) (h k x (slice_get_within xs k x is))

kept_body : (tree : ServicesTree) (n : ℕ) (method : MethodTree) → method_at tree n ≡ Some method → KeepsServicesLimits tree → KeepsBody method.body
kept_body tree n method there limits =
    (one_of_all KeepsMethod _ n method
    (all_of_all (λ (service : ServiceTree). service.methods) KeepsService KeepsMethod (λ service kept. kept.methods) tree.services limits.services) there).body

small_by : (body : Statements) (L : Type 0) → (L → KeepsBody body) → ∥ L ∥₁ → AreSmall (all_counts body)
small_by body L kept limits = record {
  statements = ∥∥₁_elim limits le_prop (λ l. (body_small body (kept l)).statements);
  blocks = ∥∥₁_elim limits le_prop (λ l. (body_small body (kept l)).blocks);
  sites = ∥∥₁_elim limits le_prop (λ l. (body_small body (kept l)).sites);
  asserts = ∥∥₁_elim limits le_prop (λ l. (body_small body (kept l)).asserts);
}

pub method_is_small : (tree : ServicesTree) → ∥ KeepsServicesLimits tree ∥₁ → (n : ℕ) (method : MethodTree) → method_at tree n ≡ Some method → AreSmall (all_counts method.body)
method_is_small tree limits n method there = small_by method.body (KeepsServicesLimits tree) (kept_body tree n method there) limits

pub test_is_small : (test : TestTree) → ∥ KeepsTestLimits test ∥₁ → AreSmall (all_counts test.body)
test_is_small test limits = small_by test.body (KeepsTestLimits test) (λ kept. kept.body) limits
