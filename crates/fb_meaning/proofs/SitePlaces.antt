-- The call sites of a body, by their numbers.
use Rattle.std.specs.Prelude.{◌≡◌, ℕ, suc, ◌+◌, List, [], ◌∷◌, ◌++◌, length, slice_get, Some, ⊤}
use Rattle.std.proofs.Common.{refl, subst, length-append, arith}
use Rattle.fb_base.specs.declared.method.MethodName.{MethodName}
use Rattle.fb_syntax.specs.Counts.{summed, summed_all, summed_handlers, call_weight}
use Rattle.fb_syntax.specs.Trees.{Statement, Let, Assign, If, IfElse, Repeat, For, Break, Return, Fail, Call, Assert, Statements, NoStatements, AndStatements, Handlers, NoHandlers, AndHandlers}
use Rattle.fb_check.specs.Sites.{statement_sites, sites, handler_sites}

-- it holds of each name with its number, the first of which is one more than this
abbrev pub SitesAre : (ℕ → MethodName → Type 0) → ℕ → List MethodName → Type 0
SitesAre Is n [] = ⊤
SitesAre Is n (name ∷ names) = Is (n + 1) name × SitesAre Is (n + 1) names

module _ (Is : ℕ → MethodName → Type 0) where
  pub sites_moved : (m n : ℕ) (names : List MethodName) → m ≡ n → SitesAre Is m names → SitesAre Is n names
  sites_moved m n names e h = subst (λ k. SitesAre Is k names) e h

  pub sites_front : (n : ℕ) (names more : List MethodName) → SitesAre Is n (names ++ more) → SitesAre Is n names
  sites_front n [] more h = tt
  sites_front n (name ∷ names) more h = (h.0, sites_front (n + 1) names more h.1)

  pub sites_behind : (n : ℕ) (names more : List MethodName) → SitesAre Is n (names ++ more) → SitesAre Is (n + length names) more
  sites_behind n [] more h = sites_moved n (n + 0) more (omega arith) h
  sites_behind n (name ∷ names) more h =
      sites_moved (n + 1 + length names) (n + length (name ∷ names)) more (omega arith) (sites_behind (n + 1) names more h.1)

  pub all_sites : (n : ℕ) (names : List MethodName) → ((k : ℕ) (name : MethodName) → slice_get names k ≡ Some name → Is (n + suc k) name) → SitesAre Is n names
  all_sites n [] h = tt
  all_sites n (name ∷ names) h = (
    subst (λ k. Is k name) (let one : n + suc 0 ≡ n + 1 = omega arith in one) (h 0 name refl),
    all_sites (n + 1) names (λ k other e. subst (λ m. Is m other) (let next : n + suc (suc k) ≡ n + 1 + suc k = omega arith in next) (h (suc k) other e)),
  )

-- ---- as many as are counted

mutual
  pub statement_sites_count : (s : Statement) → summed call_weight s ≡ length (statement_sites s)
  statement_sites_count (If cond body) = omega (arith, sites_count body)
  statement_sites_count (IfElse cond body other) = omega (arith, length-append (sites body) (sites other), sites_count body, sites_count other)
  statement_sites_count (Repeat times body) = omega (arith, sites_count body)
  statement_sites_count (For name over body) = omega (arith, sites_count body)
  statement_sites_count (Call target service method args handlers) = omega (arith, handler_sites_count handlers)
  statement_sites_count (Let name value) = refl
  statement_sites_count (Assign name value) = refl
  statement_sites_count Break = refl
  statement_sites_count (Return value) = refl
  statement_sites_count (Fail code) = refl
  statement_sites_count (Assert cond) = refl

  pub sites_count : (ss : Statements) → summed_all call_weight ss ≡ length (sites ss)
  sites_count NoStatements = refl
  sites_count (AndStatements s ss) = omega (arith, length-append (statement_sites s) (sites ss), statement_sites_count s, sites_count ss)

  pub handler_sites_count : (handlers : Handlers) → summed_handlers call_weight handlers ≡ length (handler_sites handlers)
  handler_sites_count NoHandlers = refl
  handler_sites_count (AndHandlers code body handlers) = omega (arith, length-append (sites body) (handler_sites handlers), sites_count body, handler_sites_count handlers)
