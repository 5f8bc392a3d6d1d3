-- Each call site of an accepted body has a callee.
use Rattle.std.proofs.Common.{◌≡◌, ℕ, zero, suc, ◌+◌, Bool, true, false, cond, is_some, IsSome, List, [], ◌∷◌, map, flat_map, find, slice_get, option_map, unwrap_or, Option, Some, None, All, Contains, refl, sym, ap, ◌∙◌, subst}
use Rattle.std.specs.List.{position_from}
use Rattle.std.specs.Option.{option_and_then}
use Rattle.std.proofs.lemmas.List.Elements.{All-nil, All-cons, All-append, All-head, All-tail}
use Rattle.std.proofs.lemmas.Option.{get_or_from_slice_get, slice_get_within, slice_get-map}
use Rattle.fb_base.specs.declared.kind.Kind.{Kind}
use Rattle.fb_base.specs.declared.method.MethodName.{MethodName}
use Rattle.fb_syntax.specs.Trees.{Statement, Let, Assign, If, IfElse, Repeat, For, Break, Return, Fail, Call, Assert, Statements, NoStatements, AndStatements, Handlers, NoHandlers, AndHandlers, MethodTree, ServiceTree, ServicesTree, TestTree}
use Rattle.fb_check.specs.declared.owner.Owner.{Owner}
use Rattle.fb_check.specs.declared.owner.Owner.TheVariants as owner
use Rattle.fb_check.specs.declared.body_tables.BodyTables.{BodyTables}
use Rattle.fb_check.specs.declared.declarations.Declarations.{Declarations}
use Rattle.fb_check.specs.Declarations.{is_method, declarations_of}
use Rattle.fb_check.specs.Accepted.{Variables, with_variable, HasMethod, no_variables, behind, Fits, BlockFits, HandlersFit, has_parameters, IsAcceptedMethod, IsAcceptedTest}
use Rattle.fb_check.specs.Sites.{statement_sites, sites, handler_sites, callee_number, callee_numbers}
use Rattle.fb_check.specs.Counts.{entries_of}
use Rattle.fb_check.specs.Tables.{body_tables}
use Rattle.fb_check.specs.Programs.{methods_of, method_at, item_numbered, site_at, callee_at, callees_of}
use Rattle.fb_graph.specs.Graph.{Calls}
use Rattle.fb_check.specs.Calls.{known_callees, graph_of}
use Rattle.fb_check.proofs.DeclarationLaws.{contains_head, contains_tail}
use Rattle.fb_check.proofs.KindLaws.{Knows}
use Rattle.fb_check.proofs.AcceptanceLaws.{AreWellFormed, accepted_knows}

placed_at : {X : Type 0} (t : X → Bool) (i : ℕ) (x y : X) (xs : List X) (b : Bool) → cond b (Some x) (find t xs) ≡ Some y
    → (find t xs ≡ Some y → IsSome (position_from t (i + 1) xs)) → IsSome (cond b (Some i) (position_from t (i + 1) xs))
placed_at t i x y xs true is later = refl
placed_at t i x y xs false is later = later is

-- what is found has a place
placed : {X : Type 0} (t : X → Bool) (i : ℕ) (y : X) (xs : List X) → find t xs ≡ Some y → IsSome (position_from t i xs)
placed t i y [] is = absurd (cc)
placed t i y (x ∷ xs) is = placed_at t i x y xs (t x) is (placed t (i + 1) y xs)

module _ (tree : ServicesTree) (declared : Declarations) (knows : Knows declared tree) where
  abbrev pub Resolves : MethodName → Type 0
  Resolves site = IsSome (callee_number declared site)

  resolves : (service method : List ℕ) (params : List Kind) (gives : Kind) → HasMethod tree service method params gives → Resolves (record { service = service; method = method })
  resolves service method params gives has =
      let callee = knows.callee_there service method params gives has in
      placed (is_method service method) 0 callee.0 declared.methods callee.1

  mutual
    statement_resolves : (whose : Owner) (looping : Bool) (variables : Variables) (s : Statement) → Fits tree whose looping variables s → All Resolves (statement_sites s)
    statement_resolves whose looping variables (Let name value) fits = All-nil Resolves
    statement_resolves whose looping variables (Assign name value) fits = All-nil Resolves
    statement_resolves whose looping variables (If cond body) fits = block_resolves whose looping variables body fits.1
    statement_resolves whose looping variables (IfElse cond body other) fits =
        All-append Resolves (sites body) (sites other) (block_resolves whose looping variables body fits.1) (block_resolves whose looping variables other fits.2)
    statement_resolves whose looping variables (Repeat times body) fits = block_resolves whose true variables body fits
    statement_resolves whose looping variables (For name over body) fits =
        block_resolves whose true (with_variable name (λ kind. kind ≡ fits.1) variables) body fits.5
    statement_resolves whose looping variables Break fits = All-nil Resolves
    statement_resolves whose looping variables (Return value) fits = All-nil Resolves
    statement_resolves whose looping variables (Fail code) fits = All-nil Resolves
    statement_resolves whose looping variables (Call target service method args handlers) fits =
        All-cons Resolves (record { service = service; method = method }) (handler_sites handlers) (resolves service method fits.0 fits.1 fits.2)
        (handlers_resolve whose looping variables handlers fits.5)
    statement_resolves whose looping variables (Assert cond) fits = All-nil Resolves

    pub block_resolves : (whose : Owner) (looping : Bool) (variables : Variables) (ss : Statements) → BlockFits tree whose looping variables ss → All Resolves (sites ss)
    block_resolves whose looping variables NoStatements fits = All-nil Resolves
    block_resolves whose looping variables (AndStatements s ss) fits =
        All-append Resolves (statement_sites s) (sites ss) (statement_resolves whose looping variables s fits.0) (block_resolves whose looping (behind tree whose variables s) ss fits.1)

    handlers_resolve : (whose : Owner) (looping : Bool) (variables : Variables) (handlers : Handlers) → HandlersFit tree whose looping variables handlers → All Resolves (handler_sites handlers)
    handlers_resolve whose looping variables NoHandlers fits = All-nil Resolves
    handlers_resolve whose looping variables (AndHandlers code body handlers) fits =
        All-append Resolves (sites body) (handler_sites handlers) (block_resolves whose looping variables body fits.0) (handlers_resolve whose looping variables handlers fits.1)

-- ---- by number

got : {X : Type 0} (P : X → Type 0) (xs : List X) (k : ℕ) (x : X) → All P xs → slice_get xs k ≡ Some x → P x
got P xs k x all is = subst P (get_or_from_slice_get xs k x x is) (all k x (slice_get_within xs k x is))

numbered_got : {X : Type 0} (P : X → Type 0) (xs : List X) (k : ℕ) (x : X) → All P xs → item_numbered xs k ≡ Some x → P x
numbered_got P xs zero x all is = absurd (cc)
numbered_got P xs (suc k) x all is = got P xs k x all is

all_methods : (P : MethodTree → Type 0) (services : List ServiceTree) → All (λ service. All P service.methods) services → All P (flat_map (λ (x : ServiceTree). x.methods) services)
all_methods P [] all = All-nil P
all_methods P (service ∷ services) all =
    All-append P service.methods (flat_map (λ (x : ServiceTree). x.methods) services) (All-head (λ (x : ServiceTree). All P x.methods) service services all)
    (all_methods P services (All-tail (λ (x : ServiceTree). All P x.methods) service services all))

accepted_methods : (tree : ServicesTree) → AreWellFormed tree → All (IsAcceptedMethod tree) (methods_of tree)
accepted_methods tree accepted =
    all_methods (IsAcceptedMethod tree) tree.services (λ k d within. (accepted.services_accepted k d within).methods_accepted)

site_resolves : (tree : ServicesTree) (site : Option MethodName) → ((name : MethodName) → site ≡ Some name → IsSome (callee_number (declarations_of tree) name))
    → is_some (option_and_then (callee_number (declarations_of tree)) site) ≡ is_some site
site_resolves tree None each = refl
site_resolves tree (Some name) each = each name refl

at_method : (tree : ServicesTree) → AreWellFormed tree → (m site : ℕ) (method : Option MethodTree) → method_at tree m ≡ method
    → (name : MethodName) → option_and_then (λ (x : MethodTree). item_numbered (sites x.body) site) method ≡ Some name → IsSome (callee_number (declarations_of tree) name)
at_method tree accepted m site None is name there = absurd (cc)
at_method tree accepted m site (Some method) is name there =
    let fits = got (IsAcceptedMethod tree) (methods_of tree) m method (accepted_methods tree accepted) is in
    numbered_got (λ n. IsSome (callee_number (declarations_of tree) n)) (sites method.body) site name
    (block_resolves tree (declarations_of tree) (accepted_knows tree accepted) (owner.Method method.gives) false (has_parameters method) method.body fits.body_fits) there

-- a site has a callee exactly where the body has the site
pub callees_exactly : (tree : ServicesTree) → AreWellFormed tree → (m site : ℕ) → is_some (callee_at tree m site) ≡ is_some (site_at tree m site)
callees_exactly tree accepted m site = site_resolves tree (site_at tree m site) (at_method tree accepted m site (method_at tree m) refl)

-- the same of a test
pub test_callees_exactly : (tree : ServicesTree) (test : TestTree) → AreWellFormed tree → IsAcceptedTest tree test → (site : ℕ)
    → is_some (option_and_then (callee_number (declarations_of tree)) (item_numbered (sites test.body) site)) ≡ is_some (item_numbered (sites test.body) site)
test_callees_exactly tree test accepted fits site =
    site_resolves tree (item_numbered (sites test.body) site) (λ name there.
    numbered_got (λ n. IsSome (callee_number (declarations_of tree) n)) (sites test.body) site name
    (block_resolves tree (declarations_of tree) (accepted_knows tree accepted) owner.Test false no_variables test.body fits) there)

item_numbered-map : {A B : Type 0} (f : A → B) (xs : List A) (k : ℕ) → item_numbered (map f xs) k ≡ option_map f (item_numbered xs k)
item_numbered-map f xs zero = refl
item_numbered-map f xs (suc k) = slice_get-map f xs k

flattened : {A : Type 0} (f : A → Option ℕ) (found : Option A) → option_and_then (λ callee. callee) (option_map f found) ≡ option_and_then f found
flattened f None = refl
flattened f (Some x) = refl

-- among the numbers of callees stands at each site that of its callee
pub numbered_callee : (declared : Declarations) (names : List MethodName) (site : ℕ)
    → option_and_then (λ callee. callee) (item_numbered (callee_numbers declared names) site) ≡ option_and_then (callee_number declared) (item_numbered names site)
numbered_callee declared names site =
    ap (option_and_then (λ callee. callee)) (item_numbered-map (callee_number declared) names site)
    ∙ flattened (callee_number declared) (item_numbered names site)

-- the tables of a method's body have at each site the callee there
site_callee : (tree : ServicesTree) (site : ℕ) (method : Option MethodTree) (body : BodyTables) → option_map (λ (x : MethodTree). body_tables (declarations_of tree) x.body) method ≡ Some body
    → option_and_then (λ callee. callee) (item_numbered body.callees site)
    ≡ option_and_then (callee_number (declarations_of tree)) (option_and_then (λ (x : MethodTree). item_numbered (sites x.body) site) method)
site_callee tree site None body is = absurd (cc)
site_callee tree site (Some method) body is =
    let same : body_tables (declarations_of tree) method.body ≡ body = cc in
    ap (λ (b : BodyTables). option_and_then (λ callee. callee) (item_numbered b.callees site)) (sym same)
    ∙ numbered_callee (declarations_of tree) (sites method.body) site

pub body-callee : (tree : ServicesTree) (m site : ℕ) (body : BodyTables) → option_map (λ (x : MethodTree). body_tables (declarations_of tree) x.body) (method_at tree m) ≡ Some body
    → option_and_then (λ callee. callee) (item_numbered body.callees site) ≡ callee_at tree m site
body-callee tree m site = site_callee tree site (method_at tree m)

body_counts : (declared : Declarations) (method : Option MethodTree) (body : BodyTables) → option_map (λ (x : MethodTree). body_tables declared x.body) method ≡ Some body
    → option_map (λ (x : MethodTree). entries_of x.body) method ≡ Some body.counts
body_counts declared None body is = absurd (cc)
body_counts declared (Some method) body is = ap (option_map (λ (b : BodyTables). b.counts)) is

pub body-counts : (tree : ServicesTree) (m : ℕ) (body : BodyTables) → option_map (λ (x : MethodTree). body_tables (declarations_of tree) x.body) (method_at tree m) ≡ Some body
    → option_map (λ (x : MethodTree). entries_of x.body) (method_at tree m) ≡ Some body.counts
body-counts tree m = body_counts (declarations_of tree) (method_at tree m)

-- ---- a site's callee is called in the graph

known_at : (callees : List (Option ℕ)) (k n : ℕ) → slice_get callees k ≡ Some (Some n) → Contains (known_callees callees) n
known_at [] k n is = absurd (cc)
known_at (None ∷ callees) zero n is = absurd (let same = ap (λ found. unwrap_or found None) is in cc)
known_at (Some x ∷ callees) zero n is =
    subst (Contains (x ∷ known_callees callees)) (let same : x ≡ n = cc in same) (contains_head x (known_callees callees))
known_at (None ∷ callees) (suc k) n is = known_at callees k n is
known_at (Some x ∷ callees) (suc k) n is = contains_tail x n (known_callees callees) (known_at callees k n is)

some_of : {A : Type 0} (f : A → Option ℕ) (found : Option A) (n : ℕ) → option_and_then f found ≡ Some n → option_map f found ≡ Some (Some n)
some_of f None n is = absurd (cc)
some_of f (Some x) n is = ap Some is

called_at : {A : Type 0} (f : A → Option ℕ) (names : List A) (site n : ℕ) → option_and_then f (item_numbered names site) ≡ Some n → Contains (known_callees (map f names)) n
called_at f names zero n is = absurd (cc)
called_at f names (suc k) n is = known_at (map f names) k n (slice_get-map f names k ∙ some_of f (slice_get names k) n is)

calls_at : (tree : ServicesTree) (m site callee : ℕ) (method : Option MethodTree) → method_at tree m ≡ method
    → option_and_then (callee_number (declarations_of tree)) (option_and_then (λ (x : MethodTree). item_numbered (sites x.body) site) method) ≡ Some callee → Calls (graph_of tree) m callee
calls_at tree m site callee None here is = absurd (cc)
calls_at tree m site callee (Some method) here is =
    let numbers : MethodTree → List (Option ℕ) = λ x. callee_numbers (declarations_of tree) (sites x.body) in
    let got = slice_get-map known_callees (callees_of tree) m ∙ ap (option_map known_callees) (slice_get-map numbers (methods_of tree) m ∙ ap (option_map numbers) here) in
    subst (λ called. Contains called callee) (sym (get_or_from_slice_get (graph_of tree) m (known_callees (numbers method)) [] got))
    (called_at (callee_number (declarations_of tree)) (sites method.body) site callee is)

pub callee-called : (tree : ServicesTree) (m site callee : ℕ) → callee_at tree m site ≡ Some callee → Calls (graph_of tree) m callee
callee-called tree m site callee = calls_at tree m site callee (method_at tree m) refl
