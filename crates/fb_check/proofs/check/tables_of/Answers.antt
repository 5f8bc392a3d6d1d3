use Rattle.std.proofs.Common.{rules, ◌≡◌, List, map, length, sym, ap, ◌∙◌, subst, arith}
use Rattle.std.proofs.lemmas.List.{length-map}
use Rattle.fb_graph.specs.Graph.{Graph}
use Rattle.fb_graph.specs.FirstCycle.{first_cycle}
use Rattle.fb_syntax.specs.Trees.{MethodTree, ServicesTree}
use Rattle.fb_syntax.specs.Views.{view_services}
use Rattle.fb_check.specs.declared.body_tables.BodyTables.{BodyTables}
use Rattle.fb_check.specs.declared.declarations.Declarations.{Declarations}
use Rattle.fb_check.specs.Declarations.{declarations_of}
use Rattle.fb_check.specs.Tables.{body_tables, bodies_of}
use Rattle.fb_check.specs.Programs.{methods_of}
use Rattle.fb_check.specs.Calls.{known_callees, graph_of, first_deep}
use Rattle.fb_check.specs.FirstRefusal.{Tells, cycle_check, calls_check}
use Rattle.fb_check.proofs.MethodTables.{count_fits, graph_of_bodies}
use Rattle.fb_check.proofs.check.tables_of.Goals as goal

pub graph_of-requires : goal.graph_of-requires
graph_of-requires c =
    let tree = view_services c.args.services.now in
    let bodies = rw c.as_slice.ensures.value at c.in_ok-bodies.ensures in
    let counted = ap length bodies ∙ length-map (methods_of tree) (λ (x : MethodTree). body_tables c.args.declared x.body) in
    omega (arith, c.as_slice-2.ensures.len, counted, count_fits tree c.requires.limits)

-- the check of the graph is that of the services' calls
checked : (tree : ServicesTree) (declared : Declarations) (bodies : List BodyTables) (graph : Graph) → declared ≡ declarations_of tree
    → bodies ≡ map (λ (x : MethodTree). body_tables declared x.body) (methods_of tree) → graph ≡ map (λ (b : BodyTables). known_callees b.callees) bodies
    → (bodies ≡ bodies_of tree) × (graph ≡ graph_of tree) × (cycle_check declared (first_cycle graph) (first_deep graph) ≡ calls_check tree)
checked tree declared bodies graph declares made calls =
    let all = made ∙ ap (λ (d : Declarations). map (λ (x : MethodTree). body_tables d x.body) (methods_of tree)) declares in
    let same = calls ∙ ap (map (λ (b : BodyTables). known_callees b.callees)) all ∙ graph_of_bodies (declarations_of tree) (methods_of tree) in
    (all, same, λ i. cycle_check (declares i) (first_cycle (same i)) (first_deep (same i)))

pub returns-in_err-ranks-clause-told : goal.returns-in_err-ranks-clause-told
returns-in_err-ranks-clause-told c =
    let bodies = rw c.as_slice.ensures.value at c.in_ok-bodies.ensures in
    let graph = rw c.as_slice-2.ensures.value at c.in_ok-graph.ensures in
    let found = checked (view_services c.args.services.now) c.args.declared c.in_ok-bodies.bodies.items c.in_ok-graph.graph c.requires.declared bodies graph in
    subst (Tells c.from_residual-in_err-ranks.result) found.2 (search rules)

pub returns-clause-told : goal.returns-clause-told
returns-clause-told c =
    let bodies = rw c.as_slice.ensures.value at c.in_ok-bodies.ensures in
    let graph = rw c.as_slice-2.ensures.value at c.in_ok-graph.ensures in
    let found = checked (view_services c.args.services.now) c.args.declared c.in_ok-bodies.bodies.items c.in_ok-graph.graph c.requires.declared bodies graph in
    sym found.2 ∙ c.in_ok-ranks.ensures.told

pub returns-clause-tables : goal.returns-clause-tables
returns-clause-tables c =
    let bodies = rw c.as_slice.ensures.value at c.in_ok-bodies.ensures in
    let graph = rw c.as_slice-2.ensures.value at c.in_ok-graph.ensures in
    let found = checked (view_services c.args.services.now) c.args.declared c.in_ok-bodies.bodies.items c.in_ok-graph.graph c.requires.declared bodies graph in
    record {
      declared = c.requires.declared;
      bodies = found.0;
      ranks = rw found.1 at c.in_ok-ranks.ensures.ranks;
    }
