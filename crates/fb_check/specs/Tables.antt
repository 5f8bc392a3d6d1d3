-- What is kept of accepted sources.
use Rattle.std.specs.Prelude.{◌≡◌, List, map}
use Rattle.fb_syntax.specs.Trees.{ServicesTree, Statements}
use Rattle.fb_check.specs.declared.body_tables.BodyTables.{BodyTables}
use Rattle.fb_check.specs.declared.declarations.Declarations.{Declarations}
use Rattle.fb_check.specs.declared.tables.Tables.{Tables}
use Rattle.fb_check.specs.Declarations.{declarations_of}
use Rattle.fb_check.specs.Sites.{sites, callee_numbers}
use Rattle.fb_check.specs.Counts.{entries_of}
use Rattle.fb_check.specs.Programs.{methods_of}
use Rattle.fb_check.specs.Calls.{graph_of, AreRanks}

-- of a body
abbrev pub body_tables : Declarations → Statements → BodyTables
body_tables declared body = record { callees = callee_numbers declared (sites body); counts = entries_of body }

-- of each method's body
abbrev pub bodies_of : ServicesTree → List BodyTables
bodies_of tree = map (λ method. body_tables (declarations_of tree) method.body) (methods_of tree)

pub record AreTables (tree : ServicesTree) (tables : Tables) : Type 0 where
  pub declared : tables.declared ≡ declarations_of tree
  pub bodies : tables.bodies.items ≡ bodies_of tree
  pub ranks : AreRanks (graph_of tree) tables.ranks
