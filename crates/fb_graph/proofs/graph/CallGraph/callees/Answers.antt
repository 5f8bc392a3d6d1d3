use Rattle.std.proofs.Common.{ℕ, Option, List, [], ap, ◌∙◌, unwrap_or}
use Rattle.std.proofs.lemmas.Option.{unwrap_or-slice_get}
use Rattle.fb_graph.specs.Graph.{Graph, callees}
use Rattle.fb_graph.proofs.graph.CallGraph.callees.Goals as goal

pub returns-in-None : goal.returns-in-None
returns-in-None c =
    ap (λ (found : Option (List ℕ)). unwrap_or found []) (c.in-None.ensures) ∙ unwrap_or-slice_get c.self.inside.callees c.args.method [] ∙
    ap (λ (graph : Graph). callees graph c.args.method) c.self.view_is
