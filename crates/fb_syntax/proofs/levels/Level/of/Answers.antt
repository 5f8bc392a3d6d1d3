use Rattle.std.proofs.Common.{map, ap, sym, ◌∙◌}
use Rattle.fb_syntax.specs.Views.{view_expr, view_link, links_of}
use Rattle.fb_syntax.specs.Levels.{chain_level, level_of}
use Rattle.fb_syntax.specs.ViewEquations.{view_chain}
use Rattle.fb_syntax.proofs.levels.Level.of.Goals as goal

pub returns-in-Chain : goal.returns-in-Chain
returns-in-Chain c =
    let chain = ap view_expr c.in-Chain.is ∙ view_chain c.in-Chain.first c.in-Chain.rest in
    c.of_chain.ensures ∙ ap (λ links. chain_level (links_of (map view_link links))) c.deref.ensures.value ∙ sym (ap level_of chain)
