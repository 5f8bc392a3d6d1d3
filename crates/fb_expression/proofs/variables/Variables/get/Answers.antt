use Rattle.std.proofs.Common.{List, Some, sym, ap, ◌∙◌, arith}
use Rattle.fb_meaning.specs.Evaluations.{NamedValue}
use Rattle.fb_meaning.specs.Variables.{value_named}
use Rattle.fb_expression.proofs.Places.{place_within, value_placed, no_value}
use Rattle.fb_expression.proofs.variables.Variables.get.Goals as goal

pub index-requires : goal.index-requires
index-requires c =
    let placed = sym (c.self.invariant.1 c.args.name.now) ∙ sym c.in-Some.ensures.value in
    omega (arith, place_within c.self.inside.stack.items c.args.name.now c.in-Some.place.now placed, c.self.inside.stack.ok.0)

pub returns-in-Some : goal.returns-in-Some
returns-in-Some c =
    let placed = sym (c.self.invariant.1 c.args.name.now) ∙ sym c.in-Some.ensures.value in
    ap Some c.value.ensures
    ∙ sym (value_placed c.self.inside.stack.items c.args.name.now c.in-Some.place.now c.index.result.now placed c.index.ensures)
    ∙ ap (λ (variables : List NamedValue). value_named variables c.args.name.now) c.self.view_is

pub returns-in-None : goal.returns-in-None
returns-in-None c =
    let none = sym (c.self.invariant.1 c.args.name.now) ∙ sym c.in-None.ensures.value in
    sym (no_value c.self.inside.stack.items c.args.name.now none)
    ∙ ap (λ (variables : List NamedValue). value_named variables c.args.name.now) c.self.view_is
