use Rattle.std.proofs.Common.{Some, sym, ap, refl, ◌∙◌, arith}
use Rattle.std.proofs.Math.ListN.{set}
use Rattle.fb_meaning.specs.Evaluations.{NamedValue}
use Rattle.fb_meaning.specs.Variables.{with_value_of}
use Rattle.fb_expression.proofs.Places.{place_within, place-set, differ-set, value_set, no_value_set}
use Rattle.fb_expression.proofs.variables.Variables.assign.Goals as goal

pub index_mut-requires : goal.index_mut-requires
index_mut-requires c =
    let placed = sym (c.self.invariant.1 c.args.name.now) ∙ sym c.in-Some.ensures.value in
    omega (arith, place_within c.self.inside.stack.items c.args.name.now c.in-Some.place.now placed, c.self.inside.stack.ok.0)

pub invariant_of-self : goal.invariant_of-self
invariant_of-self c =
    let variable = c.index_mut.result.now in
    rw c.set.ensures (
      differ-set c.self.inside.stack.items c.in-Some.place.now variable c.args.value c.index_mut.ensures.value c.self.invariant.0,
      λ name. c.self.invariant.1 name
          ∙ sym (place-set c.self.inside.stack.items c.in-Some.place.now variable c.args.value c.index_mut.ensures.value name),
    )

pub returns-in-Some : goal.returns-in-Some
returns-in-Some c =
    let placed = sym (c.self.invariant.1 c.args.name.now) ∙ sym c.in-Some.ensures.value in
    ap (with_value_of c.args.name.now c.args.value) (sym c.self.view_is)
    ∙ value_set c.self.inside.stack.items c.args.name.now c.args.value c.in-Some.place.now c.index_mut.result.now placed c.index_mut.ensures.value
    ∙ ap (λ (variable : NamedValue). Some (set c.self.inside.stack.items c.in-Some.place.now variable)) (sym c.set.ensures)

pub returns-in-None : goal.returns-in-None
returns-in-None c =
    let none = sym (c.self.invariant.1 c.args.name.now) ∙ sym c.in-None.ensures.value in (
      ap (with_value_of c.args.name.now c.args.value) (sym c.self.view_is)
          ∙ no_value_set c.self.inside.stack.items c.args.name.now c.args.value none,
      refl,
    )
