use Rattle.std.proofs.Common.{◌≡◌, suc, ◌-◌, ◌≤◌, List, ◌∷◌, [], bytes_eq, cond, length, take, length-take, None, sym, ap, subst, ◌∙◌, arith}
use Rattle.std.proofs.lemmas.List.{take-append-le}
use Rattle.fb_check.proofs.NameOrder.{is_eq-names}
use Rattle.fb_meaning.specs.Evaluations.{NamedValue}
use Rattle.fb_expression.specs.Scopes.{place_named, NamesDiffer}
use Rattle.fb_expression.proofs.Places.{split_last, differ-pop, place-popped}
use Rattle.fb_expression.proofs.variables.Variables.leave.Goals as goal

pub loop-self-preserved : goal.loop-self-preserved
loop-self-preserved c =
    let items = c.loop-self.self-inside.stack.items in
    let place = c.len-place.result - 1 in
    let last = c.index.result.now in
    let counted : suc place ≡ length items =
    omega (arith, c.len.ensures, c.len-place.ensures, c.loop-self-test.true, c.loop-self.self-inside.stack.ok.0) in
    let split = split_last items place last counted c.index.ensures in
    let differ = differ-pop (take place items) last (subst NamesDiffer split c.loop-self.invariant.0) in
    let remain : c.args.len ≤ length (take place items) =
    omega (arith, c.len.ensures, c.len-place.ensures, c.loop-self-test.true, counted, length-take place items) in
    rw c.truncate.ensures.items (
      differ.0,
      λ name. c.remove.ensures.updates.0 name
          ∙ rw (is_eq-names c.name.result.now name, c.name.ensures)
          (ap (cond (bytes_eq name last.name) None) (c.loop-self.invariant.1 name ∙ ap (λ (variables : List NamedValue). place_named variables name) split))
          ∙ place-popped (take place items) name last differ.1,
      sym (take-append-le c.args.len (take place items) (last ∷ []) remain) ∙ ap (take c.args.len) (sym split) ∙ c.loop-self.invariant.2,
    )
