use Rattle.std.proofs.Common.{◌≡◌, ◌∷◌, [], ◌++◌, cond, fold, length, ap, ◌∙◌, rules}
use Rattle.std.proofs.lemmas.List.{with_items_is}
use Rattle.fb_tally.specs.Owned.{OwnerRows}
use Rattle.fb_tally.specs.Owning.{own}
use Rattle.fb_tally.specs.declared.rows.PlanRow.{PlanRow}
use Rattle.fb_tally.proofs.Pushes.{plan_push}
use Rattle.fb_tally.proofs.owners.Owners.add_plan.Goals as goal

pub returns : goal.returns
returns c = λ lines line told are tells run_is uses_are above at_is.
    let row : PlanRow = record { at = c.args.at; run = c.args.run } in
    let number = c.len-number.result in
    let plans = c.in_ok-push.ensures.items ∙ ap (λ (o : OwnerRows). o.plans ++ row ∷ []) c.self.view_is in
    let count : number ≡ length c.self.inside.plans.items = search rules in
    let counted = count ∙ ap (λ (o : OwnerRows). length o.plans) c.self.view_is in
    let rows =
    with_items_is c.self.inside.records c.own_by_line.new.records (c.own_by_line.auto.records ∙ c.deref_mut.ensures.len) ∙ c.own_by_line.ensures
    ∙ ap (λ rows. fold (own number) rows (cond c.args.run c.args.uses.now [])) (c.deref_mut.ensures.value ∙ ap (λ (o : OwnerRows). o.records) c.self.view_is) in
    plan_push lines c.args.self.now are line told tells number c.args.run c.args.uses.now counted run_is uses_are c.args.at _ _ at_is above rows plans
