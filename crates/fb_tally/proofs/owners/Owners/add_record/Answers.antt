use Rattle.std.proofs.Common.{◌∷◌, [], ◌++◌, false, sym, ap, ◌∙◌, subst}
use Rattle.fb_tally.specs.Owned.{OwnerRows, AreOwnersOf}
use Rattle.fb_tally.specs.declared.rows.RecordRow.{RecordRow}
use Rattle.fb_tally.proofs.Pushes.{record_push}
use Rattle.fb_tally.proofs.owners.Owners.add_record.Goals as goal

pub returns : goal.returns
returns c = λ lines line are tells at_is.
    let row : RecordRow = record { at = c.args.at; owner = c.args.owner; owned = false } in
    let rows = c.in_ok-push.ensures.items ∙ ap (λ (o : OwnerRows). o.records ++ row ∷ []) c.self.view_is in
    subst (λ plans. AreOwnersOf (lines ++ line ∷ []) (record { records = c.push.new.self.items; plans = plans })) (ap (λ (o : OwnerRows). o.plans) (sym c.self.view_is))
    (record_push lines c.args.self.now are line c.args.at c.args.owner c.push.new.self.items tells at_is rows)
