use Rattle.std.proofs.Common.{length, sym, ap, ◌∙◌, subst}
use Rattle.std.proofs.lemmas.Result.{IfOk-weaker}
use Rattle.fb_valid.specs.Rules.{OfPlan, OwnsSome}
use Rattle.fb_tally.specs.Firsts.{FirstBreakAt}
use Rattle.fb_tally.specs.Owned.{OwnerRows}
use Rattle.fb_tally.specs.Owning.{marks_of, first_without_record}
use Rattle.fb_tally.proofs.FirstRows.{without_record_first}
use Rattle.fb_tally.proofs.owners.Owners.first_without_record.Goals as goal

pub returns : goal.returns
returns c =
    let rows = c.deref.ensures.value ∙ ap (λ (o : OwnerRows). o.records) c.self.view_is in
    let plans = c.deref-2.ensures.value ∙ ap (λ (o : OwnerRows). o.plans) c.self.view_is in
    IfOk-weaker c.first_without_record.result _ _
    (λ found is lines are. subst (FirstBreakAt (OfPlan (OwnsSome lines)) lines)
    (sym (is ∙ (λ i. first_without_record (marks_of (length (plans i)) (rows i)) 0 (plans i)))) (without_record_first lines c.args.self.now are)) c.first_without_record.ensures
