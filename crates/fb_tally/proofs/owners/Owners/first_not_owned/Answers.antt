use Rattle.std.proofs.Common.{sym, ap, ◌∙◌, subst}
use Rattle.fb_valid.specs.Rules.{HasOwner}
use Rattle.fb_tally.specs.Firsts.{FirstBreakAt}
use Rattle.fb_tally.specs.Owned.{OwnerRows}
use Rattle.fb_tally.specs.Owning.{first_not_owned}
use Rattle.fb_tally.proofs.FirstRows.{not_owned_first}
use Rattle.fb_tally.proofs.owners.Owners.first_not_owned.Goals as goal

pub returns : goal.returns
returns c = λ lines are.
    let rows = c.deref.ensures.value ∙ ap (λ (o : OwnerRows). o.records) c.self.view_is in
    subst (FirstBreakAt (HasOwner lines) lines) (sym (c.first_not_owned.ensures ∙ ap first_not_owned rows)) (not_owned_first lines c.args.self.now are)
