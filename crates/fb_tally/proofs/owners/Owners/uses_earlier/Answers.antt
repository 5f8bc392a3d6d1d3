use Rattle.std.proofs.Common.{◌≡◌, length, sym, ap, ◌∙◌, subst, rules}
use Rattle.fb_valid.specs.Rules.{UsesEarlier}
use Rattle.fb_tally.specs.Decisions.{Decides}
use Rattle.fb_tally.specs.Owned.{OwnerRows}
use Rattle.fb_tally.specs.Owning.{are_earlier}
use Rattle.fb_tally.proofs.Earlier.{pruned_tells}
use Rattle.fb_tally.proofs.owners.Owners.uses_earlier.Goals as goal

pub returns : goal.returns
returns c = λ lines told are run_is uses_are.
    let uses = c.args.uses.now in
    let count : c.len.result ≡ length c.self.inside.plans.items = search rules in
    let rows = c.deref.ensures.value ∙ ap (λ (o : OwnerRows). o.records) c.self.view_is in
    let same =
    c.are_earlier.ensures ∙ ap (λ rows. are_earlier rows c.len.result uses) rows
    ∙ ap (λ n. are_earlier c.args.self.now.records n uses) (count ∙ ap (λ (o : OwnerRows). length o.plans) c.self.view_is) in
    subst (Decides (UsesEarlier lines told)) (sym same) (pruned_tells lines c.args.self.now are told uses (run_is ∙ c.if-run.false) uses_are)
