use Rattle.std.proofs.Common.{◌∙◌}
use Rattle.std.proofs.lemmas.Result.{on_ok_weaker, IfOk-weaker}
use Rattle.fb_store.proofs.Adding.{number_known, added_known, number_new, added_new, unknown_outside, unknown_left}
use Rattle.fb_store.proofs.Agreed.{each_agrees}
use Rattle.fb_store.proofs.store.Store.add.Goals as goal

pub returns-in-Known-clause-number : goal.returns-in-Known-clause-number
returns-in-Known-clause-number c =
    number_known c.args.self.now c.args.item c.in-Known.id (each_agrees c.args.self.now c.args.item c.requires) c.in-Known.ensures

pub returns-in-Known-clause-added : goal.returns-in-Known-clause-added
returns-in-Known-clause-added c =
    added_known c.args.self.now c.args.item c.in-Known.id (each_agrees c.args.self.now c.args.item c.requires) c.in-Known.ensures

pub returns-in-Outside-clause-number : goal.returns-in-Outside-clause-number
returns-in-Outside-clause-number c =
    IfOk-weaker c.add_tree.result _ _ (λ id is. is ∙ number_new c.args.self.now c.args.item (unknown_outside c.args.self.now c.args.item c.in-Outside.ensures))
    c.add_tree.ensures.number

pub returns-in-Outside-clause-added : goal.returns-in-Outside-clause-added
returns-in-Outside-clause-added c =
    on_ok_weaker c.add_tree.result (λ is. is ∙ added_new c.args.self.now c.args.item (unknown_outside c.args.self.now c.args.item c.in-Outside.ensures))
    c.add_tree.ensures.added

pub returns-in-Branch-clause-number : goal.returns-in-Branch-clause-number
returns-in-Branch-clause-number c =
    IfOk-weaker c.add_branch.result _ _
    (λ id is. is ∙ number_new c.args.self.now c.args.item (unknown_left c.args.self.now c.args.item c.in-Branch.place c.in-Branch.ensures))
    c.add_branch.ensures.number

pub returns-in-Branch-clause-added : goal.returns-in-Branch-clause-added
returns-in-Branch-clause-added c =
    on_ok_weaker c.add_branch.result
    (λ is. is ∙ added_new c.args.self.now c.args.item (unknown_left c.args.self.now c.args.item c.in-Branch.place c.in-Branch.ensures))
    c.add_branch.ensures.added
