use Rattle.std.proofs.Common.{refl, ◌∙◌}
use Rattle.std.proofs.lemmas.Result.{on_ok_weaker, on_err_weaker}
use Rattle.fb_store.proofs.Changed.{alike_by_roots, adds_by_roots}
use Rattle.fb_store.proofs.trees.Trees.add_root.Goals as goal

pub returns-clause-added : goal.returns-clause-added
returns-clause-added c =
    on_ok_weaker c.put.result
    (adds_by_roots c.args.self.now _ refl refl c.args.method c.args.args.now c.args.id c.into_vec-key.result (c.into_vec-key.ensures ∙ c.in_ok-copy.ensures))
    c.put.ensures.added

pub returns-clause-err : goal.returns-clause-err
returns-clause-err c = on_err_weaker c.put.result (alike_by_roots c.args.self.now _ refl refl) c.put.ensures.err
