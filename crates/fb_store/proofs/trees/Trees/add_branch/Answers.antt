use Rattle.std.proofs.Common.{refl, ◌∙◌}
use Rattle.std.proofs.lemmas.Result.{on_ok_weaker, on_err_weaker}
use Rattle.fb_store.proofs.Changed.{alike_by_values, adds_by_values, alike_by_errors, adds_by_errors}
use Rattle.fb_store.proofs.trees.Trees.add_branch.Goals as goal

pub returns-in_ok-key-in-Ok-clause-added : goal.returns-in_ok-key-in-Ok-clause-added
returns-in_ok-key-in-Ok-clause-added c =
    rw c.in-Ok.is
    (on_ok_weaker c.put.result
    (adds_by_values c.args.self.now _ refl refl c.args.place c.in-Ok.value c.args.id c.in_ok-key-in-Ok.key c.in_ok-key-in-Ok.ensures)
    c.put.ensures.added)

pub returns-in_ok-key-in-Ok-clause-err : goal.returns-in_ok-key-in-Ok-clause-err
returns-in_ok-key-in-Ok-clause-err c = on_err_weaker c.put.result (alike_by_values c.args.self.now _ refl refl) c.put.ensures.err

pub returns-in_ok-key-in-Err-clause-added : goal.returns-in_ok-key-in-Err-clause-added
returns-in_ok-key-in-Err-clause-added c =
    rw c.in-Err.is
    (on_ok_weaker c.put-in-Err.result
    (adds_by_errors c.args.self.now _ refl refl c.args.place c.in-Err.code c.args.id c.in_ok-key-in-Err.key (c.in_ok-key-in-Err.ensures.items ∙ c.bytes.ensures.value))
    c.put-in-Err.ensures.added)

pub returns-in_ok-key-in-Err-clause-err : goal.returns-in_ok-key-in-Err-clause-err
returns-in_ok-key-in-Err-clause-err c = on_err_weaker c.put-in-Err.result (alike_by_errors c.args.self.now _ refl refl) c.put-in-Err.ensures.err
