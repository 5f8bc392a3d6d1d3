use Rattle.std.proofs.Common.{ap, ◌∙◌, map}
use Rattle.fb_evidence.specs.Scripts.{reply_in}
use Rattle.fb_evidence.proofs.Scripting.{done_decides, spent_decides, missing_decides}
use Rattle.fb_evidence.proofs.grounds.Grounds.makes_again.Goals as goal

pub returns-in-Ok-clause-made : goal.returns-in-Ok-clause-made
returns-in-Ok-clause-made g c =
    done_decides c.calls_are_decided.ensures.method c.decisions_make_the_run.ensures.method c.args.self.now.program.now.tree c.args.fuel c.args.item.now
    _ c.in_ok-replies.replies.items _ _ c.in_ok-script.ensures.gives (c.in_ok-replies.ensures ∙ ap (map reply_in) c.as_slice.ensures) c.as_slice-2.ensures c.of-units.ensures
    _ c.in-Ok.made c.same_record.result c.in-Ok.ensures.means c.same_record.ensures

pub returns-in-Err-Spent-clause-made : goal.returns-in-Err-Spent-clause-made
returns-in-Err-Spent-clause-made g c =
    spent_decides c.calls_are_decided.ensures.method c.decisions_make_the_run.ensures.method c.args.self.now.program.now.tree c.args.fuel c.args.item.now
    _ c.in_ok-replies.replies.items _ _ c.in_ok-script.ensures.gives (c.in_ok-replies.ensures ∙ ap (map reply_in) c.as_slice.ensures) c.as_slice-2.ensures c.of-units.ensures
    c.eval_local.new.fuel (rw c.in-Err-Spent.field-0-is at c.in-Err-Spent.ensures.means)

pub returns-in-Err-Missing-clause-made : goal.returns-in-Err-Missing-clause-made
returns-in-Err-Missing-clause-made g c =
    missing_decides c.calls_are_decided.ensures.method c.decisions_make_the_run.ensures.method c.args.self.now.program.now.tree c.args.fuel c.args.item.now
    _ c.in_ok-replies.replies.items _ _ c.in_ok-script.ensures.gives (c.in_ok-replies.ensures ∙ ap (map reply_in) c.as_slice.ensures) c.as_slice-2.ensures c.of-units.ensures
    c.eval_local.new.fuel (rw c.in-Err-Missing.field-0-is at c.in-Err-Missing.ensures.means)
