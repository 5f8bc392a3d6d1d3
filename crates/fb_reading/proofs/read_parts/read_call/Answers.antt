use Rattle.std.proofs.Common.{refl, ap, ◌∙◌, arith}
use Rattle.std.proofs.lemmas.Result.{err_from_is_err_and}
use Rattle.serde_json.specs.Data.{object, member}
use Rattle.fb_report.specs.Trees.{number_tree, list_tree, value_tree, method_tree, reply_tree}
use Rattle.fb_reading.specs.declared.key.Key.TheVariants as key
use Rattle.fb_reading.specs.Keys.{key_text}
use Rattle.fb_reading.proofs.Passing.{missed, passed}
use Rattle.fb_reading.proofs.read_parts.read_call.Goals as goal

pub returns-in_err-args-clause-refused : goal.returns-in_err-args-clause-refused
returns-in_err-args-clause-refused c =
    let p = err_from_is_err_and c.from_residual.result c.from_residual.ensures.1 in
    rw (p.1, p.2)
    (missed _ _ _ _ _ _ c.in_err-args.ensures.refused)

pub returns-in_err-callee-clause-refused : goal.returns-in_err-callee-clause-refused
returns-in_err-callee-clause-refused c =
    let p = err_from_is_err_and c.from_residual-in_err-callee.result c.from_residual-in_err-callee.ensures.1 in
    rw (p.1, p.2)
    (passed _ _ _ _ _ _ _ _ c.in_ok-args.ensures.read.1 (c.in_ok-args.args, c.in_ok-args.ensures.read.0, refl)
    (missed _ _ _ _ _ _ c.in_err-callee.ensures.refused))

pub returns-in_err-count-clause-refused : goal.returns-in_err-count-clause-refused
returns-in_err-count-clause-refused c =
    let p = err_from_is_err_and c.from_residual-in_err-count.result c.from_residual-in_err-count.ensures.1 in
    rw (p.1, p.2)
    (passed _ _ _ _ _ _ _ _ c.in_ok-args.ensures.read.1 (c.in_ok-args.args, c.in_ok-args.ensures.read.0, refl)
    (passed _ _ _ _ _ _ _ _ c.in_ok-callee.ensures.read.1 (c.in_ok-callee.callee, c.in_ok-callee.ensures.read.0, refl)
    (missed _ _ _ _ _ _ c.in_err-count.ensures.refused)))

pub returns-in_err-reply-clause-refused : goal.returns-in_err-reply-clause-refused
returns-in_err-reply-clause-refused c =
    let p = err_from_is_err_and c.from_residual-in_err-reply.result c.from_residual-in_err-reply.ensures.1 in
    rw (p.1, p.2)
    (passed _ _ _ _ _ _ _ _ c.in_ok-args.ensures.read.1 (c.in_ok-args.args, c.in_ok-args.ensures.read.0, refl)
    (passed _ _ _ _ _ _ _ _ c.in_ok-callee.ensures.read.1 (c.in_ok-callee.callee, c.in_ok-callee.ensures.read.0, refl)
    (passed _ _ _ _ _ _ _ _ c.in_ok-count.ensures.read.1 (c.in_ok-count.count, c.in_ok-count.ensures.read.0, refl)
    (missed _ _ _ _ _ _ c.in_err-reply.ensures.refused))))

pub returns-in_err-site-clause-refused : goal.returns-in_err-site-clause-refused
returns-in_err-site-clause-refused c =
    let p = err_from_is_err_and c.from_residual-in_err-site.result c.from_residual-in_err-site.ensures.1 in
    rw (p.1, p.2)
    (passed _ _ _ _ _ _ _ _ c.in_ok-args.ensures.read.1 (c.in_ok-args.args, c.in_ok-args.ensures.read.0, refl)
    (passed _ _ _ _ _ _ _ _ c.in_ok-callee.ensures.read.1 (c.in_ok-callee.callee, c.in_ok-callee.ensures.read.0, refl)
    (passed _ _ _ _ _ _ _ _ c.in_ok-count.ensures.read.1 (c.in_ok-count.count, c.in_ok-count.ensures.read.0, refl)
    (passed _ _ _ _ _ _ _ _ c.in_ok-reply.ensures.read.1 (c.in_ok-reply.reply, c.in_ok-reply.ensures.read.0, refl)
    (missed _ _ _ _ _ _ c.in_err-site.ensures.refused)))))

pub returns-in_err-end-clause-refused : goal.returns-in_err-end-clause-refused
returns-in_err-end-clause-refused c =
    let p = err_from_is_err_and c.from_residual-in_err-end.result c.from_residual-in_err-end.ensures.1 in
    rw (p.1, p.2)
    (passed _ _ _ _ _ _ _ _ c.in_ok-args.ensures.read.1 (c.in_ok-args.args, c.in_ok-args.ensures.read.0, refl)
    (passed _ _ _ _ _ _ _ _ c.in_ok-callee.ensures.read.1 (c.in_ok-callee.callee, c.in_ok-callee.ensures.read.0, refl)
    (passed _ _ _ _ _ _ _ _ c.in_ok-count.ensures.read.1 (c.in_ok-count.count, c.in_ok-count.ensures.read.0, refl)
    (passed _ _ _ _ _ _ _ _ c.in_ok-reply.ensures.read.1 (c.in_ok-reply.reply, c.in_ok-reply.ensures.read.0, refl)
    (passed _ _ _ _ _ _ _ _ c.in_ok-site.ensures.read.1 (c.in_ok-site.site, c.in_ok-site.ensures.read.0, refl)
    c.in_err-end.ensures.refused)))))

pub returns-clause-read : goal.returns-clause-read
returns-clause-read c =
    let members =
    (c.in_ok-args.ensures.read.1 ∙ ap (member (key_text key.Args) (list_tree value_tree c.in_ok-args.args))
    (c.in_ok-callee.ensures.read.1 ∙ ap (member (key_text key.Callee) (method_tree c.in_ok-callee.callee))
    (c.in_ok-count.ensures.read.1 ∙ ap (member (key_text key.Count) (number_tree c.in_ok-count.count))
    (c.in_ok-reply.ensures.read.1 ∙ ap (member (key_text key.Reply) (reply_tree c.in_ok-reply.reply))
    (c.in_ok-site.ensures.read.1 ∙ ap (member (key_text key.Site) (number_tree c.in_ok-site.site))
    c.in_ok-end.ensures.read))))) in
    let count = c.in_ok-count.ensures.read.0 in
    let site = c.in_ok-site.ensures.read.0 in (
      record {
        entry = ((omega (arith, site), omega (arith, site)), (omega (arith, count), omega (arith, count)));
        callee = c.in_ok-callee.ensures.read.0;
        args = c.in_ok-args.ensures.read.0;
        reply = c.in_ok-reply.ensures.read.0;
      },
      ap object members,
    )
