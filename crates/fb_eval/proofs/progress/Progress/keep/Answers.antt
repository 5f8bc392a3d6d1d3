use Rattle.std.proofs.Common.{◌∙◌, sym, ap}
use Rattle.std.specs.Ordering.{nat_cmp}
use Rattle.std.specs.BTreeMap.{get}
use Rattle.fb_tree.specs.Calls.{calls_at}
use Rattle.fb_tree.specs.Views.{view_calls}
use Rattle.fb_eval.proofs.Progresses.{counts_more}
use Rattle.fb_eval.proofs.progress.Progress.keep.Goals as goal

pub returns-clause-sites : goal.returns-clause-sites
returns-clause-sites c = λ site.
    counts_more c.args.self.now.calls.items c.args.made site (get nat_cmp c.args.self.now.sites site) (get nat_cmp c.count_call.new.sites site)
    (c.requires.sites site) c.requires.count (c.in_ok-count_call.ensures site)
    ∙ sym (ap (λ calls. calls_at site (view_calls calls)) c.in_ok-push.ensures.items)
