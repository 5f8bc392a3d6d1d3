use Rattle.std.proofs.Common.{◌∙◌, sym, ap}
use Rattle.std.specs.Option.{option_or}
use Rattle.std.specs.BTreeMap.{get}
use Rattle.fb_index.specs.Entry.{entry_cmp}
use Rattle.fb_transport.specs.Sources.{reply_at}
use Rattle.fb_transport.proofs.Replies.{reply_at_push}
use Rattle.fb_transport.proofs.scripted.by_entry.Goals as goal

pub loop-pair-preserved : goal.loop-pair-preserved
loop-pair-preserved c = λ entry.
    let kept = get entry_cmp c.loop-pair.made entry in
    c.loop-pair.invariant entry ∙ ap (λ replies. option_or (reply_at replies entry) kept) c.in-Some.ensures.items
    ∙ reply_at_push c.pop.new.self.items c.in-Some.pair entry kept
    ∙ ap (option_or (reply_at c.pop.new.self.items entry)) (sym (c.in_ok-put.ensures entry))
