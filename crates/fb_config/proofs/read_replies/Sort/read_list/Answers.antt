use Rattle.std.proofs.Common.{◌≡◌, IfOk, subst}
use Rattle.toml.specs.View.{view}
use Rattle.fb_config.specs.Sorts.{reply_by}
use Rattle.fb_config.proofs.Reading.{replies_of_array}
use Rattle.fb_config.proofs.read_replies.Sort.read_list.Goals as goal

pub returns-in-Some : goal.returns-in-Some
returns-in-Some c =
    subst (λ defined. IfOk c.read_few.result (λ made. made ≡ defined))
    (replies_of_array (reply_by c.args.self.now) (view c.args.given.now) c.in-Some.items.now.items c.as_slice.result.now c.as_slice.ensures.value c.in-Some.ensures)
    c.read_few.ensures
