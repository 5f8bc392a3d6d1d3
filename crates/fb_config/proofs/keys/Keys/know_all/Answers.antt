use Rattle.std.proofs.Common.{sym, ◌∙◌}
use Rattle.fb_config.specs.Documents.{is_known}
use Rattle.fb_config.proofs.Reading.{keys_all}
use Rattle.fb_config.proofs.keys.Keys.know_all.Goals as goal

pub returns : goal.returns
returns c = c.know_keys.ensures ∙ sym (keys_all (is_known c.args.self) c.args.table.now.entries)
