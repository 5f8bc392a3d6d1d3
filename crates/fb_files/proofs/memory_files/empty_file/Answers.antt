use Rattle.std.proofs.Common.{[], rules}
use Rattle.fb_files.proofs.HeldFiles.{written, pushed}
use Rattle.fb_files.proofs.memory_files.empty_file.Goals as goal

pub returns-in-Some-clause-ok : goal.returns-in-Some-clause-ok
returns-in-Some-clause-ok c =
    written c.args.files.now.items c.args.name.now c.in-Some.place (search rules) c.index_mut.result.now c.clear.new.self [] c.index_mut.ensures.value c.clear.ensures.items

pub returns-in_ok-push-in-None-clause-ok : goal.returns-in_ok-push-in-None-clause-ok
returns-in_ok-push-in-None-clause-ok c =
    pushed c.args.files.now.items c.push.new.self.items c.args.name.now [] (c.in_ok-from_str-in-None.field-0, c.new.result)
    (search rules) c.in_ok-push-in-None.ensures.items c.in_ok-from_str-in-None.ensures.ok c.new.ensures.items
