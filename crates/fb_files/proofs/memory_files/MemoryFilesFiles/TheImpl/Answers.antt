use Rattle.std.proofs.Common.{Some, string_bytes, ap}
use Rattle.std.specs.Option.{option_map}
use Rattle.fb_files.specs.MemoryFiles.{asked_of}
use Rattle.fb_files.proofs.Growing.{appends_to_created, failure_is_counted}
use Rattle.fb_files.proofs.memory_files.MemoryFilesFiles.TheImpl.Goals as goal

pub append-tells : goal.append-tells
append-tells c =
    record {
      content = appends_to_created c.args.self.now.created c.args.bytes.now _ c.result _ _ c.ensures.grows;
      created = ap (option_map string_bytes) c.ensures.created;
      cause = failure_is_counted c.result c.args.self.now.plan c.new.self.now.plan c.ensures.plan;
      count = c.ensures.count;
      asked = ap (λ asked. Some (asked_of asked)) c.ensures.asked;
    }
