use Rattle.std.proofs.Common.{map, string_bytes}
use Rattle.clap.specs.Words.{app_of, found_of, kind_of, rows_of}
use Rattle.fb_job.proofs.Taking.{simple, taken, refused}
use Rattle.fb_job.proofs.command.matches_of.Goals as goal

pub returns-in-Ok : goal.returns-in-Ok
returns-in-Ok c =
    taken (app_of c.args.command) (map string_bytes c.args.words.now) (rows_of (found_of c.in-Ok.matches)) (c.in-Ok.ensures.kinds c.requires)
    (c.in-Ok.ensures.matches (simple (app_of c.args.command) c.requires)).0

pub returns-in-Err : goal.returns-in-Err
returns-in-Err c =
    refused (app_of c.args.command) (map string_bytes c.args.words.now) (kind_of c.in-Err.error) c.cause_of.result
    (c.in-Err.ensures.kinds c.requires) c.cause_of.ensures
