use Rattle.fb_cli.proofs.Loads.{GivesInput-bytes, GivesInput-long}
use Rattle.fb_cli.proofs.load.load_bytes.Goals as goal

pub returns-in-Ok-clause-content : goal.returns-in-Ok-clause-content
returns-in-Ok-clause-content g c =
    GivesInput-bytes c.args.role c.args.name.now c.in-Ok.bytes (g.F.Files.held c.args.files.now)
    (rw c.as_str.ensures at c.in-Ok.ensures.content) (rw c.limit_of.ensures at c.in-Ok.ensures.bound)

pub returns-in-Err-TooLong-clause-content : goal.returns-in-Err-TooLong-clause-content
returns-in-Err-TooLong-clause-content g c =
    rw c.refused.ensures
    (GivesInput-long c.args.role c.args.name.now c.in-Err-TooLong.field-0 (g.F.Files.held c.args.files.now) c.in-Err-TooLong.field-0-is
    (rw c.as_str.ensures at (rw c.limit_of.ensures at c.in-Err-TooLong.ensures.content)))
