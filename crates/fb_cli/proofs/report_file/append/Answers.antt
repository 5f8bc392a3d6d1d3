use Rattle.std.proofs.Common.{Ok, Err}
use Rattle.fb_explore.specs.declared.error.PutError.TheVariants as put
use Rattle.fb_cli.proofs.Reports.{written_in-appended, written_in-failed, told_beside-appended}
use Rattle.fb_cli.proofs.report_file.append.Goals as goal

pub returns-in-Ok-clause-content : goal.returns-in-Ok-clause-content
returns-in-Ok-clause-content g c =
    written_in-appended (g.F.Files.created c.args.files.now) (g.F.Files.created c.append.new.self) c.args.bytes.now c.in-Ok.field-0 (g.F.Files.held c.args.files.now)
    (g.F.Files.held c.append.new.self) c.in-Ok.ensures.created c.in-Ok.ensures.content

pub returns-in-Ok-clause-beside : goal.returns-in-Ok-clause-beside
returns-in-Ok-clause-beside g c =
    told_beside-appended (g.F.Files.created c.args.files.now) (g.F.Files.created c.append.new.self) c.args.bytes.now (Ok c.in-Ok.field-0) (g.F.Files.held c.args.files.now)
    (g.F.Files.held c.append.new.self) c.in-Ok.ensures.created c.in-Ok.ensures.content

pub returns-in-Err-Failed-clause-content : goal.returns-in-Err-Failed-clause-content
returns-in-Err-Failed-clause-content g c =
    written_in-failed (g.F.Files.created c.args.files.now) (g.F.Files.created c.append.new.self) c.args.bytes.now c.in-Err-Failed.field-0 put.Failed (g.F.Files.held c.args.files.now)
    (g.F.Files.held c.append.new.self) c.in-Err-Failed.ensures.created c.in-Err-Failed.ensures.content

pub returns-in-Err-Failed-clause-beside : goal.returns-in-Err-Failed-clause-beside
returns-in-Err-Failed-clause-beside g c =
    told_beside-appended (g.F.Files.created c.args.files.now) (g.F.Files.created c.append.new.self) c.args.bytes.now (Err c.in-Err-Failed.field-0) (g.F.Files.held c.args.files.now)
    (g.F.Files.held c.append.new.self) c.in-Err-Failed.ensures.created c.in-Err-Failed.ensures.content

pub returns-in-Err-Memory-clause-content : goal.returns-in-Err-Memory-clause-content
returns-in-Err-Memory-clause-content g c =
    written_in-failed (g.F.Files.created c.args.files.now) (g.F.Files.created c.append.new.self) c.args.bytes.now c.in-Err-Memory.field-0 put.Memory (g.F.Files.held c.args.files.now)
    (g.F.Files.held c.append.new.self) c.in-Err-Memory.ensures.created c.in-Err-Memory.ensures.content

pub returns-in-Err-Memory-clause-beside : goal.returns-in-Err-Memory-clause-beside
returns-in-Err-Memory-clause-beside g c =
    told_beside-appended (g.F.Files.created c.args.files.now) (g.F.Files.created c.append.new.self) c.args.bytes.now (Err c.in-Err-Memory.field-0) (g.F.Files.held c.args.files.now)
    (g.F.Files.held c.append.new.self) c.in-Err-Memory.ensures.created c.in-Err-Memory.ensures.content
