use Rattle.std.proofs.Common.{refl}
use Rattle.fb_explore.specs.declared.end.ExploreEnd.TheVariants as end
use Rattle.fb_explore.specs.declared.error.PutError.TheVariants as put
use Rattle.fb_cli.specs.TestInputs.{inputs_seen}
use Rattle.fb_cli.proofs.Reports.{IsWritten-explored, IsWritten-uncreated}
use Rattle.fb_cli.proofs.campaign.create_report.Goals as goal

pub returns-in-Ok-clause-written : goal.returns-in-Ok-clause-written
returns-in-Ok-clause-written g c =
    IsWritten-explored c.campaigns_have_lines.ensures.in_range c.completed_reports_are_true.ensures c.args.job.now (inputs_seen c.args.inputs.now)
    c.requires.kinds
    (record {
      choices = c.proper.ensures.choices;
      counted = c.proper.ensures.counted;
      version = c.proper.ensures.version;
      values = c.proper.ensures.values;
    })
    c.requires.fuel
    c.in-Ok.field-0 c.append_lines.result (g.F.Files.created c.create.new.self) (g.F.Files.created c.append_lines.new.files)
    (g.F.Files.held c.args.files.now) (g.F.Files.held c.create.new.self) (g.F.Files.held c.append_lines.new.files)
    (rw c.as_str.ensures at c.in-Ok.ensures.created) c.append_lines.ensures.created (rw c.as_str.ensures at c.in-Ok.ensures.content)
    c.append_lines.ensures.beside c.append_lines.ensures.explored

pub returns-in-Err-Failed-clause-written : goal.returns-in-Err-Failed-clause-written
returns-in-Err-Failed-clause-written g c =
    IsWritten-uncreated c.args.job.now (inputs_seen c.args.inputs.now) c.in-Err-Failed.field-0 end.LineFault put.Failed (g.F.Files.held c.args.files.now)
    (g.F.Files.held c.create.new.self) refl tt (rw c.as_str.ensures at c.in-Err-Failed.ensures.content)

pub returns-in-Err-Memory-clause-written : goal.returns-in-Err-Memory-clause-written
returns-in-Err-Memory-clause-written g c =
    IsWritten-uncreated c.args.job.now (inputs_seen c.args.inputs.now) c.in-Err-Memory.field-0 end.Memory put.Memory (g.F.Files.held c.args.files.now)
    (g.F.Files.held c.create.new.self) refl tt (rw c.as_str.ensures at c.in-Err-Memory.ensures.content)
