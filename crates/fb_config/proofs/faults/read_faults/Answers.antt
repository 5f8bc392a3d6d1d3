use Rattle.fb_config.proofs.FitLaws.{file_fits, file_of_version}
use Rattle.fb_config.proofs.faults.read_faults.Goals as goal

pub of-requires : goal.of-requires
of-requires c =
    let program = c.args.program.now in
    record {
      fitting = file_fits program.tree (c.lookups_join.ensures.services program.tree program.accepted) (c.lookups_join.ensures.trees program.tree)
          c.args.bytes.now c.in_ok-file.file c.in_ok-file.ensures;
      versions = file_of_version program.tree c.args.bytes.now c.in_ok-file.file c.in_ok-file.ensures;
    }
