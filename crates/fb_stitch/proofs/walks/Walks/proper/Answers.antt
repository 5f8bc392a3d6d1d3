use Rattle.fb_stitch.specs.Finding.{ground_of}
use Rattle.fb_stitch.proofs.Unique.{sound}
use Rattle.fb_stitch.proofs.walks.Walks.proper.Goals as goal

pub returns : goal.returns
returns c =
    sound c.decisions_make_the_run.ensures.made (ground_of c.args.self.now) c.requires.known c.requires.small c.proper.ensures.agreed (c.runs_go_alike.ensures.plans _ _)
    c.ranks_are_above_callees.ensures.above
