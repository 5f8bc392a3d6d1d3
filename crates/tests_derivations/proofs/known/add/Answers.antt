use Rattle.std.proofs.Common.{sym, subst}
use Rattle.fb_stitch.specs.Sources.{AreTrueOf}
use Rattle.tests_derivations.proofs.TrueRecords.{all_agree, still_true}
use Rattle.tests_derivations.proofs.known.add.Goals as goal

pub add-requires : goal.add-requires
add-requires c =
    all_agree c.args.program.now.tree c.args.item c.args.store.now c.requires.item c.requires.known c.true_records_agree.ensures.agree

pub returns-in-Ok : goal.returns-in-Ok
returns-in-Ok c =
    subst (AreTrueOf c.args.program.now.tree) (sym c.in-Ok.ensures.added)
    (still_true c.args.program.now.tree c.args.item c.args.store.now c.requires.item c.requires.known)
