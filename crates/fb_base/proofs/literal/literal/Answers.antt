use Rattle.std.proofs.Common.{arith}
use Rattle.fb_base.proofs.Parts.{length-parts_of}
use Rattle.fb_base.proofs.literal.literal.Goals as goal

pub of-requires : goal.of-requires
of-requires g c =
    let same = length-parts_of g.T.Part.part c.args.values.items c.in_ok-parts.field-0.items c.in_ok-parts.ensures.ok in
    omega (arith, c.requires)
