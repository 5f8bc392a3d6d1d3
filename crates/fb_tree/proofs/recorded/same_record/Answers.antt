use Rattle.std.proofs.Common.{◌∙◌, sym}
use Rattle.fb_tree.specs.Sameness.{same_record-Decides}
use Rattle.fb_tree.proofs.recorded.same_record.Goals as goal

pub returns : goal.returns
returns c =
    let decides = same_record-Decides c.args.a.now c.args.b.now in
    (λ same. decides.0 (sym c.eq.ensures ∙ same), λ equal. c.eq.ensures ∙ decides.1 equal)
