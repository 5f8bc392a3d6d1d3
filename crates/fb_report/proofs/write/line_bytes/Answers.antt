use Rattle.std.proofs.Common.{[], ◌∷◌, ◌++◌, ap, ◌∙◌}
use Rattle.fb_report.proofs.Floats.{line_whole}
use Rattle.fb_report.proofs.write.line_bytes.Goals as goal

pub returns : goal.returns
returns c = c.in_ok-push.ensures.items ∙ ap (λ bytes. bytes ++ 10 ∷ []) (c.in_ok-bytes.ensures (line_whole c.args.line.now))
