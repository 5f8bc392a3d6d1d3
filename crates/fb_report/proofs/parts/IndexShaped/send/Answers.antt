use Rattle.std.proofs.lemmas.Result.{on_ok_weaker}
use Rattle.fb_report.proofs.Sending.{text-sent}
use Rattle.fb_report.proofs.parts.IndexShaped.send.Goals as goal

pub returns : goal.returns
returns g c = on_ok_weaker c.send_text.result (λ e. text-sent _ c.text.result _ _ c.text.ensures e) c.send_text.ensures
