use Rattle.fb_cli.specs.Texts.{status_text}
use Rattle.fb_cli.proofs.TellingBoth.{BothTold-same}
use Rattle.fb_cli.proofs.Sending.{GrewByFrontOf-none}
use Rattle.std.proofs.Common.{refl}
use Rattle.fb_cli.proofs.tell.put_status.Goals as goal

pub returns-in-Err-clause-sent : goal.returns-in-Err-clause-sent
returns-in-Err-clause-sent g c =
    BothTold-same _ (g.O.Sink.sent c.args.out.now) (λ x. GrewByFrontOf-none (status_text c.args.report.now c.args.status) x x refl)
