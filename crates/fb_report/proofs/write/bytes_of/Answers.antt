use Rattle.serde_json.proofs.FreeTexts.{text_of_value}
use Rattle.fb_report.proofs.write.bytes_of.Goals as goal

pub returns-in-Ok : goal.returns-in-Ok
returns-in-Ok g c whole = text_of_value _ c.in-Ok.ensures.events.0 _ c.in-Ok.ensures.events.1 c.in-Ok.ensures.events.2 whole
