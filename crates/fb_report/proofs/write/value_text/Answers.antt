use Rattle.serde_json.proofs.FreeTexts.{text_of_value}
use Rattle.fb_report.proofs.Floats.{value-whole}
use Rattle.fb_report.proofs.write.value_text.Goals as goal

pub returns-in-Ok : goal.returns-in-Ok
returns-in-Ok c = text_of_value _ c.in-Ok.ensures.events.0 _ c.in-Ok.ensures.events.1 c.in-Ok.ensures.events.2 (value-whole c.args.value.now)
