use Rattle.fb_reading.proofs.Readings.{answered}
use Rattle.fb_reading.proofs.read.read_line.Goals as goal

pub returns-in-Ok : goal.returns-in-Ok
returns-in-Ok c = answered _ _ _ c.in-Ok.ensures.ok c.read_json.ensures.read c.read_json.ensures.refused
