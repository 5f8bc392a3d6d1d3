use Rattle.fb_base.proofs.ProperLaws.{binary_keeps_proper, unary_keeps_proper, list_keeps_proper}
use Rattle.fb_base.proofs.laws.law_of_proper_values.Goals as goal

pub returns : goal.returns
returns c = record { binary = binary_keeps_proper; unary = unary_keeps_proper; list = list_keeps_proper }
