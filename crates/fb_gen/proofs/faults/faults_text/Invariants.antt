use Rattle.std.proofs.Common.{◌≡◌, string_bytes}
use Rattle.std.specs.List.{flat_map}
use Rattle.fb_gen.specs.Draws.{later_services}
use Rattle.fb_gen.specs.Texts.{item_text}
use Rattle.fb_gen.proofs.faults.faults_text.Given as goal

abbrev pub invariant-loop-place : goal.invariant-loop-place
invariant-loop-place l = string_bytes l.text ≡ flat_map item_text (later_services l.place)
