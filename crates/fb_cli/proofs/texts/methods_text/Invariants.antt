use Rattle.std.proofs.Common.{◌≡◌, ◌++◌, drop}
use Rattle.std.specs.List.{flat_map}
use Rattle.fb_cli.specs.Texts.{called_text}
use Rattle.fb_cli.proofs.texts.methods_text.Given as goal

abbrev pub invariant-loop-method : goal.invariant-loop-method
invariant-loop-method l = l.text.items ++ flat_map called_text (drop l.method-index l.methods) ≡ flat_map called_text l.methods
