-- What a rule is called in the definition of the first break.
use Rattle.fb_valid.specs.Verdict as verdict
use Rattle.fb_audit.specs.declared.verdict.Rule.{Rule}
use Rattle.fb_audit.specs.declared.verdict.Rule.TheVariants.{CutLine, NotJson, BadShape, BadNumber, V1, V2, V3, V4, V5, V6, V7, V8}

abbrev pub rule_told : Rule → verdict.Rule
rule_told CutLine = verdict.CutLine
rule_told NotJson = verdict.NotJson
rule_told BadShape = verdict.BadShape
rule_told BadNumber = verdict.BadNumber
rule_told V1 = verdict.V1
rule_told V2 = verdict.V2
rule_told V3 = verdict.V3
rule_told V4 = verdict.V4
rule_told V5 = verdict.V5
rule_told (V6 index reply) = verdict.V6 index reply
rule_told V7 = verdict.V7
rule_told V8 = verdict.V8
