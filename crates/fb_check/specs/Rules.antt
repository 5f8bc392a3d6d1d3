-- The names of the rules, as they are printed.
use Rattle.std.specs.Prelude.{ℕ, List, codes}
use Rattle.fb_check.specs.declared.error.CheckRule.{CheckRule}
use Rattle.fb_check.specs.declared.error.CheckRule.TheVariants.{DuplicateName, UnknownName, UnknownCallee, WrongKind, WrongCount, MissingEnd, BreakOutside, TestOnly, MethodOnly, Cycle, TooDeepCalls}

abbrev pub rule_name : CheckRule → List ℕ
rule_name DuplicateName = codes "DuplicateName"
rule_name UnknownName = codes "UnknownName"
rule_name UnknownCallee = codes "UnknownCallee"
rule_name WrongKind = codes "WrongKind"
rule_name WrongCount = codes "WrongCount"
rule_name MissingEnd = codes "MissingEnd"
rule_name BreakOutside = codes "BreakOutside"
rule_name TestOnly = codes "TestOnly"
rule_name MethodOnly = codes "MethodOnly"
rule_name (Cycle methods) = codes "Cycle"
rule_name TooDeepCalls = codes "TooDeepCalls"
