use Rattle.std.proofs.Common.{◌≡◌, string_bytes}
use Rattle.std.specs.List.{list_all}
use Rattle.std.specs.BTreeMap.{keys}
use Rattle.std.specs.declared.string.String.{String}
use Rattle.std.specs.declared.alloc.Global.{Global}
use Rattle.fb_config.specs.Documents.{is_known}
use Rattle.fb_config.proofs.keys.Keys.know_keys.Given as goal

-- all keys are known where those that are left are
abbrev pub invariant-loop-key : goal.invariant-loop-key
invariant-loop-key l =
    list_all (λ (k : String Global). is_known l.self (string_bytes k)) l.key-iterator
    ≡ list_all (λ (k : String Global). is_known l.self (string_bytes k)) (keys l.table)
