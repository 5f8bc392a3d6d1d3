-- The keys of lines.
use Rattle.std.specs.Prelude.{ℕ, List, [], codes}
use Rattle.fb_reading.specs.declared.key.Key.{Key}
use Rattle.fb_reading.specs.declared.key.Key.TheVariants as key

-- the key as lines spell it
abbrev pub key_text : Key → List ℕ
key_text key.Args = codes "args"
key_text key.Callee = codes "callee"
key_text key.Calls = codes "calls"
key_text key.Cause = codes "cause"
key_text key.Code = codes "code"
key_text key.Count = codes "count"
key_text key.Failed = codes "failed"
key_text key.Fault = codes "fault"
key_text key.Fuel = codes "fuel"
key_text key.Id = codes "id"
key_text key.Index = codes "index"
key_text key.Invs = codes "invs"
key_text key.Kind = codes "kind"
key_text key.Method = codes "method"
key_text key.Outcome = codes "outcome"
key_text key.Parent = codes "parent"
key_text key.Plan = codes "plan"
key_text key.Plans = codes "plans"
key_text key.Pruned = codes "pruned"
key_text key.Reduction = codes "reduction"
key_text key.Reply = codes "reply"
key_text key.Run = codes "run"
key_text key.Site = codes "site"
key_text key.Steps = codes "steps"
key_text key.Stopped = codes "stopped"
key_text key.Uses = codes "uses"
key_text key.Version = codes "version"
key_text key.Other = []
