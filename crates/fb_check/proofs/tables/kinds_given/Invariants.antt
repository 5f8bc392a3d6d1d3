use Rattle.std.proofs.Common.{◌≡◌, ◌++◌, drop, map}
use Rattle.fb_check.specs.declared.signature.Signature.{Signature}
use Rattle.fb_check.proofs.tables.kinds_given.Given as goal

-- the kinds so far and those of the methods that are left are all of them
abbrev pub invariant-loop-signature : goal.invariant-loop-signature
invariant-loop-signature l =
    l.kinds.items ++ map (λ (s : Signature). s.gives) (drop l.signature-index l.signature-items) ≡ map (λ (s : Signature). s.gives) l.signature-items
