use Rattle.std.proofs.Common.{◌≡◌, ◌++◌, length}
use Rattle.std.specs.Option.{option_map}
use Rattle.fb_base.specs.Operators.{parts_of}
use Rattle.fb_base.proofs.literal.parts.Given as goal

-- the parts made come before those of the values that are left
abbrev pub invariant-loop-value : goal.invariant-loop-value
invariant-loop-value g l =
    parts_of g.T.Part.part l.fn.values.items ≡ option_map (λ rest. l.made.items ++ rest) (parts_of g.T.Part.part l.left.items)

abbrev pub decreases-loop-value : goal.decreases-loop-value
decreases-loop-value g l = length l.left.items
