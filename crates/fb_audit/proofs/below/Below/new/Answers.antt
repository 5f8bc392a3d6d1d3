use Rattle.std.proofs.Common.{length, refl, ap}
use Rattle.fb_audit.proofs.below.Below.new.Goals as goal

pub returns : goal.returns
returns c =
    λ basis. record {
      counted = record { tally = c.new.ensures; count = ap length c.new-3.ensures.items };
      known = c.in_ok-new.ensures basis c.args.fuel;
      fuel_is = refl;
      reduction_is = refl;
      small_fuel = c.requires;
    }
