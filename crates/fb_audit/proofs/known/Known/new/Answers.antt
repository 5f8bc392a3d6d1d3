use Rattle.fb_audit.specs.Kept.{choices_of}
use Rattle.fb_audit.proofs.known.Known.new.Goals as goal

pub returns : goal.returns
returns c =
    λ basis fuel. record {
      records = c.new.ensures;
      owners = c.new-2.ensures;
      plans = c.new-3.ensures.book basis.services basis.test (choices_of basis) fuel;
      has_choices = c.new-3.ensures.known basis.faults;
    }
