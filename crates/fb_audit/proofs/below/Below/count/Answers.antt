use Rattle.fb_audit.proofs.Lines.{count_more}
use Rattle.fb_audit.proofs.below.Below.count.Goals as goal

pub returns-clause-counted : goal.returns-clause-counted
returns-clause-counted c =
    λ version above counted. record {
      tally = c.add.ensures.counted version above counted.tally;
      count = count_more c.args.self.now.lines.items c.push.new.self.items 0 above c.args.line.now c.in_ok-push.ensures.items counted.count;
    }
