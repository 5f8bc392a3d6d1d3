use Rattle.fb_audit.specs.Judged.{basis_of}
use Rattle.fb_audit.proofs.Taking.{inv_refused, inv_taken}
use Rattle.fb_audit.proofs.judge.Judge.take_inv.Goals as goal

pub returns-then-branch-clause-judged : goal.returns-then-branch-clause-judged
returns-then-branch-clause-judged g c =
    λ version id above comes.
    inv_taken (basis_of c.args.self.now) version c.args.fuel above c.args.at c.args.known.now id c.args.owner c.args.made.now comes c.in_ok-add_record.field-0 c.in_ok-add_record.ensures.told
    c.if-branch.true c.add_record.new.store c.add_record-then-branch.new.self c.in_ok-add_record.ensures.takes c.in_ok-add_record-2.ensures c.other_lines_change_no_book.ensures

pub returns-clause-judged : goal.returns-clause-judged
returns-clause-judged g c =
    λ version id above comes.
    inv_refused (basis_of c.args.self.now) version c.args.fuel above c.args.at c.args.known.now id c.args.owner c.args.made.now comes c.in_ok-add_record.field-0 c.in_ok-add_record.ensures.told
    c.if-branch.false
