use Rattle.fb_audit.specs.Judged.{basis_of}
use Rattle.fb_audit.proofs.Taking.{end_taken}
use Rattle.fb_audit.proofs.judge.Judge.take.Goals as goal

pub returns-in-End-clause-judged : goal.returns-in-End-clause-judged
returns-in-End-clause-judged g c =
    λ version above next.
    end_taken (basis_of c.args.self.now) version c.args.fuel above c.args.at c.args.known.now c.args.line.now (rw c.in-End.is) (rw c.in-End.is) next
    (λ owners are. c.end_lines_own_nothing.ensures above c.args.line.now owners (rw c.in-End.is) are) c.other_lines_change_no_book.ensures
