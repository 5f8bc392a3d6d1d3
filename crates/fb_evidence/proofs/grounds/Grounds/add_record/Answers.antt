use Rattle.std.proofs.Common.{subst}
use Rattle.fb_evidence.specs.NewRecords.{IsJudged}
use Rattle.fb_evidence.proofs.Known.{agrees_with, never_new, takes_record, tells_new, still_true}
use Rattle.fb_evidence.proofs.grounds.Grounds.add_record.Goals as goal

pub returns-in_default-clause-told : goal.returns-in_default-clause-told
returns-in_default-clause-told g c =
    let services = c.args.self.now.program.now.tree in
    never_new services c.args.fuel c.args.made.now c.args.store.now
    (subst (IsJudged services c.args.fuel c.args.made.now) c.in_default.is c.in_ok-item.ensures.judged)

pub add_new-requires : goal.add_new-requires
add_new-requires g c =
    let services = c.args.self.now.program.now.tree in
    agrees_with c.true_records_agree.ensures.agree services c.args.fuel c.in-Some.item c.args.store.now
    (subst (IsJudged services c.args.fuel c.args.made.now) c.in-Some.is c.in_ok-item.ensures.judged).1 c.requires.known

pub returns-clause-told : goal.returns-clause-told
returns-clause-told g c =
    let services = c.args.self.now.program.now.tree in
    tells_new services c.args.fuel c.args.made.now c.in-Some.item
    (subst (IsJudged services c.args.fuel c.args.made.now) c.in-Some.is c.in_ok-item.ensures.judged) c.args.store.now c.add_new.new.store c.in_ok-is_new.is_new
    c.in_ok-is_new.ensures.adds

pub returns-clause-takes : goal.returns-clause-takes
returns-clause-takes g c =
    let services = c.args.self.now.program.now.tree in
    takes_record services c.args.fuel c.args.made.now c.in-Some.item
    (subst (IsJudged services c.args.fuel c.args.made.now) c.in-Some.is c.in_ok-item.ensures.judged) c.args.store.now c.add_new.new.store c.in_ok-is_new.is_new
    c.in_ok-is_new.ensures.adds

pub returns-clause-hold : goal.returns-clause-hold
returns-clause-hold g c =
    let services = c.args.self.now.program.now.tree in
    still_true services c.args.fuel c.args.made.now c.in-Some.item
    (subst (IsJudged services c.args.fuel c.args.made.now) c.in-Some.is c.in_ok-item.ensures.judged) c.args.store.now c.add_new.new.store c.in_ok-is_new.is_new
    c.in_ok-is_new.ensures.adds c.requires.known
