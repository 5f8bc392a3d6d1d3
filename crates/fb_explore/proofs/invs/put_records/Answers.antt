use Rattle.std.proofs.Common.{refl, sym, ◌∙◌, subst}
use Rattle.fb_store.specs.Following.{with_record}
use Rattle.fb_stitch.specs.Sources.{AreTrueOf}
use Rattle.fb_explore.specs.Recording.{new_lines}
use Rattle.fb_explore.proofs.Puts.{stops}
use Rattle.fb_explore.proofs.Adding.{IsSoFar, of_services, agrees_with, begins, goes_on, stops_at_item}
use Rattle.fb_explore.proofs.invs.put_records.Goals as goal

pub loop-item-init : goal.loop-item-init
loop-item-init g c =
    let services = c.args.program.now.tree in
    let before = c.args.store.now in
    let items = c.args.records.items in
    let u = g.W.Lines.written c.args.lines.now in
    let f = g.W.Lines.faults c.args.lines.now in
    record {
      so_far = subst (λ uses. IsSoFar services c.args.owner before items items before uses u f u f) (sym c.new-uses.ensures)
          (begins services c.args.owner before items u f c.requires.known c.requires.records);
      rest = refl;
    }

pub put_record-requires-clause-of_program : goal.put_record-requires-clause-of_program
put_record-requires-clause-of_program g c =
    let services = c.args.program.now.tree in
    let left_true = subst (AreTrueOf services) c.in-Some.ensures.items c.loop-item.invariant.so_far.left_true in
    of_services services c.in-Some.item left_true.0

pub put_record-requires-clause-agrees : goal.put_record-requires-clause-agrees
put_record-requires-clause-agrees g c =
    let services = c.args.program.now.tree in
    let left_true = subst (AreTrueOf services) c.in-Some.ensures.items c.loop-item.invariant.so_far.left_true in
    agrees_with c.true_records_agree.ensures.agree services c.in-Some.item c.loop-item.store left_true.0 c.loop-item.invariant.so_far.known_true

pub loop-item-preserved : goal.loop-item-preserved
loop-item-preserved g c =
    let services = c.args.program.now.tree in
    let owner = c.args.owner in
    let before = c.args.store.now in
    let items = c.args.records.items in
    let left = c.pop_front.new.self.items in
    let item = c.in-Some.item in
    let known = c.loop-item.store in
    let uses = c.loop-item.uses in
    let u = g.W.Lines.written c.args.lines.now in
    let v = g.W.Lines.written c.loop-item.lines in
    let w = g.W.Lines.written c.put_record.new.lines in
    let f = g.W.Lines.faults c.args.lines.now in
    let h = g.W.Lines.faults c.loop-item.lines in
    let k = g.W.Lines.faults c.put_record.new.lines in
    let so_far = subst (λ left. IsSoFar services owner before items left known uses u f v h) c.in-Some.ensures.items c.loop-item.invariant.so_far in
    record {
      so_far = subst (λ store. IsSoFar services owner before items left store c.put_record.new.uses u f w k) (sym c.in_ok-put_record.ensures.store)
          (subst (λ uses. IsSoFar services owner before items left (with_record known item) uses u f w k) (sym c.in_ok-put_record.ensures.uses)
          (goes_on services owner before items left known uses item u v w f h k so_far c.in_ok-put_record.ensures.put));
      rest = c.in_ok-put_record.ensures.rest ∙ c.loop-item.invariant.rest;
    }

pub returns-in_err-put_record-clause-put : goal.returns-in_err-put_record-clause-put
returns-in_err-put_record-clause-put g c =
    let services = c.args.program.now.tree in
    let owner = c.args.owner in
    let before = c.args.store.now in
    let items = c.args.records.items in
    let known = c.loop-item.store in
    let uses = c.loop-item.uses in
    let u = g.W.Lines.written c.args.lines.now in
    let v = g.W.Lines.written c.loop-item.lines in
    let w = g.W.Lines.written c.put_record.new.lines in
    let f = g.W.Lines.faults c.args.lines.now in
    let h = g.W.Lines.faults c.loop-item.lines in
    let k = g.W.Lines.faults c.put_record.new.lines in
    let so_far = subst (λ left. IsSoFar services owner before items left known uses u f v h) c.in-Some.ensures.items c.loop-item.invariant.so_far in
    stops (new_lines services owner before items) c.from_residual.result _ _ _ _ _ c.from_residual.ensures.1
    (stops_at_item services owner before items c.pop_front.new.self.items known uses c.in-Some.item u v w f h k so_far _ c.in_err-put_record.ensures.put)
