use Rattle.std.proofs.Common.{◌<◌, ◌≤◌, length, None, sym, ap, ◌∙◌, subst, arith}
use Rattle.std.specs.Prelude.{IfSome, slice_get}
use Rattle.fb_report.specs.Names.{IsRecordOf}
use Rattle.fb_store.specs.Following.{number_of, with_record}
use Rattle.fb_explore.specs.Puts.{HavePutLines, stop_of}
use Rattle.fb_explore.specs.Recording.{lines_at}
use Rattle.fb_explore.proofs.Puts.{put_nothing}
use Rattle.fb_explore.proofs.Adding.{none_if_known, last_of_services, lines_of_last}
use Rattle.fb_explore.proofs.invs.put_record.Goals as goal

pub returns-then-id-known-clause-put : goal.returns-then-id-known-clause-put
returns-then-id-known-clause-put g c =
    let known = c.args.store.now in
    let low : number_of known c.args.item < length known =
    (let under = c.if-id-known.true in let id = c.in_ok-id.ensures.number in let all = c.len-known.ensures in omega (arith, under, id, all)) in
    subst (λ lines. HavePutLines lines None (g.W.Lines.written c.args.lines.now) (g.W.Lines.faults c.args.lines.now) (g.W.Lines.written c.args.lines.now) (g.W.Lines.faults c.args.lines.now))
    (sym (none_if_known c.args.program.now.tree c.args.owner known c.args.item low)) (put_nothing _ _)

pub put_item-requires : goal.put_item-requires
put_item-requires g c =
    let known = c.args.store.now in
    let services = c.args.program.now.tree in
    let high : length known ≤ number_of known c.args.item =
    (let over = c.if-id-known.false in let id = c.in_ok-id.ensures.number in let all = c.len-known.ensures in omega (arith, over, id, all)) in
    subst (λ store. IfSome (slice_get store c.in_ok-id.id) (IsRecordOf services)) (sym c.in_ok-id.ensures.store)
    (subst (λ id. IfSome (slice_get (with_record known c.args.item) id) (IsRecordOf services)) (sym c.in_ok-id.ensures.number)
    (last_of_services known c.args.item high services c.requires.of_program))

pub returns-clause-put : goal.returns-clause-put
returns-clause-put g c =
    let known = c.args.store.now in
    let services = c.args.program.now.tree in
    let high : length known ≤ number_of known c.args.item =
    (let over = c.if-id-known.false in let id = c.in_ok-id.ensures.number in let all = c.len-known.ensures in omega (arith, over, id, all)) in
    subst (λ lines. HavePutLines lines (stop_of c.put_item.result) (g.W.Lines.written c.args.lines.now) (g.W.Lines.faults c.args.lines.now) (g.W.Lines.written c.put_item.new.lines) (g.W.Lines.faults c.put_item.new.lines))
    (ap (λ store. lines_at services c.args.owner store c.in_ok-id.id) c.in_ok-id.ensures.store
    ∙ ap (lines_at services c.args.owner (with_record known c.args.item)) c.in_ok-id.ensures.number
    ∙ lines_of_last known c.args.item high services c.args.owner)
    c.put_item.ensures.put
