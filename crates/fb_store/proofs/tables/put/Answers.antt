use Rattle.std.proofs.Common.{Some, sym, ap, ◌∙◌, option_and_then, is_some, ◌&&◌, if◌then◌else◌}
use Rattle.std.specs.Map.{lookup}
use Rattle.indexmap.specs.IndexMap.{get_by}
use Rattle.fb_store.specs.Tables.{found_in}
use Rattle.fb_store.proofs.Tabled.{found-put}
use Rattle.fb_store.proofs.tables.put.Goals as goal

pub returns-in_ok-insert-in-Some-clause-added : goal.returns-in_ok-insert-in-Some-clause-added
returns-in_ok-insert-in-Some-clause-added g c =
    let wrote = c.get_mut.follows.holds c.insert.new.self in
    found-put g.K.PartialEq.eq g.met.K.Eq.laws c.args.table.now (c.get_mut.follows.lender c.insert.new.self) c.args.row c.insert.new.self
    (wrote.3 (ap is_some (sym c.in-Some.ensures.value))).0
    g.J.PartialEq.eq g.met.J.Eq.laws c.args.cell c.args.id c.in-Some.cells.now.entries c.in_ok-insert-in-Some.ensures.entries
    (λ test. ap (option_and_then (get_by test)) (sym c.in-Some.ensures.value))

pub returns-in_ok-insert-in-None-2-clause-added : goal.returns-in_ok-insert-in-None-2-clause-added
returns-in_ok-insert-in-None-2-clause-added g c r test one =
    found-put g.K.PartialEq.eq g.met.K.Eq.laws c.get_mut.follows.lender-at-none c.insert-in-None-2.new.self c.args.row c.insert-in-None.new.self c.in_ok-insert-in-None-2.ensures.updates.0
    g.J.PartialEq.eq g.met.J.Eq.laws c.args.cell c.args.id c.new-cells.result.entries c.in_ok-insert-in-None.ensures.entries
    (λ found. ap (found_in (g.K.PartialEq.eq c.args.row) found) c.get_mut.follows.holds-at-none
    ∙ ap (option_and_then (get_by found)) (sym c.in-None.ensures.value) ∙ ap (lookup found) (sym c.new-cells.ensures.empty)) r test one
    ∙ ap (λ table. if g.K.PartialEq.eq c.args.row r && test c.args.cell then Some c.args.id else found_in (g.K.PartialEq.eq r) test table) c.get_mut.follows.holds-at-none
