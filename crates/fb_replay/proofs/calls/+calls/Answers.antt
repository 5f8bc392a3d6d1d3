use Rattle.std.proofs.Common.{◌∙◌, ◌++◌, string_bytes, ap, sym, subst, rules}
use Rattle.std.proofs.lemmas.List.{take_all}
use Rattle.std.specs.List.{flat_map}
use Rattle.fb_tree.specs.declared.node.How.{the_lemmas}
use Rattle.fb_replay.specs.Callees.{IsCallOf, AreCallsOf, calls_from}
use Rattle.fb_replay.proofs.Each.{each_given}
use Rattle.fb_replay.proofs.Flat.{below_each, below_lines, lines_from}
use Rattle.fb_replay.proofs.calls.+calls.Goals as goal

pub add_below-add_call-requires : goal.add_below-add_call-requires
add_below-add_call-requires t c =
    let services = c.args.program.now.tree in
    let index = c.args.index.now in
    let calls = c.deref-made-items.result.now in (
      search (rules, the_lemmas),
      each_given (IsCallOf services) (calls_from index) calls c.loop-made.made-index c.made-item.result c.loop-made-test.true c.made-item.is
          (subst (AreCallsOf services) (below_each index c.args.node.now ∙ ap (flat_map (calls_from index)) (sym c.deref-made-items.ensures.value)) c.requires),
    )

pub add_below-returns : goal.add_below-returns
add_below-returns t c =
    let start = string_bytes c.args.text.now in
    let lines = lines_from c.args.program.now.tree c.args.index.now in
    c.loop-made.invariant
    ∙ ap (λ calls. start ++ flat_map lines calls) (take_all _ c.deref-made-items.result.now c.loop-made-test.false ∙ c.deref-made-items.ensures.value)
    ∙ ap (λ behind. start ++ behind) (below_lines c.args.program.now.tree c.args.index.now c.args.node.now)
