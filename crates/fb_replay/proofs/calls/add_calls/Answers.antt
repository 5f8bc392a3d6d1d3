use Rattle.std.proofs.Common.{◌∙◌, ◌++◌, [], string_bytes, ap, subst}
use Rattle.std.proofs.lemmas.List.{take_all}
use Rattle.std.specs.List.{flat_map}
use Rattle.fb_replay.specs.Callees.{IsCallOf, AreCallsOf, calls_from}
use Rattle.fb_replay.proofs.Each.{each_given}
use Rattle.fb_replay.proofs.Flat.{within_each, within_lines, lines_from}
use Rattle.fb_replay.proofs.calls.add_calls.Goals as goal

pub add_call-requires : goal.add_call-requires
add_call-requires c =
    let services = c.args.program.now.tree in
    rw c.root-root.ensures
    (each_given (IsCallOf services) (calls_from []) c.args.calls.now c.loop-made.made-index c.made-item.result c.loop-made-test.true c.made-item.is
    (subst (AreCallsOf services) (within_each [] c.args.calls.now) c.requires))

pub returns : goal.returns
returns c =
    let start = string_bytes c.args.text.now in
    let services = c.args.program.now.tree in
    c.loop-made.invariant
    ∙ ap (λ calls. start ++ flat_map (lines_from services []) calls) (take_all _ c.args.calls.now c.loop-made-test.false)
    ∙ ap (λ lines. start ++ lines) (within_lines services [] c.args.calls.now)
