use Rattle.std.proofs.Common.{◌∙◌, ◌++◌, ap}
use Rattle.std.proofs.lemmas.List.{take_all}
use Rattle.std.specs.List.{flat_map}
use Rattle.fb_explore.proofs.RecordsEach.{in_each, records_from}
use Rattle.fb_explore.proofs.recording.add_calls.Goals as goal

pub returns : goal.returns
returns c =
    let start = c.args.found.now.items in
    c.loop-made.invariant
    ∙ ap (λ calls. start ++ flat_map records_from calls) (take_all _ c.args.calls.now c.loop-made-test.false)
    ∙ ap (λ records. start ++ records) (in_each c.args.calls.now)
