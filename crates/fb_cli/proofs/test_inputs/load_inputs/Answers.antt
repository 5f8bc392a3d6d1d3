use Rattle.std.proofs.lemmas.Result.{err_from_is_err_and}
use Rattle.fb_config.specs.declared.choices.ChoiceTable.{ChoiceTable}
use Rattle.fb_cli.specs.Sources.{trees_of}
use Rattle.fb_cli.proofs.TellingBoth.{BothTold-composed}
use Rattle.fb_cli.proofs.Loads.{AsksFor-faults, loads_of_all}
use Rattle.fb_cli.proofs.Replayed.{EndsSources-faults}
use Rattle.fb_cli.proofs.Tested.{GivesInput-inputs, GivesInput-unconfigured}
use Rattle.fb_cli.proofs.test_inputs.load_inputs.Goals as goal

pub returns-in_err-sources-clause-asks : goal.returns-in_err-sources-clause-asks
returns-in_err-sources-clause-asks g c =
    let p = err_from_is_err_and c.from_residual.result c.from_residual.ensures.1 in
    rw (p.1, p.2) (λ job reads. c.in_err-sources.ensures.asks job reads.both)

pub returns-in_err-faults-clause-asks : goal.returns-in_err-faults-clause-asks
returns-in_err-faults-clause-asks g c =
    let p = err_from_is_err_and c.from_residual-in_err-faults.result c.from_residual-in_err-faults.ensures.1 in
    rw (p.1, p.2)
    (λ job reads. BothTold-composed (g.F.Files.asked c.args.files.now) (g.F.Files.asked c.load_sources.new.files) (g.F.Files.asked c.load_faults.new.files)
    (λ before middle after first asks. AsksFor-faults ChoiceTable job c.args.services.now c.args.test.now c.args.faults.now reads before middle after _
    (rw reads.both.until_test at first) c.in_err-faults.ensures.ends asks)
    (c.in_ok-sources.ensures.asks job reads.both) c.in_err-faults.ensures.asks)

pub returns-clause-asks : goal.returns-clause-asks
returns-clause-asks g c = λ job reads.
    BothTold-composed (g.F.Files.asked c.args.files.now) (g.F.Files.asked c.load_sources.new.files) (g.F.Files.asked c.load_faults.new.files)
    (λ before middle after first asks. loads_of_all ChoiceTable job c.args.services.now c.args.test.now c.args.faults.now reads before middle after
    c.in_ok-faults.faults (rw reads.both.until_test at first) asks)
    (c.in_ok-sources.ensures.asks job reads.both) c.in_ok-faults.ensures.asks

pub returns-clause-content : goal.returns-clause-content
returns-clause-content g c =
    GivesInput-inputs (g.F.Files.held c.args.files.now) c.args.services.now c.args.test.now c.args.faults.now (trees_of c.in_ok-sources.sources) c.in_ok-faults.faults
    c.in_ok-sources.ensures.content (rw c.in_ok-sources.ensures.held at c.in_ok-faults.ensures.content)

pub returns-in_err-faults-clause-ends : goal.returns-in_err-faults-clause-ends
returns-in_err-faults-clause-ends g c =
    let p = err_from_is_err_and c.from_residual-in_err-faults.result c.from_residual-in_err-faults.ensures.1 in
    rw (p.1, p.2) (EndsSources-faults c.args.faults.now _ c.in_err-faults.ensures.ends)

pub returns-in_err-faults-clause-content : goal.returns-in_err-faults-clause-content
returns-in_err-faults-clause-content g c =
    let p = err_from_is_err_and c.from_residual-in_err-faults.result c.from_residual-in_err-faults.ensures.1 in
    rw (p.1, p.2)
    (GivesInput-unconfigured (g.F.Files.held c.args.files.now) c.args.services.now c.args.test.now c.args.faults.now (trees_of c.in_ok-sources.sources) _
    c.in_ok-sources.ensures.content (rw c.in_ok-sources.ensures.held at c.in_err-faults.ensures.content)
    (EndsSources-faults c.args.faults.now _ c.in_err-faults.ensures.ends))
