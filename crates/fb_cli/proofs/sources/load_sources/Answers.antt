use Rattle.std.proofs.Common.{ℕ, ◌∷◌}
use Rattle.std.proofs.lemmas.Result.{err_from_is_err_and}
use Rattle.std.specs.Global.{Vec}
use Rattle.fb_check.specs.declared.program.Program.{Program}
use Rattle.fb_check.specs.declared.checked_test.CheckedTest.{CheckedTest}
use Rattle.fb_cli.specs.declared.status.Role.TheVariants as role
use Rattle.fb_cli.proofs.TellingBoth.{BothTold-weaker, BothTold-composed}
use Rattle.fb_cli.proofs.Loads.{loads_of_both, AsksFor-services, AsksFor-test, AsksInput-text, EndsInput-text}
use Rattle.fb_cli.proofs.Replayed.{EndsSources-input, GivesInput-sources}
use Rattle.fb_cli.proofs.sources.load_sources.Goals as goal

pub returns-in_err-bytes-clause-asks : goal.returns-in_err-bytes-clause-asks
returns-in_err-bytes-clause-asks g c =
    let p = err_from_is_err_and c.from_residual.result c.from_residual.ensures.1 in
    rw (p.1, p.2)
    (λ job both. BothTold-weaker (g.F.Files.asked c.args.files.now) (g.F.Files.asked c.load_bytes.new.files)
    (λ before after. AsksFor-services (Vec ℕ) job c.args.services.now (c.args.test.now ∷ both.more) ⊥ _ before after both.all both.until_services both.has_services c.in_err-bytes.ensures.ends)
    c.in_err-bytes.ensures.asks)

pub returns-in_err-program-clause-asks : goal.returns-in_err-program-clause-asks
returns-in_err-program-clause-asks g c =
    let p = err_from_is_err_and c.from_residual-in_err-program.result c.from_residual-in_err-program.ensures.1 in
    rw (p.1, p.2)
    (λ job both. BothTold-weaker (g.F.Files.asked c.args.files.now) (g.F.Files.asked c.load_bytes.new.files)
    (λ before after asks. AsksFor-services Program job c.args.services.now (c.args.test.now ∷ both.more) ⊥ _ before after both.all both.until_services both.has_services
    (EndsInput-text role.Services _ c.in_err-program.ensures.ends)
    (AsksInput-text Program role.Services c.args.services.now before after asks _ c.in_err-program.ensures.ends))
    c.in_ok-bytes.ensures.asks)

pub returns-in_err-bytes-2-clause-asks : goal.returns-in_err-bytes-2-clause-asks
returns-in_err-bytes-2-clause-asks g c =
    let p = err_from_is_err_and c.from_residual-in_err-bytes-2.result c.from_residual-in_err-bytes-2.ensures.1 in
    rw (p.1, p.2)
    (λ job both. BothTold-composed (g.F.Files.asked c.args.files.now) (g.F.Files.asked c.load_bytes.new.files) (g.F.Files.asked c.load_bytes-2.new.files)
    (λ before middle after. AsksFor-test (Vec ℕ) job c.args.services.now c.args.test.now ⊥ _ before middle after
    both c.in_err-bytes-2.ensures.ends)
    c.in_ok-bytes.ensures.asks c.in_err-bytes-2.ensures.asks)

pub returns-in_err-test-clause-asks : goal.returns-in_err-test-clause-asks
returns-in_err-test-clause-asks g c =
    let p = err_from_is_err_and c.from_residual-in_err-test.result c.from_residual-in_err-test.ensures.1 in
    rw (p.1, p.2)
    (λ job both. BothTold-composed (g.F.Files.asked c.args.files.now) (g.F.Files.asked c.load_bytes.new.files) (g.F.Files.asked c.load_bytes-2.new.files)
    (λ before middle after first asks. AsksFor-test CheckedTest job c.args.services.now c.args.test.now ⊥ _ before middle after
    both
    (EndsInput-text role.Test _ c.in_err-test.ensures.ends) first
    (AsksInput-text CheckedTest role.Test c.args.test.now middle after asks _ c.in_err-test.ensures.ends))
    c.in_ok-bytes.ensures.asks c.in_ok-bytes-2.ensures.asks)

pub returns-in_err-bytes-clause-ends : goal.returns-in_err-bytes-clause-ends
returns-in_err-bytes-clause-ends g c =
    let p = err_from_is_err_and c.from_residual.result c.from_residual.ensures.1 in
    rw (p.1, p.2) (EndsSources-input role.Services _ (λ same. cc) c.in_err-bytes.ensures.ends)

pub returns-in_err-program-clause-ends : goal.returns-in_err-program-clause-ends
returns-in_err-program-clause-ends g c =
    let p = err_from_is_err_and c.from_residual-in_err-program.result c.from_residual-in_err-program.ensures.1 in
    rw (p.1, p.2) (EndsSources-input role.Services _ (λ same. cc) (EndsInput-text role.Services _ c.in_err-program.ensures.ends))

pub returns-in_err-bytes-2-clause-ends : goal.returns-in_err-bytes-2-clause-ends
returns-in_err-bytes-2-clause-ends g c =
    let p = err_from_is_err_and c.from_residual-in_err-bytes-2.result c.from_residual-in_err-bytes-2.ensures.1 in
    rw (p.1, p.2) (EndsSources-input role.Test _ (λ same. cc) c.in_err-bytes-2.ensures.ends)

pub returns-in_err-test-clause-ends : goal.returns-in_err-test-clause-ends
returns-in_err-test-clause-ends g c =
    let p = err_from_is_err_and c.from_residual-in_err-test.result c.from_residual-in_err-test.ensures.1 in
    rw (p.1, p.2) (EndsSources-input role.Test _ (λ same. cc) (EndsInput-text role.Test _ c.in_err-test.ensures.ends))

pub returns-clause-asks : goal.returns-clause-asks
returns-clause-asks g c = λ job both.
    BothTold-composed (g.F.Files.asked c.args.files.now) (g.F.Files.asked c.load_bytes.new.files) (g.F.Files.asked c.load_bytes-2.new.files)
    (λ before middle after. loads_of_both job c.args.services.now c.args.test.now before middle after
    both)
    c.in_ok-bytes.ensures.asks c.in_ok-bytes-2.ensures.asks

pub returns-clause-content : goal.returns-clause-content
returns-clause-content g c =
    GivesInput-sources (g.F.Files.held c.args.files.now) c.args.services.now c.args.test.now c.in_ok-bytes.bytes.items c.in_ok-bytes-2.bytes.items
    c.in_ok-program.program.tree c.in_ok-test.test.tree
    c.in_ok-bytes.ensures.content (rw c.deref.ensures.value at c.in_ok-program.ensures.content)
    (rw c.in_ok-bytes.ensures.held at c.in_ok-bytes-2.ensures.content) (rw c.deref-2.ensures.value at c.in_ok-test.ensures.content)
