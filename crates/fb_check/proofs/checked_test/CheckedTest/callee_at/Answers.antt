use Rattle.std.proofs.Common.{ap, ◌∙◌, length}
use Rattle.std.specs.Option.{option_and_then}
use Rattle.fb_check.specs.declared.body_tables.BodyTables.{BodyTables}
use Rattle.fb_check.specs.AcceptedSources.{AcceptedTest}
use Rattle.fb_check.specs.Declarations.{declarations_of}
use Rattle.fb_check.specs.Sites.{sites}
use Rattle.fb_check.specs.Tables.{body_tables}
use Rattle.fb_check.specs.Programs.{item_numbered, methods_of, test_site_at, test_callee_at}
use Rattle.fb_check.proofs.AcceptanceLaws.{accepted_from, accepted_test_from}
use Rattle.fb_check.proofs.SiteLaws.{numbered_callee, test_callees_exactly}
use Rattle.fb_check.proofs.LookupLaws.{found_where, found_within, test_callee_within}
use Rattle.fb_check.proofs.checked_test.CheckedTest.callee_at.Goals as goal

pub returns-clause-none : goal.returns-clause-none
returns-clause-none c =
    let test = c.args.self.now in
    let site = c.args.site in
    let tables = c.self.invariant ∙ ap (λ (a : AcceptedTest). body_tables (declarations_of a.services) a.tree.body) c.self.view_is in
    let callee = c.callee.ensures ∙ ap (λ (b : BodyTables). option_and_then (λ n. n) (item_numbered b.callees site)) tables
    ∙ numbered_callee (declarations_of test.services) (sites test.tree.body) site in
    found_where c.callee.result (test_callee_at test.services test.tree site) (test_site_at test.tree site) callee
    (test_callees_exactly test.services test.tree (accepted_from test.services test.services_accepted)
    (accepted_test_from test.services test.tree test.services_accepted test.accepted) site)

pub returns-clause-within : goal.returns-clause-within
returns-clause-within c =
    let test = c.args.self.now in
    let site = c.args.site in
    let tables = c.self.invariant ∙ ap (λ (a : AcceptedTest). body_tables (declarations_of a.services) a.tree.body) c.self.view_is in
    let callee = c.callee.ensures ∙ ap (λ (b : BodyTables). option_and_then (λ n. n) (item_numbered b.callees site)) tables
    ∙ numbered_callee (declarations_of test.services) (sites test.tree.body) site in
    found_within c.callee.result (test_callee_at test.services test.tree site) (length (methods_of test.services)) callee (test_callee_within test.services test.tree site)
