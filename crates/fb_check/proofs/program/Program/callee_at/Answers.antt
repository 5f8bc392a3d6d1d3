use Rattle.std.proofs.Common.{◌∙◌, length}
use Rattle.fb_check.specs.Programs.{methods_of, site_at, callee_at}
use Rattle.fb_check.proofs.AcceptanceLaws.{accepted_from}
use Rattle.fb_check.proofs.SiteLaws.{body-callee, callees_exactly}
use Rattle.fb_check.proofs.LookupLaws.{callee_within, found_within, found_where}
use Rattle.fb_check.proofs.program.Program.callee_at.Goals as goal

pub returns-clause-none : goal.returns-clause-none
returns-clause-none c =
    let services = c.args.self.now in
    let m = c.args.method.0 in
    let site = c.args.site in
    let callee = c.callee.ensures ∙ body-callee services.tree m site c.body.result.now c.body.ensures in
    found_where c.callee.result (callee_at services.tree m site) (site_at services.tree m site) callee
    (callees_exactly services.tree (accepted_from services.tree services.accepted) m site)

pub returns-clause-within : goal.returns-clause-within
returns-clause-within c =
    let tree = c.args.self.now.tree in
    let m = c.args.method.0 in
    let callee = c.callee.ensures ∙ body-callee tree m c.args.site c.body.result.now c.body.ensures in
    found_within c.callee.result (callee_at tree m c.args.site) (length (methods_of tree)) callee (callee_within tree m c.args.site)
