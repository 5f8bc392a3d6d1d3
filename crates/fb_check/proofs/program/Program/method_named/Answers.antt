use Rattle.std.proofs.Common.{sym, ap, ◌∙◌}
use Rattle.fb_check.specs.AcceptedSources.{AcceptedServices}
use Rattle.fb_check.specs.declared.declarations.Declarations.{Declarations}
use Rattle.fb_check.specs.Declarations.{declarations_of, number_in}
use Rattle.fb_check.proofs.LookupLaws.{number_within}
use Rattle.fb_check.proofs.program.Program.method_named.Goals as goal

pub returns-in-Some-clause-within : goal.returns-in-Some-clause-within
returns-in-Some-clause-within c =
    let service = c.args.service.now in
    let method = c.args.method.now in
    let declared = c.self.invariant.1.declared ∙ ap (λ (a : AcceptedServices). declarations_of a.tree) c.self.view_is in
    number_within c.args.self.now.tree service method c.in-Some.number
    (ap (λ (d : Declarations). number_in d service method) (sym declared) ∙ sym c.in-Some.ensures)
