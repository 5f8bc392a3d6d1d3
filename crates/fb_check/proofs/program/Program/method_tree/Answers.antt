use Rattle.std.proofs.Common.{map, Some, ap, sym, ◌∙◌, arith}
use Rattle.fb_syntax.specs.Views.{view_service}
use Rattle.fb_syntax.specs.declared.services.Services.{Services}
use Rattle.fb_check.specs.AcceptedSources.{AcceptedServices}
use Rattle.fb_check.proofs.MethodTables.{is_placed, placed_trees}
use Rattle.fb_check.proofs.program.Program.method_tree.Goals as goal

pub overflow_sub-signature : goal.overflow_sub-signature
overflow_sub-signature c =
    let place = is_placed c.args.self.now.tree.services 1 c.args.method.0 c.signature-signature.result.now c.signature-signature.ensures in
    omega (arith, place.position)

pub overflow_sub-signature-2 : goal.overflow_sub-signature-2
overflow_sub-signature-2 c =
    let place = is_placed c.args.self.now.tree.services 1 c.args.method.0 c.signature-signature.result.now c.signature-signature.ensures in
    omega (arith, place.method_position)

pub index-service-requires : goal.index-service-requires
index-service-requires c =
    let services = c.args.self.now.tree.services in
    let signature = c.signature-signature.result.now in
    let place = is_placed services 1 c.args.method.0 signature c.signature-signature.ensures in
    let items = ap (λ (s : Services). map view_service s.list.items) c.deref.ensures ∙ ap (λ (a : AcceptedServices). a.tree.services) c.self.view_is in
    let trees = placed_trees services c.args.method.0 signature place c.deref.result.now.list.items items in
    omega (arith, place.position, trees.0, c.deref.result.now.list.ok.0)

pub index-requires : goal.index-requires
index-requires c =
    let services = c.args.self.now.tree.services in
    let signature = c.signature-signature.result.now in
    let place = is_placed services 1 c.args.method.0 signature c.signature-signature.ensures in
    let items = ap (λ (s : Services). map view_service s.list.items) c.deref.ensures ∙ ap (λ (a : AcceptedServices). a.tree.services) c.self.view_is in
    let trees = placed_trees services c.args.method.0 signature place c.deref.result.now.list.items items in
    let found = trees.1 c.index-service.result.now c.index-service.ensures in
    omega (arith, place.method_position, found.0, c.index-service.result.now.methods.ok.0)

pub returns : goal.returns
returns c =
    let services = c.args.self.now.tree.services in
    let signature = c.signature-signature.result.now in
    let place = is_placed services 1 c.args.method.0 signature c.signature-signature.ensures in
    let items = ap (λ (s : Services). map view_service s.list.items) c.deref.ensures ∙ ap (λ (a : AcceptedServices). a.tree.services) c.self.view_is in
    let trees = placed_trees services c.args.method.0 signature place c.deref.result.now.list.items items in
    let found = trees.1 c.index-service.result.now c.index-service.ensures in
    place.numbered ∙ ap Some (sym (found.1 c.index.result.now c.index.ensures))
