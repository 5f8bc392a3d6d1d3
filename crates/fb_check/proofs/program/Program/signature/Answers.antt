use Rattle.std.proofs.Common.{length, ap, ◌∙◌, refl, arith}
use Rattle.std.proofs.lemmas.Option.{slice_get_read}
use Rattle.fb_check.specs.declared.declarations.Declarations.{Declarations}
use Rattle.fb_check.specs.Declarations.{declarations_of}
use Rattle.fb_check.specs.AcceptedSources.{AcceptedServices}
use Rattle.fb_check.proofs.MethodTables.{length-signatures}
use Rattle.fb_check.proofs.program.Program.signature.Goals as goal

pub bounds-as_slice-method : goal.bounds-as_slice-method
bounds-as_slice-method c =
    let tree = c.args.self.now.tree in
    let is = c.as_slice.ensures ∙ ap (λ (d : Declarations). d.methods) c.self.invariant.1.declared ∙ ap (λ (a : AcceptedServices). (declarations_of a.tree).methods) c.self.view_is in
    omega (arith, ap length is, length-signatures tree)

pub returns : goal.returns
returns c =
    let tree = c.args.self.now.tree in
    let is = c.as_slice.ensures ∙ ap (λ (d : Declarations). d.methods) c.self.invariant.1.declared ∙ ap (λ (a : AcceptedServices). (declarations_of a.tree).methods) c.self.view_is in
    let item = rw is at c.index-as_slice-method.is in
    slice_get_read (declarations_of tree).methods (length (declarations_of tree).methods) c.args.method.0 c.index-as_slice-method.result refl (omega (arith, length-signatures tree)) item
