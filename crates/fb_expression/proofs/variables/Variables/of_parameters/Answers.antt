use Rattle.std.proofs.Common.{◌≡◌, ◌<◌, ◌∷◌, ◌∙◌, suc, List, length, map, drop, refl, sym, ap, subst, add-one, arith, drop-cons}
use Rattle.fb_base.specs.declared.value.Value.{Value}
use Rattle.fb_syntax.specs.declared.services.Param.{Param}
use Rattle.fb_syntax.specs.Views.{view_param}
use Rattle.fb_meaning.specs.Variables.{parameters_with}
use Rattle.fb_expression.proofs.FirstVariables.{GoesOn, goes_on, differ_from, new_at_first}
use Rattle.fb_expression.proofs.variables.Variables.of_parameters.Goals as goal

pub loop-place-init : goal.loop-place-init
loop-place-init c =
    let params = map view_param c.args.params.now in
    rw c.new-made.ensures (record { gives = refl; new = new_at_first params; differ = differ_from params c.requires })

pub loop-place-preserved : goal.loop-place-preserved
loop-place-preserved c =
    let params = c.args.params.now in
    let args = c.args.args.now in
    let place = c.loop-place.place in
    let whole = parameters_with (map view_param params) args in
    let param = c.index-params-place.result in
    let here = c.in-Some.value.now in
    let within : place < length params = omega (arith, c.loop-place-test.true) in
    let at_params : drop place params ≡ param ∷ drop (suc place) params = drop-cons params place param within ∙ ap (λ (p : Param). p ∷ drop (suc place) params) (sym c.index-params-place.is) in
    let at_args : drop place args ≡ here ∷ drop (suc place) args = drop-cons args place here c.in-Some.ensures.lookup.3.0 ∙ ap (λ (v : Value). v ∷ drop (suc place) args) (sym c.in-Some.ensures.lookup.1) in
    let now =
    subst (λ (left : List Value). GoesOn c.loop-place.made (map view_param (param ∷ drop (suc place) params)) left whole) at_args
    (subst (λ (left : List Param). GoesOn c.loop-place.made (map view_param left) (drop place args) whole) at_params c.loop-place.invariant) in
    rw (c.in_ok-push.ensures.ok, c.in_ok-copy.ensures, add-one)
    (goes_on c.loop-place.made (view_param param) (map view_param (drop (suc place) params)) here (drop (suc place) args) whole now)
