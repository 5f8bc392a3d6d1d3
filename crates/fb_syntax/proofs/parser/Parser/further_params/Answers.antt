use Rattle.std.proofs.Common.{◌≡◌, suc, ◌-◌, sym, ap, ◌∙◌, arith}
use Rattle.fb_syntax.specs.TokenKinds.{comma}
use Rattle.fb_syntax.specs.Reading.{step, refuse, ◌>>=◌, further, with_front}
use Rattle.fb_syntax.specs.Views.{view_param, view_param_list}
use Rattle.fb_syntax.specs.FileReading.{beyond_params, param}
use Rattle.fb_syntax.proofs.Turns.{map_push, repeated_turn}
use Rattle.fb_syntax.proofs.parser.Parser.further_params.Goals as goal

pub params-preserved : goal.params-preserved
params-preserved c =
    let pushed = map_push view_param c.params.params.items c.push.new.self.items c.in_ok-param.param c.in_ok-push.ensures.items in
    let more : c.params.room ≡ suc (c.params.room - 1) = omega arith in
    ap (λ front. with_front front (further (c.params.room - 1) beyond_params param) c.param.new.self) pushed
    ∙ repeated_turn (view_param_list c.params.params) (step >>= λ _. refuse beyond_params) c.params.room (c.params.room - 1) comma (step >>= λ _. param) (view_param c.in_ok-param.param) c.params.self c.param.new.self
    more (sym c.comes_sign.ensures ∙ c.params-test.true) (sym (ap param c.step.ensures) ∙ c.in_ok-param.ensures)
    ∙ c.params.invariant
