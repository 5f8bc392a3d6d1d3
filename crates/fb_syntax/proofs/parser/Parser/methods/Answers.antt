use Rattle.std.proofs.Common.{◌≡◌, suc, ◌-◌, sym, ap, ◌∙◌, arith}
use Rattle.fb_syntax.specs.declared.reserved.Reserved.TheVariants as word
use Rattle.fb_syntax.specs.TokenKinds.{is_word}
use Rattle.fb_syntax.specs.Reading.{too_many, repeated, with_front}
use Rattle.fb_syntax.specs.Views.{view_method, view_method_list}
use Rattle.fb_syntax.specs.FileReading.{method}
use Rattle.fb_syntax.proofs.Turns.{map_push, repeated_turn}
use Rattle.fb_syntax.proofs.parser.Parser.methods.Goals as goal

pub methods-preserved : goal.methods-preserved
methods-preserved c =
    let pushed = map_push view_method c.methods.methods.items c.push.new.self.items c.in_ok-method.method c.in_ok-push.ensures.items in
    let more : c.methods.room ≡ suc (c.methods.room - 1) = omega arith in
    ap (λ front. with_front front (repeated too_many (c.methods.room - 1) (is_word word.Method) method) c.method.new.self) pushed
    ∙ repeated_turn (view_method_list c.methods.methods) too_many c.methods.room (c.methods.room - 1) (is_word word.Method) method (view_method c.in_ok-method.method) c.methods.self c.method.new.self
    more (sym c.comes_word.ensures ∙ c.methods-test.true) c.in_ok-method.ensures
    ∙ c.methods.invariant
