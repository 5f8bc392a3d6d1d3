use Rattle.std.proofs.Common.{◌≡◌, suc, ◌-◌, sym, ap, ◌∙◌, arith}
use Rattle.fb_syntax.specs.declared.reserved.Reserved.TheVariants as word
use Rattle.fb_syntax.specs.TokenKinds.{is_word}
use Rattle.fb_syntax.specs.Reading.{too_many, repeated, with_front}
use Rattle.fb_syntax.specs.Views.{view_service, view_service_list}
use Rattle.fb_syntax.specs.FileReading.{service}
use Rattle.fb_syntax.proofs.Turns.{map_push, repeated_turn}
use Rattle.fb_syntax.proofs.parser.Parser.service_list.Goals as goal

pub services-preserved : goal.services-preserved
services-preserved c =
    let pushed = map_push view_service c.services.services.items c.push.new.self.items c.in_ok-service.service c.in_ok-push.ensures.items in
    let more : c.services.room ≡ suc (c.services.room - 1) = omega arith in
    ap (λ front. with_front front (repeated too_many (c.services.room - 1) (is_word word.Service) service) c.service.new.self) pushed
    ∙ repeated_turn (view_service_list c.services.services) too_many c.services.room (c.services.room - 1) (is_word word.Service) service (view_service c.in_ok-service.service) c.services.self c.service.new.self
    more (sym c.comes_word.ensures ∙ c.services-test.true) c.in_ok-service.ensures
    ∙ c.services.invariant
