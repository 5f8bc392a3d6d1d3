use Rattle.std.proofs.Common.{◌≡◌}
use Rattle.fb_syntax.specs.declared.reserved.Reserved.TheVariants as word
use Rattle.fb_syntax.specs.TokenKinds.{is_word}
use Rattle.fb_syntax.specs.Reading.{too_many, repeated, with_front}
use Rattle.fb_syntax.specs.Views.{view_service_list}
use Rattle.fb_syntax.specs.FileReading.{service}
use Rattle.fb_syntax.proofs.parser.Parser.service_list.Given as goal

-- what is held and what is still to be read are all that is read
abbrev pub invariant-services : goal.invariant-services
invariant-services l =
    with_front (view_service_list l.services) (repeated too_many l.room (is_word word.Service) service) l.self
    ≡ repeated too_many l.fn.room (is_word word.Service) service l.fn.self

abbrev pub decreases-services : goal.decreases-services
decreases-services l = l.room
