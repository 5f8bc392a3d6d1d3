use Rattle.std.proofs.Common.{◌≡◌}
use Rattle.fb_syntax.specs.declared.reserved.Reserved.TheVariants as word
use Rattle.fb_syntax.specs.TokenKinds.{is_word}
use Rattle.fb_syntax.specs.Reading.{too_many, repeated, with_front}
use Rattle.fb_syntax.specs.Views.{view_method_list}
use Rattle.fb_syntax.specs.FileReading.{method}
use Rattle.fb_syntax.proofs.parser.Parser.methods.Given as goal

-- what is held and what is still to be read are all that is read
abbrev pub invariant-methods : goal.invariant-methods
invariant-methods l =
    with_front (view_method_list l.methods) (repeated too_many l.room (is_word word.Method) method) l.self
    ≡ repeated too_many l.fn.room (is_word word.Method) method l.fn.self

abbrev pub decreases-methods : goal.decreases-methods
decreases-methods l = l.room
