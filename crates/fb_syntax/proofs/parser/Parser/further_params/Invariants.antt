use Rattle.std.proofs.Common.{◌≡◌}
use Rattle.fb_syntax.specs.Views.{view_param_list}
use Rattle.fb_syntax.specs.Reading.{with_front, further}
use Rattle.fb_syntax.specs.FileReading.{beyond_params, param}
use Rattle.fb_syntax.proofs.parser.Parser.further_params.Given as goal

-- what is held and what is still to be read are all that is read
abbrev pub invariant-params : goal.invariant-params
invariant-params l =
    with_front (view_param_list l.params) (further l.room beyond_params param) l.self
    ≡ with_front (view_param_list l.fn.params) (further l.fn.room beyond_params param) l.fn.self

abbrev pub decreases-params : goal.decreases-params
decreases-params l = l.room
