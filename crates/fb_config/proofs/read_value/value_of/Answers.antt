use Rattle.std.proofs.Common.{◌≡◌, IfOk, subst}
use Rattle.toml.specs.View.{view}
use Rattle.fb_config.proofs.Reading.{value_of_array}
use Rattle.fb_config.proofs.read_value.value_of.Goals as goal

pub returns-in-Some : goal.returns-in-Some
returns-in-Some c =
    subst (λ defined. IfOk c.array_value.result (λ made. made ≡ defined))
    (value_of_array (view c.args.given.now) c.in-Some.items.now.items c.as_slice.result.now c.as_slice.ensures.value c.in-Some.ensures)
    c.array_value.ensures
