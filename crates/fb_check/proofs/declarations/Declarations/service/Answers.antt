use Rattle.std.proofs.Common.{◌∙◌}
use Rattle.std.specs.List.{position_from}
use Rattle.std.proofs.lemmas.Map.Text.{is_eq-slice_cmp}
use Rattle.fb_check.proofs.declarations.Declarations.service.Goals as goal

pub returns : goal.returns
returns c = c.position.ensures ∙ (λ j. position_from (λ x. is_eq-slice_cmp c.args.service.now x j) 1 c.args.self.now.services)
