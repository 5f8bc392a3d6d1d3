use Rattle.std.proofs.Common.{is_some, ap, ◌∙◌}
use Rattle.std.specs.List.{list_any}
use Rattle.std.specs.Ordering.{nat_cmp, eq_by_cmp}
use Rattle.std.specs.Cmp.Lexicographic.{slice_cmp}
use Rattle.std.proofs.lemmas.Map.Text.{is_eq-slice_cmp}
use Rattle.fb_check.proofs.Lookups.{is_some-position_from}
use Rattle.fb_check.proofs.naming.is_known.Goals as goal

pub returns : goal.returns
returns c =
    let name = c.args.name.now in
    let earlier = c.args.earlier.now in
    c.is_some.ensures ∙ ap is_some c.position.ensures ∙ is_some-position_from (eq_by_cmp (slice_cmp nat_cmp) name) 1 earlier
    ∙ (λ j. list_any (λ x. is_eq-slice_cmp name x j) earlier)
