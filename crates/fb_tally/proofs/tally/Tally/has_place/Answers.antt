use Rattle.std.proofs.Common.{sym, ap, ◌∙◌, subst}
use Rattle.fb_valid.specs.Rules.{IsInPlace}
use Rattle.fb_tally.specs.Decisions.{Decides}
use Rattle.fb_tally.specs.Tallied.{Tallied, is_numbered}
use Rattle.fb_tally.proofs.Tallies.{none_behind, place_tells}
use Rattle.fb_tally.proofs.tally.Tally.has_place.Goals as goal

pub returns-then-self : goal.returns-then-self
returns-then-self c = λ version lines tallied.
    let same = sym (ap (λ (tally : Tallied). tally.ended) (c.self.view_is ∙ tallied)) in
    none_behind version lines c.args.line.now (same ∙ c.if-self.true)

pub returns : goal.returns
returns c = λ version lines tallied.
    let line = c.args.line.now in
    let same = sym (ap (λ (tally : Tallied). tally.ended) (c.self.view_is ∙ tallied)) in
    subst (Decides (IsInPlace version lines line)) (sym (c.is_numbered.ensures ∙ ap (λ tally. is_numbered tally line) tallied))
    (place_tells version lines line (same ∙ c.if-self.false))
