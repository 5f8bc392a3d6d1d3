use Rattle.std.proofs.Common.{◌≡◌, ◌∷◌, ap, sym, subst, ◌∙◌}
use Rattle.fb_index.specs.Refusal.{IsTextOf}
use Rattle.fb_index.specs.Spelling.{IsItem, value_spelling}
use Rattle.fb_index.proofs.ReadValues.{no-text-item}
use Rattle.fb_index.proofs.value.read_item.Goals as goal

pub returns-in-None : goal.returns-in-None
returns-in-None c =
    let read = rw c.in-None.is at c.in_ok-text.ensures in
    let same : c.args.bytes.now ≡ 120 ∷ c.left.result.now =
    sym c.new-scanner.ensures ∙ c.if-take.ensures ∙ ap (λ xs. 120 ∷ xs) (sym c.left.ensures) in
    subst (λ bytes. ¬ (IsTextOf IsItem value_spelling bytes)) (sym same) (no-text-item c.left.result.now read)
