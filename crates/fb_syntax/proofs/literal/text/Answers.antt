use Rattle.std.proofs.Common.{drop, sym, subst, ap, ◌∙◌, List, ℕ, [], false}
use Rattle.std.proofs.lemmas.List.{take_rest}
use Rattle.fb_base.specs.Text.{IsText}
use Rattle.fb_syntax.specs.Lexing.{text_from}
use Rattle.fb_syntax.proofs.Texts.{text_found, text_refused}
use Rattle.fb_syntax.proofs.literal.text.Goals as goal

pub returns-in-Ok : goal.returns-in-Ok
returns-in-Ok c =
    let read = rw c.in-Some.is at c.in_ok-literal.ensures in
    text_found (drop 1 c.args.bytes.now) c.in-Some.literal.text.items c.in-Ok.text c.in-Some.literal.len
    (read ∙ ap (text_from false [] 1) (take_rest c.args.bytes.now 1))
    (c.in-Ok.ensures.same ∙ c.as_slice.ensures.value) (subst (λ (t : List ℕ). IsText t) c.as_slice.ensures.value c.in-Ok.ensures.proper)

pub returns-in-Err-NotText : goal.returns-in-Err-NotText
returns-in-Err-NotText c =
    let read = rw c.in-Some.is at c.in_ok-literal.ensures in
    text_refused (drop 1 c.args.bytes.now) c.in-Some.literal.text.items c.in-Some.literal.len
    (read ∙ ap (text_from false [] 1) (take_rest c.args.bytes.now 1))
    (λ fits. c.in-Err-NotText.ensures.refused (cc) (subst (λ (t : List ℕ). IsText t) (sym c.as_slice.ensures.value) fits))
