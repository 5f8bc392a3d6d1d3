use Rattle.std.proofs.Common.{refl, ap, ◌∙◌, ℕ, Some}
use Rattle.std.specs.Str.{valid_up_to}
use Rattle.fb_syntax.proofs.Texts.{is_utf8_true, refused_at}
use Rattle.fb_syntax.proofs.lexer.not_text_at.Goals as goal

pub returns-in-Ok : goal.returns-in-Ok
returns-in-Ok c = rw (is_utf8_true c.args.bytes.now c.in-Ok.ensures.cases.1) refl

pub returns-in-Err : goal.returns-in-Err
returns-in-Err c =
    ap (λ (n : ℕ). Some n) c.refused_byte.ensures
    ∙ refused_at c.args.bytes.now c.valid_up_to-valid.result (valid_up_to c.in-Err.error) c.error_len.result c.in-Err.ensures.cases.0
    c.valid_up_to-valid.ensures c.in-Err.ensures.valid_len (c.error_len.ensures ∙ c.in-Err.ensures.fault)
