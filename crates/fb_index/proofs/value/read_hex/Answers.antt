use Rattle.std.proofs.Common.{Err, ap, ◌∙◌}
use Rattle.std.proofs.lemmas.Result.{IfOk-weaker}
use Rattle.fb_index.proofs.ReadValues.{hex-failed, hex-other, hex-no-text, not-same}
use Rattle.fb_index.proofs.value.read_hex.Goals as goal

pub returns-in-Err : goal.returns-in-Err
returns-in-Err c =
    IfOk-weaker c.no_digits.result _ _ (λ text told. hex-failed c.args.digits.now c.in-Err.error c.in-Err.ensures.err text told) c.no_digits.ensures

pub returns-in-Err-NotText : goal.returns-in-Err-NotText
returns-in-Err-NotText c =
    hex-no-text c.args.digits.now c.in-Ok.bytes.items c.in-Ok.ensures.ok
    (rw c.as_slice.ensures.value at (c.in-Err-NotText.ensures.refused (ap Err c.in-Err-NotText.field-0-is)))

pub returns-then-ne : goal.returns-then-ne
returns-then-ne c =
    hex-other c.args.digits.now c.in-Ok.bytes.items c.bytes.result.now c.as_bytes.result.now c.in-Ok.ensures.ok
    (c.bytes.ensures.value ∙ c.in-Ok-of.ensures.same ∙ c.as_slice.ensures.value) (c.as_bytes.ensures.value ∙ c.in_ok-encode.ensures)
    (not-same c.as_bytes.result.now c.args.digits.now c.ne.result c.ne.ensures c.if-ne.true)
