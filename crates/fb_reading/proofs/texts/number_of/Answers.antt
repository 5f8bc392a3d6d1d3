use Rattle.std.proofs.Common.{◌≡◌, length, get_or, decimal, ap, ◌∙◌, arith}
use Rattle.fb_reading.proofs.Numerals.{first-digit, parsed-text, text-parsed}
use Rattle.fb_reading.proofs.texts.number_of.Goals.{then-first-lt49-via-then-first-lt49, then-first-lt49-via-else-first-lt49+then-first-gt57}
use Rattle.fb_reading.proofs.texts.number_of.Goals as goal

pub returns-in_default : goal.returns-in_default
returns-in_default c n is same = omega (arith, first-digit n is.0 is.1, ap length (c.as_bytes.ensures.value ∙ same), c.in_default.len_below)

pub returns-then-first-lt49 : goal.returns-then-first-lt49
returns-then-first-lt49 c n is same =
    let digit = first-digit n is.0 is.1 in
    let first : get_or c.as_bytes.result.now 0 0 ≡ get_or (decimal n) 0 0 = ap (λ l. get_or l 0 0) (c.as_bytes.ensures.value ∙ same) in
    elim c.then-first-lt49.branch [
      | then-first-lt49-via-then-first-lt49 w ↦ omega (arith, digit, first, w.if-first-lt49.true)
      | then-first-lt49-via-else-first-lt49+then-first-gt57 w ↦ omega (arith, digit, first, w.if-first-gt57.true)
    ]

pub returns-in-Ok : goal.returns-in-Ok
returns-in-Ok c =
    let first : get_or c.as_bytes.result.now 0 0 ≡ get_or c.args.text.now 0 0 = ap (λ l. get_or l 0 0) c.as_bytes.ensures.value in
    let size : length c.as_bytes.result.now ≡ length c.args.text.now = ap length c.as_bytes.ensures.value in
    parsed-text c.args.text.now c.in-Ok.n (omega (arith, first, c.if-first-lt49.false)) (omega (arith, first, c.if-first-gt57.false)) (omega (arith, size, c.in-len1-up.len_at_least)) c.in-Ok.ensures.value.0

pub returns-in-Err : goal.returns-in-Err
returns-in-Err c n is same = text-parsed c.args.text.now n is same c.in-Err.ensures.value.0
