use Rattle.std.proofs.Common.{length, refl, ap, arith}
use Rattle.std.proofs.lemmas.Bool.{false≢true}
use Rattle.fb_index.proofs.Codes.{code-stop, code-missed, code-read}
use Rattle.fb_index.proofs.scanner.Scanner.code.Goals as goal

pub slice_bounds-read-end : goal.slice_bounds-read-end
slice_bounds-read-end c =
    let s = code-stop c.self.inside.left.now c.leading_code-len.result.1.now c.leading_code-len.result.0 c.leading_code-len.ensures in
    omega (arith, s.counted, ap length s.taken_is)

pub returns-in_default : goal.returns-in_default
returns-in_default c =
    rw (← c.self.view_is) (code-missed _ _ _ c.leading_code-len.ensures (λ named. false≢true (c.in_default.ensures.named.1 named)))

pub returns : goal.returns
returns c =
    rw (← c.self.view_is) (code-read _ _ _ c.in-Ok.code c.leading_code-len.ensures (c.in-Ok.ensures.named.0 refl) c.in-Ok.ensures.same)
