use Rattle.std.proofs.Common.{Result, Ok, Err, IsOk, refl}
use Rattle.std.specs.Result.{MatchResult}
use Rattle.fb_base.proofs.Names.{IsName-utf8}
use Rattle.fb_base.proofs.name.Name.as_str.Goals as goal

ok_unless : {A E : Type 0} (P : A → Type 0) (Q : E → Type 0) (r : Result A E) → ((e : E) → ¬ Q e) → MatchResult r P Q → IsOk r
ok_unless P Q (Ok x) wrong cases = refl
ok_unless P Q (Err e) wrong cases = absurd (wrong e cases)

pub unwrap-requires : goal.unwrap-requires
unwrap-requires c =
    ok_unless _ _ c.from_utf8.result
    (λ e wrong. wrong.0 (rw c.bytes.ensures.value (IsName-utf8 c.args.self.now c.bytes.ensures.named))) c.from_utf8.ensures.cases
