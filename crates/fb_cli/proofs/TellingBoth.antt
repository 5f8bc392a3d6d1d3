-- What is told before and after, through a weaker relation and through two steps.
use Rattle.std.proofs.Common.{Option, Some, None}
use Rattle.fb_files.specs.Told.{BothTold}

pub BothTold-weaker : {A : Type 0} {P Q : A → A → Type 0} (before after : Option A)
    → ((x y : A) → P x y → Q x y) → BothTold P before after → BothTold Q before after
BothTold-weaker None None step told = tt
BothTold-weaker (Some x) (Some y) step told = step x y told
BothTold-weaker None (Some y) step told = told
BothTold-weaker (Some x) None step told = told

pub BothTold-composed : {A : Type 0} {P Q R : A → A → Type 0} (before middle after : Option A)
    → ((x y z : A) → P x y → Q y z → R x z) → BothTold P before middle → BothTold Q middle after → BothTold R before after
BothTold-composed None None None step first second = tt
BothTold-composed (Some x) (Some y) (Some z) step first second = step x y z first second
BothTold-composed None None (Some z) step first second = second
BothTold-composed (Some x) (Some y) None step first second = second
BothTold-composed None (Some y) after step first second = absurd first
BothTold-composed (Some x) None after step first second = absurd first

pub BothTold-same : {A : Type 0} (P : A → A → Type 0) (told : Option A) → ((x : A) → P x x) → BothTold P told told
BothTold-same P None same = tt
BothTold-same P (Some x) same = same x
