-- What equal bytes and equal places of signs tell.
use Rattle.std.proofs.Common.{◌≡◌, ℕ, true, cond, List, refl, sym, ap, ◌∙◌}
use Rattle.std.specs.Prelude.{bytes_eq, ◌==◌}
use Rattle.std.proofs.lemmas.Bool.{eqb-true}
use Rattle.std.proofs.lemmas.Slice.Eq.{bytes_eq-Decides}
use Rattle.fb_syntax.specs.declared.sign.Sign.{Sign}
use Rattle.fb_syntax.specs.declared.sign.Sign.TheVariants.{OpenBrace, CloseBrace, OpenParen, CloseParen, OpenBracket, CloseBracket, Comma, Semicolon, Colon, Dot, Arrow, Assign, Equal, NotEqual, Less, LessEqual, Greater, GreaterEqual, Plus, PlusPlus, Minus, Star, Slash, Percent}
use Rattle.fb_syntax.specs.Signs.{sign_place}

pub bytes_same : (a b : List ℕ) → bytes_eq a b ≡ true → a ≡ b
bytes_same a b h = (bytes_eq-Decides a b).0 h

pub same_bytes : (a : List ℕ) → bytes_eq a a ≡ true
same_bytes a = (bytes_eq-Decides a a).1 refl

-- the sign at a place among all
sign_of : ℕ → Sign
sign_of n =
    cond (n == 0) OpenBrace (cond (n == 1) CloseBrace (cond (n == 2) OpenParen (cond (n == 3) CloseParen
    (cond (n == 4) OpenBracket (cond (n == 5) CloseBracket (cond (n == 6) Comma (cond (n == 7) Semicolon
    (cond (n == 8) Colon (cond (n == 9) Dot (cond (n == 10) Arrow (cond (n == 11) Assign
    (cond (n == 12) Equal (cond (n == 13) NotEqual (cond (n == 14) Less (cond (n == 15) LessEqual
    (cond (n == 16) Greater (cond (n == 17) GreaterEqual (cond (n == 18) Plus (cond (n == 19) PlusPlus
    (cond (n == 20) Minus (cond (n == 21) Star (cond (n == 22) Slash Percent))))))))))))))))))))))

sign_again : (sign : Sign) → sign_of (sign_place sign) ≡ sign
unfolding sign_of
sign_again OpenBrace = refl
sign_again CloseBrace = refl
sign_again OpenParen = refl
sign_again CloseParen = refl
sign_again OpenBracket = refl
sign_again CloseBracket = refl
sign_again Comma = refl
sign_again Semicolon = refl
sign_again Colon = refl
sign_again Dot = refl
sign_again Arrow = refl
sign_again Assign = refl
sign_again Equal = refl
sign_again NotEqual = refl
sign_again Less = refl
sign_again LessEqual = refl
sign_again Greater = refl
sign_again GreaterEqual = refl
sign_again Plus = refl
sign_again PlusPlus = refl
sign_again Minus = refl
sign_again Star = refl
sign_again Slash = refl
sign_again Percent = refl

pub sign_same : (a b : Sign) → (sign_place a == sign_place b) ≡ true → a ≡ b
sign_same a b h = sym (sign_again a) ∙ ap sign_of (eqb-true (sign_place a) (sign_place b) h) ∙ sign_again b
