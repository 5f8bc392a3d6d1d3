-- How the signs are spelled.
use Rattle.std.specs.Prelude.{ℕ, List, codes}
use Rattle.fb_syntax.specs.declared.sign.Sign.{Sign}
use Rattle.fb_syntax.specs.declared.sign.Sign.TheVariants.{OpenBrace, CloseBrace, OpenParen, CloseParen, OpenBracket, CloseBracket, Comma, Semicolon, Colon, Dot, Arrow, Assign, Equal, NotEqual, Less, LessEqual, Greater, GreaterEqual, Plus, PlusPlus, Minus, Star, Slash, Percent}

abbrev pub sign_text : Sign → List ℕ
sign_text OpenBrace = codes "{"
sign_text CloseBrace = codes "}"
sign_text OpenParen = codes "("
sign_text CloseParen = codes ")"
sign_text OpenBracket = codes "["
sign_text CloseBracket = codes "]"
sign_text Comma = codes ","
sign_text Semicolon = codes ";"
sign_text Colon = codes ":"
sign_text Dot = codes "."
sign_text Arrow = codes "->"
sign_text Assign = codes "="
sign_text Equal = codes "=="
sign_text NotEqual = codes "!="
sign_text Less = codes "<"
sign_text LessEqual = codes "<="
sign_text Greater = codes ">"
sign_text GreaterEqual = codes ">="
sign_text Plus = codes "+"
sign_text PlusPlus = codes "++"
sign_text Minus = codes "-"
sign_text Star = codes "*"
sign_text Slash = codes "/"
sign_text Percent = codes "%"

-- the place of a sign among all
abbrev pub sign_place : Sign → ℕ
sign_place OpenBrace = 0
sign_place CloseBrace = 1
sign_place OpenParen = 2
sign_place CloseParen = 3
sign_place OpenBracket = 4
sign_place CloseBracket = 5
sign_place Comma = 6
sign_place Semicolon = 7
sign_place Colon = 8
sign_place Dot = 9
sign_place Arrow = 10
sign_place Assign = 11
sign_place Equal = 12
sign_place NotEqual = 13
sign_place Less = 14
sign_place LessEqual = 15
sign_place Greater = 16
sign_place GreaterEqual = 17
sign_place Plus = 18
sign_place PlusPlus = 19
sign_place Minus = 20
sign_place Star = 21
sign_place Slash = 22
sign_place Percent = 23
