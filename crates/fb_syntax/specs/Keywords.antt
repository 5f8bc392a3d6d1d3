-- The reserved words.
use Rattle.std.specs.Prelude.{ℕ, Bool, List, [], ◌∷◌, Option, find, codes, bytes_eq}
use Rattle.std.specs.Option.{is_some}
use Rattle.fb_syntax.specs.declared.reserved.Reserved.{Reserved}
use Rattle.fb_syntax.specs.declared.reserved.Reserved.TheVariants as word

-- how each is spelled
abbrev pub reserved_text : Reserved → List ℕ
reserved_text word.Service = codes "service"
reserved_text word.Method = codes "method"
reserved_text word.Test = codes "test"
reserved_text word.Let = codes "let"
reserved_text word.If = codes "if"
reserved_text word.Else = codes "else"
reserved_text word.Repeat = codes "repeat"
reserved_text word.For = codes "for"
reserved_text word.In = codes "in"
reserved_text word.Break = codes "break"
reserved_text word.Return = codes "return"
reserved_text word.Fail = codes "fail"
reserved_text word.Call = codes "call"
reserved_text word.On = codes "on"
reserved_text word.Any = codes "any"
reserved_text word.Assert = codes "assert"
reserved_text word.Injected = codes "injected"
reserved_text word.InjectedOn = codes "injected_on"
reserved_text word.And = codes "and"
reserved_text word.Or = codes "or"
reserved_text word.Not = codes "not"
reserved_text word.True = codes "true"
reserved_text word.False = codes "false"
reserved_text word.Int = codes "int"
reserved_text word.Bool = codes "bool"
reserved_text word.Text = codes "text"
reserved_text word.List = codes "list"
reserved_text word.Len = codes "len"

abbrev pub all_reserved : List Reserved
all_reserved =
    word.Service ∷ word.Method ∷ word.Test ∷ word.Let ∷ word.If ∷ word.Else ∷ word.Repeat ∷ word.For ∷ word.In
    ∷ word.Break ∷ word.Return ∷ word.Fail ∷ word.Call ∷ word.On ∷ word.Any ∷ word.Assert ∷ word.Injected
    ∷ word.InjectedOn ∷ word.And ∷ word.Or ∷ word.Not ∷ word.True ∷ word.False ∷ word.Int ∷ word.Bool
    ∷ word.Text ∷ word.List ∷ word.Len ∷ []

-- the reserved word that the bytes spell
unfoldable pub reserved_of : List ℕ → Option Reserved
reserved_of word = find (λ reserved. bytes_eq word (reserved_text reserved)) all_reserved

-- the word is no name
abbrev pub is_reserved : List ℕ → Bool
is_reserved word = is_some (reserved_of word)
