-- What a token is, and what it stands for in a grammar.
use Rattle.std.specs.Prelude.{ℕ, ℤ, pos, Bool, false, not, ◌==◌, if◌then◌else◌, bytes_eq, List, Option, Some, None}
use Rattle.fb_base.specs.declared.kind.Kind.{Kind}
use Rattle.fb_base.specs.declared.kind.Kind.TheVariants as kind
use Rattle.fb_base.specs.declared.operator.Op2.{Op2}
use Rattle.fb_base.specs.declared.operator.Op2.TheVariants as op
use Rattle.fb_syntax.specs.declared.sign.Sign.{Sign}
use Rattle.fb_syntax.specs.declared.sign.Sign.TheVariants as sign
use Rattle.fb_syntax.specs.declared.reserved.Reserved.{Reserved}
use Rattle.fb_syntax.specs.declared.reserved.Reserved.TheVariants as word
use Rattle.fb_syntax.specs.declared.levels.Junction.{Junction}
use Rattle.fb_syntax.specs.declared.levels.Junction.TheVariants as junction
use Rattle.fb_syntax.specs.declared.levels.Series.{Series}
use Rattle.fb_syntax.specs.declared.levels.Series.TheVariants as series
use Rattle.fb_syntax.specs.declared.token.What.{What}
use Rattle.fb_syntax.specs.declared.token.What.TheVariants as what
use Rattle.fb_syntax.specs.Signs.{sign_place}
use Rattle.fb_syntax.specs.Keywords.{reserved_text, reserved_of, is_reserved}

-- ---- words and signs

abbrev pub is_word : Reserved → What → Bool
is_word word (what.Word found) = bytes_eq found (reserved_text word)
is_word word _ = false

abbrev pub is_sign : Sign → What → Bool
is_sign sign (what.Sign found) = sign_place found == sign_place sign
is_sign sign _ = false

abbrev pub comma : What → Bool
comma = is_sign sign.Comma

-- ---- names and literals

abbrev pub is_name : What → Bool
is_name (what.Word found) = not (is_reserved found)
is_name _ = false

abbrev pub name_of : What → Option (List ℕ)
name_of (what.Word found) = if is_reserved found then None else Some found
name_of _ = None

abbrev pub int_of : What → Option ℤ
int_of (what.Int n) = Some n
int_of _ = None

-- the turns that a literal says
abbrev pub turns_of : What → Option ℕ
turns_of (what.Int (pos n)) = Some n
turns_of _ = None

-- what stands between the quotes, its escapes read
abbrev pub content_of : What → Option (List ℕ)
content_of (what.Text text) = Some text
content_of _ = None

-- ---- kinds

abbrev pub base_word : Reserved → Option Kind
base_word word.Int = Some kind.Int
base_word word.Bool = Some kind.Bool
base_word word.Text = Some kind.Text
base_word _ = None

abbrev pub base_of_word : Option Reserved → Option Kind
base_of_word None = None
base_of_word (Some word) = base_word word

-- the kind of a list's items
abbrev pub base_of : What → Option Kind
base_of (what.Word found) = base_of_word (reserved_of found)
base_of _ = None

-- the kind of a list of such items
abbrev pub list_kind : Kind → Kind
list_kind kind.Int = kind.Ints
list_kind kind.Bool = kind.Bools
list_kind kind.Text = kind.Texts
list_kind list = list

-- ---- operators

abbrev pub comparison_sign : Sign → Option Op2
comparison_sign sign.Equal = Some op.Eq
comparison_sign sign.NotEqual = Some op.Ne
comparison_sign sign.Less = Some op.Lt
comparison_sign sign.LessEqual = Some op.Le
comparison_sign sign.Greater = Some op.Gt
comparison_sign sign.GreaterEqual = Some op.Ge
comparison_sign _ = None

abbrev pub sum_sign : Sign → Option Op2
sum_sign sign.Plus = Some op.Add
sum_sign sign.Minus = Some op.Sub
sum_sign sign.PlusPlus = Some op.Join
sum_sign _ = None

abbrev pub product_sign : Sign → Option Op2
product_sign sign.Star = Some op.Mul
product_sign sign.Slash = Some op.Div
product_sign sign.Percent = Some op.Rem
product_sign _ = None

-- what the token stands for, if it is a sign
abbrev pub by_sign : (Sign → Option Op2) → What → Option Op2
by_sign operator (what.Sign sign) = operator sign
by_sign operator _ = None

abbrev pub series_operator : Series → What → Option Op2
series_operator series.Sum = by_sign sum_sign
series_operator series.Product = by_sign product_sign

abbrev pub junction_word : Junction → Reserved
junction_word junction.And = word.And
junction_word junction.Or = word.Or
