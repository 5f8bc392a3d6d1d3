-- The texts of values and of replies in plans.
use Rattle.std.specs.Prelude.{ℕ, ℤ, Bool, true, false, List, [], ◌∷◌, ◌++◌, map, codes, FitsSigned}
use Rattle.std.specs.Int.{w64}
use Rattle.std.specs.Fmt.{signed_decimal}
use Rattle.std.specs.List.{join_with_byte}
use Rattle.hex.specs.Hex.{encode_lower}
use Rattle.fb_base.specs.declared.items.Items.{Items}
use Rattle.fb_base.specs.declared.items.Items.TheVariants as items
use Rattle.fb_base.specs.declared.value.Value.{Value}
use Rattle.fb_base.specs.declared.value.Value.TheVariants as value
use Rattle.fb_base.specs.declared.reply.Reply.{Reply}
use Rattle.fb_base.specs.declared.reply.Reply.TheVariants as reply
use Rattle.fb_base.specs.Text.{IsText}
use Rattle.fb_base.specs.Values.{IsProper}
use Rattle.fb_index.specs.Refusal.{IsTextOf}

-- an int: decimal, with `-` where it is negative
abbrev pub int_spelling : ℤ → List ℕ
int_spelling = signed_decimal

abbrev pub bool_spelling : Bool → List ℕ
bool_spelling true = codes "true"
bool_spelling false = codes "false"

-- a text: `x`, and two hexadecimal digits a byte
abbrev pub text_spelling : List ℕ → List ℕ
text_spelling bytes = 120 ∷ encode_lower bytes

-- the items of a list, joined by `;`
abbrev pub items_spelling : Items → List ℕ
items_spelling items.Empty = []
items_spelling (items.Ints xs) = join_with_byte 59 (map int_spelling xs)
items_spelling (items.Bools xs) = join_with_byte 59 (map bool_spelling xs)
items_spelling (items.Texts xs) = join_with_byte 59 (map text_spelling xs)

-- VALUE: a list's items stand between `[` and `]`
abbrev pub value_spelling : Value → List ℕ
value_spelling (value.Int n) = int_spelling n
value_spelling (value.Bool b) = bool_spelling b
value_spelling (value.Text bytes) = text_spelling bytes
value_spelling (value.List xs) = 91 ∷ items_spelling xs ++ 93 ∷ []

-- the bytes are a VALUE
abbrev pub IsValueText : List ℕ → Type 0
IsValueText bytes = IsTextOf IsProper value_spelling bytes

-- a value that may stand in a list
abbrev pub IsItem : Value → Type 0
IsItem (value.Int n) = FitsSigned w64 n
IsItem (value.Bool _) = Unit {0}
IsItem (value.Text bytes) = IsText bytes
IsItem (value.List _) = ⊥

-- CODE, or `ok:VALUE`
abbrev pub reply_text : Reply → List ℕ
reply_text (reply.Ok v) = codes "ok:" ++ value_spelling v
reply_text (reply.Err code) = code
