-- Reading the tokens of a text from the left, with the first refusal that is met.
use Rattle.std.specs.Prelude.{◌≡◌, ℕ, zero, suc, ◌+◌, ◌-◌, ◌^◌, ◌<◌, ◌≤◌, Bool, true, false, not, ◌&&◌, ◌==◌, nat_eq, nat_lt, nat_le, if◌then◌else◌, List, [], ◌∷◌, ◌++◌, length, take, find, drop, slice_index, pos, Option, Some, None, Result, Ok, Err}
use Rattle.std.specs.List.{starts_with, prefix_len}
use Rattle.std.specs.Char.{is_ascii_lowercase, is_ascii_digit}
use Rattle.std.specs.Str.{is_utf8}
use Rattle.std.specs.Str.Lossy.{utf8_valid_len, utf8_error_len}
use Rattle.fb_syntax.specs.declared.sign.Sign.{Sign}
use Rattle.fb_syntax.specs.declared.sign.Sign.TheVariants.{OpenBrace, CloseBrace, OpenParen, CloseParen, OpenBracket, CloseBracket, Comma, Semicolon, Colon, Dot, Arrow, Assign, Equal, NotEqual, Less, LessEqual, Greater, GreaterEqual, Plus, PlusPlus, Minus, Star, Slash, Percent}
use Rattle.fb_syntax.specs.declared.token.What.{What}
use Rattle.fb_syntax.specs.declared.token.What.TheVariants as what
use Rattle.fb_syntax.specs.declared.token.Token.{Token}
use Rattle.fb_syntax.specs.declared.front.Front.{Front}
use Rattle.fb_syntax.specs.declared.literal.Step.{Step}
use Rattle.fb_syntax.specs.declared.literal.Step.TheVariants.{Closed, Misfit, Escape, Byte}
use Rattle.fb_syntax.specs.declared.parse_error.ParseWhy.{ParseWhy}
use Rattle.fb_syntax.specs.declared.parse_error.ParseWhy.TheVariants.{NotText, BadToken}
use Rattle.fb_syntax.specs.declared.parse_error.ParseError.{ParseError}
use Rattle.fb_syntax.specs.declared.parse_error.ParseError.TheVariants as errors
use Rattle.fb_syntax.specs.Signs.{sign_text}
use Rattle.fb_base.specs.Name.{is_name, is_name_byte}
use Rattle.fb_base.specs.Text.{longest_text}
use Rattle.fb_syntax.specs.Tokens.{is_blank, number_of}

-- a blank or a comment of so many bytes
abbrev pub gap : ℕ → Front
gap len = record { what = None; len = len }

abbrev pub token : What → ℕ → Front
token what len = record { what = Some what; len = len }

unfoldable pub front_comment : List ℕ → Option Front
front_comment bytes = Some (gap (prefix_len (λ b. not (b == 10)) bytes))

unfoldable pub front_word : List ℕ → Option Front
front_word bytes =
    let len = prefix_len is_name_byte bytes in
    if is_name (take len bytes) then Some (token (what.Word (take len bytes)) len) else None

unfoldable pub front_number : List ℕ → Option Front
front_number bytes =
    let len = prefix_len is_ascii_digit bytes in
    let number = number_of (take len bytes) in
    if nat_lt number (2 ^ 63) then Some (token (what.Int (pos number)) len) else None

-- each before those that begin it
abbrev pub longest_first : List Sign
longest_first =
    Arrow ∷ Equal ∷ NotEqual ∷ LessEqual ∷ GreaterEqual ∷ PlusPlus ∷ OpenBrace ∷ CloseBrace ∷ OpenParen ∷ CloseParen
    ∷ OpenBracket ∷ CloseBracket ∷ Comma ∷ Semicolon ∷ Colon ∷ Dot ∷ Assign ∷ Less ∷ Greater ∷ Plus ∷ Minus ∷ Star
    ∷ Slash ∷ Percent ∷ []

unfoldable pub first_sign : List ℕ → Option Sign
first_sign bytes = find (λ sign. starts_with nat_eq bytes (sign_text sign)) longest_first

abbrev pub sign_front : Option Sign → Option Front
sign_front None = None
sign_front (Some sign) = Some (token (what.Sign sign) (length (sign_text sign)))

abbrev pub front_sign : List ℕ → Option Front
front_sign bytes = sign_front (first_sign bytes)

-- what a byte means in a text, where it stands behind a `\` and where it doesn't
abbrev pub step_of : Bool → ℕ → Step
step_of true b =
    if b == 34 then Byte 34
    else if b == 92 then Byte 92
    else if b == 110 then Byte 10
    else if b == 116 then Byte 9
    else Misfit
step_of false b =
    if b == 34 then Closed
    else if b == 92 then Escape
    else if nat_lt b 32 then Misfit
    else Byte b

-- goes on behind the step, with the text so far
abbrev pub after_step : Step → List ℕ → ℕ → (Bool → List ℕ → Option (List ℕ × ℕ)) → Option (List ℕ × ℕ)
after_step Closed text len more = Some (text, len)
after_step Misfit text len more = None
after_step Escape text len more = more true text
after_step (Byte b) text len more = more false (text ++ b ∷ [])

-- Reads on in a text, maybe behind a `\`. So many bytes were read before: they gave the text so far.
unfoldable pub text_from : Bool → List ℕ → ℕ → List ℕ → Option (List ℕ × ℕ)
text_from escaping text len [] = None
text_from escaping text len (b ∷ rest) =
    after_step (step_of escaping b) text (len + 1) (λ behind_escape longer. text_from behind_escape longer (len + 1) rest)

-- whether a `Text` can hold it
abbrev pub is_text : List ℕ → Bool
is_text text = is_utf8 text && nat_le (length text) longest_text

abbrev pub text_front : Option (List ℕ × ℕ) → Option Front
text_front None = None
text_front (Some read) =
    if is_text read.0 then Some (token (what.Text read.0) read.1) else None

abbrev pub front_text : List ℕ → Option Front
front_text bytes = text_front (text_from false [] 1 (drop 1 bytes))

-- what stands first, if it is a blank, a comment or a token
unfoldable pub front : List ℕ → Option Front
front [] = None
front (b ∷ rest) =
    if is_blank b then Some (gap 1)
    else if b == 35 then front_comment (b ∷ rest)
    else if b == 34 then front_text (b ∷ rest)
    else if is_ascii_lowercase b then front_word (b ∷ rest)
    else if is_ascii_digit b then front_number (b ∷ rest)
    else front_sign (b ∷ rest)

-- it takes a byte at least, and no more than there are
pub record Advances (bytes : List ℕ) (found : Front) : Type 0 where
  pub some : 0 < found.len
  pub within : found.len ≤ length bytes

-- what stands first at this place was found, unless memory ran out
abbrev pub Finds : ℕ → Result Front ParseError → Option Front → Type 0
Finds at (Ok found) first = first ≡ Some found
Finds at (Err (errors.Refused why)) first = (first ≡ None) × (why ≡ BadToken at)
Finds at (Err errors.Memory) first = Unit {0}

-- the token that begins at this place, if it is one
abbrev pub token_at : ℕ → Option What → ℕ → List Token
token_at at None len = []
token_at at (Some what) len = record { what = what; from = at; to = at + len } ∷ []

-- these tokens, and then those that were read
abbrev pub put_before : List Token → Result (List Token) ParseWhy → Result (List Token) ParseWhy
put_before before (Ok tokens) = Ok (before ++ tokens)
put_before before (Err why) = Err why

-- what stands first at this place, and then more behind its length
abbrev pub first_and : ℕ → Option Front → (ℕ → Result (List Token) ParseWhy) → Result (List Token) ParseWhy
first_and at None more = Err (BadToken at)
first_and at (Some found) more = put_before (token_at at found.what found.len) (more found.len)

-- The tokens from a place on. So many bytes belong still to what stood before.
unfoldable pub lexed_from : ℕ → ℕ → List ℕ → Result (List Token) ParseWhy
lexed_from at past [] = Ok []
lexed_from at (suc past) (b ∷ rest) = lexed_from (at + 1) past rest
lexed_from at zero (b ∷ rest) = first_and at (front (b ∷ rest)) (λ len. lexed_from (at + 1) (len - 1) rest)

-- the first byte that no UTF-8 text continues, or the length where the bytes only end inside a character
abbrev pub refused_byte : ℕ → Option ℕ → ℕ → ℕ → ℕ
refused_byte valid None first len = len
-- only these bytes begin a character of more bytes
refused_byte valid (Some wrong) first len = if nat_le 0xC2 first then (if nat_le first 0xF4 then valid + wrong else valid) else valid

unfoldable pub not_text_at : List ℕ → ℕ
not_text_at bytes =
    let valid = utf8_valid_len bytes in
    refused_byte valid (utf8_error_len (drop valid bytes)) (slice_index bytes valid) (length bytes)

-- the tokens of a text, or why it is refused and at which byte: first as no text, and then at the first byte at which
-- nothing begins
unfoldable pub lexed : List ℕ → Result (List Token) ParseWhy
lexed bytes = if is_utf8 bytes then lexed_from 0 0 bytes else Err (NotText (not_text_at bytes))

-- what the lexer returned is what the text gives, unless memory ran out
abbrev pub GivesTokens : Result (List Token) ParseError → Result (List Token) ParseWhy → Type 0
GivesTokens (Ok tokens) given = given ≡ Ok tokens
GivesTokens (Err (errors.Refused why)) given = given ≡ Err why
GivesTokens (Err errors.Memory) given = Unit {0}
