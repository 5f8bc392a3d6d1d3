-- Which tokens a text has. The text is cut into pieces, each a blank, a comment or a token; each piece is spelled as
-- its kind is, and none could be longer.
use Rattle.std.specs.Prelude.{◌≡◌, ◌≢◌, ℕ, ◌+◌, ◌-◌, ◌*◌, ◌≤◌, ◌<◌, ◌^◌, Bool, true, false, not, ◌||◌, ◌==◌, nat_le, if◌then◌else◌, ◌⊎◌, IsTrue, List, [], ◌∷◌, ◌++◌, length, fold, flat_map, pos, IsUtf8}
use Rattle.std.specs.List.{list_all}
use Rattle.std.specs.Char.{is_ascii_digit}
use Rattle.fb_base.specs.Front.{IsFrontOf}
use Rattle.fb_syntax.specs.declared.sign.Sign.{Sign}
use Rattle.fb_syntax.specs.declared.token.What.{What}
use Rattle.fb_syntax.specs.declared.token.What.TheVariants as what
use Rattle.fb_syntax.specs.declared.token.Token.{Token}
use Rattle.fb_syntax.specs.Signs.{sign_text}
use Rattle.fb_base.specs.Name.{IsName, is_name_byte}
use Rattle.fb_base.specs.Text.{IsText}

-- space, tab, CR and LF
abbrev pub is_blank : ℕ → Bool
is_blank b = b == 32 || b == 9 || b == 13 || b == 10

-- the number that decimal digits spell
abbrev pub number_of : List ℕ → ℕ
number_of digits = fold (λ n digit. n * 10 + (digit - 48)) 0 digits

-- a byte of a text as it stands between the quotes: `"`, `\`, LF and tab are escaped
abbrev pub escaped : ℕ → List ℕ
escaped b =
    if b == 34 then 92 ∷ 34 ∷ []
    else if b == 92 then 92 ∷ 92 ∷ []
    else if b == 10 then 92 ∷ 110 ∷ []
    else if b == 9 then 92 ∷ 116 ∷ []
    else b ∷ []

-- a byte that may stand in a text: of those below U+0020 only LF and tab
abbrev pub stands_in_text : ℕ → Bool
stands_in_text b = nat_le 32 b || b == 10 || b == 9

-- the text between its quotes
abbrev pub literal : List ℕ → List ℕ
literal text = 34 ∷ flat_map escaped text ++ 34 ∷ []

-- these bytes spell the token
abbrev pub IsSpelling : What → List ℕ → Type 0
IsSpelling (what.Word name) bytes = IsName bytes × (name ≡ bytes)
IsSpelling (what.Int number) bytes =
    (bytes ≢ []) × IsTrue (list_all is_ascii_digit bytes) × (number_of bytes < 2 ^ 63) × (number ≡ pos (number_of bytes))
IsSpelling (what.Text text) bytes =
    IsText text × IsTrue (list_all stands_in_text text) × (bytes ≡ literal text)
IsSpelling (what.Sign sign) bytes = bytes ≡ sign_text sign

-- the list begins with a byte of this kind
abbrev pub begins : (ℕ → Bool) → List ℕ → Bool
begins is_kind [] = false
begins is_kind (first ∷ rest) = is_kind first

-- what follows the token doesn't make it longer
abbrev pub IsLongest : What → List ℕ → Type 0
IsLongest (what.Word name) rest = begins is_name_byte rest ≡ false
IsLongest (what.Int number) rest = begins is_ascii_digit rest ≡ false
IsLongest (what.Text text) rest = Unit {0}
IsLongest (what.Sign sign) rest =
    (longer : Sign) → IsFrontOf (sign_text longer) (sign_text sign ++ rest) → length (sign_text longer) ≤ length (sign_text sign)

pub data Piece : Type 0 where
  Blank : ℕ → Piece
  Comment : List ℕ → Piece
  Made : What → List ℕ → Piece

abbrev pub spelling_of : Piece → List ℕ
spelling_of (Blank b) = b ∷ []
spelling_of (Comment text) = 35 ∷ text
spelling_of (Made what spelling) = spelling

-- the piece is well made where this follows it
abbrev pub IsPiece : Piece → List ℕ → Type 0
IsPiece (Blank b) rest = IsTrue (is_blank b)
IsPiece (Comment text) rest = IsTrue (list_all (λ b. not (b == 10)) text) × ((rest ≡ []) ⊎ (begins (λ b. b == 10) rest ≡ true))
IsPiece (Made what spelling) rest = IsSpelling what spelling × IsLongest what rest

-- the text of pieces, and of what follows them
abbrev pub text_of_pieces : List Piece → List ℕ → List ℕ
text_of_pieces [] rest = rest
text_of_pieces (piece ∷ pieces) rest = spelling_of piece ++ text_of_pieces pieces rest

-- all pieces are well made, each before what follows it
abbrev pub ArePieces : List Piece → List ℕ → Type 0
ArePieces [] rest = Unit {0}
ArePieces (piece ∷ pieces) rest = IsPiece piece (text_of_pieces pieces rest) × ArePieces pieces rest

-- the tokens of the pieces, the first piece beginning at this place
abbrev pub placed : ℕ → List Piece → List Token
placed at [] = []
placed at (Blank b ∷ pieces) = placed (at + 1) pieces
placed at (Comment text ∷ pieces) = placed (at + length (35 ∷ text)) pieces
placed at (Made what spelling ∷ pieces) =
    record { what = what; from = at; to = at + length spelling } ∷ placed (at + length spelling) pieces

-- the text has exactly these tokens
abbrev pub HasTokens : List ℕ → List Token → Type 0
HasTokens bytes tokens = (pieces : List Piece) ×
    IsUtf8 bytes × (bytes ≡ text_of_pieces pieces []) × ArePieces pieces [] × (tokens ≡ placed 0 pieces)

-- no blank, comment or token begins here
abbrev pub NothingBegins : List ℕ → Type 0
NothingBegins bytes = (piece : Piece) (rest : List ℕ) → bytes ≡ spelling_of piece ++ rest → ¬ IsPiece piece rest

-- up to this place the text has pieces, and there nothing begins
pub record IsStuckAt (bytes : List ℕ) (at : ℕ) : Type 0 where
  pub utf8 : IsUtf8 bytes
  pub pieces : List Piece
  pub rest : List ℕ
  pub cut : bytes ≡ text_of_pieces pieces rest
  pub proper : ArePieces pieces rest
  pub place : at + length rest ≡ length bytes
  pub more : rest ≢ []
  pub nothing : NothingBegins rest
