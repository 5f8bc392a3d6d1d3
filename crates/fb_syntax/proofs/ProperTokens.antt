-- What the tokens of a text are, and how many there are at most.
use Rattle.std.proofs.Common.{◌≡◌, ℕ, ◌+◌, ◌≤◌, List, [], ◌∷◌, length, refl, sym, ap, subst, arith, length-append}
use Rattle.std.specs.Prelude.{⊤}
use Rattle.std.specs.List.{AllByRecursion}
use Rattle.fb_base.specs.Name.{IsName}
use Rattle.fb_syntax.specs.declared.sign.Sign.{Sign}
use Rattle.fb_syntax.specs.declared.sign.Sign.TheVariants as sign
use Rattle.fb_syntax.specs.declared.token.What.{What}
use Rattle.fb_syntax.specs.declared.token.What.TheVariants as what
use Rattle.fb_syntax.specs.declared.token.Token.{Token}
use Rattle.fb_syntax.specs.Signs.{sign_text}
use Rattle.fb_syntax.specs.Tokens.{IsSpelling, Piece, Blank, Comment, Made, text_of_pieces, ArePieces, placed, HasTokens, number_of}
use Rattle.fb_syntax.specs.Kept.{IsLiteral, IsLiteralText}

-- it is what some bytes spell
abbrev pub IsProper : What → Type 0
IsProper (what.Word name) = IsName name
IsProper (what.Int number) = IsLiteral number
IsProper (what.Text text) = IsLiteralText text
IsProper (what.Sign sign) = ⊤

abbrev pub AllProper : List Token → Type 0
AllProper tokens = AllByRecursion (λ (token : Token). IsProper token.what) tokens

proper_spelled : (token : What) (bytes : List ℕ) → IsSpelling token bytes → IsProper token
proper_spelled (what.Word name) bytes h = subst (λ (word : List ℕ). IsName word) (sym h.1) h.0
proper_spelled (what.Int number) bytes h = (number_of bytes, h.2, h.3)
proper_spelled (what.Text text) bytes h = (h.0, h.1)
proper_spelled (what.Sign sign) bytes h = tt

-- ---- each token has a byte at least

name_bytes : (bytes : List ℕ) → IsName bytes → 1 ≤ length bytes
name_bytes [] h = absurd cc
name_bytes (b ∷ bytes) h = omega arith

sign_bytes : (s : Sign) → 1 ≤ length (sign_text s)
sign_bytes sign.OpenBrace = omega arith
sign_bytes _ = omega arith

some_bytes : (bytes : List ℕ) → (bytes ≡ [] → ⊥) → 1 ≤ length bytes
some_bytes [] h = absurd (h refl)
some_bytes (b ∷ bytes) h = omega arith

spelled_bytes : (token : What) (bytes : List ℕ) → IsSpelling token bytes → 1 ≤ length bytes
spelled_bytes (what.Word name) bytes h = name_bytes bytes h.0
spelled_bytes (what.Int number) bytes h = some_bytes bytes h.0
spelled_bytes (what.Text text) bytes h = omega (arith, ap length h.2)
spelled_bytes (what.Sign sign) bytes h = omega (arith, ap length h, sign_bytes sign)

-- ---- all tokens

pieces_proper : (at : ℕ) (pieces : List Piece) (rest : List ℕ) → ArePieces pieces rest
    → AllProper (placed at pieces) × (length (placed at pieces) + length rest ≤ length (text_of_pieces pieces rest))
pieces_proper at [] rest h = (tt, omega arith)
pieces_proper at (Blank b ∷ pieces) rest h =
    let more = pieces_proper (at + 1) pieces rest h.1 in
    (more.0, omega (arith, more.1))
pieces_proper at (Comment text ∷ pieces) rest h =
    let more = pieces_proper (at + length (35 ∷ text)) pieces rest h.1 in
    (more.0, omega (arith, more.1, length-append (35 ∷ text) (text_of_pieces pieces rest)))
pieces_proper at (Made token spelling ∷ pieces) rest h =
    let more = pieces_proper (at + length spelling) pieces rest h.1 in
    let some = spelled_bytes token spelling h.0.0 in
    ((proper_spelled token spelling h.0.0, more.0), omega (arith, more.1, some, length-append spelling (text_of_pieces pieces rest)))

pub tokens_proper : (bytes : List ℕ) (tokens : List Token) → HasTokens bytes tokens → AllProper tokens × (length tokens ≤ length bytes)
tokens_proper bytes tokens (pieces, utf8, cut, proper, placing) =
    let all = pieces_proper 0 pieces [] proper in
    (subst (λ (list : List Token). AllProper list) (sym placing) all.0, omega (arith, all.1, ap length cut, ap length placing))
