-- The tokens of a canonical text are those of its items.
use Rattle.std.proofs.Common.{◌≡◌, ℕ, zero, suc, ◌+◌, ◌*◌, List, [], ◌∷◌, ◌++◌, length, replicate, append_assoc, append-nil, refl, sym, ap, ◌∙◌, subst}
use Rattle.std.specs.List.{flat_map}
use Rattle.fb_syntax.specs.declared.token.What.{What}
use Rattle.fb_syntax.specs.declared.token.Token.{Token}
use Rattle.fb_syntax.specs.Tokens as lexing
use Rattle.fb_syntax.specs.Tokens.{Piece, Comment, Made, IsLongest, ArePieces, placed}
use Rattle.fb_print.specs.Items as items
use Rattle.fb_print.specs.Items.{Item, Line, token_text, spelling, items_text}
use Rattle.fb_print.specs.Spelled.{item_tokens, tokens_of}
use Rattle.fb_print.proofs.Respelling.{Each, front_each, back_each, CanBeSpelled, Known, Leads}
use Rattle.fb_print.proofs.Apart.{Class, Runs, class_of, token_class}
use Rattle.fb_print.proofs.PrintedTokens.{printed_spelling, longest_before, longest_last}

-- ---- the pieces of items

abbrev blanks : ℕ → List Piece
blanks n = replicate n (lexing.Blank 32)

abbrev pieces_of : Item → List Piece
pieces_of (items.Token token) = Made token (token_text token) ∷ []
pieces_of items.Blank = lexing.Blank 32 ∷ []
pieces_of (Line depth) = lexing.Blank 10 ∷ blanks (2 * depth)

abbrev pub all_pieces : List Item → List Piece
all_pieces = flat_map pieces_of

-- ---- their text

text_both : (front back : List Piece) (rest : List ℕ) → lexing.text_of_pieces (front ++ back) rest ≡ lexing.text_of_pieces front (lexing.text_of_pieces back rest)
text_both [] back rest = refl
text_both (piece ∷ front) back rest = ap (λ l. lexing.spelling_of piece ++ l) (text_both front back rest)

blanks_text : (n : ℕ) (rest : List ℕ) → lexing.text_of_pieces (blanks n) rest ≡ replicate n 32 ++ rest
blanks_text zero rest = refl
blanks_text (suc n) rest = ap (λ l. 32 ∷ l) (blanks_text n rest)

item_text : (item : Item) (rest : List ℕ) → lexing.text_of_pieces (pieces_of item) rest ≡ spelling item ++ rest
item_text (items.Token token) rest = refl
item_text items.Blank rest = refl
item_text (Line depth) rest = ap (λ l. 10 ∷ l) (blanks_text (2 * depth) rest)

pub pieces_text : (is : List Item) (rest : List ℕ) → lexing.text_of_pieces (all_pieces is) rest ≡ items_text is ++ rest
pieces_text [] rest = refl
pieces_text (item ∷ is) rest =
    text_both (pieces_of item) (all_pieces is) rest
    ∙ item_text item (lexing.text_of_pieces (all_pieces is) rest)
    ∙ ap (λ l. spelling item ++ l) (pieces_text is rest)
    ∙ sym (append_assoc (spelling item) (items_text is) rest)

whole_text : (is : List Item) → lexing.text_of_pieces (all_pieces is) [] ≡ items_text is
whole_text is = pieces_text is [] ∙ append-nil (items_text is)

-- ---- they are well made

proper_both : (front back : List Piece) (rest : List ℕ) → ArePieces front (lexing.text_of_pieces back rest) → ArePieces back rest → ArePieces (front ++ back) rest
proper_both [] back rest front_proper back_proper = back_proper
proper_both (piece ∷ front) back rest (this, front_proper) back_proper =
    (subst (λ (text : List ℕ). lexing.IsPiece piece text) (sym (text_both front back rest)) this, proper_both front back rest front_proper back_proper)

blanks_proper : (n : ℕ) (rest : List ℕ) → ArePieces (blanks n) rest
blanks_proper zero rest = tt
blanks_proper (suc n) rest = (refl, blanks_proper n rest)

-- the token is the longest before the items that follow it
longest_here : (token : What) (is : List Item) (last : Class) → Each CanBeSpelled (tokens_of is) → Runs (token_class token) is last → IsLongest token (items_text is)
longest_here token [] last known runs = longest_last token
longest_here token (next ∷ is) last known (may, runs) = longest_before token next (items_text is) (front_each CanBeSpelled (item_tokens next) (tokens_of is) known) may

-- over an item's tokens and those behind it
item_proper : (item : Item) (is : List Item) (last : Class) → Each CanBeSpelled (item_tokens item) → Each CanBeSpelled (tokens_of is) → Runs (class_of item) is last
    → ArePieces (pieces_of item) (lexing.text_of_pieces (all_pieces is) [])
item_proper (items.Token token) is last (known, _) rest_known runs =
    ((printed_spelling token known, subst (λ (text : List ℕ). IsLongest token text) (sym (whole_text is)) (longest_here token is last rest_known runs)), tt)
item_proper items.Blank is last known rest_known runs = (refl, tt)
item_proper (Line depth) is last known rest_known runs = (refl, blanks_proper (2 * depth) _)

pub pieces_proper : (before last : Class) (is : List Item) → Each CanBeSpelled (tokens_of is) → Runs before is last → ArePieces (all_pieces is) []
pieces_proper before last [] known runs = tt
pieces_proper before last (item ∷ is) known (may, runs) =
    let front = front_each CanBeSpelled (item_tokens item) (tokens_of is) known in
    let back = back_each CanBeSpelled (item_tokens item) (tokens_of is) known in
    proper_both (pieces_of item) (all_pieces is) [] (item_proper item is last front back runs) (pieces_proper (class_of item) last is back runs)

-- ---- their tokens

-- blanks only move the tokens behind them
blanks_placed : (n at : ℕ) (pieces : List Piece) → (later : ℕ) × (placed at (blanks n ++ pieces) ≡ placed later pieces)
blanks_placed zero at pieces = (at, refl)
blanks_placed (suc n) at pieces = blanks_placed n (at + 1) pieces

pub pieces_lead : (at : ℕ) (is : List Item) → Leads (tokens_of is) (placed at (all_pieces is)) []
pieces_lead at [] = refl
pieces_lead at (items.Token token ∷ is) = (_, _, refl, refl, pieces_lead (at + length (token_text token)) is)
pieces_lead at (items.Blank ∷ is) = pieces_lead (at + 1) is
pieces_lead at (Line depth ∷ is) =
    let later = blanks_placed (2 * depth) (at + 1) (all_pieces is) in
    subst (λ (tokens : List Token). Leads (tokens_of is) tokens []) (sym later.1) (pieces_lead later.0 is)

-- the tokens of any text are spelled by some bytes
pub placed_known : (at : ℕ) (pieces : List Piece) (rest : List ℕ) → ArePieces pieces rest → Each Known (placed at pieces)
placed_known at [] rest proper = tt
placed_known at (lexing.Blank b ∷ pieces) rest (this, proper) = placed_known (at + 1) pieces rest proper
placed_known at (Comment text ∷ pieces) rest (this, proper) = placed_known (at + length (35 ∷ text)) pieces rest proper
placed_known at (Made token bytes ∷ pieces) rest (this, proper) = ((bytes, this.0), placed_known (at + length bytes) pieces rest proper)
