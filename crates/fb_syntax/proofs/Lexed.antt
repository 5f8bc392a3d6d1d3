-- The tokens that the lexer gives are those that the text has.
use Rattle.std.proofs.Common.{◌≡◌, ℕ, zero, suc, ◌+◌, ◌-◌, ◌<◌, ◌≤◌, Option, Some, None, Result, Ok, Err, List, [], ◌∷◌, ◌++◌, length, drop, arith, refl, sym, ap, subst, ◌∙◌, inl, inr, append_assoc, append-nil, length-append}
use Rattle.std.specs.Prelude.{IsUtf8, ◌≢◌}
use Rattle.std.proofs.lemmas.List.{drop_at}
use Rattle.fb_syntax.specs.declared.front.Front.{Front}
use Rattle.fb_syntax.specs.declared.token.Token.{Token}
use Rattle.fb_syntax.specs.declared.parse_error.ParseWhy.{ParseWhy}
use Rattle.fb_syntax.specs.declared.parse_error.ParseWhy.TheVariants.{NotText, BadToken}
use Rattle.fb_syntax.specs.declared.parse_error.ParseError.{ParseError}
use Rattle.fb_syntax.specs.declared.parse_error.ParseError.TheVariants as errors
use Rattle.fb_syntax.specs.Tokens.{Piece, Blank, Comment, Made, spelling_of, IsPiece, text_of_pieces, ArePieces, placed, HasTokens, NothingBegins, IsStuckAt}
use Rattle.std.specs.Str.{is_utf8}
use Rattle.std.proofs.lemmas.Str.{IsUtf8-from_is_utf8}
use Rattle.fb_syntax.proofs.Choices.{chosen}
use Rattle.fb_syntax.proofs.Texts.{is_utf8_true, is_utf8_false}
use Rattle.fb_syntax.specs.Lexing.{front, lexed_from, lexed, not_text_at, first_and, put_before, token_at, Finds, GivesTokens}
use Rattle.fb_syntax.specs.Stops.{StopsAt}
use Rattle.fb_syntax.proofs.TextStops.{not_text_stops, one_stop}
use Rattle.fb_syntax.proofs.Fronts.{Stands-from, front_of, what_of, advances, piece_found}

-- what was found before comes off the front
past : (at n : ℕ) (bytes : List ℕ) → lexed_from at n bytes ≡ lexed_from (at + n) 0 (drop n bytes)
unfolding lexed_from
past at zero bytes = ap (λ (n : ℕ). lexed_from n 0 bytes) (omega arith)
past at (suc n) [] = refl
past at (suc n) (b ∷ bytes) = past (at + 1) n bytes ∙ ap (λ (m : ℕ). lexed_from m 0 (drop n bytes)) (omega arith)

skipped : (at n b : ℕ) (bytes : List ℕ) → 0 < n → lexed_from (at + 1) (n - 1) bytes ≡ lexed_from (at + n) 0 (drop n (b ∷ bytes))
skipped at zero b bytes some = absurd (omega arith)
skipped at (suc n) b bytes some =
    let less : suc n - 1 ≡ n = omega arith in
    rw less (past (at + 1) n bytes ∙ ap (λ (m : ℕ). lexed_from m 0 (drop n bytes)) (omega arith))

one_more : (at : ℕ) (bytes : List ℕ) (found : Front) → front bytes ≡ Some found → 0 < found.len → 0 < length bytes
    → lexed_from at 0 bytes ≡ put_before (token_at at found.what found.len) (lexed_from (at + found.len) 0 (drop found.len bytes))
unfolding lexed_from
one_more at [] found h some there = absurd (omega arith)
one_more at (b ∷ bytes) found h some there =
    ap (λ (o : Option Front). first_and at o (λ len. lexed_from (at + 1) (len - 1) bytes)) h
    ∙ ap (put_before (token_at at found.what found.len)) (skipped at found.len b bytes some)

behind_both : (a b : List Token) (more : Result (List Token) ParseWhy) → put_before a (put_before b more) ≡ put_before (a ++ b) more
behind_both a b (Ok tokens) = ap (λ (all : List Token). Ok all) (sym (append_assoc a b tokens))
behind_both a b (Err why) = refl

-- one piece more
pub goes_on : (before : List Token) (at : ℕ) (bytes : List ℕ) (found : Front) (whole : Result (List Token) ParseWhy) → front bytes ≡ Some found
    → put_before before (lexed_from at 0 bytes) ≡ whole
    → put_before (before ++ token_at at found.what found.len) (lexed_from (at + found.len) 0 (drop found.len bytes)) ≡ whole
goes_on before at bytes found whole h so_far =
    let ahead = advances bytes found h in
    sym (behind_both before (token_at at found.what found.len) (lexed_from (at + found.len) 0 (drop found.len bytes)))
    ∙ ap (put_before before) (sym (one_more at bytes found h ahead.some (omega arith))) ∙ so_far

-- no piece more
pub stops : (before : List Token) (at : ℕ) (bytes : List ℕ) (whole : Result (List Token) ParseWhy) → 0 < length bytes → front bytes ≡ None
    → put_before before (lexed_from at 0 bytes) ≡ whole → whole ≡ Err (BadToken at)
unfolding lexed_from
stops before at [] whole some h so_far = absurd (omega arith)
stops before at (b ∷ bytes) whole some h so_far = sym so_far ∙ rw h refl

pub ends : (before : List Token) (at : ℕ) (bytes : List ℕ) (whole : Result (List Token) ParseWhy) → length bytes ≡ 0
    → put_before before (lexed_from at 0 bytes) ≡ whole → whole ≡ Ok before
unfolding lexed_from
ends before at [] whole none so_far = sym so_far ∙ ap (λ (all : List Token). Ok all) (append-nil before)
ends before at (b ∷ bytes) whole none so_far = absurd (omega arith)

-- ---- the laws

-- the pieces of a text, up to where nothing begins
record IsReading (bytes : List ℕ) : Type 0 where
  pieces : List Piece
  rest : List ℕ
  cut : bytes ≡ text_of_pieces pieces rest
  proper : ArePieces pieces rest
  nothing : front rest ≡ None

-- what follows a piece
behind_piece : (bytes : List ℕ) (piece : Piece) (rest : List ℕ) → bytes ≡ spelling_of piece ++ rest → drop (length (spelling_of piece)) bytes ≡ rest
behind_piece bytes piece rest cut =
    ap (drop (length (spelling_of piece))) cut ∙ drop_at (spelling_of piece) rest (length (spelling_of piece)) refl

reading_step : (bound : ℕ) (bytes : List ℕ) → length bytes ≤ suc bound → (o : Option Front) → front bytes ≡ o
    → ((fewer : List ℕ) → length fewer ≤ bound → IsReading fewer) → IsReading bytes
reading_step bound bytes small None first more = record { pieces = []; rest = bytes; cut = refl; proper = tt; nothing = first }
reading_step bound bytes small (Some found) first more =
    let stands = Stands-from bytes found first in
    let shorter : length stands.rest ≤ bound =
    omega (arith, ap length stands.cut, length-append (spelling_of stands.piece) stands.rest, stands.some) in
    let later = more stands.rest shorter in
    record {
      pieces = stands.piece ∷ later.pieces;
      rest = later.rest;
      cut = stands.cut ∙ ap (λ (rest : List ℕ). spelling_of stands.piece ++ rest) later.cut;
      proper = (subst (λ (rest : List ℕ). IsPiece stands.piece rest) later.cut stands.proper, later.proper);
      nothing = later.nothing;
    }

reading : (bound : ℕ) (bytes : List ℕ) → length bytes ≤ bound → IsReading bytes
unfolding front
reading bound [] small = record { pieces = []; rest = []; cut = refl; proper = tt; nothing = refl }
reading zero (b ∷ bytes) small = absurd (omega arith)
reading (suc bound) (b ∷ bytes) small = reading_step bound (b ∷ bytes) small (front (b ∷ bytes)) refl (λ fewer less. reading bound fewer less)

-- one piece and its token come first
placed_first : (at : ℕ) (piece : Piece) (pieces : List Piece)
    → placed at (piece ∷ pieces) ≡ token_at at (front_of piece).what (front_of piece).len ++ placed (at + (front_of piece).len) pieces
placed_first at (Blank b) pieces = refl
placed_first at (Comment text) pieces = refl
placed_first at (Made what spelling) pieces = refl

behind_none : (more : Result (List Token) ParseWhy) → put_before [] more ≡ more
behind_none (Ok tokens) = refl
behind_none (Err why) = refl

-- pieces give their tokens, and then comes what the rest gives
lexed_pieces : (at after : ℕ) (pieces : List Piece) (rest : List ℕ) → ArePieces pieces rest → at + length (text_of_pieces pieces rest) ≡ after + length rest
    → lexed_from at 0 (text_of_pieces pieces rest) ≡ put_before (placed at pieces) (lexed_from after 0 rest)
lexed_pieces at after [] rest proper place =
    let same : at ≡ after = omega arith in
    ap (λ (n : ℕ). lexed_from n 0 rest) same ∙ sym (behind_none (lexed_from after 0 rest))
lexed_pieces at after (piece ∷ pieces) rest proper place =
    let follows = text_of_pieces pieces rest in
    let bytes = spelling_of piece ++ follows in
    let len = length (spelling_of piece) in
    let tokens = token_at at (what_of piece) len in
    let first = piece_found piece follows proper.0 in
    let ahead = advances bytes (front_of piece) first in
    let later = lexed_pieces (at + len) after pieces rest proper.1 (omega (arith, length-append (spelling_of piece) follows)) in
    one_more at bytes (front_of piece) first ahead.some (omega (arith, ahead.within, ahead.some))
    ∙ ap (λ (more : List ℕ). put_before tokens (lexed_from (at + len) 0 more)) (behind_piece bytes piece follows refl)
    ∙ ap (put_before tokens) later
    ∙ behind_both tokens (placed (at + len) pieces) (lexed_from after 0 rest)
    ∙ ap (λ (all : List Token). put_before all (lexed_from after 0 rest)) (sym (placed_first at piece pieces))

-- where nothing begins, the text is at its end or refused
at_end : (at : ℕ) → lexed_from at 0 [] ≡ Ok []
unfolding lexed_from
at_end at = refl

stuck : (at b : ℕ) (rest : List ℕ) → front (b ∷ rest) ≡ None → lexed_from at 0 (b ∷ rest) ≡ Err (BadToken at)
unfolding lexed_from
stuck at b rest h = rw h refl

-- what a text gives whose pieces are these
given_by : (bytes : List ℕ) (at : ℕ) (pieces : List Piece) (rest : List ℕ) → IsUtf8 bytes → bytes ≡ text_of_pieces pieces rest → ArePieces pieces rest → at + length rest ≡ length bytes
    → lexed bytes ≡ put_before (placed 0 pieces) (lexed_from at 0 rest)
unfolding lexed
given_by bytes at pieces rest utf8 cut proper place =
    rw (is_utf8_true bytes utf8) (ap (lexed_from 0 0) cut ∙ lexed_pieces 0 at pieces rest proper (omega (arith, ap length cut)))

nothing_from : (rest : List ℕ) → front rest ≡ None → NothingBegins rest
nothing_from rest h piece after cut proper =
    let there : front rest ≡ Some (front_of piece) = ap front cut ∙ piece_found piece after proper in cc

none_from : (rest : List ℕ) → NothingBegins rest → (o : Option Front) → front rest ≡ o → front rest ≡ None
none_from rest nothing None h = h
none_from rest nothing (Some found) h =
    absurd (let stands = Stands-from rest found h in nothing stands.piece stands.rest stands.cut stands.proper)

utf8_from : (bytes : List ℕ) (given : Result (List Token) ParseWhy) → lexed bytes ≡ given → ((at : ℕ) → ¬ (given ≡ Err (NotText at))) → IsUtf8 bytes
unfolding lexed
utf8_from bytes given h other =
    elim (chosen (is_utf8 bytes) (lexed_from 0 0 bytes) (Err (NotText (not_text_at bytes))) given h) [
      | inl w ↦ IsUtf8-from_is_utf8 bytes w.0
      | inr w ↦ absurd (other (not_text_at bytes) (sym w.1))
    ]

abbrev done : List Token → Result (List Token) ParseWhy
done tokens = Ok tokens

abbrev failed : ℕ → Result (List Token) ParseWhy
failed at = Err (BadToken at)

abbrev no_text_failed : ℕ → Result (List Token) ParseWhy
no_text_failed at = Err (NotText at)

-- the rest is a part of the text
rest_within : (pieces : List Piece) (rest : List ℕ) → length rest ≤ length (text_of_pieces pieces rest)
rest_within [] rest = omega arith
rest_within (piece ∷ pieces) rest = omega (arith, length-append (spelling_of piece) (text_of_pieces pieces rest), rest_within pieces rest)

ok_same : (a b : List Token) → done a ≡ done b → a ≡ b
ok_same a b h = cc

bad_same : (a b : ℕ) → failed a ≡ failed b → a ≡ b
bad_same a b h = cc

tokens_of_reading : (bytes : List ℕ) (tokens : List Token) (pieces : List Piece) (rest : List ℕ) → IsUtf8 bytes → bytes ≡ text_of_pieces pieces rest → ArePieces pieces rest
    → front rest ≡ None → lexed bytes ≡ Ok tokens → HasTokens bytes tokens
tokens_of_reading bytes tokens pieces [] utf8 cut proper nothing h =
    let given = given_by bytes (length bytes) pieces [] utf8 cut proper (omega arith) ∙ ap (put_before (placed 0 pieces)) (at_end (length bytes)) in
    (pieces, utf8, cut, proper, ok_same tokens (placed 0 pieces) (sym h ∙ given ∙ ap (λ (all : List Token). Ok all) (append-nil (placed 0 pieces))))
tokens_of_reading bytes tokens pieces (b ∷ rest) utf8 cut proper nothing h =
    let at = length bytes - length (b ∷ rest) in
    let place : at + length (b ∷ rest) ≡ length bytes = omega (arith, ap length cut, rest_within pieces (b ∷ rest)) in
    let given = given_by bytes at pieces (b ∷ rest) utf8 cut proper place ∙ ap (put_before (placed 0 pieces)) (stuck at b rest nothing) in
    absurd cc

pub HasTokens-from : (bytes : List ℕ) (tokens : List Token) → lexed bytes ≡ Ok tokens → HasTokens bytes tokens
HasTokens-from bytes tokens h =
    let utf8 = utf8_from bytes (Ok tokens) h (λ at no_way. cc) in
    let found = reading (length bytes) bytes (omega arith) in
    tokens_of_reading bytes tokens found.pieces found.rest utf8 found.cut found.proper found.nothing h

pub lexed-from : (bytes : List ℕ) (tokens : List Token) → HasTokens bytes tokens → lexed bytes ≡ Ok tokens
lexed-from bytes tokens (pieces, utf8, cut, proper, are) =
    given_by bytes (length bytes) pieces [] utf8 cut proper (omega arith) ∙ ap (put_before (placed 0 pieces)) (at_end (length bytes))
    ∙ ap (λ (all : List Token). Ok all) (append-nil (placed 0 pieces) ∙ sym are)

stuck_of_reading : (bytes : List ℕ) (at : ℕ) (pieces : List Piece) (rest : List ℕ) → IsUtf8 bytes → bytes ≡ text_of_pieces pieces rest → ArePieces pieces rest
    → front rest ≡ None → lexed bytes ≡ Err (BadToken at) → IsStuckAt bytes at
stuck_of_reading bytes at pieces [] utf8 cut proper nothing h =
    let given = given_by bytes (length bytes) pieces [] utf8 cut proper (omega arith) ∙ ap (put_before (placed 0 pieces)) (at_end (length bytes)) in
    absurd cc
stuck_of_reading bytes at pieces (b ∷ rest) utf8 cut proper nothing h =
    let there = length bytes - length (b ∷ rest) in
    let place : there + length (b ∷ rest) ≡ length bytes = omega (arith, ap length cut, rest_within pieces (b ∷ rest)) in
    let given = given_by bytes there pieces (b ∷ rest) utf8 cut proper place ∙ ap (put_before (placed 0 pieces)) (stuck there b rest nothing) in
    let same : there ≡ at = bad_same there at (sym given ∙ h) in
    record {
      utf8 = utf8;
      pieces = pieces;
      rest = b ∷ rest;
      cut = cut;
      proper = proper;
      place = subst (λ (n : ℕ). n + length (b ∷ rest) ≡ length bytes) same place;
      more = λ empty. cc;
      nothing = nothing_from (b ∷ rest) nothing;
    }

pub IsStuckAt-from : (bytes : List ℕ) (at : ℕ) → lexed bytes ≡ Err (BadToken at) → IsStuckAt bytes at
IsStuckAt-from bytes at h =
    let utf8 = utf8_from bytes (Err (BadToken at)) h (λ other no_way. cc) in
    let found = reading (length bytes) bytes (omega arith) in
    stuck_of_reading bytes at found.pieces found.rest utf8 found.cut found.proper found.nothing h

refused_with : (bytes : List ℕ) (at : ℕ) (pieces : List Piece) (rest : List ℕ) → IsUtf8 bytes → bytes ≡ text_of_pieces pieces rest → ArePieces pieces rest → at + length rest ≡ length bytes
    → rest ≢ [] → front rest ≡ None → lexed bytes ≡ Err (BadToken at)
refused_with bytes at pieces [] utf8 cut proper place more nothing = absurd (more refl)
refused_with bytes at pieces (b ∷ rest) utf8 cut proper place more nothing =
    given_by bytes at pieces (b ∷ rest) utf8 cut proper place ∙ ap (put_before (placed 0 pieces)) (stuck at b rest nothing)

pub refused-from : (bytes : List ℕ) (at : ℕ) → IsStuckAt bytes at → lexed bytes ≡ Err (BadToken at)
refused-from bytes at is =
    refused_with bytes at is.pieces is.rest is.utf8 is.cut is.proper is.place is.more (none_from is.rest is.nothing (front is.rest) refl)

not_by_reading : (bytes : List ℕ) (at : ℕ) (pieces : List Piece) (rest : List ℕ) → IsUtf8 bytes → bytes ≡ text_of_pieces pieces rest → ArePieces pieces rest
    → front rest ≡ None → ¬ (lexed bytes ≡ Err (NotText at))
not_by_reading bytes at pieces [] utf8 cut proper nothing h =
    let given = given_by bytes (length bytes) pieces [] utf8 cut proper (omega arith) ∙ ap (put_before (placed 0 pieces)) (at_end (length bytes)) in cc
not_by_reading bytes at pieces (b ∷ rest) utf8 cut proper nothing h =
    let there = length bytes - length (b ∷ rest) in
    let place : there + length (b ∷ rest) ≡ length bytes = omega (arith, ap length cut, rest_within pieces (b ∷ rest)) in
    let given = given_by bytes there pieces (b ∷ rest) utf8 cut proper place ∙ ap (put_before (placed 0 pieces)) (stuck there b rest nothing) in cc

-- a text isn't refused as no text
never_no_text : (bytes : List ℕ) (at : ℕ) → IsUtf8 bytes → ¬ (lexed bytes ≡ Err (NotText at))
never_no_text bytes at utf8 h =
    let found = reading (length bytes) bytes (omega arith) in
    not_by_reading bytes at found.pieces found.rest utf8 found.cut found.proper found.nothing h

no_text_given : (bytes : List ℕ) → ¬ IsUtf8 bytes → lexed bytes ≡ Err (NotText (not_text_at bytes))
unfolding lexed
no_text_given bytes h = rw (is_utf8_false bytes h) refl

no_text_same : (a b : ℕ) → no_text_failed a ≡ no_text_failed b → a ≡ b
no_text_same a b h = cc

pub no_text : (bytes : List ℕ) (at : ℕ) → lexed bytes ≡ Err (NotText at) → (¬ IsUtf8 bytes) × StopsAt bytes at
no_text bytes at h =
    let refused : ¬ IsUtf8 bytes = λ utf8. never_no_text bytes at utf8 h in
    let same = no_text_same (not_text_at bytes) at (sym (no_text_given bytes refused) ∙ h) in
    (refused, subst (λ (n : ℕ). StopsAt bytes n) same (not_text_stops bytes refused))

pub no_text-from : (bytes : List ℕ) (at : ℕ) → (¬ IsUtf8 bytes) × StopsAt bytes at → lexed bytes ≡ Err (NotText at)
no_text-from bytes at (refused, stop) =
    no_text_given bytes refused ∙ ap (λ (n : ℕ). Err (NotText n)) (one_stop bytes (not_text_at bytes) at (not_text_stops bytes refused) stop)

-- what stops the reading of the rest stops that of the whole
pub refuses : (e : ParseError) (before : List Token) (at : ℕ) (bytes : List ℕ) (whole : Result (List Token) ParseWhy) → 0 < length bytes
    → Finds at (Err e) (front bytes) → put_before before (lexed_from at 0 bytes) ≡ whole → GivesTokens (Err e) whole
refuses (errors.Refused why) before at bytes whole there found so_far =
    stops before at bytes whole there found.0 so_far ∙ ap (λ (w : ParseWhy). Err w) (sym found.1)
refuses errors.Memory before at bytes whole there found so_far = tt
