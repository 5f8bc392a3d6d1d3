-- Where a text is refused: at a token with which the tokens before it begin no text.
use Rattle.std.proofs.Common.{◌≡◌, ℕ, zero, suc, ◌+◌, ◌-◌, Bool, true, false, if◌then◌else◌, Option, Some, None, Result, Ok, Err, List, [], ◌∷◌, ◌++◌, length, append_assoc, refl, sym, ap, ◌∙◌, subst, inl, inr}
use Rattle.fb_syntax.specs.declared.sign.Sign.TheVariants as sign
use Rattle.fb_syntax.specs.declared.reserved.Reserved.TheVariants as word
use Rattle.fb_syntax.specs.declared.token.Token.{Token}
use Rattle.fb_syntax.specs.declared.front.Front.{Front}
use Rattle.fb_syntax.specs.declared.parse_error.ParseWhy.{ParseWhy}
use Rattle.fb_syntax.specs.declared.parse_error.ParseWhy.TheVariants.{NotText, BadToken, Unexpected, TooMany}
use Rattle.fb_syntax.specs.Limits.{most_params, most_methods, most_services}
use Rattle.fb_syntax.specs.Tokens.{HasTokens}
use Rattle.std.specs.Str.{is_utf8}
use Rattle.fb_syntax.specs.Lexing.{front, token_at, put_before, first_and, lexed_from, not_text_at, lexed}
use Rattle.fb_syntax.specs.Input.{Input, whole_input, place_of, place, by_first, comes}
use Rattle.fb_syntax.specs.TokenKinds.{is_word, is_sign, is_name, list_kind}
use Rattle.fb_syntax.specs.Reading.{Reading, unexpected, too_many}
use Rattle.fb_syntax.specs.Spans.{Spelling}
use Rattle.fb_syntax.specs.FileReading.{kind, param, beyond_params, params, method, service, at_end, services, whole_test, thing_of, read_tokens, services_of, test_of}
use Rattle.fb_syntax.specs.FileGrammar.{HasTree, SpellsServices, SpellsTest}
use Rattle.fb_syntax.specs.Refusals.{parser_place, Begins, IsRefused}
use Rattle.fb_syntax.proofs.Choices.{chosen}
use Rattle.fb_syntax.proofs.Turns.{ok_is}
use Rattle.fb_syntax.proofs.Lexed.{HasTokens-from, lexed-from}
use Rattle.fb_syntax.proofs.FileComplete.{services_complete, test_complete}
use Rattle.fb_syntax.proofs.Locality.{same_comes, same_place, ByFirst, Ends, Stops, Local, none_same, local_give, local_too_many, local_if, local_step, local_then, local_want, local_repeated, local_items}
use Rattle.fb_syntax.proofs.ExpressionLocal.{local_name, local_base, local_head}
use Rattle.fb_syntax.proofs.StatementLocal.{local_body}

local_kind : Local kind
unfolding kind
local_kind = local_if (is_word word.List) (local_then local_head (λ base. local_give (list_kind base))) local_base

local_param : Local param
unfolding param
local_param =
    local_then local_name (λ variable. local_then (local_want (is_sign sign.Colon)) (λ _. local_then local_kind (λ its.
    local_give (record { name = variable; kind = its }))))

params_placed : (named : Bool) (at : ℕ) → parser_place (if named then TooMany at else Unexpected at) ≡ Some at
params_placed true at = refl
params_placed false at = refl

params_by_first : ByFirst beyond_params
unfolding beyond_params
params_by_first =
    record {
      placed = λ input. params_placed (comes is_name input) (place input);
      same = λ input other alike. rw (same_comes is_name input other alike, same_place input other alike) refl;
    }

local_params : Local params
unfolding params
local_params =
    local_then (local_want (is_sign sign.OpenParen)) (λ _.
    local_then (local_items most_params sign.CloseParen beyond_params param params_by_first local_param) (λ list.
    local_then (local_want (is_sign sign.CloseParen)) (λ _. local_give list)))

local_method : Local method
unfolding method
local_method =
    local_then local_step (λ _. local_then local_name (λ its. local_then local_params (λ list.
    local_then (local_want (is_sign sign.Arrow)) (λ _. local_then local_kind (λ gives. local_then local_body (λ does.
    local_give (record { name = its; params = list; gives = gives; body = does })))))))

local_service : Local service
unfolding service
local_service =
    local_then local_step (λ _. local_then local_name (λ its. local_then (local_want (is_sign sign.OpenBrace)) (λ _.
    local_then (local_repeated too_many most_methods (is_word word.Method) method local_too_many local_method) (λ methods.
    local_then (local_want (is_sign sign.CloseBrace)) (λ _. local_give (record { name = its; methods = methods }))))))

-- ---- the end

ended : (left : List Token) (input : Input) (u : Unit {0}) (rest : Input)
    → input.left ≡ left → by_first left (Ok (tt, input)) (λ _. unexpected input) ≡ Ok (u, rest) → Ends at_end input u rest
ended [] input u rest none h =
    let left = ap (λ (p : Unit {0} × Input). p.1) (ok_is (tt, input) (u, rest) h) in
    record {
      front = [];
      cut = ap (λ (i : Input). i.left) left;
      end = ap (λ (i : Input). i.end) (sym left);
      again = λ other alike. absurd (none_same rest other (ap (λ (i : Input). i.left) (sym left) ∙ none) alike);
    }
ended (first ∷ more) input u rest is h = absurd (let no_way = h in cc)

unended : (left : List Token) (input : Input) (why : ParseWhy)
    → input.left ≡ left → by_first {A = Result (Unit {0} × Input) ParseWhy} left (Ok (tt, input)) (λ _. unexpected input) ≡ Err why → Stops at_end input why
unfolding at_end
unended [] input why none h = absurd (let no_way = h in cc)
unended (first ∷ more) input why is h =
    let same : Unexpected (place input) ≡ why = cc in
    record {
      front = [];
      stuck = input;
      cut = refl;
      end = refl;
      place = ap parser_place (sym same);
      again = λ other alike. rw alike.also
          (ap (λ (n : ℕ). Err (Unexpected n)) (ap (λ (l : List Token). place_of l other.end) (sym alike.also) ∙ same_place input other alike) ∙ ap (λ (w : ParseWhy). Err w) same);
    }

local_at_end : Local at_end
unfolding at_end
local_at_end =
    record {
      ends = λ input u rest h. ended input.left input u rest refl h;
      stops = λ input why h. unended input.left input why refl h;
    }

local_services : Local services
unfolding services
local_services =
    local_then (local_repeated too_many most_services (is_word word.Service) service local_too_many local_service) (λ list.
    local_then local_at_end (λ _. local_give (record { services = list })))

local_test : Local whole_test
unfolding whole_test
local_test =
    local_then (local_want (is_word word.Test)) (λ _. local_then local_name (λ its. local_then local_body (λ does.
    local_then local_at_end (λ _. local_give (record { name = its; body = does })))))

-- ---- texts

thing_err : {A : Type 0} (read : Result (A × Input) ParseWhy) (why : ParseWhy) → thing_of read ≡ Err why → read ≡ Err why
thing_err (Ok read) why h = absurd (let no_way = h in cc)
thing_err (Err other) why h = let e : other ≡ why = cc in ap (λ (w : ParseWhy). Err w) e

put_err : (before : List Token) (read : Result (List Token) ParseWhy) (why : ParseWhy) → put_before before read ≡ Err why → read ≡ Err why
put_err before (Ok tokens) why h = absurd (let no_way = h in cc)
put_err before (Err other) why h = let e : other ≡ why = cc in ap (λ (w : ParseWhy). Err w) e

first_why : (at : ℕ) (found : Option Front) (more : ℕ → Result (List Token) ParseWhy) (why : ParseWhy)
    → ((len : ℕ) → more len ≡ Err why → parser_place why ≡ None) → first_and at found more ≡ Err why → parser_place why ≡ None
first_why at None more why later h = let is : BadToken at ≡ why = cc in ap parser_place (sym is)
first_why at (Some found) more why later h = later found.len (put_err (token_at at found.what found.len) (more found.len) why h)

from_why : (at past : ℕ) (bytes : List ℕ) (why : ParseWhy) → lexed_from at past bytes ≡ Err why → parser_place why ≡ None
unfolding lexed_from
from_why at past [] why h = absurd (let no_way = h in cc)
from_why at (suc past) (b ∷ rest) why h = from_why (at + 1) past rest why h
from_why at zero (b ∷ rest) why h = first_why at (front (b ∷ rest)) (λ len. lexed_from (at + 1) (len - 1) rest) why (λ len later. from_why (at + 1) (len - 1) rest why later) h

-- the lexer has its own causes
lexed_why : (bytes : List ℕ) (why : ParseWhy) → lexed bytes ≡ Err why → parser_place why ≡ None
unfolding lexed
lexed_why bytes why h =
    elim (chosen (is_utf8 bytes) _ _ (Err why) h) [
      | inl w ↦ from_why 0 0 bytes why w.1
      | inr w ↦ (let e : NotText (not_text_at bytes) ≡ why = let is = w.1 in cc in ap parser_place (sym e))
    ]

module _ {Tree : Type 0} (reading : Reading Tree) (Spells : Spelling Tree) (a : Local reading)
    (complete : (bytes : List ℕ) (tree : Tree) → HasTree Spells bytes tree → read_tokens reading (length bytes) (lexed bytes) ≡ Ok tree) where
  begins_none : (front : List Token) (token : Token) (why : ParseWhy)
      → ((bytes : List ℕ) (more : List Token) → reading (whole_input (front ++ token ∷ more) (length bytes)) ≡ Err why) → ¬ Begins Spells (front ++ token ∷ [])
  begins_none front token why refused (bytes, more, tree, has, spelled) =
      let cut = lexed-from bytes ((front ++ token ∷ []) ++ more) has ∙ ap (λ (l : List Token). Ok l) (append_assoc front (token ∷ []) more) in
      let read = sym (ap (read_tokens reading (length bytes)) cut) ∙ complete bytes tree spelled in
      let no_way = sym (ap thing_of (refused bytes more)) ∙ read in
      absurd (cc)

  refused_by : (bytes : List ℕ) (why : ParseWhy) (tokens : Result (List Token) ParseWhy) → lexed bytes ≡ tokens
      → read_tokens reading (length bytes) tokens ≡ Err why → IsRefused Spells bytes why
  refused_by bytes why (Err other) is h =
      let e : other ≡ why = cc in
      let by_lexer = is ∙ ap (λ (w : ParseWhy). Err w) e in
      inl (by_lexer, lexed_why bytes why by_lexer)
  refused_by bytes why (Ok tokens) is h =
      let whole = whole_input tokens (length bytes) in
      let s = a.stops whole why (thing_err (reading whole) why h) in
      inr (
        place s.stuck,
        s.place,
        record {
          before = s.front;
          left = s.stuck.left;
          cut = subst (HasTokens bytes) s.cut (HasTokens-from bytes tokens is);
          token = λ first more comes_first. (
            ap (λ (l : List Token). place_of l s.stuck.end) comes_first,
            begins_none s.front first why (λ other_bytes others.
                s.again (record { left = first ∷ others; end = length other_bytes; calls = s.stuck.calls })
                (record { first = first; more = more; others = others; is = comes_first; also = refl; calls = refl })),
          );
          end = λ nothing. ap (λ (l : List Token). place_of l s.stuck.end) nothing ∙ s.end;
        },
      )

  refused : (bytes : List ℕ) (why : ParseWhy) → read_tokens reading (length bytes) (lexed bytes) ≡ Err why → IsRefused Spells bytes why
  refused bytes why h = refused_by bytes why (lexed bytes) refl h

pub services_refused : (bytes : List ℕ) (why : ParseWhy) → services_of bytes ≡ Err why → IsRefused SpellsServices bytes why
unfolding services_of
services_refused bytes why h = refused services SpellsServices local_services services_complete bytes why h

pub test_refused : (bytes : List ℕ) (why : ParseWhy) → test_of bytes ≡ Err why → IsRefused SpellsTest bytes why
unfolding test_of
test_refused bytes why h = refused whole_test SpellsTest local_test test_complete bytes why h
