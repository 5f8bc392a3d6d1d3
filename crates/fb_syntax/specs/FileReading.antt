-- Reading services and tests, and the texts that hold them.
use Rattle.std.specs.Prelude.{◌≡◌, ℕ, if◌then◌else◌, List, length, Result, Ok, Err}
use Rattle.fb_base.specs.declared.kind.Kind.{Kind}
use Rattle.fb_syntax.specs.declared.sign.Sign.TheVariants as sign
use Rattle.fb_syntax.specs.declared.reserved.Reserved.TheVariants as word
use Rattle.fb_syntax.specs.declared.token.Token.{Token}
use Rattle.fb_syntax.specs.declared.parse_error.ParseWhy.{ParseWhy}
use Rattle.fb_syntax.specs.declared.parse_error.ParseWhy.TheVariants.{Unexpected, TooMany}
use Rattle.fb_syntax.specs.declared.parse_error.ParseError.{ParseError}
use Rattle.fb_syntax.specs.declared.parse_error.ParseError.TheVariants as errors
use Rattle.fb_syntax.specs.Trees.{Parameter, MethodTree, ServiceTree, ServicesTree, TestTree}
use Rattle.fb_syntax.specs.Limits.{most_services, most_methods, most_params}
use Rattle.fb_syntax.specs.Lexing.{lexed}
use Rattle.fb_syntax.specs.Input.{Input, whole_input, place, by_first, comes}
use Rattle.fb_syntax.specs.TokenKinds.{is_word, is_sign, is_name, list_kind}
use Rattle.fb_syntax.specs.Reading.{Reading, ◌>>=◌, give, step, unexpected, too_many, if_comes, want, name, repeated, items}
use Rattle.fb_syntax.specs.ExpressionReading.{base_kind, list_head}
use Rattle.fb_syntax.specs.StatementReading.{body}

unfoldable pub kind : Reading Kind
kind =
    if_comes (is_word word.List)
    (do
      base ← list_head
      give (list_kind base))
    base_kind

unfoldable pub param : Reading Parameter
param = do
  variable ← name
  _ ← want (is_sign sign.Colon)
  its ← kind
  give (record { name = variable; kind = its })

-- why a parameter is refused that goes beyond the limit
unfoldable pub beyond_params : Input → ParseWhy
beyond_params input = if comes is_name input then TooMany (place input) else Unexpected (place input)

-- `( p: kind, .. )`
unfoldable pub params : Reading (List Parameter)
params = do
  _ ← want (is_sign sign.OpenParen)
  list ← items most_params sign.CloseParen beyond_params param
  _ ← want (is_sign sign.CloseParen)
  give list

unfoldable pub method : Reading MethodTree
method = do
  _ ← step
  its ← name
  list ← params
  _ ← want (is_sign sign.Arrow)
  gives ← kind
  does ← body
  give (record { name = its; params = list; gives = gives; body = does })

unfoldable pub service : Reading ServiceTree
service = do
  _ ← step
  its ← name
  _ ← want (is_sign sign.OpenBrace)
  methods ← repeated too_many most_methods (is_word word.Method) method
  _ ← want (is_sign sign.CloseBrace)
  give (record { name = its; methods = methods })

-- nothing is left
unfoldable pub at_end : Reading (Unit {0})
at_end input = by_first input.left (Ok (tt, input)) (λ _. unexpected input)

unfoldable pub services : Reading ServicesTree
services = do
  list ← repeated too_many most_services (is_word word.Service) service
  _ ← at_end
  give (record { services = list })

unfoldable pub whole_test : Reading TestTree
whole_test = do
  _ ← want (is_word word.Test)
  its ← name
  does ← body
  _ ← at_end
  give (record { name = its; body = does })

-- ---- texts

abbrev pub thing_of : {A : Type 0} → Result (A × Input) ParseWhy → Result A ParseWhy
thing_of (Ok read) = Ok read.0
thing_of (Err why) = Err why

abbrev pub read_tokens : {A : Type 0} → Reading A → ℕ → Result (List Token) ParseWhy → Result A ParseWhy
read_tokens reading end (Ok tokens) = thing_of (reading (whole_input tokens end))
read_tokens reading end (Err why) = Err why

-- the tree of a text, or the first refusal: as no text, then at the first byte at which nothing begins, then at the first
-- token that doesn't fit
unfoldable pub services_of : List ℕ → Result ServicesTree ParseWhy
services_of bytes = read_tokens services (length bytes) (lexed bytes)

unfoldable pub test_of : List ℕ → Result TestTree ParseWhy
test_of bytes = read_tokens whole_test (length bytes) (lexed bytes)

-- what was returned, seen by `view`, is what the text gives, unless memory ran out
abbrev pub GivesTree : {Made Tree : Type 0} → (Made → Tree) → Result Made ParseError → Result Tree ParseWhy → Type 0
GivesTree view (Ok made) read = read ≡ Ok (view made)
GivesTree view (Err (errors.Refused why)) read = read ≡ Err why
GivesTree view (Err errors.Memory) read = Unit {0}
