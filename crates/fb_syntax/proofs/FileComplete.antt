-- What is spelled as services or a test is read, and the trees that a text has are those that are read from it.
use Rattle.std.proofs.Common.{◌≡◌, ℕ, Bool, false, true, Some, Ok, List, [], length, refl, ap, ◌∙◌, inl, inr}
use Rattle.std.specs.Prelude.{not}
use Rattle.std.specs.Option.{is_some}
use Rattle.fb_base.specs.declared.kind.Kind.{Kind}
use Rattle.fb_syntax.specs.declared.sign.Sign.TheVariants as sign
use Rattle.fb_syntax.specs.declared.reserved.Reserved.TheVariants as word
use Rattle.fb_syntax.specs.declared.token.What.{What}
use Rattle.fb_syntax.specs.Trees.{ServicesTree, TestTree}
use Rattle.fb_syntax.specs.Limits.{most_services, most_methods, most_params}
use Rattle.fb_syntax.specs.Input.{Input, comes, whole_input}
use Rattle.fb_syntax.specs.TokenKinds.{comma, is_word, is_sign, is_name, name_of, base_of, base_of_word}
use Rattle.fb_syntax.specs.Reading.{too_many}
use Rattle.fb_syntax.specs.FileReading.{kind, param, params, beyond_params, method, service, at_end, services, whole_test, services_of, test_of}
use Rattle.fb_syntax.specs.FileGrammar.{KindSpelled, ParamSpelled, ParamsSpelled, MethodSpelled, ServiceSpelled, SpellsServices, SpellsTest, HasServices, HasTest}
use Rattle.fb_syntax.proofs.Lexed.{lexed-from}
use Rattle.fb_syntax.proofs.ReservedWords.{reserved_again}
use Rattle.fb_syntax.proofs.TokensOfKind.{name_is}
use Rattle.fb_syntax.proofs.Complete.{Stops, Always, Starts, want_again, differ_stops, as_comes, never, never_stops, always_again, repeated_again, items_again}
use Rattle.fb_syntax.proofs.FirstTokens.{not_sign, not_word, sign_apart}
use Rattle.fb_syntax.proofs.ExpressionComplete.{base_again, head_again, name_again}
use Rattle.fb_syntax.proofs.StatementComplete.{body_again}

-- ---- parameters and kinds

base_not_list : (base : Kind) (token : What) → base_of token ≡ Some base → is_word word.List token ≡ false
base_not_list base token h =
    not_word (λ t. is_some (base_of t)) word.List (ap (λ o. is_some (base_of_word o)) (reserved_again word.List)) token (ap is_some h)

kind_again : Always kind KindSpelled
unfolding kind
kind_again start rest k (inl base) = rw (as_comes base_of (is_word word.List) k false start (base_not_list k) base.0) (base_again start rest k base)
kind_again start rest k (inr (base, head, is)) = rw (head.1.0, head_again start rest base head, is) refl

param_again : Always param ParamSpelled
unfolding param
param_again start rest p (parts, (mid, named, (two, colon, spelled)), is) =
    rw (name_again start mid parts.0 named, want_again (is_sign sign.Colon) mid two colon, kind_again two rest parts.1 spelled, is) refl

name_comes : (name : List ℕ) (token : What) → name_of token ≡ Some name → is_name token ≡ true
name_comes name token h = let is = name_is name token h in ap is_name is.0 ∙ ap not is.1

param_starts : Starts is_name ParamSpelled
param_starts start rest p (parts, (mid, named, spelled), is) = as_comes name_of is_name parts.0 true start (name_comes parts.0) named.0

params_again : Always params ParamsSpelled
unfolding params
params_again start rest list (mid, opened, (two, listed, closed)) =
    rw (
      want_again (is_sign sign.OpenParen) start mid opened,
      items_again most_params sign.CloseParen beyond_params is_name never param ParamSpelled
          (λ token h. refl) (λ token h. refl) (sign_apart sign.CloseParen comma refl) (not_sign is_name sign.CloseParen refl)
          param_starts (always_again ParamSpelled param_again) mid two list listed closed.0,
      want_again (is_sign sign.CloseParen) two rest closed,
    ) refl

-- ---- the end of the text

at_end_again : (rest : Input) → rest.left ≡ [] → at_end rest ≡ Ok (tt, rest)
unfolding at_end
at_end_again rest none = rw none refl

end_stops : (goes_on : What → Bool) (rest : Input) → rest.left ≡ [] → Stops goes_on rest
unfolding comes
end_stops goes_on rest none = rw none refl

-- ---- services and tests

method_again : Always method MethodSpelled
unfolding method
method_again start rest m (p, (mid, came, (two, named, (three, list, (four, arrow, (five, gives, does))))), is) =
    rw (
      ← came.1,
      name_again mid two p.0 named,
      params_again two three p.1.0 list,
      want_again (is_sign sign.Arrow) three four arrow,
      kind_again four five p.1.1.0 gives,
      body_again five rest p.1.1.1 does,
      is,
    ) refl

service_again : Always service ServiceSpelled
unfolding service
service_again start rest s (p, (mid, came, (two, named, (three, opened, (four, (few, methods), closed)))), is) =
    rw (
      ← came.1,
      name_again mid two p.0 named,
      want_again (is_sign sign.OpenBrace) two three opened,
      repeated_again too_many most_methods (is_word word.Method) never method MethodSpelled
          (λ first end m spelled. spelled.1.1.0) (λ token h. refl) (always_again MethodSpelled method_again) three four p.1 few methods (never_stops four)
          (differ_stops (is_sign sign.CloseBrace) (is_word word.Method) four (sign_apart sign.CloseBrace (is_word word.Method) refl) closed.0),
      want_again (is_sign sign.CloseBrace) four rest closed,
      is,
    ) refl

services_again : (start rest : Input) (tree : ServicesTree) → SpellsServices start rest tree → rest.left ≡ [] → services start ≡ Ok (tree, rest)
unfolding services
services_again start rest tree (list, (few, spelled), is) none =
    rw (
      repeated_again too_many most_services (is_word word.Service) never service ServiceSpelled
          (λ first end s this. this.1.1.0) (λ token h. refl) (always_again ServiceSpelled service_again) start rest list few spelled (never_stops rest)
          (end_stops (is_word word.Service) rest none),
      at_end_again rest none,
      is,
    ) refl

test_again : (start rest : Input) (tree : TestTree) → SpellsTest start rest tree → rest.left ≡ [] → whole_test start ≡ Ok (tree, rest)
unfolding whole_test
test_again start rest tree (p, (mid, came, (two, named, does)), is) none =
    rw (want_again (is_word word.Test) start mid came, name_again mid two p.0 named, body_again two rest p.1 does, at_end_again rest none, is) refl

-- ---- texts

pub services_complete : (bytes : List ℕ) (tree : ServicesTree) → HasServices bytes tree → services_of bytes ≡ Ok tree
unfolding services_of
services_complete bytes tree (tokens, has, (rest, spelled, none)) =
    rw (lexed-from bytes tokens has, services_again (whole_input tokens (length bytes)) rest tree spelled none) refl

pub test_complete : (bytes : List ℕ) (tree : TestTree) → HasTest bytes tree → test_of bytes ≡ Ok tree
unfolding test_of
test_complete bytes tree (tokens, has, (rest, spelled, none)) =
    rw (lexed-from bytes tokens has, test_again (whole_input tokens (length bytes)) rest tree spelled none) refl
