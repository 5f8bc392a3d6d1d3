-- What the services and the test of every text keep.
use Rattle.std.proofs.Common.{ℕ, ◌≤◌, List, length, refl, Result, Ok, Err, IfOk, arith}
use Rattle.std.specs.List.{AllByRecursion}
use Rattle.std.proofs.lemmas.List.Elements.{All-from_recursion}
use Rattle.fb_syntax.specs.declared.sign.Sign.TheVariants as sign
use Rattle.fb_syntax.specs.declared.reserved.Reserved.TheVariants as word
use Rattle.fb_syntax.specs.declared.token.Token.{Token}
use Rattle.fb_syntax.specs.declared.parse_error.ParseError.{ParseError}
use Rattle.fb_syntax.specs.declared.services.Services.{Services}
use Rattle.fb_syntax.specs.declared.test.Test.{Test}
use Rattle.fb_syntax.specs.Trees.{Parameter, MethodTree, ServiceTree, ServicesTree, TestTree}
use Rattle.fb_syntax.specs.Views.{view_services, view_test}
use Rattle.fb_syntax.specs.Counts.{calls_count}
use Rattle.fb_syntax.specs.Kept.{IsFreeName, KeepsMethod, KeepsService, KeepsServicesLimits, KeepsTestLimits}
use Rattle.fb_syntax.specs.Limits.{longest_source, most_services, most_methods, most_params}
use Rattle.fb_syntax.specs.Tokens.{HasTokens}
use Rattle.fb_syntax.specs.TokenKinds.{is_word, is_sign, comma, list_kind}
use Rattle.fb_syntax.specs.Input.{whole_input}
use Rattle.fb_syntax.specs.FileGrammar.{KindSpelled, ParamSpelled, ParamsSpelled, MethodSpelled, ServiceSpelled, SpellsServices, SpellsTest, HasServices, HasTest, IsReadAs}
use Rattle.fb_syntax.proofs.ProperTokens.{tokens_proper}
use Rattle.fb_syntax.proofs.Keeping.{IsFine, Counts, none, each, Keeps, keeps_made, made_plain, keeps_weaker, keeps_or, keeps_pair, keeps_behind, keeps_between, keeps_many, keeps_separated, keeps_at_most}
use Rattle.fb_syntax.proofs.ExpressionKept.{keeps_name, keeps_base, keeps_head}
use Rattle.fb_syntax.proofs.StatementKept.{keeps_body}

keeps_kind : Keeps KindSpelled (λ kind. Unit {0}) none
keeps_kind = keeps_or (keeps_weaker (λ base h. tt) keeps_base) (made_plain list_kind (λ base h. tt) keeps_head)

abbrev IsNamed : Parameter → Type 0
IsNamed param = IsFreeName param.name

keeps_param : Keeps ParamSpelled IsNamed none
keeps_param = made_plain (λ p. record { name = p.0; kind = p.1 }) (λ p h. h.0) (keeps_pair keeps_name (keeps_behind (is_sign sign.Colon) keeps_kind))

keeps_params : Keeps ParamsSpelled (λ params. (length params ≤ most_params) × AllByRecursion IsNamed params) none
keeps_params = keeps_between (is_sign sign.OpenParen) (is_sign sign.CloseParen) (keeps_at_most most_params (keeps_separated comma keeps_param))

abbrev of_method : Counts MethodTree
of_method = record { calls = λ method n. calls_count method.body; statements = λ method. 0 }

keeps_method : Keeps MethodSpelled KeepsMethod of_method
keeps_method =
    keeps_made (λ p. record { name = p.0; params = p.1.0; gives = p.1.1.0; body = p.1.1.1 })
    (record {
      is = λ p h. record { named = h.0; params_named = All-from_recursion IsNamed p.1.0 h.1.0.1; params_counted = h.1.0.0; body = h.1.1.1 };
      calls = λ p n h. refl;
      statements = λ p h. omega arith;
    })
    (keeps_behind (is_word word.Method) (keeps_pair keeps_name (keeps_pair keeps_params (keeps_behind (is_sign sign.Arrow) (keeps_pair keeps_kind keeps_body)))))

abbrev of_service : Counts ServiceTree
of_service = record { calls = λ service n. (each of_method).calls service.methods n; statements = λ service. 0 }

keeps_service : Keeps ServiceSpelled KeepsService of_service
keeps_service =
    keeps_made (λ p. record { name = p.0; methods = p.1 })
    (record {
      is = λ p h. record { named = h.0; methods_counted = h.1.0; methods = All-from_recursion KeepsMethod p.1 h.1.1 };
      calls = λ p n h. refl;
      statements = λ p h. omega arith;
    })
    (keeps_behind (is_word word.Service)
    (keeps_pair keeps_name (keeps_between (is_sign sign.OpenBrace) (is_sign sign.CloseBrace) (keeps_at_most most_methods (keeps_many keeps_method)))))

abbrev of_services : Counts ServicesTree
of_services = record { calls = λ tree n. (each of_service).calls tree.services n; statements = λ tree. 0 }

keeps_services : Keeps SpellsServices KeepsServicesLimits of_services
keeps_services =
    keeps_made (λ list. record { services = list })
    (record {
      is = λ list h. record { services_counted = h.0; services = All-from_recursion KeepsService list h.1 };
      calls = λ list n h. refl;
      statements = λ list h. omega arith;
    })
    (keeps_at_most most_services (keeps_many keeps_service))

abbrev of_test : Counts TestTree
of_test = record { calls = λ test n. calls_count test.body; statements = λ test. 0 }

keeps_test : Keeps SpellsTest KeepsTestLimits of_test
keeps_test =
    keeps_made (λ p. record { name = p.0; body = p.1 })
    (record { is = λ p h. record { named = h.0; body = h.1 }; calls = λ p n h. refl; statements = λ p h. omega arith })
    (keeps_behind (is_word word.Test) (keeps_pair keeps_name keeps_body))

-- ---- texts

whole_fine : (bytes : List ℕ) (tokens : List Token) → length bytes ≤ longest_source → HasTokens bytes tokens → IsFine (whole_input tokens (length bytes))
whole_fine bytes tokens short h =
    let all = tokens_proper bytes tokens h in
    record { proper = all.0; short = omega (arith, all.1, short); called = omega arith }

pub services_kept : (bytes : List ℕ) (tree : ServicesTree) → length bytes ≤ longest_source → HasServices bytes tree → KeepsServicesLimits tree
services_kept bytes tree short (tokens, has, (rest, spelled, ends)) =
    (keeps_services.kept (whole_input tokens (length bytes)) rest tree (whole_fine bytes tokens short has) spelled).is

pub test_kept : (bytes : List ℕ) (tree : TestTree) → length bytes ≤ longest_source → HasTest bytes tree → KeepsTestLimits tree
test_kept bytes tree short (tokens, has, (rest, spelled, ends)) =
    (keeps_test.kept (whole_input tokens (length bytes)) rest tree (whole_fine bytes tokens short has) spelled).is

-- what is read keeps the limits

pub services_limits : (bytes : List ℕ) (result : Result Services ParseError) → IsReadAs view_services HasServices bytes result → length bytes ≤ longest_source
    → IfOk result (λ services. KeepsServicesLimits (view_services services))
services_limits bytes (Ok services) h short = services_kept bytes (view_services services) short h
services_limits bytes (Err why) h short = tt

pub test_limits : (bytes : List ℕ) (result : Result Test ParseError) → IsReadAs view_test HasTest bytes result → length bytes ≤ longest_source
    → IfOk result (λ test. KeepsTestLimits (view_test test))
test_limits bytes (Ok test) h short = test_kept bytes (view_test test) short h
test_limits bytes (Err why) h short = tt
