-- Services and tests that some tokens spell are spelled by their canonical tokens.
use Rattle.std.proofs.Common.{◌≡◌, ℕ, Some, List, [], ◌∷◌, ◌++◌, append_assoc, append-nil, map, length, refl, sym, ap, ◌∙◌, subst, arith, inl, inr}
use Rattle.std.specs.List.{flat_map}
use Rattle.fb_base.specs.declared.kind.Kind.{Kind}
use Rattle.fb_base.specs.declared.kind.Kind.TheVariants as kind
use Rattle.fb_syntax.specs.declared.sign.Sign.TheVariants as sign
use Rattle.fb_syntax.specs.declared.reserved.Reserved.TheVariants as word
use Rattle.fb_syntax.specs.declared.token.What.{What}
use Rattle.fb_syntax.specs.declared.token.What.TheVariants as what
use Rattle.fb_syntax.specs.Trees.{Statements, Parameter, MethodTree, ServiceTree, ServicesTree, TestTree}
use Rattle.fb_syntax.specs.Keywords.{reserved_text}
use Rattle.fb_syntax.specs.Limits.{most_services, most_methods, most_params}
use Rattle.fb_syntax.specs.Input.{Input}
use Rattle.fb_syntax.specs.TokenKinds.{name_of, is_word, is_sign, comma, base_of, list_kind}
use Rattle.fb_syntax.specs.Spans.{Spelling, As, Pair, Behind, Between, Many, AtMost, Listed}
use Rattle.fb_syntax.specs.ExpressionGrammar.{ListHead}
use Rattle.fb_syntax.specs.StatementGrammar.{SpellsBody}
use Rattle.fb_syntax.specs.FileGrammar.{KindSpelled, ParamSpelled, ParamsSpelled, MethodSpelled, ServiceSpelled, SpellsServices, SpellsTest}
use Rattle.fb_print.specs.Items.{Blank, Line, keyword, name, sign, comma_separated}
use Rattle.fb_print.specs.Expressions.{kind_items}
use Rattle.fb_print.specs.Statements.{block_items}
use Rattle.fb_print.specs.Services.{param_items, params_items, gives_items, method_items, service_items, services_items, test_items}
use Rattle.fb_print.specs.Spelled.{item_tokens, tokens_of}
use Rattle.fb_print.proofs.Flattening.{flat_join}
use Rattle.fb_print.proofs.KnownTokens.{word_known, sign_known, base_printed}
use Rattle.fb_print.proofs.Respelling.{tokens_are, first_found, respells_pair, respells_behind, respells_between, respells_too, respells_made, all_tokens, respells_many}
use Rattle.fb_print.proofs.Standing.{tokens_of-append}
use Rattle.fb_print.proofs.ExpressionRespelled.{name_respelled, base_again, head_again}
use Rattle.fb_print.proofs.StatementRespelled.{Respelled, block_tokens, body_again}

-- ---- kinds and parameters

abbrev kind_tokens : Kind → List What
kind_tokens k = tokens_of (kind_items k)

list_tokens : (base : Kind) (old : What) → base_of old ≡ Some base
    → kind_tokens (list_kind base) ≡ what.Word (reserved_text word.List) ∷ what.Sign sign.Less ∷ kind_tokens base ++ what.Sign sign.Greater ∷ []
list_tokens kind.Int old is = refl
list_tokens kind.Bool old is = refl
list_tokens kind.Text old is = refl
list_tokens kind.Ints old is = absurd (let one = (base_printed old kind.Ints is).1 in let many = ap length one in omega arith)
list_tokens kind.Bools old is = absurd (let one = (base_printed old kind.Bools is).1 in let many = ap length one in omega arith)
list_tokens kind.Texts old is = absurd (let one = (base_printed old kind.Texts is).1 in let many = ap length one in omega arith)

kind_again : (k : Kind) (from to : Input) → KindSpelled from to k → Respelled KindSpelled (kind_tokens k) k from to
kind_again k from to (inl this) = respells_too {This = As base_of} (kind_tokens k) k k from to (λ start rest again. inl again) (base_again k from to this)
kind_again k from to (inr (base, (mid, list, (first, less, (late, (found, behind), greater))), is)) =
    let one = first_found base_of first.left base found in
    let whole = list_kind base in
    subst (λ (x : Kind). Respelled KindSpelled (kind_tokens x) x from to) (sym is)
    (tokens_are KindSpelled whole from to _ (kind_tokens whole) (sym (list_tokens base one.0.what one.3))
    (respells_too {This = ListHead} _ base whole from to (λ start rest again. inr (base, again, refl)) (head_again base from to (mid, list, (first, less, (late, (found, behind), greater))))))

abbrev param_tokens : Parameter → List What
param_tokens param = tokens_of (param_items param)

param_again : (param : Parameter) (from to : Input) → ParamSpelled from to param → Respelled ParamSpelled (param_tokens param) param from to
param_again param from to ((x, k), (mid, named, (late, colon, this)), is) =
    let make : List ℕ × Kind → Parameter = λ p. record { name = p.0; kind = p.1 } in
    subst (λ (p : Parameter). Respelled ParamSpelled (param_tokens p) p from to) (sym is)
    (respells_made {This = Pair (As name_of) (Behind (is_sign sign.Colon) KindSpelled)} make (param_tokens (make (x, k))) (x, k) from to
    (respells_pair {That = Behind (is_sign sign.Colon) KindSpelled} (what.Word x ∷ []) (what.Sign sign.Colon ∷ kind_tokens k) x k from mid to (name_respelled x from mid named)
    (respells_behind {This = KindSpelled} (is_sign sign.Colon) (what.Sign sign.Colon) (kind_tokens k) k mid late to refl (sign_known sign.Colon) colon (kind_again k late to this))))

-- parameters with commas between them
abbrev listed_params : List Parameter → List What
listed_params params = tokens_of (comma_separated (map param_items params))

abbrev behind_comma : Parameter → List What
behind_comma param = what.Sign sign.Comma ∷ param_tokens param

further_params : (params : List Parameter) → flat_map (λ thing. what.Sign sign.Comma ∷ tokens_of thing) (map param_items params) ≡ all_tokens behind_comma params
further_params [] = refl
further_params (param ∷ params) = ap (λ l. behind_comma param ++ l) (further_params params)

listed_params_are : (param : Parameter) (params : List Parameter) → listed_params (param ∷ params) ≡ param_tokens param ++ all_tokens behind_comma params
listed_params_are param params =
    flat_join item_tokens (sign sign.Comma ∷ Blank ∷ []) (map param_items (param ∷ params)) ∙ ap (λ l. param_tokens param ++ l) (further_params params)

further_again : (param : Parameter) (from to : Input) → Behind comma ParamSpelled from to param → Respelled (Behind comma ParamSpelled) (behind_comma param) param from to
further_again param from to (mid, took, this) =
    respells_behind {This = ParamSpelled} comma (what.Sign sign.Comma) (param_tokens param) param from mid to refl (sign_known sign.Comma) took (param_again param mid to this)

listed_params_again : (params : List Parameter) (from to : Input) → Listed most_params ParamSpelled from to params
    → Respelled (Listed most_params ParamSpelled) (listed_params params) params from to
listed_params_again [] from to (few, none) =
    respells_too {This = Many (Behind comma ParamSpelled)} [] [] [] from to (λ start rest again. (few, again))
    (respells_many (Behind comma ParamSpelled) (Behind comma ParamSpelled) behind_comma further_again [] from to none)
listed_params_again (param ∷ params) from to (few, (mid, this, more)) =
    tokens_are (Listed most_params ParamSpelled) (param ∷ params) from to _ (listed_params (param ∷ params)) (sym (listed_params_are param params))
    (respells_too {This = Pair ParamSpelled (Many (Behind comma ParamSpelled))} _ (param, params) (param ∷ params) from to (λ start rest again. (few, again))
    (respells_pair {That = Many (Behind comma ParamSpelled)} (param_tokens param) (all_tokens behind_comma params) param params from mid to (param_again param from mid this)
    (respells_many (Behind comma ParamSpelled) (Behind comma ParamSpelled) behind_comma further_again params mid to more)))

abbrev params_tokens : List Parameter → List What
params_tokens params = what.Sign sign.OpenParen ∷ listed_params params ++ what.Sign sign.CloseParen ∷ []

params_again : (params : List Parameter) (from to : Input) → ParamsSpelled from to params → Respelled ParamsSpelled (params_tokens params) params from to
params_again params from to (mid, open_, (late, these, close)) =
    respells_between (Listed most_params ParamSpelled) (is_sign sign.OpenParen) (is_sign sign.CloseParen) (what.Sign sign.OpenParen) (what.Sign sign.CloseParen) (listed_params params) params from mid late to
    refl refl (sign_known sign.OpenParen) (sign_known sign.CloseParen) open_ close (listed_params_again params mid late these)

-- ---- methods and services

abbrev method_tokens : MethodTree → List What
method_tokens method = tokens_of (method_items method)

-- behind the sign `->`
abbrev GivesBody : Spelling (Kind × Statements)
GivesBody = Pair KindSpelled SpellsBody

abbrev signature_tokens : MethodTree → List What
signature_tokens method =
    params_tokens method.params ++ (what.Sign sign.Arrow ∷ kind_tokens method.gives ++ block_tokens 1 method.body)

method_is : (method : MethodTree) → method_tokens method ≡ what.Word (reserved_text word.Method) ∷ what.Word method.name ∷ signature_tokens method
method_is method =
    let head = keyword word.Method ∷ name method.name ∷ params_items method.params in
    let gives = gives_items method.gives in
    let body = block_items 1 method.body in
    tokens_of-append (head ++ gives) body
    ∙ ap (λ l. l ++ tokens_of body) (tokens_of-append head gives)
    ∙ append_assoc (tokens_of head) (tokens_of gives) (tokens_of body)
    ∙ ap (λ l. what.Word (reserved_text word.Method) ∷ what.Word method.name ∷ what.Sign sign.OpenParen ∷ l ++ (tokens_of gives ++ tokens_of body))
    (tokens_of-append (comma_separated (map param_items method.params)) (sign sign.CloseParen ∷ []))

method_again : (method : MethodTree) (from to : Input) → MethodSpelled from to method → Respelled MethodSpelled (method_tokens method) method from to
method_again method from to ((x, (params, (gives, body))), (mid, took, (late, named, (next, these, (far, arrow, (last, this, block))))), is) =
    let make : List ℕ × (List Parameter × (Kind × Statements)) → MethodTree = λ p. record { name = p.0; params = p.1.0; gives = p.1.1.0; body = p.1.1.1 } in
    let whole = make (x, (params, (gives, body))) in
    let body_part = kind_tokens gives ++ block_tokens 1 body in
    subst (λ (m : MethodTree). Respelled MethodSpelled (method_tokens m) m from to) (sym is)
    (tokens_are MethodSpelled whole from to _ (method_tokens whole) (sym (method_is whole))
    (respells_made {This = Behind (is_word word.Method) (Pair (As name_of) (Pair ParamsSpelled (Behind (is_sign sign.Arrow) GivesBody)))} make _ (x, (params, (gives, body))) from to
    (respells_behind {This = Pair (As name_of) (Pair ParamsSpelled (Behind (is_sign sign.Arrow) GivesBody))} (is_word word.Method) (what.Word (reserved_text word.Method)) _ (x, (params, (gives, body))) from mid to
    refl (word_known word.Method) took
    (respells_pair {That = Pair ParamsSpelled (Behind (is_sign sign.Arrow) GivesBody)} (what.Word x ∷ []) (params_tokens params ++ (what.Sign sign.Arrow ∷ body_part)) x (params, (gives, body)) mid late to (name_respelled x mid late named)
    (respells_pair {That = Behind (is_sign sign.Arrow) GivesBody} (params_tokens params) (what.Sign sign.Arrow ∷ body_part) params (gives, body) late next to (params_again params late next these)
    (respells_behind {This = GivesBody} (is_sign sign.Arrow) (what.Sign sign.Arrow) body_part (gives, body) next far to refl (sign_known sign.Arrow) arrow
    (respells_pair {That = SpellsBody} (kind_tokens gives) (block_tokens 1 body) gives body far last to (kind_again gives far last this) (body_again 1 body last to block))))))))

methods_tokens : (methods : List MethodTree) → tokens_of (flat_map (λ method. Line 1 ∷ method_items method) methods) ≡ all_tokens method_tokens methods
methods_tokens [] = refl
methods_tokens (method ∷ methods) =
    tokens_of-append (method_items method) (flat_map (λ other. Line 1 ∷ method_items other) methods) ∙ ap (λ l. method_tokens method ++ l) (methods_tokens methods)

abbrev service_tokens : ServiceTree → List What
service_tokens service = tokens_of (service_items service)

service_is : (service : ServiceTree)
    → service_tokens service
    ≡ what.Word (reserved_text word.Service) ∷ what.Word service.name ∷ what.Sign sign.OpenBrace ∷ all_tokens method_tokens service.methods ++ what.Sign sign.CloseBrace ∷ []
service_is service =
    let methods = flat_map (λ method. Line 1 ∷ method_items method) service.methods in
    let close = Line 0 ∷ sign sign.CloseBrace ∷ [] in
    ap (λ l. what.Word (reserved_text word.Service) ∷ what.Word service.name ∷ what.Sign sign.OpenBrace ∷ l)
    (tokens_of-append (methods ++ close) (Line 0 ∷ []) ∙ append-nil (tokens_of (methods ++ close))
    ∙ tokens_of-append methods close ∙ ap (λ l. l ++ what.Sign sign.CloseBrace ∷ []) (methods_tokens service.methods))

service_again : (service : ServiceTree) (from to : Input) → ServiceSpelled from to service → Respelled ServiceSpelled (service_tokens service) service from to
service_again service from to ((x, methods), (mid, took, (late, named, (next, open_, (far, (few, many), close)))), is) =
    let make : List ℕ × List MethodTree → ServiceTree = λ p. record { name = p.0; methods = p.1 } in
    let whole = make (x, methods) in
    let Methods : Spelling (List MethodTree) = AtMost most_methods (Many MethodSpelled) in
    let Inside : Spelling (List MethodTree) = Between (is_sign sign.OpenBrace) Methods (is_sign sign.CloseBrace) in
    subst (λ (s : ServiceTree). Respelled ServiceSpelled (service_tokens s) s from to) (sym is)
    (tokens_are ServiceSpelled whole from to _ (service_tokens whole) (sym (service_is whole))
    (respells_made {This = Behind (is_word word.Service) (Pair (As name_of) Inside)} make _ (x, methods) from to
    (respells_behind {This = Pair (As name_of) Inside} (is_word word.Service) (what.Word (reserved_text word.Service)) _ (x, methods) from mid to refl (word_known word.Service) took
    (respells_pair {That = Inside} (what.Word x ∷ []) (what.Sign sign.OpenBrace ∷ all_tokens method_tokens methods ++ what.Sign sign.CloseBrace ∷ []) x methods mid late to (name_respelled x mid late named)
    (respells_between Methods (is_sign sign.OpenBrace) (is_sign sign.CloseBrace) (what.Sign sign.OpenBrace) (what.Sign sign.CloseBrace) (all_tokens method_tokens methods) methods late next far to
    refl refl (sign_known sign.OpenBrace) (sign_known sign.CloseBrace) open_ close
    (respells_too {This = Many MethodSpelled} (all_tokens method_tokens methods) methods methods next far (λ start rest again. (few, again))
    (respells_many MethodSpelled MethodSpelled method_tokens method_again methods next far many)))))))

-- ---- whole texts

services_tokens : (services : List ServiceTree) → tokens_of (flat_map service_items services) ≡ all_tokens service_tokens services
services_tokens [] = refl
services_tokens (service ∷ services) =
    tokens_of-append (service_items service) (flat_map service_items services) ∙ ap (λ l. service_tokens service ++ l) (services_tokens services)

pub services_again : (tree : ServicesTree) (from to : Input) → SpellsServices from to tree → Respelled SpellsServices (tokens_of (services_items tree)) tree from to
services_again tree from to (list, (few, many), is) =
    let make : List ServiceTree → ServicesTree = λ services. record { services = services } in
    subst (λ (t : ServicesTree). Respelled SpellsServices (tokens_of (services_items t)) t from to) (sym is)
    (tokens_are SpellsServices (make list) from to _ (tokens_of (services_items (make list))) (sym (services_tokens list))
    (respells_made {This = AtMost most_services (Many ServiceSpelled)} make (all_tokens service_tokens list) list from to
    (respells_too {This = Many ServiceSpelled} (all_tokens service_tokens list) list list from to (λ start rest again. (few, again))
    (respells_many ServiceSpelled ServiceSpelled service_tokens service_again list from to many))))

test_is : (test : TestTree) → tokens_of (test_items test) ≡ what.Word (reserved_text word.Test) ∷ what.Word test.name ∷ block_tokens 0 test.body
test_is test =
    let whole = keyword word.Test ∷ name test.name ∷ block_items 0 test.body in
    tokens_of-append whole (Line 0 ∷ []) ∙ append-nil (tokens_of whole)

pub test_again : (test : TestTree) (from to : Input) → SpellsTest from to test → Respelled SpellsTest (tokens_of (test_items test)) test from to
test_again test from to ((x, body), (mid, took, (late, named, this)), is) =
    let make : List ℕ × Statements → TestTree = λ p. record { name = p.0; body = p.1 } in
    let whole = make (x, body) in
    subst (λ (t : TestTree). Respelled SpellsTest (tokens_of (test_items t)) t from to) (sym is)
    (tokens_are SpellsTest whole from to _ (tokens_of (test_items whole)) (sym (test_is whole))
    (respells_made {This = Behind (is_word word.Test) (Pair (As name_of) SpellsBody)} make _ (x, body) from to
    (respells_behind {This = Pair (As name_of) SpellsBody} (is_word word.Test) (what.Word (reserved_text word.Test)) _ (x, body) from mid to refl (word_known word.Test) took
    (respells_pair {That = SpellsBody} (what.Word x ∷ []) (block_tokens 0 body) x body mid late to (name_respelled x mid late named) (body_again 0 body late to this)))))
