-- What is read as services or a test is spelled so, and so is what a text gives.
use Rattle.std.proofs.Common.{◌≡◌, ℕ, Result, Ok, Err, List, [], ◌∷◌, length, refl, sym, ap, ◌∙◌, subst, inl, inr, arith}
use Rattle.fb_base.specs.declared.kind.Kind.{Kind}
use Rattle.fb_syntax.specs.declared.sign.Sign.TheVariants as sign
use Rattle.fb_syntax.specs.declared.reserved.Reserved.TheVariants as word
use Rattle.fb_syntax.specs.declared.token.Token.{Token}
use Rattle.fb_syntax.specs.declared.parse_error.ParseWhy.{ParseWhy}
use Rattle.fb_syntax.specs.declared.parse_error.ParseWhy.TheVariants.{TooMany}
use Rattle.fb_syntax.specs.Trees.{Parameter, MethodTree, ServiceTree, ServicesTree, TestTree, Statements}
use Rattle.fb_syntax.specs.Limits.{most_services, most_methods, most_params}
use Rattle.fb_syntax.specs.Lexing.{lexed}
use Rattle.fb_syntax.specs.Input.{Input, place, by_first, whole_input}
use Rattle.fb_syntax.specs.TokenKinds.{name_of, is_word, is_sign, base_of, list_kind}
use Rattle.fb_syntax.specs.Reading.{Reading, ◌>>=◌, give, unexpected}
use Rattle.fb_syntax.specs.ExpressionReading.{list_head}
use Rattle.fb_syntax.specs.FileReading.{kind, param, beyond_params, params, method, service, at_end, services, whole_test, thing_of, read_tokens, services_of, test_of}
use Rattle.fb_syntax.specs.Spans.{Spelling, As, Pair, Behind, Before, Between, Made, Many, AtMost, Listed}
use Rattle.fb_syntax.specs.ExpressionGrammar.{ListHead}
use Rattle.fb_syntax.specs.StatementGrammar.{SpellsBody}
use Rattle.fb_syntax.specs.FileGrammar.{KindSpelled, ParamSpelled, ParamsSpelled, MethodSpelled, ServiceSpelled, SpellsServices, SpellsTest, HasTree, HasServices, HasTest}
use Rattle.fb_syntax.proofs.Lexed.{HasTokens-from}
use Rattle.fb_syntax.proofs.Turns.{ok_is}
use Rattle.fb_syntax.proofs.Sound.{Found, Reads, Given, FoundAfter, Then, reads_then, reads_as, reads_give, reads_made, reads_behind, reads_behind_made, reads_pair, reads_if, reads_before, reads_before_made, found_made, reads_at_most, reads_items, after_taken, took_made}
use Rattle.fb_syntax.proofs.ExpressionSound.{reads_name, reads_base, reads_head}
use Rattle.fb_syntax.proofs.StatementSound.{body_sound}

-- ---- parts of methods

reads_kind : Reads kind KindSpelled
unfolding kind
reads_kind =
    reads_as _ KindSpelled (λ start rest k. elim [ inl list ↦ inr list | inr base ↦ inl base ])
    (reads_if (is_word word.List) (Made list_kind ListHead) (As base_of)
    (λ input came k rest h. found_made list_kind ListHead (list_head input) input rest k (λ base read. reads_head input came base rest read) h)
    reads_base)

reads_param : Reads param ParamSpelled
unfolding param
reads_param =
    reads_pair (λ p. record { name = p.0; kind = p.1 }) (As name_of) (Behind (is_sign sign.Colon) KindSpelled) reads_name (λ variable.
    reads_behind_made (is_sign sign.Colon) (λ its. record { name = variable; kind = its }) KindSpelled
    (reads_made (λ its. record { name = variable; kind = its }) KindSpelled reads_kind))

reads_params : Reads params ParamsSpelled
unfolding params
reads_params =
    reads_behind (is_sign sign.OpenParen) (Before (Listed most_params ParamSpelled) (is_sign sign.CloseParen))
    (reads_before (is_sign sign.CloseParen) (Listed most_params ParamSpelled)
    (reads_items most_params sign.CloseParen beyond_params param ParamSpelled (omega arith) reads_param))

-- ---- methods and services

method_found : FoundAfter (is_word word.Method) method MethodSpelled
unfolding method
method_found =
    let Does : Spelling (Kind × Statements) = Pair KindSpelled SpellsBody in
    let Gives : Spelling (List Parameter × (Kind × Statements)) = Pair ParamsSpelled (Behind (is_sign sign.Arrow) Does) in
    let make : List ℕ × (List Parameter × (Kind × Statements)) → MethodTree = λ p. record { name = p.0; params = p.1.0; gives = p.1.1.0; body = p.1.1.1 } in
    after_taken (is_word word.Method) MethodSpelled
    (took_made (is_word word.Method) make (Pair (As name_of) Gives)
    (reads_pair make (As name_of) Gives reads_name (λ its.
    reads_pair (λ p. make (its, p)) ParamsSpelled (Behind (is_sign sign.Arrow) Does) reads_params (λ list.
    reads_behind_made (is_sign sign.Arrow) (λ p. make (its, (list, p))) Does
    (reads_pair (λ p. make (its, (list, p))) KindSpelled SpellsBody reads_kind (λ gives.
    reads_made (λ does. make (its, (list, (gives, does)))) SpellsBody body_sound))))))

service_found : FoundAfter (is_word word.Service) service ServiceSpelled
unfolding service
service_found =
    let Methods : Spelling (List MethodTree) = AtMost most_methods (Many MethodSpelled) in
    let make : List ℕ × List MethodTree → ServiceTree = λ p. record { name = p.0; methods = p.1 } in
    after_taken (is_word word.Service) ServiceSpelled
    (took_made (is_word word.Service) make (Pair (As name_of) (Between (is_sign sign.OpenBrace) Methods (is_sign sign.CloseBrace)))
    (reads_pair make (As name_of) (Between (is_sign sign.OpenBrace) Methods (is_sign sign.CloseBrace)) reads_name (λ its.
    reads_behind_made (is_sign sign.OpenBrace) (λ methods. make (its, methods)) (Before Methods (is_sign sign.CloseBrace))
    (reads_before_made (is_sign sign.CloseBrace) (λ methods. make (its, methods)) Methods
    (reads_at_most (λ at. TooMany (place at)) most_methods (is_word word.Method) method MethodSpelled method_found)))))

-- ---- whole texts

-- nothing is left
abbrev Ends : Spelling (Unit {0})
Ends start rest u = (start ≡ rest) × (rest.left ≡ [])

end_found : (left : List Token) (input : Input) (u : Unit {0}) (rest : Input)
    → input.left ≡ left → by_first left (Ok (tt, input)) (λ _. unexpected input) ≡ Ok (u, rest) → Found Ends input rest u
end_found [] input u rest none h =
    let same = ap (λ (p : Unit {0} × Input). p.1) (ok_is (tt, input) (u, rest) h) in
    subst (λ (r : Input). Found Ends input r u) same (record { spelled = (refl, none); shorter = omega arith })
end_found (first ∷ more) input u rest none h = absurd (let no_way = h in cc)

reads_end : Reads at_end Ends
unfolding at_end
reads_end = record { found = λ input u rest h. end_found input.left input u rest refl h }

-- all is spelled so
abbrev Whole : {A : Type 0} → Spelling A → Spelling A
Whole This start rest x = This start rest x × (rest.left ≡ [])

-- something made of what is read up to the end
reads_whole : {A B : Type 0} {r : Reading A} (make : A → B) (This : Spelling A)
    → Reads r This → Reads (r >>= λ x. (at_end >>= λ _. give (make x))) (Whole (Made make This))
reads_whole make This a =
    reads_as _ (Whole (Made make This))
    (λ start rest y. λ (x, mid, this, (u, end, ends, (same, is))). (
      (x, subst (λ (m : Input). This start m x) (ends.0 ∙ same) this, is),
      ap (λ (i : Input). i.left) (sym same) ∙ ends.1,
    ))
    (reads_then This (λ x. Then Ends (λ _. Given (make x))) a (λ x. reads_then Ends (λ _. Given (make x)) reads_end (λ _. reads_give (make x))))

pub reads_services : Reads services (Whole SpellsServices)
unfolding services
reads_services =
    reads_whole (λ list. record { services = list }) (AtMost most_services (Many ServiceSpelled))
    (reads_at_most (λ at. TooMany (place at)) most_services (is_word word.Service) service ServiceSpelled service_found)

pub reads_test : Reads whole_test (Whole SpellsTest)
unfolding whole_test
reads_test =
    reads_as _ (Whole SpellsTest)
    (λ start rest t. λ (mid, came, (its, at, named, (made, ends))). (((its, made.0), (mid, came, (at, named, made.1)), made.2), ends))
    (reads_behind (is_word word.Test) _ (reads_then (As name_of) _ reads_name (λ its.
    reads_whole (λ does. record { name = its; body = does }) SpellsBody body_sound)))

thing_ok : {A : Type 0} (read : Result (A × Input) ParseWhy) (x : A) → thing_of read ≡ Ok x → (rest : Input) × (read ≡ Ok (x, rest))
thing_ok (Ok read) x h = (read.1, ap (λ thing. Ok (thing, read.1)) (ok_is read.0 x h))
thing_ok (Err why) x h = absurd (let no_way = h in cc)

read_has : {Tree : Type 0} (reading : Reading Tree) (Spells : Spelling Tree) (bytes : List ℕ) (tree : Tree) (tokens : Result (List Token) ParseWhy)
    → Reads reading (Whole Spells) → lexed bytes ≡ tokens → read_tokens reading (length bytes) tokens ≡ Ok tree → HasTree Spells bytes tree
read_has reading Spells bytes tree (Err why) a cut h = absurd (let no_way = h in cc)
read_has reading Spells bytes tree (Ok tokens) a cut h =
    let whole = whole_input tokens (length bytes) in
    let read = thing_ok (reading whole) tree h in
    let f = a.found whole tree read.0 read.1 in
    (tokens, HasTokens-from bytes tokens cut, (read.0, f.spelled.0, f.spelled.1))

pub services_sound : (bytes : List ℕ) (tree : ServicesTree) → services_of bytes ≡ Ok tree → HasServices bytes tree
unfolding services_of
services_sound bytes tree h = read_has services SpellsServices bytes tree (lexed bytes) reads_services refl h

pub test_sound : (bytes : List ℕ) (tree : TestTree) → test_of bytes ≡ Ok tree → HasTest bytes tree
unfolding test_of
test_sound bytes tree h = read_has whole_test SpellsTest bytes tree (lexed bytes) reads_test refl h
