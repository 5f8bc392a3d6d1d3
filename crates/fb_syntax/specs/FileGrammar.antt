-- Which tokens spell services and a test, and which texts have such a tree.
use Rattle.std.specs.Prelude.{◌≡◌, ℕ, List, [], length, Result, Ok, Err}
use Rattle.fb_base.specs.declared.kind.Kind.{Kind}
use Rattle.fb_syntax.specs.declared.sign.Sign.TheVariants as sign
use Rattle.fb_syntax.specs.declared.reserved.Reserved.TheVariants as word
use Rattle.fb_syntax.specs.declared.token.Token.{Token}
use Rattle.fb_syntax.specs.declared.parse_error.ParseError.{ParseError}
use Rattle.fb_syntax.specs.declared.parse_error.ParseError.TheVariants as errors
use Rattle.fb_syntax.specs.Trees.{Parameter, MethodTree, ServiceTree, ServicesTree, TestTree}
use Rattle.fb_syntax.specs.Limits.{most_services, most_methods, most_params}
use Rattle.fb_syntax.specs.Tokens.{HasTokens}
use Rattle.fb_syntax.specs.Input.{Input, whole_input}
use Rattle.fb_syntax.specs.TokenKinds.{name_of, is_word, is_sign, base_of, list_kind}
use Rattle.fb_syntax.specs.Spans.{Spelling, As, Or, Pair, Behind, Between, Made, Many, AtMost, Listed}
use Rattle.fb_syntax.specs.ExpressionGrammar.{ListHead}
use Rattle.fb_syntax.specs.StatementGrammar.{SpellsBody}

abbrev pub KindSpelled : Spelling Kind
KindSpelled = Or (As base_of) (Made list_kind ListHead)

abbrev pub ParamSpelled : Spelling Parameter
ParamSpelled = Made (λ p. record { name = p.0; kind = p.1 }) (Pair (As name_of) (Behind (is_sign sign.Colon) KindSpelled))

abbrev pub ParamsSpelled : Spelling (List Parameter)
ParamsSpelled = Between (is_sign sign.OpenParen) (Listed most_params ParamSpelled) (is_sign sign.CloseParen)

abbrev pub MethodSpelled : Spelling MethodTree
MethodSpelled =
    Made (λ p. record { name = p.0; params = p.1.0; gives = p.1.1.0; body = p.1.1.1 })
    (Behind (is_word word.Method) (Pair (As name_of) (Pair ParamsSpelled (Behind (is_sign sign.Arrow) (Pair KindSpelled SpellsBody)))))

abbrev pub ServiceSpelled : Spelling ServiceTree
ServiceSpelled =
    Made (λ p. record { name = p.0; methods = p.1 })
    (Behind (is_word word.Service)
    (Pair (As name_of) (Between (is_sign sign.OpenBrace) (AtMost most_methods (Many MethodSpelled)) (is_sign sign.CloseBrace))))

abbrev pub SpellsServices : Spelling ServicesTree
SpellsServices = Made (λ list. record { services = list }) (AtMost most_services (Many ServiceSpelled))

abbrev pub SpellsTest : Spelling TestTree
SpellsTest = Made (λ p. record { name = p.0; body = p.1 }) (Behind (is_word word.Test) (Pair (As name_of) SpellsBody))

-- all tokens of the text spell the tree
abbrev pub HasTree : {Tree : Type 0} → Spelling Tree → List ℕ → Tree → Type 0
HasTree Spells bytes tree = (tokens : List Token) × HasTokens bytes tokens
    × ((rest : Input) × Spells (whole_input tokens (length bytes)) rest tree × (rest.left ≡ []))

abbrev pub HasServices : List ℕ → ServicesTree → Type 0
HasServices = HasTree SpellsServices

abbrev pub HasTest : List ℕ → TestTree → Type 0
HasTest = HasTree SpellsTest

-- what is returned, seen by `view`, is the text's tree; where the text is refused, it has none
abbrev pub IsReadAs : {Made Tree : Type 0} → (Made → Tree) → (List ℕ → Tree → Type 0) → List ℕ → Result Made ParseError → Type 0
IsReadAs view Has bytes (Ok made) = Has bytes (view made)
IsReadAs {Tree = Tree} view Has bytes (Err (errors.Refused why)) = (tree : Tree) → ¬ Has bytes tree
IsReadAs view Has bytes (Err errors.Memory) = Unit {0}
