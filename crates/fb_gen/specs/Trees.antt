-- The trees of a number and a size.
use Rattle.std.specs.Prelude.{ℕ, zero, suc, ◌+◌, ◌-◌, ◌==◌, ℤ, pos, Bool, true, false, Option, None, List, [], ◌∷◌, ◌++◌, map, codes, decimal, if◌then◌else◌}
use Rattle.std.specs.List.{flat_map}
use Rattle.fb_base.specs.declared.kind.Kind.TheVariants as kind
use Rattle.fb_base.specs.declared.operator.Op2.TheVariants as op
use Rattle.fb_syntax.specs.Trees.{Expression, IntLiteral, Variable, Comparison, Chain, Disjunction, Injected, Expressions, AndExpressions, NoExpressions, AndLinks, NoLinks}
use Rattle.fb_syntax.specs.Trees.{Statement, Let, Assign, Return, Call, Assert, Statements, Handlers, AndHandlers, NoHandlers}
use Rattle.fb_syntax.specs.Trees.{MethodTree, ServiceTree, ServicesTree, TestTree}
use Rattle.fb_syntax.specs.Views.{expressions_of, statements_of}
use Rattle.fb_gen.specs.Draws.{parent_of, is_handled, later_services}

-- `s1`, `s2` and so on
abbrev pub service_name : ℕ → List ℕ
service_name service = codes "s" ++ decimal service

-- ---- a service

-- `left + right`
abbrev pub sum_of : List ℕ → Expression → Expression
sum_of left right = Chain (Variable left) (AndLinks op.Add right NoLinks)

-- `v = 0;`
abbrev pub handled_by : Statement
handled_by = Assign (codes "v") (IntLiteral (pos 0))

-- `on any { v = 0; }`, or nothing
abbrev pub handlers_if : Bool → Handlers
handlers_if true = AndHandlers None (statements_of (handled_by ∷ [])) NoHandlers
handlers_if false = NoHandlers

-- `call v = sJ.m(a + 1)`, with its handler or without
abbrev pub call_of : ℕ → Bool → Statement
call_of service handled =
    Call (codes "v") (service_name service) (codes "m") (expressions_of (sum_of (codes "a") (IntLiteral (pos 1)) ∷ [])) (handlers_if handled)

-- `t = t + v;`
abbrev pub summed : Statement
summed = Assign (codes "t") (sum_of (codes "t") (Variable (codes "v")))

abbrev pub called_and_summed : ℕ → Bool → List Statement
called_and_summed callee handled = call_of callee handled ∷ summed ∷ []

-- where the service calls that one
abbrev pub statements_for : ℕ → ℕ → ℕ → List Statement
statements_for number service callee = if parent_of number callee == service then called_and_summed callee (is_handled number callee) else []

-- `let t = a; let v = 0;`, its calls in the order of their services, and `return t;`
abbrev pub body_of : ℕ → ℕ → ℕ → List Statement
body_of number size service =
    Let (codes "t") (Variable (codes "a")) ∷ Let (codes "v") (IntLiteral (pos 0))
    ∷ flat_map (statements_for number service) (later_services (size - 1)) ++ Return (Variable (codes "t")) ∷ []

-- `m(a: int) -> int`
abbrev pub method_of : ℕ → ℕ → ℕ → MethodTree
method_of number size service = record {
  name = codes "m";
  params = record { name = codes "a"; kind = kind.Int } ∷ [];
  gives = kind.Int;
  body = statements_of (body_of number size service);
}

abbrev pub service_of : ℕ → ℕ → ℕ → ServiceTree
service_of number size service = record { name = service_name service; methods = method_of number size service ∷ [] }

-- ---- the files

abbrev pub services_of : ℕ → ℕ → ServicesTree
services_of number size = record { services = map (service_of number size) (1 ∷ later_services (size - 1)) }

-- `call r = s1.m(1);`
abbrev pub test_call : Statement
test_call = Call (codes "r") (service_name 1) (codes "m") (expressions_of (IntLiteral (pos 1) ∷ [])) NoHandlers

-- `r > 0`
abbrev pub test_comparison : Expression
test_comparison = Comparison op.Gt (Variable (codes "r")) (IntLiteral (pos 0))

-- `r > 0 or injected`
abbrev pub test_claim : Expression
test_claim = Disjunction (expressions_of (test_comparison ∷ Injected ∷ []))

-- the same for each number and size: `let r = 0;`, the call and the claim
abbrev pub test_tree : TestTree
test_tree = record {
  name = codes "trial";
  body = statements_of (Let (codes "r") (IntLiteral (pos 0)) ∷ test_call ∷ Assert test_claim ∷ []);
}
