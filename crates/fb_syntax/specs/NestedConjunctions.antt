-- Conjunctions of which each is the first operand of the next: each but the outermost stands in parentheses.
use Rattle.std.specs.Prelude.{ℕ, zero, suc, true, [], ◌∷◌, codes}
use Rattle.fb_base.specs.declared.kind.Kind.TheVariants as kind
use Rattle.fb_syntax.specs.Trees.{Expression, BoolLiteral, Conjunction, NoExpressions, AndExpressions, Return, NoStatements, AndStatements, ServicesTree}

abbrev pub nested_conjunctions : ℕ → Expression
nested_conjunctions zero = BoolLiteral true
nested_conjunctions (suc count) =
    Conjunction (AndExpressions (nested_conjunctions count) (AndExpressions (BoolLiteral true) NoExpressions))

-- one service with one method, which returns the expression
abbrev pub returning : Expression → ServicesTree
returning e =
    record {
      services =
          record {
            name = codes "a";
            methods = record { name = codes "b"; params = []; gives = kind.Bool; body = AndStatements (Return e) NoStatements } ∷ [];
          } ∷ [];
    }
