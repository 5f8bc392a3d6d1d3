-- Conjunctions within each other keep the limits exactly where their parentheses do.
use Rattle.std.proofs.Common.{◌≡◌, ℕ, zero, suc, ◌+◌, ◌≤◌, ◌↔◌, [], ◌∷◌, codes, refl, arith}
use Rattle.std.proofs.lemmas.List.Elements.{All-from_recursion, All-head}
use Rattle.fb_base.specs.declared.kind.Kind.TheVariants as kind
use Rattle.fb_syntax.specs.Keywords.{reserved_of}
use Rattle.fb_syntax.specs.Trees.{Expression, Return, NoStatements, AndStatements, MethodTree, ServiceTree}
use Rattle.fb_syntax.specs.Counts.{nesting}
use Rattle.fb_syntax.specs.Limits.{deepest}
use Rattle.fb_syntax.specs.Kept.{IsFreeName, KeepsExpression, KeepsMethod, KeepsService, KeepsServicesLimits}
use Rattle.fb_syntax.specs.NestedConjunctions.{nested_conjunctions, returning}

nested : (count : ℕ) → nesting (nested_conjunctions (suc count)) ≡ count
nested zero = refl
nested (suc count) = omega (arith, nested count)

kept : (count : ℕ) → KeepsExpression (nested_conjunctions count)
kept zero = tt
kept (suc count) = (omega arith, (kept count, (tt, tt)))

nested_within : (count : ℕ) → count ≤ deepest + 1 → nesting (nested_conjunctions count) ≤ deepest
nested_within zero few = omega arith
nested_within (suc count) few = omega (arith, nested count, few)

within_nested : (count : ℕ) → nesting (nested_conjunctions count) ≤ deepest → count ≤ deepest + 1
within_nested zero few = omega arith
within_nested (suc count) few = omega (arith, nested count, few)

first_named : IsFreeName (codes "a")
unfolding reserved_of
first_named = (refl, refl)

second_named : IsFreeName (codes "b")
unfolding reserved_of
second_named = (refl, refl)

-- the one method, and the one service
abbrev method_of : Expression → MethodTree
method_of e = record { name = codes "b"; params = []; gives = kind.Bool; body = AndStatements (Return e) NoStatements }

abbrev service_of : Expression → ServiceTree
service_of e = record { name = codes "a"; methods = method_of e ∷ [] }

method_kept : (count : ℕ) → count ≤ deepest + 1 → KeepsMethod (method_of (nested_conjunctions count))
method_kept count few =
    record {
      named = second_named;
      params_named = All-from_recursion _ [] tt;
      params_counted = omega arith;
      body = record {
        statements = ((nested_within count few, kept count), tt);
        nested = omega arith;
        calls = omega arith;
        counted = omega arith;
      };
    }

service_kept : (count : ℕ) → count ≤ deepest + 1 → KeepsService (service_of (nested_conjunctions count))
service_kept count few =
    record {
      named = first_named;
      methods_counted = omega arith;
      methods = All-from_recursion KeepsMethod (method_of (nested_conjunctions count) ∷ []) (method_kept count few, tt);
    }

returned : (count : ℕ) → count ≤ deepest + 1 → KeepsServicesLimits (returning (nested_conjunctions count))
returned count few =
    record {
      services_counted = omega arith;
      services = All-from_recursion KeepsService (service_of (nested_conjunctions count) ∷ []) (service_kept count few, tt);
    }

within : (count : ℕ) → KeepsServicesLimits (returning (nested_conjunctions count)) → count ≤ deepest + 1
within count keeps =
    let service = All-head KeepsService (service_of (nested_conjunctions count)) [] keeps.services in
    let method = All-head KeepsMethod (method_of (nested_conjunctions count)) [] service.methods in
    within_nested count method.body.statements.0.0

pub returned_within : (count : ℕ) → KeepsServicesLimits (returning (nested_conjunctions count)) ↔ (count ≤ deepest + 1)
returned_within count = (within count, returned count)
