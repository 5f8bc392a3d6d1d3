-- The call sites of a body, in the order in which they begin in the source.
use Rattle.std.specs.Prelude.{ℕ, List, [], ◌∷◌, ◌++◌, map, Option}
use Rattle.fb_base.specs.declared.method.MethodName.{MethodName}
use Rattle.fb_syntax.specs.Trees.{Statement, If, IfElse, Repeat, For, Call, Statements, NoStatements, AndStatements, Handlers, NoHandlers, AndHandlers}
use Rattle.fb_check.specs.declared.declarations.Declarations.{Declarations}
use Rattle.fb_check.specs.Declarations.{number_in}

-- whom each calls
abbrev mutual
  pub statement_sites : Statement → List MethodName
  statement_sites (If cond body) = sites body
  statement_sites (IfElse cond body other) = sites body ++ sites other
  statement_sites (Repeat times body) = sites body
  statement_sites (For name over body) = sites body
  statement_sites (Call target service method args handlers) = record { service = service; method = method } ∷ handler_sites handlers
  statement_sites _ = []

  pub sites : Statements → List MethodName
  sites NoStatements = []
  sites (AndStatements s ss) = statement_sites s ++ sites ss

  pub handler_sites : Handlers → List MethodName
  handler_sites NoHandlers = []
  handler_sites (AndHandlers code body handlers) = sites body ++ handler_sites handlers

-- the number of the method that is called, if there is one
abbrev pub callee_number : Declarations → MethodName → Option ℕ
callee_number declared name = number_in declared name.service name.method

abbrev pub callee_numbers : Declarations → List MethodName → List (Option ℕ)
callee_numbers declared = map (callee_number declared)
