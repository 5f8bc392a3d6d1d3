-- What every statement and every body keeps that tokens spell.
use Rattle.std.proofs.Common.{◌≡◌, ℕ, zero, suc, ◌+◌, ◌≤◌, Option, Some, None, List, [], ◌∷◌, length, refl, sym, ap, subst, arith}
use Rattle.std.specs.List.{AllByRecursion}
use Rattle.fb_syntax.specs.declared.sign.Sign.TheVariants as sign
use Rattle.fb_syntax.specs.declared.reserved.Reserved.TheVariants as word
use Rattle.fb_syntax.specs.Trees.{Expression, Statement, Let, Assign, If, IfElse, Repeat, For, Break, Return, Fail, Assert, Statements}
use Rattle.fb_syntax.specs.Views.{expressions_of, statements_of, handlers_of}
use Rattle.fb_syntax.specs.Counts.{expressions_count, statement_depth, block_depth, handlers_depth, summed, summed_handlers, call_weight, calls_count, statements_count, handlers_count}
use Rattle.fb_syntax.specs.Kept.{IsFreeNameIfAny, KeepsWhole, KeepsEachWhole, KeepsStatement, KeepStatements, KeepHandlers, KeepsBody}
use Rattle.fb_syntax.specs.Limits.{deepest_block, most_params, most_handlers, most_turns, deepest}
use Rattle.fb_syntax.specs.Input.{Input}
use Rattle.fb_syntax.specs.TokenKinds.{is_word, is_sign, comma, turns_of}
use Rattle.fb_syntax.specs.Spans.{Spelling}
use Rattle.fb_syntax.specs.StatementGrammar.{WholeExpr, NewValue, Turns, BeginsCall, Arguments, Handled, LetSpelled, AssignSpelled, BreakSpelled, ReturnSpelled, FailSpelled, AssertSpelled, Block, IfSpelled, IfElseSpelled, RepeatSpelled, ForSpelled, HandlerSpelled, HandlersSpelled, CallSpelled, StatementSpelled, spelled_inside, SpellsBody}
use Rattle.fb_syntax.proofs.Turns.{step_shorter}
use Rattle.fb_syntax.proofs.ExpressionKept.{keeps_name, counted, expression_kept}
use Rattle.fb_syntax.proofs.Keeping.{IsFine, behind_fine, Counts, none, both, each_calls, each_statements, Kept, Keeps, keeps_as, keeps_is, keeps_made, keeps_so, made_plain, keeps_weaker, keeps_or, keeps_pair, keeps_first, keeps_behind, keeps_before, keeps_between, keeps_many, keeps_separated, keeps_at_least, keeps_at_most}

-- a statement with at most so many blocks open at once inside it
abbrev pub StatementNests : ℕ → Statement → Type 0
StatementNests depth s = (statement_depth s ≤ depth) × KeepsStatement s

-- a block, itself open
abbrev pub BlockNests : ℕ → Statements → Type 0
BlockNests depth body = (block_depth body ≤ depth) × KeepStatements body

abbrev of_statement : Counts Statement
of_statement = record { calls = λ s n. n + summed call_weight s; statements = summed (λ s. 1) }

abbrev of_list : Counts (List Statement)
of_list = record { calls = λ ss n. n + calls_count (statements_of ss); statements = λ ss. statements_count (statements_of ss) }

-- more tokens than statements, by the brace that opens it
abbrev of_block : Counts Statements
of_block = record { calls = λ body n. n + calls_count body; statements = λ body. suc (statements_count body) }

abbrev of_handlers : Counts (List (Option (List ℕ) × Statements))
of_handlers =
    record {
      calls = λ handlers n. n + summed_handlers call_weight (handlers_of handlers);
      statements = λ handlers. summed_handlers (λ s. 1) (handlers_of handlers);
    }

-- ---- parts of statements

keeps_whole : Keeps WholeExpr KeepsWhole none
keeps_whole = expression_kept deepest

keeps_value : Keeps NewValue KeepsWhole none
keeps_value = keeps_between (is_sign sign.Assign) (is_sign sign.Semicolon) keeps_whole

keeps_turns : Keeps Turns (λ n. n ≤ most_turns) none
keeps_turns =
    record {
      kept = λ start rest n fine. λ (number, few). (
          let k = (keeps_as turns_of (λ n. Unit {0}) (λ token n proper h. tt)).kept start rest n fine number in
          record { is = few; fine = k.fine; called = k.called; fewer = k.fewer });
    }

each_whole : (es : List Expression) → AllByRecursion KeepsWhole es → KeepsEachWhole (expressions_of es)
each_whole [] h = tt
each_whole (e ∷ es) h = (h.0, each_whole es h.1)

abbrev AreArguments : List Expression → Type 0
AreArguments args = (expressions_count (expressions_of args) ≤ most_params) × KeepsEachWhole (expressions_of args)

keeps_arguments : Keeps Arguments AreArguments none
keeps_arguments =
    keeps_between (is_sign sign.OpenParen) (is_sign sign.CloseParen)
    (keeps_weaker (λ args h. (omega (arith, h.0, counted args), each_whole args h.1)) (keeps_at_most most_params (keeps_separated comma keeps_whole)))

keeps_handled : Keeps Handled IsFreeNameIfAny none
keeps_handled =
    keeps_or (keeps_weaker (λ code h. subst IsFreeNameIfAny (sym h) tt) (keeps_is (is_word word.Any) None))
    (made_plain Some (λ code h. h) keeps_name)

-- ---- statements that hold no block

module _ (depth : ℕ) where
  keeps_let : Keeps LetSpelled (StatementNests depth) of_statement
  keeps_let =
      keeps_made (λ p. Let p.0 p.1) (record { is = λ p h. (omega arith, h); calls = λ p n h. omega arith; statements = λ p h. omega arith })
      (keeps_first (is_word word.Let) (keeps_pair keeps_name keeps_value))

  keeps_assign : Keeps AssignSpelled (StatementNests depth) of_statement
  keeps_assign =
      keeps_made (λ p. Assign p.0 p.1) (record { is = λ p h. (omega arith, h); calls = λ p n h. omega arith; statements = λ p h. omega arith })
      (keeps_pair keeps_name (keeps_first (is_sign sign.Assign) (keeps_before (is_sign sign.Semicolon) keeps_whole)))

  keeps_break : Keeps BreakSpelled (StatementNests depth) of_statement
  keeps_break =
      keeps_so (record {
        is = λ s h. subst (λ (x : Statement). StatementNests depth x) (sym h) (omega arith, tt);
        calls = λ s n h. subst (λ (x : Statement). n + summed call_weight x ≡ n) (sym h) (omega arith);
        statements = λ s h. subst (λ (x : Statement). summed (λ s. 1) x ≤ 1) (sym h) (omega arith);
      })
      (keeps_first (is_word word.Break) (keeps_is (is_sign sign.Semicolon) Break))

  keeps_return : Keeps ReturnSpelled (StatementNests depth) of_statement
  keeps_return =
      keeps_made Return (record { is = λ e h. (omega arith, h); calls = λ e n h. omega arith; statements = λ e h. omega arith })
      (keeps_first (is_word word.Return) (keeps_before (is_sign sign.Semicolon) keeps_whole))

  keeps_fail : Keeps FailSpelled (StatementNests depth) of_statement
  keeps_fail =
      keeps_made Fail (record { is = λ code h. (omega arith, h); calls = λ code n h. omega arith; statements = λ code h. omega arith })
      (keeps_first (is_word word.Fail) (keeps_before (is_sign sign.Semicolon) keeps_name))

  keeps_assert : Keeps AssertSpelled (StatementNests depth) of_statement
  keeps_assert =
      keeps_made Assert (record { is = λ e h. (omega arith, h); calls = λ e n h. omega arith; statements = λ e h. omega arith })
      (keeps_first (is_word word.Assert) (keeps_before (is_sign sign.Semicolon) keeps_whole))

-- ---- statements that hold blocks

abbrev IsHandler : ℕ → Option (List ℕ) × Statements → Type 0
IsHandler depth handler = IsFreeNameIfAny handler.0 × BlockNests depth handler.1

abbrev of_handler : Counts (Option (List ℕ) × Statements)
of_handler = both none of_block

record HandlersKept (depth : ℕ) (handlers : List (Option (List ℕ) × Statements)) : Type 0 where
  counted : handlers_count (handlers_of handlers) ≡ length handlers
  nested : handlers_depth (handlers_of handlers) ≤ depth
  kept : KeepHandlers (handlers_of handlers)

handlers_kept : (depth : ℕ) (handlers : List (Option (List ℕ) × Statements)) → AllByRecursion (IsHandler depth) handlers → HandlersKept depth handlers
handlers_kept depth [] h = record { counted = refl; nested = omega arith; kept = tt }
handlers_kept depth (handler ∷ handlers) h =
    let more = handlers_kept depth handlers h.1 in
    record { counted = ap (λ n. suc n) more.counted; nested = omega (arith, h.0.1.0, more.nested); kept = (h.0.0, h.0.1.1, more.kept) }

handlers_called : (handlers : List (Option (List ℕ) × Statements)) (n : ℕ)
    → n + summed_handlers call_weight (handlers_of handlers) ≡ each_calls of_handler.calls handlers n
handlers_called [] n = omega arith
handlers_called (handler ∷ handlers) n =
    omega (arith, handlers_called handlers (n + calls_count handler.1))

handlers_counted : (handlers : List (Option (List ℕ) × Statements))
    → summed_handlers (λ s. 1) (handlers_of handlers) ≤ each_statements of_handler.statements handlers
handlers_counted [] = omega arith
handlers_counted (handler ∷ handlers) = omega (arith, handlers_counted handlers)

abbrev AreHandlers : ℕ → List (Option (List ℕ) × Statements) → Type 0
AreHandlers depth handlers =
    (handlers_depth (handlers_of handlers) ≤ depth) × (handlers_count (handlers_of handlers) ≤ most_handlers) × KeepHandlers (handlers_of handlers)

are_handlers : (depth : ℕ) (handlers : List (Option (List ℕ) × Statements)) → length handlers ≤ most_handlers → AllByRecursion (IsHandler depth) handlers → AreHandlers depth handlers
are_handlers depth handlers few all =
    let k = handlers_kept depth handlers all in
    (k.nested, omega (arith, k.counted, few), k.kept)

record Begun (start mid : Input) : Type 0 where
  fine : IsFine mid
  called : mid.calls ≡ start.calls + 1
  fewer : suc (length mid.left) ≤ length start.left

begun : (start mid : Input) → IsFine start → BeginsCall start mid → Begun start mid
begun start mid fine begins =
    let behind_it = behind_fine start fine in
    subst (λ (input : Input). Begun start input) (sym begins.2)
    (record {
      fine = record { proper = behind_it.proper; short = behind_it.short; called = omega (arith, begins.1) };
      called = refl;
      fewer = omega (arith, step_shorter (is_word word.Call) start begins.0);
    })

module _ (Inside : Spelling (List Statement)) (depth : ℕ) (good : Keeps Inside (λ ss. BlockNests depth (statements_of ss)) of_list) where
  keeps_block : Keeps (Block Inside) (BlockNests depth) of_block
  keeps_block =
      keeps_made statements_of (record { is = λ ss h. h; calls = λ ss n h. refl; statements = λ ss h. omega arith })
      (keeps_first (is_sign sign.OpenBrace) (keeps_before (is_sign sign.CloseBrace) good))

  keeps_if : Keeps (IfSpelled Inside) (StatementNests depth) of_statement
  keeps_if =
      keeps_made (λ p. If p.0 p.1)
      (record { is = λ p h. (h.1.0, (h.0, h.1.1)); calls = λ p n h. omega arith; statements = λ p h. omega arith })
      (keeps_behind (is_word word.If) (keeps_pair keeps_whole keeps_block))

  keeps_if_else : Keeps (IfElseSpelled Inside) (StatementNests depth) of_statement
  keeps_if_else =
      keeps_made (λ p. IfElse p.0 p.1.0 p.1.1)
      (record {
        is = λ p h. (omega (arith, h.1.0.0, h.1.1.0), (h.0, h.1.0.1, h.1.1.1));
        calls = λ p n h. omega arith;
        statements = λ p h. omega arith;
      })
      (keeps_behind (is_word word.If) (keeps_pair keeps_whole (keeps_pair keeps_block (keeps_behind (is_word word.Else) keeps_block))))

  keeps_repeat : Keeps (RepeatSpelled Inside) (StatementNests depth) of_statement
  keeps_repeat =
      keeps_made (λ p. Repeat p.0 p.1)
      (record { is = λ p h. (h.1.0, (h.0, h.1.1)); calls = λ p n h. omega arith; statements = λ p h. omega arith })
      (keeps_behind (is_word word.Repeat) (keeps_pair keeps_turns keeps_block))

  keeps_for : Keeps (ForSpelled Inside) (StatementNests depth) of_statement
  keeps_for =
      keeps_made (λ p. For p.0 p.1.0 p.1.1)
      (record { is = λ p h. (h.1.1.0, (h.0, h.1.0, h.1.1.1)); calls = λ p n h. omega arith; statements = λ p h. omega arith })
      (keeps_behind (is_word word.For) (keeps_pair keeps_name (keeps_behind (is_word word.In) (keeps_pair keeps_whole keeps_block))))

  keeps_handler : Keeps (HandlerSpelled Inside) (IsHandler depth) of_handler
  keeps_handler = keeps_behind (is_word word.On) (keeps_pair keeps_handled keeps_block)

  keeps_handlers : Keeps (HandlersSpelled Inside) (AreHandlers depth) of_handlers
  keeps_handlers =
      keeps_or
      (keeps_so (record {
        is = λ handlers h. subst (λ hs. AreHandlers depth hs) (sym h) (omega arith, omega arith, tt);
        calls = λ handlers n h. subst (λ hs. n + summed_handlers call_weight (handlers_of hs) ≡ n) (sym h) (omega arith);
        statements = λ handlers h. subst (λ hs. summed_handlers (λ s. 1) (handlers_of hs) ≤ 0) (sym h) (omega arith);
      })
      (keeps_is (is_sign sign.Semicolon) []))
      (keeps_so (record {
        is = λ handlers h. are_handlers depth handlers h.1.0 h.1.1;
        calls = λ handlers n h. handlers_called handlers n;
        statements = λ handlers h. handlers_counted handlers;
      })
      (keeps_at_least 1 (keeps_at_most most_handlers (keeps_many keeps_handler))))

  keeps_call : Keeps (CallSpelled Inside) (StatementNests depth) of_statement
  keeps_call =
      let named = keeps_pair keeps_name (keeps_pair keeps_arguments keeps_handlers) in
      let called = keeps_pair keeps_name (keeps_behind (is_sign sign.Assign) (keeps_pair keeps_name (keeps_behind (is_sign sign.Dot) named))) in
      record {
        kept = λ start rest s fine. λ (mid, begins, (p, parts, is)). (
            let b = begun start mid fine begins in
            let k = called.kept mid rest p b.fine parts in
            subst (λ (x : Statement). Kept (StatementNests depth) of_statement start rest x) (sym is)
            (record {
              is = (k.is.1.1.1.1.0, (k.is.0, k.is.1.0, k.is.1.1.0, k.is.1.1.1.0.0, k.is.1.1.1.0.1, k.is.1.1.1.1.1, k.is.1.1.1.1.2));
              fine = k.fine;
              called = omega (arith, k.called, b.called);
              fewer = omega (arith, k.fewer, b.fewer);
            }));
      }

  keeps_statement : Keeps (StatementSpelled Inside) (StatementNests depth) of_statement
  keeps_statement =
      keeps_or (keeps_assign depth)
      (keeps_or (keeps_let depth)
      (keeps_or (keeps_or keeps_if keeps_if_else)
      (keeps_or keeps_repeat
      (keeps_or keeps_for
      (keeps_or (keeps_break depth)
      (keeps_or (keeps_return depth)
      (keeps_or (keeps_fail depth)
      (keeps_or keeps_call (keeps_assert depth)))))))))

-- ---- bodies

list_kept : (depth : ℕ) (ss : List Statement) → AllByRecursion (StatementNests depth) ss → BlockNests (suc depth) (statements_of ss)
list_kept depth [] h = (omega arith, tt)
list_kept depth (s ∷ ss) h =
    let more = list_kept depth ss h.1 in
    (omega (arith, h.0.0, more.0), (h.0.1, more.1))

list_called : (ss : List Statement) (n : ℕ) → n + calls_count (statements_of ss) ≡ each_calls of_statement.calls ss n
list_called [] n = omega arith
list_called (s ∷ ss) n = omega (arith, list_called ss (n + summed call_weight s))

list_counted : (ss : List Statement) → statements_count (statements_of ss) ≤ each_statements of_statement.statements ss
list_counted [] = omega arith
list_counted (s ∷ ss) = omega (arith, list_counted ss)

inside_kept : (depth : ℕ) → Keeps (spelled_inside depth) (λ ss. BlockNests depth (statements_of ss)) of_list
unfolding spelled_inside
inside_kept zero = record { kept = λ start rest ss fine h. absurd h }
inside_kept (suc depth) =
    keeps_so (record {
      is = λ ss h. list_kept depth ss h;
      calls = λ ss n h. list_called ss n;
      statements = λ ss h. list_counted ss;
    })
    (keeps_many (keeps_statement (spelled_inside depth) depth (inside_kept depth)))

-- a body's calls are counted from its beginning
abbrev pub of_body : Counts Statements
of_body = record { calls = λ body n. calls_count body; statements = λ body. 0 }

pub keeps_body : Keeps SpellsBody KeepsBody of_body
keeps_body =
    record {
      kept = λ start rest body fine spelled. (
          let fresh : IsFine (record start { calls = 0 }) = record { proper = fine.proper; short = fine.short; called = omega arith } in
          let inside = inside_kept deepest_block in
          let k = (keeps_block (spelled_inside deepest_block) deepest_block inside).kept (record start { calls = 0 }) rest body fresh spelled in
          record {
            is = record {
              statements = k.is.1;
              nested = k.is.0;
              calls = omega (arith, k.called, k.fine.called);
              counted = omega (arith, k.fewer, fine.short);
            };
            fine = k.fine;
            called = omega (arith, k.called);
            fewer = omega (arith, k.fewer);
          });
    }
