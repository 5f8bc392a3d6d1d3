-- What a statement of the code means and where its parts stand, by its variant.
use Rattle.std.proofs.Common.{◌≡◌, ℕ, ◌+◌, ◌<◌, ◌^◌, List, map, Option, Some, None, sym, ap, ◌∙◌, subst}
use Rattle.std.specs.Option.{option_map}
use Rattle.fb_syntax.specs.declared.stmt.Stmt as stmt
use Rattle.fb_syntax.specs.declared.stmt.Stmt.{Stmt}
use Rattle.fb_syntax.specs.declared.stmt.Block.{Block}
use Rattle.fb_syntax.specs.declared.expr.Expr.{Expr}
use Rattle.fb_syntax.specs.Trees.{Call}
use Rattle.fb_syntax.specs.Views.{view_expr, view_stmt, view_block, view_handler, expressions_of, handlers_of}
use Rattle.fb_syntax.specs.ViewEquations.{view_if_alone, view_if_else, view_repeat, view_for, view_call}
use Rattle.fb_check.specs.declared.counts.Counts.{Counts}
use Rattle.fb_meaning.specs.Evaluations.{State, Done, Broke, Spent}
use Rattle.fb_meaning.specs.Positions.{Position}
use Rattle.fb_meaning.specs.Bodies.{inside_of}
use Rattle.fb_meaning.specs.Rules.{FollowsRules}
use Rattle.fb_eval.specs.Places.{StatementStands, BlockStands, HandlersStand, OtherStands}
use Rattle.fb_eval.specs.Means.{Here, statement_means, act_means, if_means, repeat_means, for_each_means, call_means, let_means, assign_means, return_means, fail_means, assert_means}
use Rattle.fb_eval.proofs.Places.{inside_small, if_stands, yes_stands, no_stands, repeat_stands, for_stands, call_stands}
use Rattle.fb_eval.proofs.Rules.{statement_unit, act_let, act_assign, act_break, act_return, act_fail, act_assert, alone, both, loops, goes_over, calls}
use Rattle.fb_eval.proofs.Ends.{unit_spent}

module _ (here : Here) (at : Position) where
  -- without a unit a statement is spent
  pub statement_spent : FollowsRules here.services here.source here.frame at → (s : _) (state : State) → state.fuel ≡ 0 → statement_means here at s state ≡ Spent
  statement_spent law s state e = statement_unit here at law s state ∙ unit_spent (act_means here at s) state e

  module _ (s : Stmt) (state : State) where
    pub by_let : (name : List ℕ) (value : Expr) → s ≡ stmt.Let name value → act_means here at (view_stmt s) state ≡ let_means here at name (view_expr value) state
    by_let name value is = ap (λ x. act_means here at (view_stmt x) state) is ∙ act_let here at name value state

    pub by_assign : (name : List ℕ) (value : Expr) → s ≡ stmt.Assign name value → act_means here at (view_stmt s) state ≡ assign_means here at name (view_expr value) state
    by_assign name value is = ap (λ x. act_means here at (view_stmt x) state) is ∙ act_assign here at name value state

    pub by_break : s ≡ stmt.Break → act_means here at (view_stmt s) state ≡ Done Broke state
    by_break is = ap (λ x. act_means here at (view_stmt x) state) is ∙ act_break here at state

    pub by_return : (value : Expr) → s ≡ stmt.Return value → act_means here at (view_stmt s) state ≡ return_means here at (view_expr value) state
    by_return value is = ap (λ x. act_means here at (view_stmt x) state) is ∙ act_return here at value state

    pub by_fail : (code : List ℕ) → s ≡ stmt.Fail code → act_means here at (view_stmt s) state ≡ fail_means here at code state
    by_fail code is = ap (λ x. act_means here at (view_stmt x) state) is ∙ act_fail here at code state

    pub by_assert : (cond : Expr) → s ≡ stmt.Assert cond → act_means here at (view_stmt s) state ≡ assert_means here at (view_expr cond) state
    by_assert cond is = ap (λ x. act_means here at (view_stmt x) state) is ∙ act_assert here at cond state

    if_at : (cond : Expr) (yes_block : Block) (no_block : Option Block)
        → act_means here at (view_stmt (stmt.If cond yes_block no_block)) state
        ≡ if_means here at (inside_of at (view_stmt (stmt.If cond yes_block no_block))) (view_expr cond) (view_block yes_block) (option_map view_block no_block) state
    if_at cond yes_block None =
        subst (λ x. act_means here at x state ≡ if_means here at (inside_of at x) (view_expr cond) (view_block yes_block) None state)
        (sym (view_if_alone cond yes_block)) (alone here at (view_expr cond) (view_block yes_block) state)
    if_at cond yes_block (Some no_block) =
        subst (λ x. act_means here at x state ≡ if_means here at (inside_of at x) (view_expr cond) (view_block yes_block) (Some (view_block no_block)) state)
        (sym (view_if_else cond yes_block no_block)) (both here at (view_expr cond) (view_block yes_block) (view_block no_block) state)

    module _ (inside : Position) (e : inside ≡ inside_of at (view_stmt s)) where
      pub by_if : (cond : Expr) (yes_block : Block) (no_block : Option Block) → s ≡ stmt.If cond yes_block no_block
          → act_means here at (view_stmt s) state ≡ if_means here at inside (view_expr cond) (view_block yes_block) (option_map view_block no_block) state
      by_if cond yes_block no_block is =
          ap (λ x. act_means here at (view_stmt x) state) is ∙ if_at cond yes_block no_block
          ∙ ap (λ p. if_means here at p (view_expr cond) (view_block yes_block) (option_map view_block no_block) state) (sym (e ∙ ap (λ x. inside_of at (view_stmt x)) is))

      pub by_repeat : (times : ℕ) (body : Block) → s ≡ stmt.Repeat times body → act_means here at (view_stmt s) state ≡ repeat_means here inside (view_block body) times state
      by_repeat times body is =
          ap (λ x. act_means here at (view_stmt x) state) is
          ∙ subst (λ x. act_means here at x state ≡ repeat_means here (inside_of at x) (view_block body) times state) (sym (view_repeat times body)) (loops here at times (view_block body) state)
          ∙ ap (λ p. repeat_means here p (view_block body) times state) (sym (e ∙ ap (λ x. inside_of at (view_stmt x)) is))

      pub by_for : (name : List ℕ) (over : Expr) (body : Block) → s ≡ stmt.For name over body
          → act_means here at (view_stmt s) state ≡ for_each_means here at inside name (view_expr over) (view_block body) state
      by_for name over body is =
          ap (λ x. act_means here at (view_stmt x) state) is
          ∙ subst (λ x. act_means here at x state ≡ for_each_means here at (inside_of at x) name (view_expr over) (view_block body) state) (sym (view_for name over body))
          (goes_over here at name (view_expr over) (view_block body) state)
          ∙ ap (λ p. for_each_means here at p name (view_expr over) (view_block body) state) (sym (e ∙ ap (λ x. inside_of at (view_stmt x)) is))

      pub by_call : (target service method : List ℕ) (args hs : _) → s ≡ stmt.Call target service method args hs
          → act_means here at (view_stmt s) state
          ≡ call_means here at inside target service method (expressions_of (map view_expr args.items)) (handlers_of (map view_handler hs.items)) state
      by_call target service method args hs is =
          ap (λ x. act_means here at (view_stmt x) state) is
          ∙ subst (λ x. act_means here at x state
          ≡ call_means here at (inside_of at x) target service method (expressions_of (map view_expr args.items)) (handlers_of (map view_handler hs.items)) state)
          (sym (view_call target service method args hs)) (calls here at target service method (expressions_of (map view_expr args.items)) (handlers_of (map view_handler hs.items)) state)
          ∙ ap (λ p. call_means here at p target service method (expressions_of (map view_expr args.items)) (handlers_of (map view_handler hs.items)) state)
          (sym (e ∙ ap (λ x. inside_of at (view_stmt x)) is))

-- ---- where the parts stand

module _ (entries : List Counts) (at : Position) (s : Stmt) (stands : StatementStands entries at (view_stmt s)) (inside : Position) (e : inside ≡ inside_of at (view_stmt s)) where
  at_variant : (v : Stmt) → s ≡ v → StatementStands entries at (view_stmt v)
  at_variant v is = subst (λ x. StatementStands entries at (view_stmt x)) is stands

  where_inside : (v : Stmt) → s ≡ v → inside ≡ inside_of at (view_stmt v)
  where_inside v is = e ∙ ap (λ x. inside_of at (view_stmt x)) is

  pub first_block : (cond : Expr) (yes_block : Block) (no_block : Option Block) → s ≡ stmt.If cond yes_block no_block → BlockStands entries inside (view_block yes_block)
  first_block cond yes_block None is =
      let there = rw (view_if_alone cond yes_block) at (at_variant (stmt.If cond yes_block None) is) in
      let place = rw (view_if_alone cond yes_block) at (where_inside (stmt.If cond yes_block None) is) in
      subst (λ p. BlockStands entries p (view_block yes_block)) (sym place) (if_stands entries at (view_expr cond) (view_block yes_block) there)
  first_block cond yes_block (Some no_block) is =
      let there = rw (view_if_else cond yes_block no_block) at (at_variant (stmt.If cond yes_block (Some no_block)) is) in
      let place = rw (view_if_else cond yes_block no_block) at (where_inside (stmt.If cond yes_block (Some no_block)) is) in
      subst (λ p. BlockStands entries p (view_block yes_block)) (sym place) (yes_stands entries at (view_expr cond) (view_block yes_block) (view_block no_block) there)

  pub other_block : (cond : Expr) (yes_block : Block) (no_block : Option Block) → s ≡ stmt.If cond yes_block no_block
      → OtherStands entries inside (view_block yes_block) (option_map view_block no_block)
  other_block cond yes_block None is = tt
  other_block cond yes_block (Some no_block) is =
      let there = rw (view_if_else cond yes_block no_block) at (at_variant (stmt.If cond yes_block (Some no_block)) is) in
      let place = rw (view_if_else cond yes_block no_block) at (where_inside (stmt.If cond yes_block (Some no_block)) is) in
      subst (λ p. OtherStands entries p (view_block yes_block) (Some (view_block no_block))) (sym place)
      (no_stands entries at (view_expr cond) (view_block yes_block) (view_block no_block) there)

  pub repeated_block : (times : ℕ) (body : Block) → s ≡ stmt.Repeat times body → BlockStands entries inside (view_block body)
  repeated_block times body is =
      let there = rw (view_repeat times body) at (at_variant (stmt.Repeat times body) is) in
      let place = rw (view_repeat times body) at (where_inside (stmt.Repeat times body) is) in
      subst (λ p. BlockStands entries p (view_block body)) (sym place) (repeat_stands entries at times (view_block body) there)

  pub for_block : (name : List ℕ) (over : Expr) (body : Block) → s ≡ stmt.For name over body → BlockStands entries inside (view_block body)
  for_block name over body is =
      let there = rw (view_for name over body) at (at_variant (stmt.For name over body) is) in
      let place = rw (view_for name over body) at (where_inside (stmt.For name over body) is) in
      subst (λ p. BlockStands entries p (view_block body)) (sym place) (for_stands entries at name (view_expr over) (view_block body) there)

  pub handler_blocks : (target service method : List ℕ) (args hs : _) → s ≡ stmt.Call target service method args hs
      → HandlersStand entries inside (handlers_of (map view_handler hs.items))
  handler_blocks target service method args hs is =
      let there = rw (view_call target service method args hs) at (at_variant (stmt.Call target service method args hs) is) in
      let place = rw (view_call target service method args hs) at (where_inside (stmt.Call target service method args hs) is) in
      subst (λ p. HandlersStand entries p (handlers_of (map view_handler hs.items))) (sym place)
      (call_stands entries at target service method (expressions_of (map view_expr args.items)) (handlers_of (map view_handler hs.items)) there)

  -- the numbers of a statement, of a call and of an assert
  pub statement_number : at.statements + 1 < 2 ^ 32
  statement_number = (inside_small entries at (view_stmt s) stands).statements

  pub call_number : (target service method : List ℕ) (args hs : _) → s ≡ stmt.Call target service method args hs → at.sites + 1 < 2 ^ 32
  call_number target service method args hs is =
      let there = rw (view_call target service method args hs) at (at_variant (stmt.Call target service method args hs) is) in
      (inside_small entries at (Call target service method (expressions_of (map view_expr args.items)) (handlers_of (map view_handler hs.items))) there).sites

  pub assert_number : (cond : Expr) → s ≡ stmt.Assert cond → at.asserts + 1 < 2 ^ 32
  unfolding view_stmt
  assert_number cond is = (inside_small entries at (view_stmt (stmt.Assert cond)) (at_variant (stmt.Assert cond) is)).asserts
