-- Blocks and loops, by how their parts end.
use Rattle.std.proofs.Common.{◌≡◌, ℕ, suc, ◌+◌, ◌<◌, List, [], ◌∷◌, length, take, drop, get_or, map, Some, None, sym, ap, ◌∙◌, arith}
use Rattle.fb_base.specs.declared.value.Value.{Value}
use Rattle.fb_syntax.specs.declared.stmt.Stmt.{Stmt}
use Rattle.fb_syntax.specs.Trees.{Statement, Statements, AndStatements}
use Rattle.fb_syntax.specs.Views.{view_stmt, statements_of}
use Rattle.fb_meaning.specs.Evaluations.{Spent, Done, Next, Broke, State, holding, begun, then_next, then_turn, leave, on_next, on_turn, on_leave, NamedValue}
use Rattle.fb_meaning.specs.Variables.{with_variable}
use Rattle.fb_meaning.specs.Positions.{Position, past, one_block, statement_counts}
use Rattle.fb_meaning.specs.Bodies.{fault_flow}
use Rattle.fb_eval.specs.declared.flow.Flow.{Flow as FlowOf}
use Rattle.fb_eval.specs.declared.flow.Flow.TheVariants as flow
use Rattle.fb_eval.specs.declared.stop.Stop.{Stop}
use Rattle.fb_eval.specs.States.{Stops, flow_of}
use Rattle.fb_eval.specs.Means.{Here, statement_means, statements_mean, block_means, repeat_means, for_means, turn_means}
use Rattle.fb_eval.proofs.Ends.{stops_by, goes_no_further, turns_no_further, unit_taken, unit_spent, changes, misses}
use Rattle.fb_eval.proofs.Rules.{statements_none, statements_and, block_rule, repeat_none, repeat_more, for_none, for_more, turn_rule}

module _ (here : Here) where
  -- ---- statements

  -- the first of some statements, and the rest
  pub statements_split : (stmts rest : List Stmt) (s : Stmt) → 0 < length stmts → s ≡ get_or stmts 0 s → rest ≡ drop 1 stmts
      → statements_of (map view_stmt stmts) ≡ AndStatements (view_stmt s) (statements_of (map view_stmt rest))
  statements_split [] rest s some first behind = absurd (omega arith)
  statements_split (x ∷ stmts) rest s some first behind =
      (λ i. AndStatements (view_stmt (sym first i)) (statements_of (map view_stmt (sym behind i))))

  pub statements_go_on : (at then_at : Position) (ss : Statements) (s : Statement) (rest : Statements) (state after : State) → ss ≡ AndStatements s rest
      → then_at ≡ past at (statement_counts s) → statement_means here at s state ≡ Done Next after
      → statements_mean here at ss state ≡ statements_mean here then_at rest after
  statements_go_on at then_at ss s rest state after split place e =
      ap (λ x. statements_mean here at x state) split ∙ statements_and here at s rest state
      ∙ ap (λ x. then_next x (statements_mean here (past at (statement_counts s)) rest)) e
      ∙ ap (λ p. statements_mean here p rest after) (sym place)

  pub statements_end : (at : Position) (ss : Statements) (s : Statement) (rest : Statements) (state after : State) (how : FlowOf) → ss ≡ AndStatements s rest
      → (how ≡ flow.Next → ⊥) → statement_means here at s state ≡ Done (flow_of how) after → statements_mean here at ss state ≡ Done (flow_of how) after
  statements_end at ss s rest state after how split other e =
      ap (λ x. statements_mean here at x state) split ∙ statements_and here at s rest state
      ∙ ap (λ x. then_next x (statements_mean here (past at (statement_counts s)) rest)) e
      ∙ goes_no_further how after (statements_mean here (past at (statement_counts s)) rest) other

  pub statements_stop : (at : Position) (ss : Statements) (s : Statement) (rest : Statements) (state : State) (why : Stop)
      → ss ≡ AndStatements s rest → Stops (statement_means here at s state) why → Stops (statements_mean here at ss state) why
  statements_stop at ss s rest state why split e =
      stops_by (statements_mean here at ss state) (statement_means here at s state) (on_next (statements_mean here (past at (statement_counts s)) rest)) why
      (ap (λ x. statements_mean here at x state) split ∙ statements_and here at s rest state) e

  pub statements_none_left : (at : Position) (stmts : List Stmt) (state : State) → length stmts < 1 → statements_mean here at (statements_of (map view_stmt stmts)) state ≡ Done Next state
  statements_none_left at [] state none = statements_none here at state
  statements_none_left at (s ∷ stmts) state none = absurd (omega (arith, none))

  -- ---- a block

  pub block_left : (at inner : Position) (body same : Statements) (state after : State) (how : FlowOf) (n : ℕ) (variables : List NamedValue)
      → inner ≡ past at one_block → same ≡ body → n ≡ length state.variables → variables ≡ take n after.variables
      → statements_mean here inner same state ≡ Done (flow_of how) after → block_means here at body state ≡ Done (flow_of how) (holding variables after)
  block_left at inner body same state after how n variables place is counted left e =
      block_rule here at body state
      ∙ ap (λ p. leave (length state.variables) (statements_mean here p body state)) (sym place)
      ∙ ap (λ b. leave (length state.variables) (statements_mean here inner b state)) (sym is)
      ∙ ap (leave (length state.variables)) e
      ∙ ap (λ vs. Done (flow_of how) (holding vs after)) (sym (left ∙ ap (λ m. take m after.variables) counted))

  pub block_stops : (at inner : Position) (body same : Statements) (state : State) (why : Stop)
      → inner ≡ past at one_block → same ≡ body → Stops (statements_mean here inner same state) why → Stops (block_means here at body state) why
  block_stops at inner body same state why place is e =
      stops_by (block_means here at body state) (statements_mean here inner same state) (on_leave (length state.variables)) why
      (block_rule here at body state
      ∙ ap (λ p. leave (length state.variables) (statements_mean here p body state)) (sym place)
      ∙ ap (λ b. leave (length state.variables) (statements_mean here inner b state)) (sym is)) e

  -- ---- turns of a repeat

  module _ (at : Position) (body : Statements) (n m : ℕ) (count : n ≡ suc m) (state one : State) (left : ℕ) (some : state.fuel ≡ suc left) (begins : one ≡ begun left state) where
    repeats : repeat_means here at body n state ≡ then_turn (block_means here at body one) (repeat_means here at body m)
    repeats =
        ap (λ k. repeat_means here at body k state) count ∙ repeat_more here at body m state
        ∙ unit_taken (λ s. then_turn (block_means here at body s) (repeat_means here at body m)) state one left some begins

    pub repeat_goes_on : (after : State) → block_means here at body one ≡ Done Next after → repeat_means here at body n state ≡ repeat_means here at body m after
    repeat_goes_on after e = repeats ∙ ap (λ x. then_turn x (repeat_means here at body m)) e

    pub repeat_breaks : (after : State) → block_means here at body one ≡ Done Broke after → repeat_means here at body n state ≡ Done Next after
    repeat_breaks after e = repeats ∙ ap (λ x. then_turn x (repeat_means here at body m)) e

    pub repeat_ends : (after : State) (how : FlowOf) → (how ≡ flow.Next → ⊥) → (how ≡ flow.Broke → ⊥) → block_means here at body one ≡ Done (flow_of how) after
        → repeat_means here at body n state ≡ Done (flow_of how) after
    repeat_ends after how other also e = repeats ∙ ap (λ x. then_turn x (repeat_means here at body m)) e ∙ turns_no_further how after (repeat_means here at body m) other also

    pub repeat_stops : (why : Stop) → Stops (block_means here at body one) why
        → Stops (repeat_means here at body n state) why
    repeat_stops why e = stops_by (repeat_means here at body n state) (block_means here at body one) (on_turn (repeat_means here at body m)) why repeats e

  pub repeat_spent : (at : Position) (body : Statements) (n m : ℕ) (state : State) → n ≡ suc m → state.fuel ≡ 0 → repeat_means here at body n state ≡ Spent
  repeat_spent at body n m state count none =
      ap (λ k. repeat_means here at body k state) count ∙ repeat_more here at body m state
      ∙ unit_spent (λ s. then_turn (block_means here at body s) (repeat_means here at body m)) state none

  pub repeat_over : (at : Position) (body : Statements) (n : ℕ) (state : State) → n ≡ 0 → repeat_means here at body n state ≡ Done Next state
  repeat_over at body n state none = ap (λ k. repeat_means here at body k state) none ∙ repeat_none here at body state

  pub for_over : (at inside : Position) (name : List ℕ) (body : Statements) (items : List Value) (state : State) → items ≡ [] → for_means here at inside name body items state ≡ Done Next state
  for_over at inside name body items state none = ap (λ xs. for_means here at inside name body xs state) none ∙ for_none here at inside name body state

  -- ---- turns of a for

  module _ (at inside : Position) (name : List ℕ) (body : Statements) (list items : List Value) (item : Value) (split : list ≡ item ∷ items) (state : State) where
    module _ (one : State) (left : ℕ) (some : state.fuel ≡ suc left) (begins : one ≡ begun left state) where
      takes_turn : for_means here at inside name body list state ≡ then_turn (turn_means here at inside name body item one) (for_means here at inside name body items)
      takes_turn =
          ap (λ k. for_means here at inside name body k state) split ∙ for_more here at inside name body item items state
          ∙ unit_taken (λ s. then_turn (turn_means here at inside name body item s) (for_means here at inside name body items)) state one left some begins

      pub for_goes_on : (after : State) → turn_means here at inside name body item one ≡ Done Next after
          → for_means here at inside name body list state ≡ for_means here at inside name body items after
      for_goes_on after e = takes_turn ∙ ap (λ x. then_turn x (for_means here at inside name body items)) e

      pub for_breaks : (after : State) → turn_means here at inside name body item one ≡ Done Broke after → for_means here at inside name body list state ≡ Done Next after
      for_breaks after e = takes_turn ∙ ap (λ x. then_turn x (for_means here at inside name body items)) e

      pub for_ends : (after : State) (how : FlowOf) → (how ≡ flow.Next → ⊥) → (how ≡ flow.Broke → ⊥) → turn_means here at inside name body item one ≡ Done (flow_of how) after
          → for_means here at inside name body list state ≡ Done (flow_of how) after
      for_ends after how other also e =
          takes_turn ∙ ap (λ x. then_turn x (for_means here at inside name body items)) e ∙ turns_no_further how after (for_means here at inside name body items) other also

      pub for_stops : (why : Stop) → Stops (turn_means here at inside name body item one) why
          → Stops (for_means here at inside name body list state) why
      for_stops why e =
          stops_by (for_means here at inside name body list state) (turn_means here at inside name body item one) (on_turn (for_means here at inside name body items)) why takes_turn e

    pub for_spent : state.fuel ≡ 0 → for_means here at inside name body list state ≡ Spent
    for_spent none =
        ap (λ k. for_means here at inside name body k state) split ∙ for_more here at inside name body item items state
        ∙ unit_spent (λ s. then_turn (turn_means here at inside name body item s) (for_means here at inside name body items)) state none

  -- ---- a turn

  pub turn_faults : (at inside : Position) (name : List ℕ) (body : Statements) (item : Value) (state : State) → with_variable name item state.variables ≡ None
      → turn_means here at inside name body item state ≡ Done (fault_flow here.frame.whose (at.statements + 1)) state
  turn_faults at inside name body item state e =
      turn_rule here at inside name body item state
      ∙ misses here.frame.whose at state (with_variable name item state.variables) (λ one. leave (length state.variables) (statements_mean here (past inside one_block) body one)) e

  pub turn_left : (at inside inner : Position) (name : List ℕ) (body same : Statements) (item : Value) (state after : State) (how : FlowOf) (n : ℕ) (first variables : List NamedValue)
      → with_variable name item state.variables ≡ Some first → inner ≡ past inside one_block → same ≡ body → n ≡ length state.variables → variables ≡ take n after.variables
      → statements_mean here inner same (holding first state) ≡ Done (flow_of how) after
      → turn_means here at inside name body item state ≡ Done (flow_of how) (holding variables after)
  turn_left at inside inner name body same item state after how n first variables declared place is counted left e =
      turn_rule here at inside name body item state
      ∙ changes here.frame.whose at state (with_variable name item state.variables) (λ one. leave (length state.variables) (statements_mean here (past inside one_block) body one)) first declared
      ∙ ap (λ p. leave (length state.variables) (statements_mean here p body (holding first state))) (sym place)
      ∙ ap (λ b. leave (length state.variables) (statements_mean here inner b (holding first state))) (sym is)
      ∙ ap (leave (length state.variables)) e
      ∙ ap (λ vs. Done (flow_of how) (holding vs after)) (sym (left ∙ ap (λ m. take m after.variables) counted))

  pub turn_stops : (at inside inner : Position) (name : List ℕ) (body same : Statements) (item : Value) (state : State) (first : List NamedValue)
      (why : Stop) → with_variable name item state.variables ≡ Some first → inner ≡ past inside one_block → same ≡ body
      → Stops (statements_mean here inner same (holding first state)) why → Stops (turn_means here at inside name body item state) why
  turn_stops at inside inner name body same item state first why declared place is e =
      stops_by (turn_means here at inside name body item state) (statements_mean here inner same (holding first state)) (on_leave (length state.variables)) why
      (turn_rule here at inside name body item state
      ∙ changes here.frame.whose at state (with_variable name item state.variables) (λ one. leave (length state.variables) (statements_mean here (past inside one_block) body one)) first declared
      ∙ ap (λ p. leave (length state.variables) (statements_mean here p body (holding first state))) (sym place)
      ∙ ap (λ b. leave (length state.variables) (statements_mean here inner b (holding first state))) (sym is)) e
