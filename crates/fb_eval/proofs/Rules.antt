-- What each word means, by the words of what stands inside it.
use Rattle.std.proofs.Common.{◌≡◌, ℕ, suc, ◌+◌, ◌-◌, ◌<◌, Bool, true, false, cond, nat_le, List, [], ◌∷◌, length, Option, Some, None, refl, ap, ◌∙◌, arith}
use Rattle.std.proofs.Common.{inl, inr}
use Rattle.std.proofs.lemmas.Bool.{le-leb}
use Rattle.std.proofs.lemmas.Bool.Decides.{leb_tells}
use Rattle.fb_base.specs.declared.method.MethodId.{MethodId}
use Rattle.fb_base.specs.declared.value.Value.{Value}
use Rattle.fb_base.specs.declared.reply.Reply.{Reply}
use Rattle.fb_base.specs.declared.reply.Reply.TheVariants as reply
use Rattle.fb_index.specs.Entry.{Occurrence}
use Rattle.fb_syntax.specs.declared.stmt.Stmt as stmt
use Rattle.fb_syntax.specs.Views.{view_expr, view_stmt}
use Rattle.fb_syntax.specs.Trees.{Expression, Expressions, Statement, Let, Assign, If, IfElse, Repeat, For, Break, Return, Fail, Call, Assert, Statements, NoStatements, AndStatements, Handlers, NoHandlers, AndHandlers, MethodTree, ServicesTree}
use Rattle.fb_check.specs.Programs.{method_at}
use Rattle.fb_tree.specs.Runs.{Faulted, Ran, Known as KnownHow}
use Rattle.fb_transport.specs.Sources.{Source}
use Rattle.fb_transport.specs.declared.decision.Decision.{Decision}
use Rattle.fb_transport.specs.declared.decision.Decision.TheVariants.{Forward, Fault, Known}
use Rattle.fb_meaning.specs.Evaluations.{Spent, Missing, Done, then_on, Next, Broke, State, with_unit, then_next, then_turn, leave}
use Rattle.fb_meaning.specs.Variables.{with_variable, with_value_of}
use Rattle.fb_meaning.specs.Positions.{Position, beginning, past, one_block, statement_counts, block_counts}
use Rattle.fb_meaning.specs.Bodies.{PreparedCall, fault_flow, unhandled_flow, chosen, handled, decided_by, body_goes, with_some, with_variables, catches, prepared, returned, index_of_call, inside_of, method_frame, method_state, invocation_of, reply_of, act}
use Rattle.fb_meaning.specs.Meaning.{meaning}
use Rattle.fb_meaning.specs.Rules.{FollowsRules}
use Rattle.fb_eval.specs.Means.{Here, meaning_of, otherwise, condition_here, items_here, statement_means, act_means, statements_mean, block_means, if_means, repeat_means, for_each_means, for_means, turn_means, call_means, decided_means, taken_means, handled_means, invocation_means, let_means, assign_means, return_means, fail_means, assert_means}

above : (a b : ℕ) → b < a → nat_le a b ≡ false
above a b h = elim (leb_tells a b) [ inl t ↦ absurd (omega (arith, t.1)) | inr t ↦ t.0 ]

-- ---- a statement

module _ (here : Here) (at : Position) where
  -- it takes a unit, and then does what it does
  pub statement_unit : FollowsRules here.services here.source here.frame at → (s : Statement) (state : State)
      → statement_means here at s state ≡ with_unit state (act_means here at s)
  unfolding statement_means act_means act
  statement_unit law (Let name value) state = law.let_rule name value state
  statement_unit law (Assign name value) state = law.assign_rule name value state
  statement_unit law (If cond body) state = law.if_rule cond body state
  statement_unit law (IfElse cond body other) state = law.if_else_rule cond body other state
  statement_unit law (Repeat times body) state = law.repeat_rule times body state
  statement_unit law (For name over body) state = law.for_rule name over body state
  statement_unit law Break state = law.break_rule state
  statement_unit law (Return value) state = law.return_rule value state
  statement_unit law (Fail code) state = law.fail_rule code state
  statement_unit law (Call target service method args handlers) state = law.call_rule target service method args handlers state
  statement_unit law (Assert cond) state = law.assert_rule cond state

  -- ---- what it does

  pub act_let : (name : List ℕ) (value : _) (state : State) → act_means here at (view_stmt (stmt.Let name value)) state ≡ let_means here at name (view_expr value) state
  unfolding act_means act let_means view_stmt
  act_let name value state = refl

  pub act_assign : (name : List ℕ) (value : _) (state : State) → act_means here at (view_stmt (stmt.Assign name value)) state ≡ assign_means here at name (view_expr value) state
  unfolding act_means act assign_means view_stmt
  act_assign name value state = refl

  pub act_break : (state : State) → act_means here at (view_stmt stmt.Break) state ≡ Done Broke state
  unfolding act_means act view_stmt
  act_break state = refl

  pub act_return : (value : _) (state : State) → act_means here at (view_stmt (stmt.Return value)) state ≡ return_means here at (view_expr value) state
  unfolding act_means act return_means view_stmt
  act_return value state = refl

  pub act_fail : (code : List ℕ) (state : State) → act_means here at (view_stmt (stmt.Fail code)) state ≡ fail_means here at code state
  unfolding act_means act fail_means view_stmt
  act_fail code state = refl

  pub act_assert : (cond : _) (state : State) → act_means here at (view_stmt (stmt.Assert cond)) state ≡ assert_means here at (view_expr cond) state
  unfolding act_means act assert_means view_stmt
  act_assert cond state = refl

  pub alone : (cond : Expression) (body : Statements) (state : State) → act_means here at (If cond body) state ≡ if_means here at (inside_of at (If cond body)) cond body None state
  unfolding act_means act if_means
  alone cond body state = refl

  pub both : (cond : Expression) (body other : Statements) (state : State)
      → act_means here at (IfElse cond body other) state ≡ if_means here at (inside_of at (IfElse cond body other)) cond body (Some other) state
  unfolding act_means act if_means block_means
  both cond body other state = refl

  pub loops : (times : ℕ) (body : Statements) (state : State) → act_means here at (Repeat times body) state ≡ repeat_means here (inside_of at (Repeat times body)) body times state
  unfolding act_means act repeat_means
  loops times body state = refl

  pub goes_over : (name : List ℕ) (over : Expression) (body : Statements) (state : State)
      → act_means here at (For name over body) state ≡ for_each_means here at (inside_of at (For name over body)) name over body state
  unfolding act_means act for_each_means
  goes_over name over body state = refl

  pub calls : (target service method : List ℕ) (args : Expressions) (hs : Handlers) (state : State)
      → act_means here at (Call target service method args hs) state
      ≡ call_means here at (inside_of at (Call target service method args hs)) target service method args hs state
  unfolding act_means act call_means
  calls target service method args hs state = refl

-- ---- statements

module _ (here : Here) where
  pub statements_none : (at : Position) (state : State) → statements_mean here at NoStatements state ≡ Done Next state
  unfolding statements_mean
  statements_none at state = refl

  pub statements_and : (at : Position) (s : Statement) (ss : Statements) (state : State)
      → statements_mean here at (AndStatements s ss) state ≡ then_next (statement_means here at s state) (statements_mean here (past at (statement_counts s)) ss)
  unfolding statements_mean statement_means
  statements_and at s ss state = refl

  -- ---- a block

  pub block_rule : (at : Position) (body : Statements) (state : State)
      → block_means here at body state ≡ leave (length state.variables) (statements_mean here (past at one_block) body state)
  unfolding block_means statements_mean
  block_rule at body state = refl

  -- ---- the two ways of a condition

  module _ (at inside : Position) (cond : Expression) (body : Statements) (other : Option Statements) (state : State) where
    by_condition : (holds : Option Bool) → condition_here here state cond ≡ holds
        → if_means here at inside cond body other state
        ≡ with_some here.frame.whose at state holds (λ h. chosen (meaning_of here) here.frame inside body (otherwise here inside body other) h state)
    unfolding if_means
    by_condition holds e = ap (λ o. with_some here.frame.whose at state o (λ h. chosen (meaning_of here) here.frame inside body (otherwise here inside body other) h state)) e

    pub if_fault : condition_here here state cond ≡ None → if_means here at inside cond body other state ≡ Done (fault_flow here.frame.whose (at.statements + 1)) state
    if_fault e = by_condition None e

    pub if_true : condition_here here state cond ≡ Some true → if_means here at inside cond body other state ≡ block_means here inside body state
    unfolding block_means
    if_true e = by_condition (Some true) e

    pub if_false : condition_here here state cond ≡ Some false → if_means here at inside cond body other state ≡ otherwise here inside body other state
    if_false e = by_condition (Some false) e

  -- ---- loops

  pub repeat_none : (at : Position) (body : Statements) (state : State) → repeat_means here at body 0 state ≡ Done Next state
  unfolding repeat_means
  repeat_none at body state = refl

  pub repeat_more : (at : Position) (body : Statements) (n : ℕ) (state : State)
      → repeat_means here at body (suc n) state ≡ with_unit state (λ one. then_turn (block_means here at body one) (repeat_means here at body n))
  unfolding repeat_means block_means
  repeat_more at body n state = refl

  pub for_none : (at inside : Position) (name : List ℕ) (body : Statements) (state : State) → for_means here at inside name body [] state ≡ Done Next state
  unfolding for_means
  for_none at inside name body state = refl

  pub for_more : (at inside : Position) (name : List ℕ) (body : Statements) (item : Value) (items : List Value) (state : State)
      → for_means here at inside name body (item ∷ items) state
      ≡ with_unit state (λ one. then_turn (turn_means here at inside name body item one) (for_means here at inside name body items))
  unfolding for_means turn_means
  for_more at inside name body item items state = refl

  pub turn_rule : (at inside : Position) (name : List ℕ) (body : Statements) (item : Value) (state : State)
      → turn_means here at inside name body item state
      ≡ with_variables here.frame.whose at state (with_variable name item state.variables)
      (λ one. leave (length state.variables) (statements_mean here (past inside one_block) body one))
  unfolding turn_means statements_mean
  turn_rule at inside name body item state = refl

  module _ (at inside : Position) (name : List ℕ) (over : Expression) (body : Statements) (state : State) where
    by_items : (items : Option (List Value)) → items_here here state over ≡ items
        → for_each_means here at inside name over body state
        ≡ with_some here.frame.whose at state items (λ list. for_means here at inside name body list state)
    unfolding for_each_means for_means
    by_items items e = ap (λ o. with_some here.frame.whose at state o (λ list. for_means here at inside name body list state)) e

    pub for_fault : items_here here state over ≡ None → for_each_means here at inside name over body state ≡ Done (fault_flow here.frame.whose (at.statements + 1)) state
    for_fault e = by_items None e

    pub for_items : (items : List Value) → items_here here state over ≡ Some items
        → for_each_means here at inside name over body state ≡ for_means here at inside name body items state
    for_items items e = by_items (Some items) e

  -- ---- calls

  module _ (at inside : Position) (target service method : List ℕ) (args : Expressions) (handlers : Handlers) (state : State) where
    by_request : (request : Option PreparedCall) → prepared here.services here.frame.whose at service method args state ≡ request
        → call_means here at inside target service method args handlers state
        ≡ with_some here.frame.whose at state request (λ r. then_on (decided_means here r state) (taken_means here at inside target handlers))
    unfolding call_means decided_means taken_means
    by_request request e =
        ap (λ o. with_some here.frame.whose at state o (λ r. then_on (decided_means here r state) (taken_means here at inside target handlers))) e

    pub call_fault : prepared here.services here.frame.whose at service method args state ≡ None
        → call_means here at inside target service method args handlers state ≡ Done (fault_flow here.frame.whose (at.statements + 1)) state
    call_fault e = by_request None e

    pub call_goes_on : (request : PreparedCall) → prepared here.services here.frame.whose at service method args state ≡ Some request
        → call_means here at inside target service method args handlers state
        ≡ then_on (decided_means here request state) (taken_means here at inside target handlers)
    call_goes_on request e = by_request (Some request) e

  module _ (request : PreparedCall) (state : State) where
    by_decision : (given : Option Decision) → here.source (index_of_call here.frame request) request.callee.0 request.args ≡ given
        → decided_means here request state
        ≡ decided_by here.services (meaning_of here) (index_of_call here.frame request) given request state
    unfolding decided_means
    by_decision given e = ap (λ g. decided_by here.services (meaning_of here) (index_of_call here.frame request) g request state) e

    pub decided_missing : here.source (index_of_call here.frame request) request.callee.0 request.args ≡ None → decided_means here request state ≡ Missing
    decided_missing e = by_decision None e

    pub decided_forward : here.source (index_of_call here.frame request) request.callee.0 request.args ≡ Some Forward
        → decided_means here request state
        ≡ then_on (invocation_means here.services here.source request.callee request.args (index_of_call here.frame request) state.fuel)
        (λ tree left. returned state request (Ran tree) (reply_of tree) left)
    unfolding invocation_means
    decided_forward e = by_decision (Some Forward) e

    pub decided_fault : (got : Reply) → here.source (index_of_call here.frame request) request.callee.0 request.args ≡ Some (Fault got)
        → decided_means here request state ≡ returned state request Faulted got state.fuel
    decided_fault got e = by_decision (Some (Fault got)) e

    known_by : (got : Reply) (steps : ℕ) (injected : List MethodId) (fits : Bool) → nat_le steps state.fuel ≡ fits
        → here.source (index_of_call here.frame request) request.callee.0 request.args ≡ Some (Known got steps injected)
        → decided_means here request state ≡ cond fits (returned state request (KnownHow steps injected) got (state.fuel - steps)) Spent
    known_by got steps injected fits is e =
        by_decision (Some (Known got steps injected)) e ∙ ap (λ b. cond b (returned state request (KnownHow steps injected) got (state.fuel - steps)) Spent) is

    pub decided_known : (got : Reply) (steps left : ℕ) (injected : List MethodId) → state.fuel ≡ left + steps
        → here.source (index_of_call here.frame request) request.callee.0 request.args ≡ Some (Known got steps injected)
        → decided_means here request state ≡ returned state request (KnownHow steps injected) got left
    decided_known got steps left injected fits e =
        known_by got steps injected true (le-leb steps state.fuel (omega arith)) e
        ∙ ap (returned state request (KnownHow steps injected) got) (omega arith)

    pub decided_spent : (got : Reply) (steps : ℕ) (injected : List MethodId) → state.fuel < steps
        → here.source (index_of_call here.frame request) request.callee.0 request.args ≡ Some (Known got steps injected)
        → decided_means here request state ≡ Spent
    decided_spent got steps injected few e = known_by got steps injected false (above steps state.fuel few) e

  module _ (at inside : Position) (target : List ℕ) (handlers : Handlers) where
    pub taken_ok : (v : Value) (state : State)
        → taken_means here at inside target handlers (reply.Ok v) state ≡ with_variables here.frame.whose at state (with_value_of target v state.variables) (Done Next)
    unfolding taken_means
    taken_ok v state = refl

    pub taken_err : (code : List ℕ) (state : State)
        → taken_means here at inside target handlers (reply.Err code) state ≡ handled_means here (at.sites + 1) inside code handlers state
    unfolding taken_means handled_means
    taken_err code state = refl

  -- ---- handlers

  pub handled_none : (site : ℕ) (at : Position) (code : List ℕ) (state : State)
      → handled_means here site at code NoHandlers state ≡ Done (unhandled_flow here.frame.whose site code) state
  unfolding handled_means
  handled_none site at code state = refl

  module _ (site : ℕ) (at : Position) (code : List ℕ) (wanted : Option (List ℕ)) (body : Statements) (handlers : Handlers) (state : State) where
    pub handled_here : catches wanted code ≡ true → handled_means here site at code (AndHandlers wanted body handlers) state ≡ block_means here at body state
    unfolding handled_means block_means
    handled_here e =
        ap (λ b. chosen (meaning_of here) here.frame at body (handled (meaning_of here) here.frame site (past at (block_counts body)) code handlers) b state) e

    pub handled_further : catches wanted code ≡ false
        → handled_means here site at code (AndHandlers wanted body handlers) state ≡ handled_means here site (past at (block_counts body)) code handlers state
    unfolding handled_means
    handled_further e =
        ap (λ b. chosen (meaning_of here) here.frame at body (handled (meaning_of here) here.frame site (past at (block_counts body)) code handlers) b state) e

-- ---- a method

pub invocation_rule : (services : ServicesTree) (source : Source) (method : MethodId) (args : List Value) (index : List Occurrence) (fuel : ℕ) (tree : MethodTree)
    → method_at services method.0 ≡ Some tree
    → invocation_means services source method args index fuel
    ≡ then_on (statements_mean (record { services = services; source = source; frame = method_frame index }) beginning tree.body (method_state tree args fuel)) (invocation_of method args)
unfolding invocation_means statements_mean
invocation_rule services source method args index fuel tree there = ap (λ m. body_goes (meaning services source) m method args index fuel) there
