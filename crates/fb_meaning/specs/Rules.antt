-- What each statement means, as equations in which no bound stands: it takes a unit of fuel, and then it does this.
use Rattle.std.specs.Prelude.{◌≡◌, ℕ, List}
use Rattle.fb_syntax.specs.Trees.{Expression, Expressions, Statement, Let, Assign, If, IfElse, Repeat, For, Break, Return, Fail, Call, Assert, Statements, Handlers, ServicesTree}
use Rattle.fb_transport.specs.Sources.{Source}
use Rattle.fb_meaning.specs.Evaluations.{Done, Next, Broke, State, Going, with_unit}
use Rattle.fb_meaning.specs.Positions.{Position, past, block_counts}
use Rattle.fb_meaning.specs.Bodies.{Frame, block_goes, inside_of, let_goes, assign_goes, if_goes, repeat_goes, for_each_goes, return_goes, fail_goes, call_goes, assert_goes}
use Rattle.fb_meaning.specs.Meaning.{meaning}

module _ (services : ServicesTree) (source : Source) (frame : Frame) (at : Position) where
  -- a statement means a unit, and what it does then
  abbrev pub Means : Statement → (State → Going) → Type 0
  Means s does = (state : State) → meaning services source frame at s state ≡ with_unit state does

  pub record FollowsRules : Type 0 where
    pub let_rule : (name : List ℕ) (value : Expression) → Means (Let name value) (let_goes services source (meaning services source) frame at name value)
    pub assign_rule : (name : List ℕ) (value : Expression) → Means (Assign name value) (assign_goes services source (meaning services source) frame at name value)
    pub if_rule : (cond : Expression) (body : Statements)
        → Means (If cond body) (if_goes services source (meaning services source) frame at (inside_of at (If cond body)) cond body (Done Next))
    pub if_else_rule : (cond : Expression) (body other : Statements)
        → Means (IfElse cond body other)
        (if_goes services source (meaning services source) frame at (inside_of at (IfElse cond body other)) cond body
        (block_goes (meaning services source) frame (past (inside_of at (IfElse cond body other)) (block_counts body)) other))
    pub repeat_rule : (times : ℕ) (body : Statements)
        → Means (Repeat times body) (repeat_goes (meaning services source) frame (inside_of at (Repeat times body)) body times)
    pub for_rule : (name : List ℕ) (over : Expression) (body : Statements)
        → Means (For name over body) (for_each_goes services source (meaning services source) frame at (inside_of at (For name over body)) name over body)
    pub break_rule : Means Break (Done Broke)
    pub return_rule : (value : Expression) → Means (Return value) (return_goes services source (meaning services source) frame at value)
    pub fail_rule : (code : List ℕ) → Means (Fail code) (fail_goes services source (meaning services source) frame at code)
    pub call_rule : (target service method : List ℕ) (args : Expressions) (handlers : Handlers)
        → Means (Call target service method args handlers)
        (call_goes services source (meaning services source) frame at (inside_of at (Call target service method args handlers)) target service method args handlers)
    pub assert_rule : (cond : Expression) → Means (Assert cond) (assert_goes services source (meaning services source) frame at cond)
