-- A relation on states that a unit, a call and the change of variables keep is kept by every statement.
use Rattle.std.specs.Prelude.{◌≡◌, ℕ, zero, suc, ◌+◌, Bool, true, false, List, [], ◌∷◌, take, length, Option, Some, None, ⊤}
use Rattle.std.proofs.Common.{refl}
use Rattle.fb_base.specs.declared.value.Value.{Value}
use Rattle.fb_base.specs.declared.reply.Reply.{Reply}
use Rattle.fb_base.specs.declared.reply.Reply.TheVariants as reply
use Rattle.fb_syntax.specs.Trees.{Statement, Let, Assign, If, IfElse, Repeat, For, Break, Return, Fail, Call, Assert, Statements, NoStatements, AndStatements, Handlers, NoHandlers, AndHandlers}
use Rattle.fb_syntax.specs.Trees.{Expression, Expressions, ServicesTree}
use Rattle.fb_transport.specs.Sources.{Source}
use Rattle.fb_meaning.specs.Evaluations.{Evaluation, Spent, Missing, Done, then_on, Flow, Next, Broke, Gave, Ended, NamedValue, State, holding, begun, Going, with_unit, with_unit_of, on_next, on_turn, on_leave, leave}
use Rattle.fb_meaning.specs.Variables.{with_variable, with_value_of}
use Rattle.fb_meaning.specs.Expressions.{◌>>=◌}
use Rattle.fb_meaning.specs.Positions.{Position, past, one_block, statement_counts, block_counts}
use Rattle.fb_meaning.specs.Meaning.{within, meaning}
use Rattle.fb_meaning.specs.Bodies.{Frame, Meaning, PreparedCall, statements_go, block_goes, inside_of, value_here, truth_of, items_of, answer_flow, assert_flow, prepared, with_some, with_variables, decided, catches, handled, taken, repeat_goes, turn_goes, for_goes, chosen, act}

abbrev pub Relation : Type 1
Relation = State → State → Type 0

-- where it is done, the state before and the one after are so related
abbrev pub Kept : {A : Type 0} → Relation → State → Evaluation A State → Type 0
Kept R before Spent = ⊤
Kept R before Missing = ⊤
Kept R before (Done what after) = R before after

-- such a relation
pub record IsStepRelation (R : Relation) : Type 0 where
  pub same : (t : State) → R t t
  pub joined : (a b c : State) → R a b → R b c → R a c
  pub assigned : (t : State) (variables : List NamedValue) → R t (holding variables t)
  pub unit : (t : State) (left : ℕ) → t.fuel ≡ suc left → R t (begun left t)

module _ (R : Relation) (steps : IsStepRelation R) where
  pub kept_on : {A : Type 0} (a b : State) (x : Evaluation A State) → R a b → Kept R b x → Kept R a x
  kept_on a b Spent h k = tt
  kept_on a b Missing h k = tt
  kept_on a b (Done what c) h k = steps.joined a b c h k

  pub kept_then : {A B : Type 0} (a : State) (x : Evaluation A State) (go : A → State → Evaluation B State)
      → Kept R a x → ((what : A) (t : State) → Kept R t (go what t)) → Kept R a (then_on x go)
  kept_then a Spent go h k = tt
  kept_then a Missing go h k = tt
  kept_then a (Done what t) go h k = kept_on a t (go what t) h (k what t)

  pub on_next_keeps : (go : State → Going) → ((t : State) → Kept R t (go t)) → (flow : Flow) (t : State) → Kept R t (on_next go flow t)
  on_next_keeps go k Next t = k t
  on_next_keeps go k Broke t = steps.same t
  on_next_keeps go k (Gave answer) t = steps.same t
  on_next_keeps go k (Ended how) t = steps.same t

  pub on_turn_keeps : (go : State → Going) → ((t : State) → Kept R t (go t)) → (flow : Flow) (t : State) → Kept R t (on_turn go flow t)
  on_turn_keeps go k Next t = k t
  on_turn_keeps go k Broke t = steps.same t
  on_turn_keeps go k (Gave answer) t = steps.same t
  on_turn_keeps go k (Ended how) t = steps.same t

  pub on_leave_keeps : (n : ℕ) (flow : Flow) (t : State) → Kept R t (on_leave n flow t)
  on_leave_keeps n flow t = steps.assigned t (take n t.variables)

  kept_unit_of : (a : State) (go : State → Going) (fuel : ℕ) → a.fuel ≡ fuel → ((t : State) → Kept R t (go t)) → Kept R a (with_unit_of a go fuel)
  kept_unit_of a go zero e k = tt
  kept_unit_of a go (suc left) e k = kept_on a _ (go _) (steps.unit a left e) (k _)

  pub kept_unit : (a : State) (go : State → Going) → ((t : State) → Kept R t (go t)) → Kept R a (with_unit a go)
  kept_unit a go k = kept_unit_of a go a.fuel refl k

  module _ (run : Meaning) (frame : Frame) (run_keeps : (at : Position) (s : Statement) (t : State) → Kept R t (run frame at s t)) where
    pub statements_keep : (at : Position) (ss : Statements) (t : State) → Kept R t (statements_go run frame at ss t)
    statements_keep at NoStatements t = steps.same t
    statements_keep at (AndStatements s ss) t =
        kept_then t (run frame at s t) _ (run_keeps at s t) (on_next_keeps _ (statements_keep (past at (statement_counts s)) ss))

    pub block_keeps : (at : Position) (ss : Statements) (t : State) → Kept R t (block_goes run frame at ss t)
    block_keeps at ss t = kept_then t (statements_go run frame (past at one_block) ss t) _ (statements_keep (past at one_block) ss t) (on_leave_keeps (length t.variables))

    pub some_keeps : {A : Type 0} (at : Position) (t : State) (o : Option A) (go : A → Going)
        → ((x : A) → Kept R t (go x)) → Kept R t (with_some frame.whose at t o go)
    some_keeps at t None go k = steps.same t
    some_keeps at t (Some x) go k = k x

    pub variables_keep : (at : Position) (t : State) (o : Option (List NamedValue)) (go : State → Going)
        → ((u : State) → Kept R u (go u)) → Kept R t (with_variables frame.whose at t o go)
    variables_keep at t None go k = steps.same t
    variables_keep at t (Some variables) go k = kept_on t _ (go _) (steps.assigned t variables) (k _)

    pub chosen_keeps : (at : Position) (body : Statements) (other : State → Going) (holds : Bool) (t : State)
        → Kept R t (other t) → Kept R t (chosen run frame at body other holds t)
    chosen_keeps at body other true t h = block_keeps at body t
    chosen_keeps at body other false t h = h

    pub repeat_keeps : (at : Position) (body : Statements) (n : ℕ) (t : State) → Kept R t (repeat_goes run frame at body n t)
    repeat_keeps at body zero t = steps.same t
    repeat_keeps at body (suc n) t =
        kept_unit t _ (λ u. kept_then u (block_goes run frame at body u) _ (block_keeps at body u) (on_turn_keeps _ (repeat_keeps at body n)))

    pub turn_keeps : (at inside : Position) (name : List ℕ) (body : Statements) (item : Value) (t : State)
        → Kept R t (turn_goes run frame at inside name body item t)
    turn_keeps at inside name body item t =
        variables_keep at t (with_variable name item t.variables) (λ u. leave (length t.variables) (statements_go run frame (past inside one_block) body u))
        (λ u. kept_then u (statements_go run frame (past inside one_block) body u) (on_leave (length t.variables)) (statements_keep (past inside one_block) body u) (on_leave_keeps (length t.variables)))

    pub for_keeps : (at inside : Position) (name : List ℕ) (body : Statements) (items : List Value) (t : State)
        → Kept R t (for_goes run frame at inside name body items t)
    for_keeps at inside name body [] t = steps.same t
    for_keeps at inside name body (item ∷ items) t =
        kept_unit t _ (λ u. kept_then u (turn_goes run frame at inside name body item u) _
        (turn_keeps at inside name body item u) (on_turn_keeps _ (for_keeps at inside name body items)))

    pub handled_keeps : (site : ℕ) (at : Position) (code : List ℕ) (hs : Handlers) (t : State) → Kept R t (handled run frame site at code hs t)
    handled_keeps site at code NoHandlers t = steps.same t
    handled_keeps site at code (AndHandlers wanted body hs) t =
        chosen_keeps at body _ (catches wanted code) t (handled_keeps site (past at (block_counts body)) code hs t)

    pub taken_keeps : (at inside : Position) (target : List ℕ) (hs : Handlers) (got : Reply) (t : State)
        → Kept R t (taken run frame at inside target hs got t)
    taken_keeps at inside target hs (reply.Ok v) t =
        variables_keep at t (with_value_of target v t.variables) (Done Next) (λ u. steps.same u)
    taken_keeps at inside target hs (reply.Err code) t = handled_keeps (at.sites + 1) inside code hs t

    module _ (services : ServicesTree) (source : Source) where
      abbrev found : State → Expression → Option Value
      found t e = value_here services frame.whose t e

      -- what a statement does keeps the relation to a state from before its unit, where its call does
      pub act_keeps : (a t : State) → R a t → (at : Position)
          → ((service method : List ℕ) (args : Expressions) (request : PreparedCall) → prepared services frame.whose at service method args t ≡ Some request
          → Kept R a (decided services source run frame request t))
          → (s : Statement) → Kept R a (act services source run frame at s t)
      unfolding act
      act_keeps a t h at call (Let name value) =
          kept_on a t _ h (variables_keep at t (found t value >>= λ v. with_variable name v t.variables) (Done Next) (λ u. steps.same u))
      act_keeps a t h at call (Assign name value) =
          kept_on a t _ h (variables_keep at t (found t value >>= λ v. with_value_of name v t.variables) (Done Next) (λ u. steps.same u))
      act_keeps a t h at call (If cond body) =
          kept_on a t _ h (some_keeps at t (found t cond >>= truth_of) _
          (λ holds. chosen_keeps (inside_of at (If cond body)) body (Done Next) holds t (steps.same t)))
      act_keeps a t h at call (IfElse cond body other) =
          let behind = past (inside_of at (IfElse cond body other)) (block_counts body) in
          kept_on a t _ h (some_keeps at t (found t cond >>= truth_of) _
          (λ holds. chosen_keeps (inside_of at (IfElse cond body other)) body (block_goes run frame behind other) holds t (block_keeps behind other t)))
      act_keeps a t h at call (Repeat times body) = kept_on a t _ h (repeat_keeps (inside_of at (Repeat times body)) body times t)
      act_keeps a t h at call (For name over body) =
          kept_on a t _ h (some_keeps at t (found t over >>= items_of) _ (λ items. for_keeps at (inside_of at (For name over body)) name body items t))
      act_keeps a t h at call Break = h
      act_keeps a t h at call (Return value) =
          kept_on a t _ h (some_keeps at t (found t value >>= λ v. answer_flow frame.whose (reply.Ok v)) (λ flow. Done flow t) (λ flow. steps.same t))
      act_keeps a t h at call (Fail code) =
          kept_on a t _ h (some_keeps at t (answer_flow frame.whose (reply.Err code)) (λ flow. Done flow t) (λ flow. steps.same t))
      act_keeps a t h at call (Call target service method args handlers) =
          call_cases (prepared services frame.whose at service method args t) refl
        where
          call_cases : (o : Option PreparedCall) → prepared services frame.whose at service method args t ≡ o
              → Kept R a (with_some frame.whose at t o (λ request. then_on (decided services source run frame request t)
              (taken run frame at (inside_of at (Call target service method args handlers)) target handlers)))
          call_cases None e = h
          call_cases (Some request) e =
              kept_then a (decided services source run frame request t) (taken run frame at (inside_of at (Call target service method args handlers)) target handlers)
              (call service method args request e) (taken_keeps at (inside_of at (Call target service method args handlers)) target handlers)
      act_keeps a t h at call (Assert cond) =
          kept_on a t _ h (some_keeps at t (found t cond >>= truth_of >>= assert_flow frame.whose (at.asserts + 1)) (λ flow. Done flow t) (λ flow. steps.same t))

-- every bound on the meaning keeps the relation, where a unit and a call that is prepared then keep it
module _ (R : Frame → Relation) (steps : (frame : Frame) → IsStepRelation (R frame)) (services : ServicesTree) (source : Source)
    (calls : (run : Meaning) → ((frame : Frame) (at : Position) (s : Statement) (t : State) → Kept (R frame) t (run frame at s t))
    → (frame : Frame) (at : Position) (service method : List ℕ) (args : Expressions) (request : PreparedCall) (t : State) (left : ℕ) → t.fuel ≡ suc left
    → prepared services frame.whose at service method args (begun left t) ≡ Some request
    → Kept (R frame) t (decided services source run frame request (begun left t))) where
  unit_and_act : (run : Meaning) → ((frame : Frame) (at : Position) (s : Statement) (t : State) → Kept (R frame) t (run frame at s t))
      → (frame : Frame) (at : Position) (s : Statement) (t : State) (fuel : ℕ) → t.fuel ≡ fuel → Kept (R frame) t (with_unit_of t (act services source run frame at s) fuel)
  unit_and_act run keeps frame at s t zero e = tt
  unit_and_act run keeps frame at s t (suc left) e =
      act_keeps (R frame) (steps frame) run frame (keeps frame) services source t (begun left t) ((steps frame).unit t left e) at
      (λ service method args request is. calls run keeps frame at service method args request t left e is) s

  pub within_keeps : (bound : ℕ) (frame : Frame) (at : Position) (s : Statement) (t : State) → Kept (R frame) t (within services source bound frame at s t)
  unfolding within
  within_keeps zero frame at s t = tt
  within_keeps (suc bound) frame at s t = unit_and_act (within services source bound) (within_keeps bound) frame at s t t.fuel refl

  pub meaning_keeps : (frame : Frame) (at : Position) (s : Statement) (t : State) → Kept (R frame) t (meaning services source frame at s t)
  unfolding meaning
  meaning_keeps frame at s t = within_keeps t.fuel frame at s t
