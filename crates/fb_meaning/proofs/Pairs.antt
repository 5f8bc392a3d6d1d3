-- Two bodies that start alike and whose calls go alike go alike, statement by statement.
use Rattle.std.specs.Prelude.{◌≡◌, ℕ, zero, suc, ◌+◌, Bool, true, false, List, [], ◌∷◌, take, length, Option, Some, None}
use Rattle.std.proofs.Common.{refl, subst, ap, ◌∙◌}
use Rattle.fb_base.specs.declared.value.Value.{Value}
use Rattle.fb_base.specs.declared.reply.Reply.{Reply}
use Rattle.fb_base.specs.declared.reply.Reply.TheVariants as reply
use Rattle.fb_syntax.specs.Trees.{Statement, Let, Assign, If, IfElse, Repeat, For, Break, Return, Fail, Call, Assert, Statements, NoStatements, AndStatements, Handlers, NoHandlers, AndHandlers}
use Rattle.fb_syntax.specs.Trees.{Expression, Expressions, ServicesTree}
use Rattle.fb_check.specs.Declarations.{declarations_of, number_in}
use Rattle.fb_tree.specs.Calls.{calls_at}
use Rattle.fb_index.specs.Entry.{Occurrence}
use Rattle.fb_transport.specs.Sources.{Source}
use Rattle.fb_meaning.specs.Evaluations.{Done, then_on, Flow, Next, Broke, Gave, Ended, NamedValue, State, holding, Going, with_unit, on_next, on_turn, on_leave, leave}
use Rattle.fb_meaning.specs.Variables.{with_variable, with_value_of}
use Rattle.fb_meaning.specs.Expressions.{◌>>=◌, Environment, value_of, values_of}
use Rattle.fb_meaning.specs.Positions.{Position, past, one_block, statement_counts, block_counts}
use Rattle.fb_meaning.specs.Bodies.{Whose, Frame, Meaning, PreparedCall, questions, environment, value_here, statements_go, block_goes, with_some, with_variables, prepared, decided, catches, handled, taken, repeat_goes, turn_goes, for_goes, chosen, act, truth_of, items_of, answer_flow, assert_flow, fault_flow, unhandled_flow}
use Rattle.fb_meaning.proofs.Steps.{Relation, Kept, IsStepRelation, kept_then, on_next_keeps, on_turn_keeps, on_leave_keeps, statements_keep, block_keeps, repeat_keeps, turn_keeps, for_keeps, taken_keeps}

abbrev pub framed : Whose → List Occurrence → Frame
framed whose index = record { whose = whose; index = index }

-- what comes of each state is so related to it
abbrev pub Keeps : Relation → (State → Going) → Type 0
Keeps R go = (t : State) → Kept R t (go t)

-- when two states, and two evaluations, go together
pub record IsPairing (R : Relation) (whose : Whose) (Alike : State → State → Type 0) (Together : Going → Going → Type 0) : Type 0 where
  pub variables : (t u : State) → Alike t u → t.variables ≡ u.variables
  pub asks : (t u : State) → Alike t u → questions whose t.calls ≡ questions whose u.calls
  pub counts : (t u : State) → Alike t u → (site : ℕ) → calls_at site t.calls ≡ calls_at site u.calls
  pub assigned : (t u : State) (variables : List NamedValue) → Alike t u → Alike (holding variables t) (holding variables u)
  pub done : (flow : Flow) (t u : State) → Alike t u → Together (Done flow t) (Done flow u)
  pub unit : (t u : State) (go along : State → Going) → Alike t u → Keeps R go → Keeps R along
      → ((a b : State) → Alike a b → Together (go a) (along b)) → Together (with_unit t go) (with_unit u along)
  pub on : (x y : Going) (after along : Flow → State → Going) → Together x y
      → ((flow : Flow) → Keeps R (after flow)) → ((flow : Flow) → Keeps R (along flow))
      → ((flow : Flow) (a b : State) → Alike a b → Together (after flow a) (along flow b)) → Together (then_on x after) (then_on y along)

-- a call is prepared by what its arguments read, and by how often the site has called
abbrev prepared_by : ServicesTree → Position → List ℕ → List ℕ → Expressions → Environment → ℕ → Option PreparedCall
prepared_by services at service method args here calls = do
  callee ← number_in (declarations_of services) service method
  values ← values_of services here args
  Some (record { entry = record { site = at.sites + 1; count = calls + 1 }; callee = record { 0 = callee }; args = values })

module _ (R : Relation) (steps : IsStepRelation R) (whose : Whose)
    (Alike : State → State → Type 0) (Together : Going → Going → Type 0) (pairing : IsPairing R whose Alike Together) where
  same_environment : (t u : State) → Alike t u → environment whose t ≡ environment whose u
  same_environment t u h =
      let vars : t.variables ≡ u.variables = pairing.variables t u h in
      let asks : questions whose t.calls ≡ questions whose u.calls = pairing.asks t u h in
      cc

  pub same_value_here : (services : ServicesTree) (t u : State) (e : Expression) → Alike t u → value_here services whose t e ≡ value_here services whose u e
  same_value_here services t u e h = ap (λ here. value_of services here e) (same_environment t u h)

  pub some_alike : {A : Type 0} (at : Position) (t u : State) (o p : Option A) (go along : A → Going) → Alike t u → o ≡ p
      → ((x : A) → Together (go x) (along x)) → Together (with_some whose at t o go) (with_some whose at u p along)
  some_alike at t u o p go along h e k = subst (λ q. Together (with_some whose at t o go) (with_some whose at u q along)) e (some_cases o)
    where
      some_cases : (o : Option _) → Together (with_some whose at t o go) (with_some whose at u o along)
      some_cases None = pairing.done (fault_flow whose (at.statements + 1)) t u h
      some_cases (Some x) = k x

  pub variables_alike : (at : Position) (t u : State) (o p : Option (List NamedValue)) (go along : State → Going) → Alike t u → o ≡ p
      → ((a b : State) → Alike a b → Together (go a) (along b)) → Together (with_variables whose at t o go) (with_variables whose at u p along)
  variables_alike at t u o p go along h e k = some_alike at t u o p _ _ h e (λ variables. k _ _ (pairing.assigned t u variables h))

  on_next_alike : (go along : State → Going) → ((a b : State) → Alike a b → Together (go a) (along b))
      → (flow : Flow) (a b : State) → Alike a b → Together (on_next go flow a) (on_next along flow b)
  on_next_alike go along k Next a b h = k a b h
  on_next_alike go along k Broke a b h = pairing.done Broke a b h
  on_next_alike go along k (Gave answer) a b h = pairing.done (Gave answer) a b h
  on_next_alike go along k (Ended how) a b h = pairing.done (Ended how) a b h

  on_turn_alike : (go along : State → Going) → ((a b : State) → Alike a b → Together (go a) (along b))
      → (flow : Flow) (a b : State) → Alike a b → Together (on_turn go flow a) (on_turn along flow b)
  on_turn_alike go along k Next a b h = k a b h
  on_turn_alike go along k Broke a b h = pairing.done Next a b h
  on_turn_alike go along k (Gave answer) a b h = pairing.done (Gave answer) a b h
  on_turn_alike go along k (Ended how) a b h = pairing.done (Ended how) a b h

  on_leave_alike : (n : ℕ) (flow : Flow) (a b : State) → Alike a b → Together (on_leave n flow a) (on_leave n flow b)
  on_leave_alike n flow a b h =
      subst (λ vs. Together (Done flow (holding (take n a.variables) a)) (Done flow (holding (take n vs) b))) (pairing.variables a b h)
      (pairing.done flow _ _ (pairing.assigned a b (take n a.variables) h))

  module _ (run along : Meaning) (here there : List Occurrence)
      (run_keeps : (at : Position) (s : Statement) (t : State) → Kept R t (run (framed whose here) at s t))
      (along_keeps : (at : Position) (s : Statement) (t : State) → Kept R t (along (framed whose there) at s t))
      (run_alike : (at : Position) (s : Statement) (t u : State) → Alike t u → Together (run (framed whose here) at s t) (along (framed whose there) at s u)) where
    pub statements_alike : (at : Position) (ss : Statements) (t u : State) → Alike t u
        → Together (statements_go run (framed whose here) at ss t) (statements_go along (framed whose there) at ss u)
    statements_alike at NoStatements t u h = pairing.done Next t u h
    statements_alike at (AndStatements s ss) t u h =
        pairing.on _ _ _ _ (run_alike at s t u h)
        (on_next_keeps R steps _ (statements_keep R steps run (framed whose here) run_keeps (past at (statement_counts s)) ss))
        (on_next_keeps R steps _ (statements_keep R steps along (framed whose there) along_keeps (past at (statement_counts s)) ss))
        (on_next_alike _ _ (statements_alike (past at (statement_counts s)) ss))

    left_alike : (t u : State) (x y : Going) → Alike t u → Together x y → Together (leave (length t.variables) x) (leave (length u.variables) y)
    left_alike t u x y h together =
        subst (λ vs. Together (leave (length t.variables) x) (leave (length vs) y)) (pairing.variables t u h)
        (pairing.on x y _ _ together (on_leave_keeps R steps (length t.variables)) (on_leave_keeps R steps (length t.variables)) (on_leave_alike (length t.variables)))

    pub block_alike : (at : Position) (ss : Statements) (t u : State) → Alike t u
        → Together (block_goes run (framed whose here) at ss t) (block_goes along (framed whose there) at ss u)
    block_alike at ss t u h = left_alike t u _ _ h (statements_alike (past at one_block) ss t u h)

    chosen_alike : (at : Position) (body : Statements) (go other : State → Going) (holds : Bool) (t u : State) → Alike t u
        → Together (go t) (other u) → Together (chosen run (framed whose here) at body go holds t) (chosen along (framed whose there) at body other holds u)
    chosen_alike at body go other true t u h k = block_alike at body t u h
    chosen_alike at body go other false t u h k = k

    repeat_alike : (at : Position) (body : Statements) (n : ℕ) (t u : State) → Alike t u
        → Together (repeat_goes run (framed whose here) at body n t) (repeat_goes along (framed whose there) at body n u)
    repeat_alike at body zero t u h = pairing.done Next t u h
    repeat_alike at body (suc n) t u h =
        pairing.unit t u _ _ h
        (λ a. kept_then R steps a (block_goes run (framed whose here) at body a) _ (block_keeps R steps run (framed whose here) run_keeps at body a)
        (on_turn_keeps R steps _ (repeat_keeps R steps run (framed whose here) run_keeps at body n)))
        (λ a. kept_then R steps a (block_goes along (framed whose there) at body a) _ (block_keeps R steps along (framed whose there) along_keeps at body a)
        (on_turn_keeps R steps _ (repeat_keeps R steps along (framed whose there) along_keeps at body n)))
        (λ a b k. pairing.on _ _ _ _ (block_alike at body a b k)
        (on_turn_keeps R steps _ (repeat_keeps R steps run (framed whose here) run_keeps at body n))
        (on_turn_keeps R steps _ (repeat_keeps R steps along (framed whose there) along_keeps at body n))
        (on_turn_alike _ _ (repeat_alike at body n)))

    turn_alike : (at inside : Position) (name : List ℕ) (body : Statements) (item : Value) (t u : State) → Alike t u
        → Together (turn_goes run (framed whose here) at inside name body item t) (turn_goes along (framed whose there) at inside name body item u)
    turn_alike at inside name body item t u h =
        variables_alike at t u _ _ _ _ h (ap (with_variable name item) (pairing.variables t u h))
        (λ a b k. left_alike t u _ _ h (statements_alike (past inside one_block) body a b k))

    for_alike : (at inside : Position) (name : List ℕ) (body : Statements) (items : List Value) (t u : State) → Alike t u
        → Together (for_goes run (framed whose here) at inside name body items t) (for_goes along (framed whose there) at inside name body items u)
    for_alike at inside name body [] t u h = pairing.done Next t u h
    for_alike at inside name body (item ∷ items) t u h =
        pairing.unit t u _ _ h
        (λ a. kept_then R steps a (turn_goes run (framed whose here) at inside name body item a) _ (turn_keeps R steps run (framed whose here) run_keeps at inside name body item a)
        (on_turn_keeps R steps _ (for_keeps R steps run (framed whose here) run_keeps at inside name body items)))
        (λ a. kept_then R steps a (turn_goes along (framed whose there) at inside name body item a) _ (turn_keeps R steps along (framed whose there) along_keeps at inside name body item a)
        (on_turn_keeps R steps _ (for_keeps R steps along (framed whose there) along_keeps at inside name body items)))
        (λ a b k. pairing.on _ _ _ _ (turn_alike at inside name body item a b k)
        (on_turn_keeps R steps _ (for_keeps R steps run (framed whose here) run_keeps at inside name body items))
        (on_turn_keeps R steps _ (for_keeps R steps along (framed whose there) along_keeps at inside name body items))
        (on_turn_alike _ _ (for_alike at inside name body items)))

    handled_alike : (site : ℕ) (at : Position) (code : List ℕ) (hs : Handlers) (t u : State) → Alike t u
        → Together (handled run (framed whose here) site at code hs t) (handled along (framed whose there) site at code hs u)
    handled_alike site at code NoHandlers t u h = pairing.done (unhandled_flow whose site code) t u h
    handled_alike site at code (AndHandlers wanted body hs) t u h =
        chosen_alike at body _ _ (catches wanted code) t u h (handled_alike site (past at (block_counts body)) code hs t u h)

    pub taken_alike : (at inside : Position) (target : List ℕ) (hs : Handlers) (got : Reply) (t u : State) → Alike t u
        → Together (taken run (framed whose here) at inside target hs got t) (taken along (framed whose there) at inside target hs got u)
    taken_alike at inside target hs (reply.Ok v) t u h =
        variables_alike at t u _ _ _ _ h (ap (with_value_of target v) (pairing.variables t u h)) (λ a b k. pairing.done Next a b k)
    taken_alike at inside target hs (reply.Err code) t u h = handled_alike (at.sites + 1) inside code hs t u h

    module _ (services : ServicesTree) (source other : Source)
        (call_alike : (request : PreparedCall) (t u : State) (go along_go : Reply → State → Going) → Alike t u
        → ((got : Reply) → Keeps R (go got)) → ((got : Reply) → Keeps R (along_go got))
        → ((got : Reply) (a b : State) → Alike a b → Together (go got a) (along_go got b))
        → Together (then_on (decided services source run (framed whose here) request t) go)
        (then_on (decided services other along (framed whose there) request u) along_go)) where
      prepared_alike : (at : Position) (service method : List ℕ) (args : Expressions) (t u : State) → Alike t u
          → prepared services whose at service method args t ≡ prepared services whose at service method args u
      prepared_alike at service method args t u h =
          ap (λ here. prepared_by services at service method args here (calls_at (at.sites + 1) t.calls)) (same_environment t u h)
          ∙ ap (prepared_by services at service method args (environment whose u)) (pairing.counts t u h (at.sites + 1))

      same_changed : (e : Expression) (change : List NamedValue → Value → Option (List NamedValue)) (t u : State) → Alike t u
          → (value_here services whose t e >>= change t.variables) ≡ (value_here services whose u e >>= change u.variables)
      same_changed e change t u h =
          ap (λ o. o >>= change t.variables) (same_value_here services t u e h)
          ∙ ap (λ vs. value_here services whose u e >>= change vs) (pairing.variables t u h)

      same_found : {A : Type 0} (e : Expression) (found : Value → Option A) (t u : State) → Alike t u
          → (value_here services whose t e >>= found) ≡ (value_here services whose u e >>= found)
      same_found e found t u h = ap (λ o. o >>= found) (same_value_here services t u e h)

      pub act_alike : (at : Position) (s : Statement) (t u : State) → Alike t u
          → Together (act services source run (framed whose here) at s t) (act services other along (framed whose there) at s u)
      unfolding act
      act_alike at (Let name value) t u h =
          variables_alike at t u _ _ _ _ h (same_changed value (λ vs v. with_variable name v vs) t u h) (pairing.done Next)
      act_alike at (Assign name value) t u h =
          variables_alike at t u _ _ _ _ h (same_changed value (λ vs v. with_value_of name v vs) t u h) (pairing.done Next)
      act_alike at (If cond body) t u h =
          some_alike at t u _ _ _ _ h (same_found cond truth_of t u h)
          (λ holds. chosen_alike _ body _ _ holds t u h (pairing.done Next t u h))
      act_alike at (IfElse cond body otherwise) t u h =
          some_alike at t u _ _ _ _ h (same_found cond truth_of t u h)
          (λ holds. chosen_alike _ body _ _ holds t u h (block_alike _ otherwise t u h))
      act_alike at (Repeat times body) t u h = repeat_alike _ body times t u h
      act_alike at (For name over body) t u h =
          some_alike at t u _ _ _ _ h (same_found over items_of t u h) (λ items. for_alike at _ name body items t u h)
      act_alike at Break t u h = pairing.done Broke t u h
      act_alike at (Return value) t u h =
          some_alike at t u _ _ _ _ h (same_found value (λ v. answer_flow whose (reply.Ok v)) t u h) (λ flow. pairing.done flow t u h)
      act_alike at (Fail code) t u h = some_alike at t u _ _ _ _ h refl (λ flow. pairing.done flow t u h)
      act_alike at (Call target service method args handlers) t u h =
          some_alike at t u _ _ _ _ h (prepared_alike at service method args t u h)
          (λ request. call_alike request t u _ _ h
          (taken_keeps R steps run (framed whose here) run_keeps at _ target handlers)
          (taken_keeps R steps along (framed whose there) along_keeps at _ target handlers)
          (taken_alike at _ target handlers))
      act_alike at (Assert cond) t u h =
          some_alike at t u _ _ _ _ h
          (ap (λ o. o >>= assert_flow whose (at.asserts + 1)) (same_found cond truth_of t u h)) (λ flow. pairing.done flow t u h)
