-- Bodies keep the kinds of their variables, where the statements inside them do.
use Rattle.std.specs.Prelude.{◌≡◌, ℕ, zero, suc, ◌+◌, Bool, true, false, List, [], ◌∷◌, ◌++◌, length, take, codes, Option, Some, None, ⊤}
use Rattle.std.proofs.Common.{refl, sym, subst, append_assoc, append-nil, arith}
use Rattle.fb_base.specs.declared.kind.Kind.{Kind}
use Rattle.fb_base.specs.declared.method.MethodName.{MethodName}
use Rattle.fb_base.specs.declared.reply.Reply.{Reply}
use Rattle.fb_base.specs.declared.reply.Reply.TheVariants as reply
use Rattle.fb_base.specs.declared.value.Value.{Value}
use Rattle.fb_base.specs.Values.{HasKind}
use Rattle.fb_syntax.specs.Trees.{Statement, Statements, NoStatements, AndStatements, Handlers, NoHandlers, AndHandlers, ServicesTree}
use Rattle.fb_check.specs.Accepted.{Variables, with_variable as and_variable, behind, Fits, BlockFits, HandlersFit}
use Rattle.fb_check.specs.Declarations.{declarations_of, number_in}
use Rattle.fb_check.specs.Scopes.{Scope}
use Rattle.fb_check.specs.Sites.{statement_sites, sites, handler_sites}
use Rattle.fb_check.specs.declared.owner.Owner.{Owner}
use Rattle.fb_check.specs.declared.owner.Owner.TheVariants as owner
use Rattle.fb_tree.specs.Runs.{CallList, AndCall, How}
use Rattle.fb_tree.specs.declared.asked.Asked.{Asked}
use Rattle.fb_meaning.specs.Bodies.{Whose, OfMethod, OfTest, Frame, Meaning, statements_go, block_goes, chosen, repeat_goes, turn_goes, for_goes, handled, taken, with_some, with_variables, fault_flow, unhandled_flow, catches}
use Rattle.fb_meaning.specs.Evaluations.{Spent, Missing, Done, Flow, Next, Broke, Gave, Ended, NamedValue, State, holding, begun, Going, with_unit_of, then_next, then_turn, leave}
use Rattle.fb_meaning.specs.Kinds.{AreOfScope, AnswerFits, FlowFits, NextDeclares, IsFittingInvocation, FitsBelow}
use Rattle.fb_meaning.specs.Positions.{Position, past, one_block, statement_counts, block_counts}
use Rattle.fb_meaning.specs.Records.{IsOkOfKind}
use Rattle.fb_meaning.specs.Variables.{with_variable, with_value_of}
use Rattle.fb_meaning.proofs.ScopeValues.{Declares, binding_of, as_long, front_of_scope, added, assigned, declares_more}
use Rattle.fb_meaning.proofs.SitePlaces.{SitesAre, sites_moved, sites_front, sites_behind, statement_sites_count, sites_count}

-- ---- bodies

-- a body: whose it is, which methods its sites may call, and what is to hold of its calls
pub record Body (services : ServicesTree) : Type 1 where
  pub whose : Owner
  pub At : ℕ → ℕ → Type 0
  pub Hold : CallList → Type 0
  -- a call that fits is one more
  pub more : (before : CallList) (asked : Asked) (how : How) → Hold before → At asked.entry.site asked.callee.0
      → IsFittingInvocation services asked.callee.0 asked.args asked.reply → FitsBelow services how → Hold (AndCall before asked how)

-- each has this kind
abbrev pub AllHave : List Value → Kind → Type 0
AllHave [] kind = ⊤
AllHave (v ∷ vs) kind = HasKind v kind × AllHave vs kind

pub err_fits : (whose : Owner) (code : List ℕ) → AnswerFits whose (reply.Err code)
err_fits (owner.Method gives) code = tt
err_fits owner.Test code = tt

fault_fits : (whose : Owner) (of : Whose) (number : ℕ) → FlowFits whose (fault_flow of number)
fault_fits whose OfMethod number = err_fits whose (codes "internal")
fault_fits whose OfTest number = tt

unhandled_fits : (whose : Owner) (of : Whose) (site : ℕ) (code : List ℕ) → FlowFits whose (unhandled_flow of site code)
unhandled_fits whose OfMethod site code = err_fits whose code
unhandled_fits whose OfTest site code = tt

module _ (services : ServicesTree) (body : Body services) where
  -- a name at a site is that of a method which the body may call there
  abbrev pub IsSite : ℕ → MethodName → Type 0
  IsSite site name = (callee : ℕ) → number_in (declarations_of services) name.service name.method ≡ Some callee → body.At site callee

  pub record Holds (scope : Scope) (t : State) : Type 0 where
    pub variables : AreOfScope scope t.variables
    pub calls : body.Hold t.calls

  -- it ends in the scope in which it began
  pub record EndsAt (scope : Scope) (flow : Flow) (u : State) : Type 0 where
    pub holds : Holds scope u
    pub fits : FlowFits body.whose flow

  abbrev pub GoesAt : Scope → Going → Type 0
  GoesAt scope Spent = ⊤
  GoesAt scope Missing = ⊤
  GoesAt scope (Done flow u) = EndsAt scope flow u

  -- it ends in a scope with more variables
  pub record EndsIn (scope : Scope) (flow : Flow) (u : State) : Type 0 where
    pub more : Scope
    pub holds : Holds (scope ++ more) u
    pub fits : FlowFits body.whose flow

  abbrev pub GoesIn : Scope → Going → Type 0
  GoesIn scope Spent = ⊤
  GoesIn scope Missing = ⊤
  GoesIn scope (Done flow u) = EndsIn scope flow u

  -- and where it goes on, these are declared there
  pub record EndsSo (scope : Scope) (declared : Variables) (flow : Flow) (u : State) : Type 0 where
    pub more : Scope
    pub holds : Holds (scope ++ more) u
    pub fits : FlowFits body.whose flow
    pub next : NextDeclares declared flow (scope ++ more)

  abbrev pub GoesSo : Scope → Variables → Going → Type 0
  GoesSo scope declared Spent = ⊤
  GoesSo scope declared Missing = ⊤
  GoesSo scope declared (Done flow u) = EndsSo scope declared flow u

  -- ---- scopes

  further : (scope more : Scope) (x : Going) → GoesIn (scope ++ more) x → GoesIn scope x
  further scope more Spent h = tt
  further scope more Missing h = tt
  further scope more (Done flow u) h = record {
    more = more ++ h.more;
    holds = subst (λ s. Holds s u) (append_assoc scope more h.more) h.holds;
    fits = h.fits;
  }

  next_in : (scope : Scope) (declared : Variables) (x : Going) (go : State → Going) → GoesSo scope declared x
      → ((more : Scope) (u : State) → Declares (scope ++ more) declared → Holds (scope ++ more) u → GoesIn (scope ++ more) (go u)) → GoesIn scope (then_next x go)
  next_in scope declared Spent go h k = tt
  next_in scope declared Missing go h k = tt
  next_in scope declared (Done Next u) go h k = further scope h.more (go u) (k h.more u h.next h.holds)
  next_in scope declared (Done Broke u) go h k = record { more = h.more; holds = h.holds; fits = h.fits }
  next_in scope declared (Done (Gave got) u) go h k = record { more = h.more; holds = h.holds; fits = h.fits }
  next_in scope declared (Done (Ended how) u) go h k = record { more = h.more; holds = h.holds; fits = h.fits }

  next_at : (scope : Scope) (x : Going) (go : State → Going) → GoesAt scope x → ((u : State) → Holds scope u → GoesAt scope (go u)) → GoesAt scope (then_turn x go)
  next_at scope Spent go h k = tt
  next_at scope Missing go h k = tt
  next_at scope (Done Next u) go h k = k u h.holds
  next_at scope (Done Broke u) go h k = record { holds = h.holds; fits = tt }
  next_at scope (Done (Gave got) u) go h k = h
  next_at scope (Done (Ended how) u) go h k = h

  left_at : (scope : Scope) (count : ℕ) (x : Going) → count ≡ length scope → GoesIn scope x → GoesAt scope (leave count x)
  left_at scope count Spent e h = tt
  left_at scope count Missing e h = tt
  left_at scope count (Done flow u) e h = record {
    holds = record {
      variables = subst (λ n. AreOfScope scope (take n u.variables)) (sym e) (front_of_scope scope h.more u.variables h.holds.variables);
      calls = h.holds.calls;
    };
    fits = h.fits;
  }

  pub at_so : (scope : Scope) (declared : Variables) (x : Going) → Declares scope declared → GoesAt scope x → GoesSo scope declared x
  at_so scope declared Spent d h = tt
  at_so scope declared Missing d h = tt
  at_so scope declared (Done flow u) d h = record {
    more = [];
    holds = subst (λ s. Holds s u) (sym (append-nil scope)) h.holds;
    fits = h.fits;
    next = next_declares flow;
  }
    where
      next_declares : (flow : Flow) → NextDeclares declared flow (scope ++ [])
      next_declares Next = subst (λ s. Declares s declared) (sym (append-nil scope)) d
      next_declares Broke = tt
      next_declares (Gave got) = tt
      next_declares (Ended how) = tt

  unit_at : (scope : Scope) (t : State) (go : State → Going) (fuel : ℕ) → Holds scope t → ((u : State) → Holds scope u → GoesAt scope (go u)) → GoesAt scope (with_unit_of t go fuel)
  unit_at scope t go zero h k = tt
  unit_at scope t go (suc left) h k = k (begun left t) (record { variables = h.variables; calls = h.calls })

  -- ---- what is computed

  pub some_at : {A : Type 0} (scope : Scope) (of : Whose) (at : Position) (t : State) (o : Option A) (go : A → Going) → Holds scope t
      → ((x : A) → o ≡ Some x → GoesAt scope (go x)) → GoesAt scope (with_some of at t o go)
  some_at scope of at t None go h k = record { holds = h; fits = fault_fits body.whose of (at.statements + 1) }
  some_at scope of at t (Some x) go h k = k x refl

  pub variables_at : (scope : Scope) (of : Whose) (at : Position) (t : State) (o : Option (List NamedValue)) (go : State → Going) → Holds scope t
      → ((vs : List NamedValue) → o ≡ Some vs → GoesAt scope (go (holding vs t))) → GoesAt scope (with_variables of at t o go)
  variables_at scope of at t o go h k = some_at scope of at t o (λ vs. go (holding vs t)) h k

  -- ---- statements inside

  module _ (run : Meaning) (frame : Frame)
      (runs : (looping : Bool) (declared : Variables) (at : Position) (s : Statement) (scope : Scope) (t : State) → Fits services body.whose looping declared s
      → SitesAre IsSite at.sites (statement_sites s) → Declares scope declared → Holds scope t → GoesSo scope (behind services body.whose declared s) (run frame at s t)) where
    pub statements_in : (looping : Bool) (declared : Variables) (at : Position) (ss : Statements) (scope : Scope) (t : State) → BlockFits services body.whose looping declared ss
        → SitesAre IsSite at.sites (sites ss) → Declares scope declared → Holds scope t → GoesIn scope (statements_go run frame at ss t)
    unfolding statement_counts
    statements_in looping declared at NoStatements scope t fits placed d h =
        record { more = []; holds = subst (λ s. Holds s t) (sym (append-nil scope)) h; fits = tt }
    statements_in looping declared at (AndStatements s ss) scope t fits placed d h =
        next_in scope (behind services body.whose declared s) (run frame at s t) (statements_go run frame (past at (statement_counts s)) ss)
        (runs looping declared at s scope t fits.0 (sites_front IsSite at.sites (statement_sites s) (sites ss) placed) d h)
        (λ more u there holds.
        statements_in looping (behind services body.whose declared s) (past at (statement_counts s)) ss (scope ++ more) u fits.1
        (sites_moved IsSite (at.sites + length (statement_sites s)) ((past at (statement_counts s)).sites) (sites ss) (omega (arith, statement_sites_count s))
        (sites_behind IsSite at.sites (statement_sites s) (sites ss) placed)) there holds)

    pub block_at : (looping : Bool) (declared : Variables) (at : Position) (ss : Statements) (scope : Scope) (t : State) → BlockFits services body.whose looping declared ss
        → SitesAre IsSite at.sites (sites ss) → Declares scope declared → Holds scope t → GoesAt scope (block_goes run frame at ss t)
    block_at looping declared at ss scope t fits placed d h =
        left_at scope (length t.variables) (statements_go run frame (past at one_block) ss t) (as_long scope t.variables h.variables)
        (statements_in looping declared (past at one_block) ss scope t fits (sites_moved IsSite at.sites ((past at one_block).sites) (sites ss) (omega arith) placed) d h)

    pub chosen_at : (looping : Bool) (declared : Variables) (at : Position) (ss : Statements) (other : State → Going) (decides : Bool) (scope : Scope) (t : State)
        → BlockFits services body.whose looping declared ss → SitesAre IsSite at.sites (sites ss) → Declares scope declared → Holds scope t → GoesAt scope (other t)
        → GoesAt scope (chosen run frame at ss other decides t)
    chosen_at looping declared at ss other true scope t fits placed d h k = block_at looping declared at ss scope t fits placed d h
    chosen_at looping declared at ss other false scope t fits placed d h k = k

    pub repeat_at : (declared : Variables) (at : Position) (ss : Statements) (n : ℕ) (scope : Scope) (t : State) → BlockFits services body.whose true declared ss
        → SitesAre IsSite at.sites (sites ss) → Declares scope declared → Holds scope t → GoesAt scope (repeat_goes run frame at ss n t)
    repeat_at declared at ss zero scope t fits placed d h = record { holds = h; fits = tt }
    repeat_at declared at ss (suc n) scope t fits placed d h =
        unit_at scope t _ t.fuel h
        (λ u holds. next_at scope (block_goes run frame at ss u) (repeat_goes run frame at ss n) (block_at true declared at ss scope u fits placed d holds)
        (λ v also. repeat_at declared at ss n scope v fits placed d also))

    module _ (declared : Variables) (at inside : Position) (name : List ℕ) (item : Kind) (ss : Statements)
        (fits : BlockFits services body.whose true (and_variable name (λ kind. kind ≡ item) declared) ss) (placed : SitesAre IsSite inside.sites (sites ss))
        (scope : Scope) (d : Declares scope declared) where
      turn_at : (v : Value) (t : State) → HasKind v item → Holds scope t → GoesAt scope (turn_goes run frame at inside name ss v t)
      turn_at v t has h =
          variables_at scope frame.whose at t (with_variable name v t.variables) (λ u. leave (length t.variables) (statements_go run frame (past inside one_block) ss u)) h
          (λ vs is.
          let more = added scope t.variables vs name v item h.variables has is in
          left_at scope (length t.variables) (statements_go run frame (past inside one_block) ss (holding vs t)) (as_long scope t.variables h.variables)
          (further scope (binding_of name item ∷ []) (statements_go run frame (past inside one_block) ss (holding vs t))
          (statements_in true (and_variable name (λ kind. kind ≡ item) declared) (past inside one_block) ss (scope ++ binding_of name item ∷ []) (holding vs t) fits
          (sites_moved IsSite inside.sites ((past inside one_block).sites) (sites ss) (omega arith) placed)
          (declares_more scope declared name item (λ kind. kind ≡ item) d more.new refl (λ other same. same))
          (record { variables = more.hold; calls = h.calls }))))

      pub for_at : (vs : List Value) (t : State) → AllHave vs item → Holds scope t → GoesAt scope (for_goes run frame at inside name ss vs t)
      for_at [] t all h = record { holds = h; fits = tt }
      for_at (v ∷ vs) t all h =
          unit_at scope t _ t.fuel h
          (λ u holds. next_at scope (turn_goes run frame at inside name ss v u) (for_goes run frame at inside name ss vs) (turn_at v u all.0 holds)
          (λ w also. for_at vs w all.1 also))

    pub handled_at : (looping : Bool) (declared : Variables) (site : ℕ) (at : Position) (code : List ℕ) (hs : Handlers) (scope : Scope) (t : State) → HandlersFit services body.whose looping declared hs
        → SitesAre IsSite at.sites (handler_sites hs) → Declares scope declared → Holds scope t → GoesAt scope (handled run frame site at code hs t)
    unfolding block_counts
    handled_at looping declared site at code NoHandlers scope t fits placed d h = record { holds = h; fits = unhandled_fits body.whose frame.whose site code }
    handled_at looping declared site at code (AndHandlers wanted ss hs) scope t fits placed d h =
        chosen_at looping declared at ss (handled run frame site (past at (block_counts ss)) code hs) (catches wanted code) scope t fits.0
        (sites_front IsSite at.sites (sites ss) (handler_sites hs) placed) d h
        (handled_at looping declared site (past at (block_counts ss)) code hs scope t fits.1
        (sites_moved IsSite (at.sites + length (sites ss)) ((past at (block_counts ss)).sites) (handler_sites hs) (omega (arith, sites_count ss))
        (sites_behind IsSite at.sites (sites ss) (handler_sites hs) placed)) d h)

    pub taken_at : (looping : Bool) (declared : Variables) (at inside : Position) (target : List ℕ) (gives : Kind) (hs : Handlers) (got : Reply) (scope : Scope) (t : State)
        → IsOkOfKind gives got → declared target gives → HandlersFit services body.whose looping declared hs → SitesAre IsSite inside.sites (handler_sites hs)
        → Declares scope declared → Holds scope t → GoesAt scope (taken run frame at inside target hs got t)
    taken_at looping declared at inside target gives hs (reply.Ok v) scope t has there fits placed d h =
        variables_at scope frame.whose at t (with_value_of target v t.variables) (Done Next) h
        (λ vs is. record {
          holds = record { variables = assigned scope t.variables vs target v gives h.variables ((d target gives).0 there) has is; calls = h.calls };
          fits = tt;
        })
    taken_at looping declared at inside target gives hs (reply.Err code) scope t has there fits placed d h =
        handled_at looping declared (at.sites + 1) inside code hs scope t fits placed d h
