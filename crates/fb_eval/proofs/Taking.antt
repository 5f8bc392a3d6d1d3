-- Variables that take a reply or an item.
use Rattle.std.proofs.Common.{◌≡◌, ℕ, ◌+◌, List, Some, None, sym, ap, ◌∙◌}
use Rattle.fb_base.specs.declared.value.Value.{Value}
use Rattle.fb_base.specs.declared.reply.Reply.{Reply}
use Rattle.fb_base.specs.declared.reply.Reply.TheVariants as reply
use Rattle.fb_syntax.specs.Trees.{Handlers, Statements}
use Rattle.fb_meaning.specs.Evaluations.{Done, Flow, Next, NamedValue, State, holding}
use Rattle.fb_meaning.specs.Variables.{with_variable, with_value_of}
use Rattle.fb_meaning.specs.Positions.{Position}
use Rattle.fb_meaning.specs.Bodies.{fault_flow}
use Rattle.fb_eval.specs.Means.{Here, taken_means, turn_means, handled_means}
use Rattle.fb_eval.proofs.Ends.{changes, misses}
use Rattle.fb_eval.proofs.Rules.{taken_ok, taken_err}
use Rattle.fb_eval.proofs.Loops.{turn_faults}

module _ (here : Here) (at inside : Position) where
  module _ (target : List ℕ) (handlers : Handlers) (got : Reply) (state : State) where
    pub taken_put : (v : Value) (after : List NamedValue) → got ≡ reply.Ok v → with_value_of target v state.variables ≡ Some after
        → taken_means here at inside target handlers got state ≡ Done Next (holding after state)
    taken_put v after is put =
        ap (λ r. taken_means here at inside target handlers r state) is ∙ taken_ok here at inside target handlers v state
        ∙ changes here.frame.whose at state (with_value_of target v state.variables) (Done Next) after put

    pub taken_nowhere : (v : Value) (after : List NamedValue) (flow : Flow) → got ≡ reply.Ok v → with_value_of target v state.variables ≡ None → after ≡ state.variables
        → flow ≡ fault_flow here.frame.whose (at.statements + 1) → taken_means here at inside target handlers got state ≡ Done flow (holding after state)
    taken_nowhere v after flow is missed same faults =
        ap (λ r. taken_means here at inside target handlers r state) is ∙ taken_ok here at inside target handlers v state
        ∙ misses here.frame.whose at state (with_value_of target v state.variables) (Done Next) missed
        ∙ (λ i. Done (sym faults i) (holding (sym same i) state))

    pub taken_error : (code : List ℕ) (site : ℕ) → got ≡ reply.Err code → site ≡ at.sites + 1
        → taken_means here at inside target handlers got state ≡ handled_means here site inside code handlers state
    taken_error code site is numbered =
        ap (λ r. taken_means here at inside target handlers r state) is ∙ taken_err here at inside target handlers code state
        ∙ ap (λ n. handled_means here n inside code handlers state) (sym numbered)

  pub turn_missed : (name : List ℕ) (body : Statements) (item : Value) (state : State) (after : List NamedValue) (flow : Flow) → with_variable name item state.variables ≡ None
      → after ≡ state.variables → flow ≡ fault_flow here.frame.whose (at.statements + 1) → turn_means here at inside name body item state ≡ Done flow (holding after state)
  turn_missed name body item state after flow missed same faults =
      turn_faults here at inside name body item state missed ∙ (λ i. Done (sym faults i) (holding (sym same i) state))
