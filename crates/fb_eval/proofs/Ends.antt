-- How an evaluation ends by how its parts end.
use Rattle.std.proofs.Common.{◌≡◌, ℕ, suc, ◌+◌, List, Option, Some, None, refl, sym, ap, ◌∙◌, subst}
use Rattle.fb_meaning.specs.Evaluations.{Evaluation, Spent, Done, then_on, State, Going, begun, with_unit, with_unit_of, then_next, then_turn, NamedValue}
use Rattle.fb_meaning.specs.Positions.{Position}
use Rattle.fb_meaning.specs.Bodies.{Whose, fault_flow, with_variables}
use Rattle.fb_eval.specs.declared.flow.Flow.{Flow as FlowOf}
use Rattle.fb_eval.specs.declared.flow.Flow.TheVariants as flow
use Rattle.fb_eval.specs.declared.stop.Stop.{Stop}
use Rattle.fb_eval.specs.declared.stop.Stop.TheVariants as stop
use Rattle.fb_eval.specs.States.{Stops, flow_of}

-- where a part stops, the whole stops
stops_too : {W S V T : Type 0} (x : Evaluation W S) (go : W → S → Evaluation V T) (why : Stop) → Stops x why → Stops (then_on x go) why
stops_too x go stop.Spent e = ap (λ y. then_on y go) e
stops_too x go stop.Missing e = ap (λ y. then_on y go) e
stops_too x go stop.Memory e = tt

pub stops_by : {W S V T : Type 0} (means : Evaluation V T) (x : Evaluation W S) (go : W → S → Evaluation V T) (why : Stop) → means ≡ then_on x go → Stops x why → Stops means why
stops_by means x go why e h = subst (λ m. Stops m why) (sym e) (stops_too x go why h)

-- by an equation of what is meant
pub stops_as : {W S : Type 0} (means other : Evaluation W S) (why : Stop) → means ≡ other → Stops other why → Stops means why
stops_as means other why e h = subst (λ m. Stops m why) (sym e) h

-- where no statement comes next, the whole has ended
pub goes_no_further : (how : FlowOf) (state : State) (go : State → Going) → (how ≡ flow.Next → ⊥) → then_next (Done (flow_of how) state) go ≡ Done (flow_of how) state
goes_no_further flow.Next state go other = absurd (other refl)
goes_no_further flow.Broke state go other = refl
goes_no_further (flow.Gave reply) state go other = refl
goes_no_further (flow.Ended outcome) state go other = refl

pub turns_no_further : (how : FlowOf) (state : State) (go : State → Going) → (how ≡ flow.Next → ⊥) → (how ≡ flow.Broke → ⊥)
    → then_turn (Done (flow_of how) state) go ≡ Done (flow_of how) state
turns_no_further flow.Next state go other also = absurd (other refl)
turns_no_further flow.Broke state go other also = absurd (also refl)
turns_no_further (flow.Gave reply) state go other also = refl
turns_no_further (flow.Ended outcome) state go other also = refl

-- ---- units

pub unit_taken : (go : State → Going) (before after : State) (left : ℕ) → before.fuel ≡ suc left → after ≡ begun left before → with_unit before go ≡ go after
unit_taken go before after left e k = ap (with_unit_of before go) e ∙ ap go (sym k)

pub unit_spent : (go : State → Going) (before : State) → before.fuel ≡ 0 → with_unit before go ≡ Spent
unit_spent go before e = ap (with_unit_of before go) e

-- ---- variables

pub changes : (whose : Whose) (at : Position) (state : State) (changed : Option (List NamedValue)) (go : State → Going) (after : List NamedValue) → changed ≡ Some after
    → with_variables whose at state changed go ≡ go (record state { variables = after })
changes whose at state changed go after e = ap (λ c. with_variables whose at state c go) e

pub misses : (whose : Whose) (at : Position) (state : State) (changed : Option (List NamedValue)) (go : State → Going) → changed ≡ None
    → with_variables whose at state changed go ≡ Done (fault_flow whose (at.statements + 1)) state
misses whose at state changed go e = ap (λ c. with_variables whose at state c go) e
