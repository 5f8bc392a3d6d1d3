-- Two evaluations of one method on the same arguments go alike as long as their calls get the same replies.
use Rattle.std.specs.Prelude.{◌≡◌, ◌⊎◌, ℕ, zero, suc, ◌+◌, ◌<◌, ◌≤◌, ◌==◌, if◌then◌else◌, List, [], ◌∷◌, ◌++◌, map, length, take, slice_get, Some}
use Rattle.std.proofs.Common.{refl, sym, ap, ◌∙◌, subst, append_assoc, length-append, arith, inl, inr}
use Rattle.std.proofs.lemmas.Bool.{cases_lt}
use Rattle.std.proofs.lemmas.List.{map-append, length-map}
use Rattle.fb_base.specs.declared.value.Value.{Value}
use Rattle.fb_base.specs.declared.reply.Reply.{Reply}
use Rattle.fb_index.specs.Entry.{Occurrence}
use Rattle.fb_syntax.specs.Trees.{Statement, MethodTree, ServicesTree}
use Rattle.fb_tree.specs.Runs.{CallList, AndCall, How}
use Rattle.fb_tree.specs.Records.{asked_of}
use Rattle.fb_tree.specs.Calls.{calls_at}
use Rattle.fb_tree.specs.declared.asked.Asked.{Asked}
use Rattle.fb_transport.specs.Sources.{Source}
use Rattle.fb_meaning.specs.Evaluations.{Evaluation, Spent, Missing, Done, State, begun, Going, with_unit, with_unit_of}
use Rattle.fb_meaning.specs.Positions.{Position, beginning}
use Rattle.fb_meaning.specs.Meaning.{meaning}
use Rattle.fb_meaning.specs.Bodies.{OfMethod, Frame, PreparedCall, statements_go, method_state, decided, asked_and_got, act}
use Rattle.fb_meaning.specs.CallLaws.{ExtendsCalls}
use Rattle.fb_meaning.proofs.Steps.{Kept, IsStepRelation, act_keeps}
use Rattle.fb_meaning.proofs.Pairs.{Keeps, IsPairing, framed, statements_alike, act_alike}
use Rattle.fb_meaning.proofs.Meetings.{Ends, GoOn, Part, IsMeeting, Meet, meet_spent, then_meets, wider_meet}
use Rattle.fb_meaning.proofs.Units.{TakesUnits, takes_units, call_takes, meaning_takes}
use Rattle.fb_meaning.proofs.Extensions.{Extends, extends, AddsDone, call_adds, call_extends, meaning_extends, asked_of_extended, item_at_end, item_stays, item_of_front}
use Rattle.fb_meaning.proofs.Bounds.{meaning_rule}

-- ---- both relations of steps at once

pub record GoesFurther (before after : State) : Type 0 where
  pub units : TakesUnits before after
  pub calls : Extends before after

pub goes_further : IsStepRelation GoesFurther
goes_further = record {
  same = λ t. record { units = takes_units.same t; calls = extends.same t };
  joined = λ a b c h k. record { units = takes_units.joined a b c h.units k.units; calls = extends.joined a b c h.calls k.calls };
  assigned = λ t variables. record { units = takes_units.assigned t variables; calls = extends.assigned t variables };
  unit = λ t left is. record { units = takes_units.unit t left is; calls = extends.unit t left is };
}

both_kept : {A : Type 0} (t : State) (x : Evaluation A State) → Kept TakesUnits t x → Kept Extends t x → Kept GoesFurther t x
both_kept t Spent h k = tt
both_kept t Missing h k = tt
both_kept t (Done what u) h k = record { units = h; calls = k }

module _ (services : ServicesTree) (source : Source) where
  pub meaning_goes_further : (frame : Frame) (at : Position) (s : Statement) (t : State) → Kept GoesFurther t (meaning services source frame at s t)
  meaning_goes_further frame at s t = both_kept t _ (meaning_takes services source frame at s t) (meaning_extends services source frame at s t)

  pub call_goes_further : (frame : Frame) (request : PreparedCall) (t : State) → Kept GoesFurther t (decided services source (meaning services source) frame request t)
  call_goes_further frame request t =
      both_kept t _ (call_takes services source (meaning services source) (meaning_takes services source) frame request t)
      (call_extends services source (meaning services source) frame request t)

  pub act_goes_further : (frame : Frame) (at : Position) (s : Statement) → Keeps GoesFurther (act services source (meaning services source) frame at s)
  act_goes_further frame at s t =
      act_keeps GoesFurther goes_further (meaning services source) frame (meaning_goes_further frame) services source t t (goes_further.same t) at
      (λ service method args request is. call_goes_further frame request t) s

-- ---- replies

abbrev pub replies_in : CallList → List Reply
replies_in calls = map (λ asked. asked.reply) (asked_of calls)

-- the calls so far got the first of these replies
pub record GetsFirst (calls : CallList) (whole : List Reply) : Type 0 where
  pub rest : List Reply
  pub are : whole ≡ replies_in calls ++ rest

gets_first_before : (before after : CallList) (whole : List Reply) → ExtendsCalls before after → GetsFirst after whole → GetsFirst before whole
gets_first_before before after whole e h =
    let asked : asked_of after ≡ asked_of before ++ map (λ a. a.0) e.0 = ap asked_of e.1 ∙ asked_of_extended before e.0 in
    let more : List Reply = map (λ asked. asked.reply) (map (λ a. a.0) e.0) in
    let replies : replies_in after ≡ replies_in before ++ more =
    ap (map (λ asked. asked.reply)) asked ∙ map-append (λ (a : Asked). a.reply) (asked_of before) (map (λ a. a.0) e.0) in
    record {
      rest = more ++ h.rest;
      are = h.are ∙ ap (λ xs. xs ++ h.rest) replies ∙ append_assoc (replies_in before) more h.rest;
    }

-- what a call got is the next of them
next_reply : (before : CallList) (asked : Asked) (how : How) (whole : List Reply) → GetsFirst (AndCall before asked how) whole
    → slice_get whole (length (asked_of before)) ≡ Some asked.reply
next_reply before asked how whole h =
    let replies : replies_in (AndCall before asked how) ≡ replies_in before ++ asked.reply ∷ [] =
    map-append (λ (a : Asked). a.reply) (asked_of before) (asked ∷ []) in
    let are : whole ≡ replies_in before ++ asked.reply ∷ h.rest =
    h.are ∙ ap (λ xs. xs ++ h.rest) replies ∙ append_assoc (replies_in before) (asked.reply ∷ []) h.rest in
    let count : length (replies_in before) ≡ length (asked_of before) = simp length-map in
    ap (λ n. slice_get whole n) (sym count) ∙ ap (λ xs. slice_get xs (length (replies_in before))) are
    ∙ item_at_end (replies_in before) h.rest asked.reply

-- ---- how two evaluations meet

-- the next calls ask for the same
pub record AskAlike (k : ℕ) (xs ys : List Asked) : Type 0 where
  pub first : Asked
  pub second : Asked
  pub first_asked : slice_get xs k ≡ Some first
  pub second_asked : slice_get ys k ≡ Some second
  pub same_entry : first.entry ≡ second.entry
  pub same_callee : first.callee ≡ second.callee
  pub same_args : first.args ≡ second.args

ask_alike_later : (k : ℕ) (t u a b : State) → Extends t a → Extends u b → AskAlike k (asked_of t.calls) (asked_of u.calls) → AskAlike k (asked_of a.calls) (asked_of b.calls)
ask_alike_later k t u a b h j e =
    let here : asked_of a.calls ≡ asked_of t.calls ++ map (λ x. x.0) h.calls.0 = ap asked_of h.calls.1 ∙ asked_of_extended t.calls h.calls.0 in
    let there : asked_of b.calls ≡ asked_of u.calls ++ map (λ x. x.0) j.calls.0 = ap asked_of j.calls.1 ∙ asked_of_extended u.calls j.calls.0 in
    record {
      first = e.first;
      second = e.second;
      first_asked = ap (λ xs. slice_get xs k) here ∙ item_stays (asked_of t.calls) (map (λ x. x.0) h.calls.0) k e.first e.first_asked;
      second_asked = ap (λ xs. slice_get xs k) there ∙ item_stays (asked_of u.calls) (map (λ x. x.0) j.calls.0) k e.second e.second_asked;
      same_entry = e.same_entry;
      same_callee = e.same_callee;
      same_args = e.same_args;
    }

-- up to here they went alike, with no more than k calls, and the first has less fuel than the bound
pub record AreSame (k bound : ℕ) (t u : State) : Type 0 where
  pub variables : t.variables ≡ u.variables
  pub asked : asked_of t.calls ≡ asked_of u.calls
  pub counts : (site : ℕ) → calls_at site t.calls ≡ calls_at site u.calls
  pub steps : t.steps ≡ u.steps
  pub few : length (asked_of t.calls) ≤ k
  pub small : t.fuel < bound

module _ (k : ℕ) (mine theirs : List Reply) (agree : take k mine ≡ take k theirs) where
  -- what the calls got so far are the first of these replies
  pub record GetFirst (t u : State) : Type 0 where
    pub first : GetsFirst t.calls mine
    pub second : GetsFirst u.calls theirs

  pub record AskOn (t u : State) : Type 0 where
    pub asks : AskAlike k (asked_of t.calls) (asked_of u.calls)

  by_replies : IsMeeting GoesFurther GetFirst AskOn
  by_replies = record {
    before = λ t u a b h j guard. record {
      first = gets_first_before t.calls a.calls mine h.calls.calls guard.first;
      second = gets_first_before u.calls b.calls theirs j.calls.calls guard.second;
    };
    later = λ t u a b h j apart. record { asks = ask_alike_later k t u a b h.calls j.calls apart.asks };
  }

  abbrev pub MeetBelow : (bound : ℕ) {A : Type 0} → Evaluation A State → Evaluation A State → Type 0
  MeetBelow bound = Meet GoesFurther GetFirst (AreSame k bound) AskOn

  module _ (bound : ℕ) where
    units_meet : (t u : State) (go along : State → Going) (fuel other : ℕ) → t.fuel ≡ fuel → u.fuel ≡ other → AreSame k (suc bound) t u
        → ((a b : State) → AreSame k bound a b → MeetBelow bound (go a) (along b)) → MeetBelow bound (with_unit_of t go fuel) (with_unit_of u along other)
    units_meet t u go along zero other e f same m = tt
    units_meet t u go along (suc left) zero e f same m = meet_spent GoesFurther GetFirst (AreSame k bound) AskOn (go (begun left t))
    units_meet t u go along (suc left) (suc rest) e f same m =
        m (begun left t) (begun rest u) (record {
          variables = same.variables;
          asked = same.asked;
          counts = same.counts;
          steps = ap suc same.steps;
          few = same.few;
          small = omega (arith, same.small, e);
        })

    wider_same : (t u : State) → AreSame k bound t u → AreSame k (suc bound) t u
    wider_same t u h = record { variables = h.variables; asked = h.asked; counts = h.counts; steps = h.steps; few = h.few; small = omega (arith, h.small) }

    same_meets : IsPairing GoesFurther OfMethod (AreSame k bound) (MeetBelow bound)
    same_meets = record {
      variables = λ t u h. h.variables;
      asks = λ t u h. refl;
      counts = λ t u h. h.counts;
      assigned = λ t u variables h. record { variables = refl; asked = h.asked; counts = h.counts; steps = h.steps; few = h.few; small = h.small };
      done = λ flow t u h _. GoOn refl h;
      unit = λ t u go along h _ _ m. units_meet t u go along t.fuel u.fuel refl refl (wider_same t u h) m;
      on = λ x y after along m h j go. then_meets GoesFurther GetFirst (AreSame k bound) AskOn by_replies x y after along h j m go;
    }

    -- ---- calls

    same_reply : (n : ℕ) (got given : Reply) → n < k → slice_get mine n ≡ Some got → slice_get theirs n ≡ Some given → got ≡ given
    same_reply n got given h e f =
        let one : slice_get (take k mine) n ≡ slice_get mine n = item_of_front n k mine h in
        let other : slice_get (take k theirs) n ≡ slice_get theirs n = item_of_front n k theirs h in
        let fronts : slice_get (take k mine) n ≡ slice_get (take k theirs) n = ap (λ xs. slice_get xs n) agree in
        cc

    module _ (request : PreparedCall) (t u : State) (same : AreSame k bound t u) where
      asked_next : (got : Reply) (how : How) (calls : CallList) → asked_of (AndCall calls (asked_and_got request got) how) ≡ asked_of calls ++ asked_and_got request got ∷ []
      asked_next got how calls = refl

      calls_meet : (x y : Evaluation Reply State) → AddsDone t request x → AddsDone u request y → Kept GoesFurther t x → MeetBelow bound x y
      calls_meet Spent y h j kept = tt
      calls_meet Missing y h j kept = tt
      calls_meet (Done got a) Spent h j kept = tt
      calls_meet (Done got a) Missing h j kept = tt
      calls_meet (Done got a) (Done given b) h j kept = λ guard. by_count guard.first guard.second (cases_lt (length (asked_of t.calls)) k)
        where
          ends_same : got ≡ given → length (asked_of t.calls) < k → AreSame k bound a b
          ends_same e less =
              let here : asked_of a.calls ≡ asked_of t.calls ++ asked_and_got request got ∷ [] = ap asked_of h.calls in
              let there : asked_of b.calls ≡ asked_of u.calls ++ asked_and_got request given ∷ [] = ap asked_of j.calls in
              record {
                variables = h.variables ∙ same.variables ∙ sym j.variables;
                asked = here ∙ ap (λ xs. xs ++ asked_and_got request got ∷ []) same.asked ∙ ap (λ r. asked_of u.calls ++ asked_and_got request r ∷ []) e ∙ sym there;
                counts = λ site.
                    ap (calls_at site) h.calls ∙ ap (λ n. n + (if request.entry.site == site then 1 else 0)) (same.counts site) ∙ sym (ap (calls_at site) j.calls);
                steps = h.steps ∙ same.steps ∙ sym j.steps;
                few = omega (arith, ap length here, length-append (asked_of t.calls) (asked_and_got request got ∷ []), less);
                small = omega (arith, kept.units.left, same.small);
              }

          ask_alike : k ≤ length (asked_of t.calls) → AskAlike k (asked_of a.calls) (asked_of b.calls)
          ask_alike more =
              let count : length (asked_of t.calls) ≡ k = omega (arith, same.few, more) in
              let other : length (asked_of u.calls) ≡ k = sym (ap length same.asked) ∙ count in
              let here : asked_of a.calls ≡ asked_of t.calls ++ asked_and_got request got ∷ [] = ap asked_of h.calls in
              let there : asked_of b.calls ≡ asked_of u.calls ++ asked_and_got request given ∷ [] = ap asked_of j.calls in
              record {
                first = asked_and_got request got;
                second = asked_and_got request given;
                first_asked = ap (slice_get (asked_of a.calls)) (sym count) ∙ ap (λ xs. slice_get xs (length (asked_of t.calls))) here ∙ item_at_end (asked_of t.calls) [] (asked_and_got request got);
                second_asked = ap (slice_get (asked_of b.calls)) (sym other) ∙ ap (λ xs. slice_get xs (length (asked_of u.calls))) there ∙ item_at_end (asked_of u.calls) [] (asked_and_got request given);
                same_entry = refl;
                same_callee = refl;
                same_args = refl;
              }

          by_count : GetsFirst a.calls mine → GetsFirst b.calls theirs → (length (asked_of t.calls) < k) ⊎ (k ≤ length (asked_of t.calls)) → Ends (AreSame k bound) AskOn got given a b
          by_count f g (inr more) = Part (record { asks = ask_alike more })
          by_count f g (inl less) =
              let here : slice_get mine (length (asked_of t.calls)) ≡ Some got =
              next_reply t.calls (asked_and_got request got) h.how mine (subst (λ calls. GetsFirst calls mine) h.calls f) in
              let there : slice_get theirs (length (asked_of u.calls)) ≡ Some given =
              next_reply u.calls (asked_and_got request given) j.how theirs (subst (λ calls. GetsFirst calls theirs) j.calls g) in
              let count : length (asked_of t.calls) ≡ length (asked_of u.calls) = ap length same.asked in
              let e : got ≡ given = same_reply (length (asked_of t.calls)) got given less here (ap (slice_get theirs) count ∙ there) in
              GoOn e (ends_same e less)

  module _ (services : ServicesTree) (one other : Source) (here there : List Occurrence) where
    abbrev run : Position → Statement → State → Going
    run = meaning services one (framed OfMethod here)

    abbrev along : Position → Statement → State → Going
    along = meaning services other (framed OfMethod there)

    abbrev does : Position → Statement → State → Going
    does = act services one (meaning services one) (framed OfMethod here)

    abbrev does_along : Position → Statement → State → Going
    does_along = act services other (meaning services other) (framed OfMethod there)

    runs_meet : (bound : ℕ) (at : Position) (s : Statement) (t u : State) → AreSame k bound t u → MeetBelow bound (run at s t) (along at s u)
    runs_meet zero at s t u h = absurd (omega (arith, h.small))
    runs_meet (suc bound) at s t u h =
        subst (λ x. MeetBelow (suc bound) x (along at s u)) (sym (meaning_rule services one (framed OfMethod here) at s t))
        (subst (MeetBelow (suc bound) (with_unit t (does at s))) (sym (meaning_rule services other (framed OfMethod there) at s u))
        (wider_meet GoesFurther GetFirst (AreSame k bound) (AreSame k (suc bound)) AskOn (wider_same bound) (with_unit t (does at s)) (with_unit u (does_along at s))
        (units_meet bound t u (does at s) (does_along at s) t.fuel u.fuel refl refl h
        (act_alike GoesFurther goes_further OfMethod (AreSame k bound) (MeetBelow bound) (same_meets bound)
        (meaning services one) (meaning services other) here there
        (meaning_goes_further services one (framed OfMethod here)) (meaning_goes_further services other (framed OfMethod there))
        (runs_meet bound) services one other
        (λ request a b go more same keeps also_keeps m.
        then_meets GoesFurther GetFirst (AreSame k bound) AskOn by_replies _ _ go more keeps also_keeps
        (calls_meet bound request a b same _ _
        (call_adds services one (meaning services one) (framed OfMethod here) request a)
        (call_adds services other (meaning services other) (framed OfMethod there) request b)
        (call_goes_further services one (framed OfMethod here) request a)) m)
        at s))))

    pub bodies_meet : (method : MethodTree) (args : List Value) (fuel also : ℕ)
        → MeetBelow (suc fuel) (statements_go (meaning services one) (framed OfMethod here) beginning method.body (method_state method args fuel))
        (statements_go (meaning services other) (framed OfMethod there) beginning method.body (method_state method args also))
    bodies_meet method args fuel also =
        statements_alike GoesFurther goes_further OfMethod (AreSame k (suc fuel)) (MeetBelow (suc fuel)) (same_meets (suc fuel))
        (meaning services one) (meaning services other) here there
        (meaning_goes_further services one (framed OfMethod here)) (meaning_goes_further services other (framed OfMethod there))
        (runs_meet (suc fuel)) beginning method.body (method_state method args fuel) (method_state method args also)
        (record { variables = refl; asked = refl; counts = λ site. refl; steps = refl; few = omega arith; small = omega arith })
