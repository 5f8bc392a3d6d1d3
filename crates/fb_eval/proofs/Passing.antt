-- A part of a body after another, by how each of them goes.
use Rattle.std.proofs.Common.{◌≡◌, ℕ, suc, ◌+◌, ◌≤◌, Bool, true, false, length, Option, Result, Ok, Err, OnOk, IsErrAnd, refl, sym, ap, ◌∙◌, subst, arith}
use Rattle.std.proofs.lemmas.Bool.{false≢true}
use Rattle.fb_tree.specs.Records.{records_of}
use Rattle.fb_tree.specs.Runs.{Tree}
use Rattle.fb_tree.specs.Views.{view_node}
use Rattle.fb_tree.specs.declared.node.Node.{Node}
use Rattle.fb_transport.specs.declared.request.Request.{Request}
use Rattle.fb_meaning.specs.Evaluations.{Evaluation, Spent, Done, State}
use Rattle.fb_eval.specs.declared.body.Body.{Body}
use Rattle.fb_eval.specs.declared.progress.Progress.{Progress}
use Rattle.fb_eval.specs.declared.stop.Stop.{Stop}
use Rattle.fb_eval.specs.declared.stop.Stop.TheVariants as stop
use Rattle.fb_eval.specs.Ways.{Ways, WantedAfter, lacks_answer}
use Rattle.fb_eval.specs.Means.{Here}
use Rattle.fb_eval.specs.Moments.{Moment, moment, Passes, Comes, GoesTo, Invokes}
use Rattle.fb_eval.specs.States.{Ends, Stops, IsReady, IsReadyToCall, here_of, invocations, state_of}

-- a call within the cycle: its measure is less, the two lifetimes are kept, and the rest is what it requires
pub calls_again : {Less First Second Rest : Type 0} → Less → First × Second → Rest → Less × (First × (Second × Rest))
calls_again less lifetimes rest = (less, (lifetimes.0, (lifetimes.1, rest)))

-- ---- from one moment to another

pub passes_at : (k : ℕ) (m : Moment) → Passes k false (Unit {0}) m m
passes_at k m = record { ways = refl; wanted = refl; fuel = omega arith; few = omega arith; still = λ h. refl }

wanted_then : (lacks : Bool) (lacked : Type 0) (first middle last : Option Request) → middle ≡ first → WantedAfter lacks middle last lacked → WantedAfter lacks first last lacked
wanted_then true lacked first middle last same h = h
wanted_then false lacked first middle last same h = h ∙ same

pub passes_then : (a b k : ℕ) (lacks : Bool) (lacked other : Type 0) (before middle after : Moment) → a + b ≤ k → Passes a false other before middle → Passes b lacks lacked middle after
    → Passes k lacks lacked before after
passes_then a b k lacks lacked other before middle after h first second = record {
  ways = second.ways ∙ first.ways;
  wanted = wanted_then lacks lacked before.wanted middle.wanted after.wanted first.wanted second.wanted;
  fuel = omega (arith, first.fuel, second.fuel);
  few = omega (arith, first.few, second.few, h);
  still = λ e. second.still (ap (λ (w : Ways). w.forwards) first.ways ∙ e) ∙ first.still e;
}

-- nothing is wanted where no answer was missing
pub passes_by : (a b : ℕ) (lacked other : Type 0) (before after : Moment) → a ≤ b → Passes a false lacked before after → Passes b false other before after
passes_by a b lacked other before after h p = record { ways = p.ways; wanted = p.wanted; fuel = p.fuel; few = omega (arith, p.few, h); still = p.still }

-- why it stops is the same for whatever is evaluated
lacks_same : (A B : Type 0) (why : Stop) → lacks_answer {A = A} (Err why) ≡ lacks_answer {A = B} (Err why)
lacks_same A B stop.Spent = refl
lacks_same A B stop.Missing = refl
lacks_same A B stop.Memory = refl

pub passes_stopped : (A B : Type 0) (k : ℕ) (lacked : Type 0) (before after : Moment) (why : Stop) → Passes k (lacks_answer {A = A} (Err why)) lacked before after
    → Passes k (lacks_answer {A = B} (Err why)) lacked before after
passes_stopped A B k lacked before after why p = subst (λ lacks. Passes k lacks lacked before after) (lacks_same A B why) p

passes_told : {A : Type 0} (a b : ℕ) (lacked other : Type 0) (before after : Moment) (x : A) → a ≤ b → Passes a (lacks_answer {A = A} (Ok x)) lacked before after → Passes b false other before after
passes_told a b lacked other before after x h p = passes_by a b lacked other before after h p

without_memory : (A : Type 0) (k : ℕ) (lacked : Type 0) (before after : Moment) → Passes k false (Unit {0}) before after → Passes k (lacks_answer {A = A} (Err stop.Memory)) lacked before after
without_memory A k lacked before after p = passes_by k k (Unit {0}) lacked before after (omega arith) p

-- ---- points of a body

module _ (body : Body) where
  pub comes_first : (start : Progress) (m : Moment) → IsReady body start m.fuel → Comes 0 body start start m m
  comes_first start m ready = record { ready = ready; ticks = refl; passes = passes_at 0 m }

  -- nothing but the body's own progress changes, and no call is made
  pub comes_alone : (start now : Progress) (m : Moment) → IsReady body now m.fuel → invocations now ≡ invocations start → Comes 0 body start now m m
  comes_alone start now m ready same = record { ready = ready; ticks = ap (λ n. m.evals + n) (sym same); passes = passes_at 0 m }

  -- what isn't read here changes
  pub comes_changed : {start now last : Progress} {before after : Moment} (k : ℕ) → Comes k body start now before after → IsReady body last after.fuel
      → invocations last ≡ invocations now → Comes k body start last before after
  comes_changed {start} {now} {last} {before} {after} k comes ready same =
      record { ready = ready; ticks = comes.ticks ∙ ap (λ n. before.evals + n) (sym same); passes = comes.passes }

  ticks_add : (a b k m p q r : ℕ) → m + p ≡ a + q → b + q ≡ m + r → b + p ≡ a + r
  ticks_add a b k m p q r first second = omega (arith, first, second)

  -- further, and further
  pub comes_on : {start between now : Progress} {before middle after : Moment} → Comes 0 body start between before middle → Comes 0 body between now middle after
      → Comes 0 body start now before after
  comes_on {start} {between} {now} {before} {middle} {after} first second = record {
    ready = second.ready;
    ticks = ticks_add before.evals after.evals 0 middle.evals (invocations start) (invocations between) (invocations now) first.ticks second.ticks;
    passes = passes_then 0 0 0 false (Unit {0}) (Unit {0}) before middle after (omega arith) first.passes second.passes;
  }

  passes_begun : (ways : Ways) (wanted : Option Request) (fuel left evals : ℕ) → fuel ≡ suc left → Passes 0 false (Unit {0}) (moment ways wanted fuel evals) (moment ways wanted left evals)
  passes_begun ways wanted fuel left evals e = record { ways = refl; wanted = refl; fuel = omega (arith, e); few = omega (arith, e); still = λ h. refl }

  -- a unit is taken
  pub comes_begun : (start now : Progress) (ways : Ways) (wanted : Option Request) (fuel left evals : ℕ) → fuel ≡ suc left → IsReadyToCall body now left
      → invocations now ≡ invocations start → Comes 0 body start now (moment ways wanted fuel evals) (moment ways wanted left evals)
  comes_begun start now ways wanted fuel left evals e ready same = record {
    ready = ready.0;
    ticks = ap (λ n. evals + n) (sym same);
    passes = passes_begun ways wanted fuel left evals e;
  }

  ticks_then : {A : Type 0} (result : Result A Stop) (start between now : Progress) (before middle after : ℕ) → middle + invocations start ≡ before + invocations between
      → OnOk result (after + invocations between ≡ middle + invocations now) → OnOk result (after + invocations start ≡ before + invocations now)
  ticks_then (Ok x) start between now before middle after first second =
      ticks_add before after 0 middle (invocations start) (invocations between) (invocations now) first second
  ticks_then (Err why) start between now before middle after first second = tt

  -- the same is meant, with as many units in advance or more
  pub goes_by : {A W : Type 0} {done : A → W} {means other : Here → State → Evaluation W State} {start now : Progress} {before after : Moment} {lacked : Type 0} {result : Result A Stop}
      (a b : ℕ) → a ≤ b
      → means (here_of body before.ways.gives) (state_of start before.fuel) ≡ other (here_of body before.ways.gives) (state_of start before.fuel)
      → GoesTo done a body other start now before after lacked result → GoesTo done b body means start now before after lacked result
  goes_by {A} {W} {done} {means} {other} {start} {now} {before} {after} {lacked} {result} a b h same goes = record {
    ends = subst (λ (x : Evaluation W State). Ends x (λ v. Done (done v) (state_of now after.fuel)) result) (sym same) goes.ends;
    ready = goes.ready;
    ticks = goes.ticks;
    passes = passes_then 0 a b (lacks_answer result) lacked (Unit {0}) before before after (omega (arith, h)) (passes_at 0 before) goes.passes;
  }

  -- what was meant there, by the ways at first
  pub ends_there : {A W : Type 0} {done : A → W} {other : Here → State → Evaluation W State} {start between now : Progress} {before middle after : Moment} {lacked : Type 0} {result : Result A Stop} {a b : ℕ}
      → Comes a body start between before middle → GoesTo done b body other between now middle after lacked result
      → Ends (other (here_of body before.ways.gives) (state_of between middle.fuel)) (λ v. Done (done v) (state_of now after.fuel)) result
  ends_there {A} {W} {done} {other} {start} {between} {now} {before} {middle} {after} {lacked} {result} {a} {b} comes goes =
      subst (λ (w : Ways). Ends (other (here_of body w.gives) (state_of between middle.fuel)) (λ v. Done (done v) (state_of now after.fuel)) result) comes.passes.ways goes.ends

  -- the rest ends it
  pub goes_after : {A W : Type 0} {done : A → W} {means other : Here → State → Evaluation W State} {start between now : Progress} {before middle after : Moment} {lacked : Type 0} {result : Result A Stop}
      (a b k : ℕ) → a + b ≤ k → Comes a body start between before middle → GoesTo done b body other between now middle after lacked result
      → means (here_of body before.ways.gives) (state_of start before.fuel) ≡ other (here_of body before.ways.gives) (state_of between middle.fuel)
      → GoesTo done k body means start now before after lacked result
  goes_after {A} {W} {done} {means} {other} {start} {between} {now} {before} {middle} {after} {lacked} {result} a b k h comes goes same = record {
    ends = subst (λ (x : Evaluation W State). Ends x (λ v. Done (done v) (state_of now after.fuel)) result) (sym same) (ends_there comes goes);
    ready = goes.ready;
    ticks = ticks_then result start between now before.evals middle.evals after.evals comes.ticks goes.ticks;
    passes = passes_then a b k (lacks_answer result) lacked (Unit {0}) before middle after h comes.passes goes.passes;
  }

  -- a part is done, and the body has come further
  pub comes_then : {A W : Type 0} {done : A → W} {other : Here → State → Evaluation W State} {start between now : Progress} {before middle after : Moment} {lacked : Type 0} {x : A}
      (a b k : ℕ) → a + b ≤ k → Comes a body start between before middle → GoesTo done b body other between now middle after lacked (Ok x)
      → Comes k body start now before after
  comes_then {A} {W} {done} {other} {start} {between} {now} {before} {middle} {after} {lacked} {x} a b k h comes goes = record {
    ready = goes.ready;
    ticks = ticks_add before.evals after.evals 0 middle.evals (invocations start) (invocations between) (invocations now) comes.ticks goes.ticks;
    passes = passes_then a b k false (Unit {0}) (Unit {0}) before middle after h comes.passes (passes_told b b lacked (Unit {0}) middle after x (omega arith) goes.passes);
  }

  -- it is done
  pub goes_done : {A W : Type 0} {done : A → W} {means : Here → State → Evaluation W State} {start now : Progress} {before after : Moment} {lacked : Type 0} {x : A}
      (a b : ℕ) → a ≤ b → Comes a body start now before after
      → means (here_of body before.ways.gives) (state_of start before.fuel) ≡ Done (done x) (state_of now after.fuel)
      → GoesTo done b body means start now before after lacked (Ok x)
  goes_done {A} {W} {done} {means} {start} {now} {before} {after} {lacked} {x} a b h comes same = record { ends = same; ready = comes.ready; ticks = comes.ticks; passes = passes_by a b (Unit {0}) lacked before after h comes.passes }

  -- memory was refused
  pub goes_refused : {A W : Type 0} {done : A → W} {means : Here → State → Evaluation W State} {start now : Progress} {before after : Moment} {lacked : Type 0}
      (k : ℕ) (result : Result A Stop) → IsErrAnd result (λ why. why ≡ stop.Memory) → Passes k false (Unit {0}) before after
      → GoesTo done k body means start now before after lacked result
  goes_refused {A} {W} {done} {means} {start} {now} {before} {after} {lacked} k (Ok x) is p = absurd is
  goes_refused {A} {W} {done} {means} {start} {now} {before} {after} {lacked} k (Err why) is p =
      subst (λ (w : Stop). GoesTo done k body means start now before after lacked (Err w)) (sym is)
      (record { ends = tt; ready = tt; ticks = tt; passes = without_memory A k lacked before after p })

  -- there are too few units
  pub goes_unfed : {A W : Type 0} {done : A → W} {means : Here → State → Evaluation W State} {start now : Progress} {before after : Moment} {lacked : Type 0}
      (k : ℕ) (result : Result A Stop) → IsErrAnd result (λ why. why ≡ stop.Spent) → Passes k false (Unit {0}) before after
      → means (here_of body before.ways.gives) (state_of start before.fuel) ≡ Spent
      → GoesTo done k body means start now before after lacked result
  goes_unfed {A} {W} {done} {means} {start} {now} {before} {after} {lacked} k (Ok x) is p spent = absurd is
  goes_unfed {A} {W} {done} {means} {start} {now} {before} {after} {lacked} k (Err why) is p spent =
      subst (λ (w : Stop). GoesTo done k body means start now before after lacked (Err w)) (sym is)
      (record { ends = spent; ready = tt; ticks = tt; passes = passes_by k k (Unit {0}) lacked before after (omega arith) p })

  -- a unit is taken, and what is done then may need it
  pub goes_begun : {A W : Type 0} {done : A → W} {means other : Here → State → Evaluation W State} {start between now : Progress} {after : Moment} {lacked : Type 0} {result : Result A Stop}
      (ways : Ways) (wanted : Option Request) (fuel left evals : ℕ) → fuel ≡ suc left → invocations between ≡ invocations start
      → GoesTo done 1 body other between now (moment ways wanted left evals) after lacked result
      → means (here_of body ways.gives) (state_of start fuel) ≡ other (here_of body ways.gives) (state_of between left)
      → GoesTo done 0 body means start now (moment ways wanted fuel evals) after lacked result
  goes_begun {A} {W} {done} {means} {other} {start} {between} {now} {after} {lacked} {result} ways wanted fuel left evals e alike goes same = record {
    ends = subst (λ (x : Evaluation W State). Ends x (λ v. Done (done v) (state_of now after.fuel)) result) (sym same) goes.ends;
    ready = goes.ready;
    ticks = ticks_then result start between now evals evals after.evals (ap (λ n. evals + n) (sym alike)) goes.ticks;
    passes = record {
      ways = goes.passes.ways;
      wanted = goes.passes.wanted;
      fuel = omega (arith, goes.passes.fuel, e);
      few = omega (arith, goes.passes.few, e);
      still = goes.passes.still;
    };
  }

  -- a part stops, and so the whole does
  pub goes_stopped : {A B W V : Type 0} {done : A → W} {next : B → V} {other : Here → State → Evaluation W State} {means : Here → State → Evaluation V State}
      {start between now last : Progress} {before middle after : Moment} {lacked : Type 0} {why : Stop}
      (a b k : ℕ) (result : Result B Stop) → IsErrAnd result (λ w. w ≡ why) → a + b ≤ k → Comes a body start between before middle
      → GoesTo done b body other between now middle after lacked (Err why)
      → (Stops (other (here_of body before.ways.gives) (state_of between middle.fuel)) why → Stops (means (here_of body before.ways.gives) (state_of start before.fuel)) why)
      → GoesTo next k body means start last before after lacked result
  goes_stopped {A} {B} {W} {V} {done} {next} {other} {means} {start} {between} {now} {last} {before} {middle} {after} {lacked} {why} a b k (Ok x) is h comes goes stops = absurd is
  goes_stopped {A} {B} {W} {V} {done} {next} {other} {means} {start} {between} {now} {last} {before} {middle} {after} {lacked} {why} a b k (Err other_why) is h comes goes stops =
      subst (λ (w : Stop). GoesTo next k body means start last before after lacked (Err w)) (sym is)
      (record {
        ends = stops (ends_there comes goes);
        ready = tt;
        ticks = tt;
        passes = passes_then a b k (lacks_answer {A = B} (Err why)) lacked (Unit {0}) before middle after h comes.passes (passes_stopped A B b lacked middle after why goes.passes);
      })

-- ---- units, decisions and ticks

pub passes_spending : (ways : Ways) (wanted : Option Request) (fuel left evals : ℕ) → left ≤ fuel → Passes 0 false (Unit {0}) (moment ways wanted fuel evals) (moment ways wanted left evals)
passes_spending ways wanted fuel left evals h = record { ways = refl; wanted = refl; fuel = h; few = omega (arith, h); still = λ e. refl }

-- a call is decided, and the unit of the call is left for the callee that is evaluated
pub passes_forward : (ways next : Ways) (wanted last : Option Request) (fuel evals ticked : ℕ) → next ≡ ways → last ≡ wanted → ways.forwards ≡ true → ticked ≡ evals + 1
    → Passes 1 false (Unit {0}) (moment ways wanted fuel evals) (moment next last fuel ticked)
passes_forward ways next wanted last fuel evals ticked same kept may one =
    record { ways = same; wanted = kept; fuel = omega arith; few = omega (arith, one); still = λ e. absurd (false≢true (sym e ∙ may)) }

-- a call is decided
pub passes_asked : (k : ℕ) (lacks : Bool) (lacked : Type 0) (ways next : Ways) (wanted last : Option Request) (fuel evals : ℕ) → next ≡ ways → WantedAfter lacks wanted last lacked
    → Passes k lacks lacked (moment ways wanted fuel evals) (moment next last fuel evals)
passes_asked k lacks lacked ways next wanted last fuel evals same h = record { ways = same; wanted = h; fuel = omega arith; few = omega arith; still = λ e. refl }

-- and a known call takes its units
pub passes_known : (ways next : Ways) (wanted last : Option Request) (fuel left evals : ℕ) → next ≡ ways → last ≡ wanted → left ≤ fuel
    → Passes 1 false (Unit {0}) (moment ways wanted fuel evals) (moment next last left evals)
passes_known ways next wanted last fuel left evals same kept h = record { ways = same; wanted = kept; fuel = h; few = omega (arith, h); still = λ e. refl }

-- ---- invocations

pub invokes_refused : {means : Evaluation Tree ℕ} {before after : Moment} {lacked : Type 0} (result : Result Node Stop) → IsErrAnd result (λ why. why ≡ stop.Memory)
    → Passes 0 false (Unit {0}) before after → Invokes means before after lacked result
invokes_refused {means} {before} {after} {lacked} (Ok x) is p = absurd is
invokes_refused {means} {before} {after} {lacked} (Err why) is p =
    subst (λ (w : Stop). Invokes means before after lacked (Err w)) (sym is) (record { ends = tt; ticks = tt; passes = without_memory Node 0 lacked before after p })

module _ (body : Body) where
  -- the statements stop
  pub invokes_stopped : {A W : Type 0} {done : A → W} {other : Here → State → Evaluation W State} {means : Evaluation Tree ℕ} {start now : Progress} {before after : Moment}
      {lacked : Type 0} {why : Stop} (result : Result Node Stop) → IsErrAnd result (λ w. w ≡ why) → GoesTo done 0 body other start now before after lacked (Err why)
      → (Stops (other (here_of body before.ways.gives) (state_of start before.fuel)) why → Stops means why)
      → Invokes means before after lacked result
  invokes_stopped {A} {W} {done} {other} {means} {start} {now} {before} {after} {lacked} {why} (Ok x) is goes stops = absurd is
  invokes_stopped {A} {W} {done} {other} {means} {start} {now} {before} {after} {lacked} {why} (Err other_why) is goes stops =
      subst (λ (w : Stop). Invokes means before after lacked (Err w)) (sym is)
      (record { ends = stops goes.ends; ticks = tt; passes = passes_stopped A Node 0 lacked before after why goes.passes })

  -- they are done
  pub invokes_done : {A W : Type 0} {done : A → W} {other : Here → State → Evaluation W State} {means : Evaluation Tree ℕ} {start now : Progress} {before after : Moment}
      {lacked : Type 0} {x : A} (node : Node) → GoesTo done 0 body other start now before after lacked (Ok x) → means ≡ Done (view_node node) after.fuel
      → invocations start ≡ 0 → length (records_of (view_node node)) ≡ suc (invocations now) → Invokes means before after lacked (Ok node)
  invokes_done {A} {W} {done} {other} {means} {start} {now} {before} {after} {lacked} {x} node goes same none count = record {
    ends = same;
    ticks = omega (arith, goes.ticks, none, count);
    passes = goes.passes;
  }
