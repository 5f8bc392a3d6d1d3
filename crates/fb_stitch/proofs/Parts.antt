-- The calls of a test, each of which was known, with all below them.
use Rattle.std.proofs.Common.{◌≡◌, ◌≤◌, ◌<◌, ◌+◌, ℕ, List, [], ◌∷◌, ◌++◌, length, map, take, drop, get_or, slice_get, filter_map, Contains, Option, Some, None, refl, sym, ap, ◌∙◌, subst, arith, take-append-drop}
use Rattle.std.specs.List.{cons_option}
use Rattle.std.specs.Option.{option_to_list}
use Rattle.std.proofs.lemmas.List.{take_more}
use Rattle.fb_base.specs.declared.method.MethodId.{MethodId}
use Rattle.fb_base.specs.declared.reply.Reply.{Reply}
use Rattle.fb_base.specs.declared.value.Value.{Value}
use Rattle.fb_index.specs.Entry.{Occurrence}
use Rattle.fb_index.specs.declared.fault.Fault.{Fault as FaultOf}
use Rattle.fb_syntax.specs.Trees.{ServicesTree}
use Rattle.fb_check.specs.Programs.{methods_of}
use Rattle.fb_tree.specs.Runs.{Tree, CallList, NoCalls, AndCall, How, Faulted, Ran, Known as KnownHow}
use Rattle.fb_tree.specs.Records.{record_of, records_of, records_in, records_below, steps_of, steps_in, steps_below}
use Rattle.fb_tree.specs.Calls.{calls_within, calls_below, call_at, injected_of, injected_by, injection_of, visit_of}
use Rattle.fb_tree.specs.Views.{view_asked, view_how, view_calls, calls_and}
use Rattle.fb_tree.specs.ViewEquations.{calls_and_one}
use Rattle.fb_tree.specs.declared.asked.Asked.{Asked}
use Rattle.fb_tree.specs.declared.node.Made.{Made}
use Rattle.fb_tree.specs.declared.visit.Visit.{Visit}
use Rattle.fb_tree.specs.declared.recorded.Record.{Record}
use Rattle.fb_transport.specs.Sources.{Source}
use Rattle.fb_transport.specs.declared.decision.Decision.TheVariants.{Forward, Fault, Known}
use Rattle.fb_meaning.specs.Bodies.{PreparedCall, asked_and_got, reply_of}
use Rattle.fb_meaning.specs.CallLaws.{AreDecided, IsDecidedSo}
use Rattle.fb_meaning.specs.DecidedCalls.{MethodsAreDecided}
use Rattle.fb_meaning.specs.DecisionLaws.{ArePartsOf}
use Rattle.fb_meaning.specs.Each.{HoldsOfEach}
use Rattle.fb_stitch.specs.declared.found.Found.{Found}
use Rattle.fb_stitch.specs.Sources.{stitched_source}
use Rattle.fb_stitch.specs.Stitched.{Ground, IsStitchedSo, IsSound}
use Rattle.fb_stitch.specs.Finding.{Adds, FindsCall, HasCall}
use Rattle.fb_stitch.specs.Derivations.{HasCalls, IsNothing}
use Rattle.fb_stitch.proofs.Adding.{at_joined, map_joined}
use Rattle.fb_stitch.proofs.Extended.{records_parts}
use Rattle.fb_stitch.proofs.Knowing.{ground, answers_known, evaluated_is_stitched, is_known}
use Rattle.fb_stitch.proofs.Lists.{each_joined}
use Rattle.fb_stitch.proofs.Unique.{forwards_so, one_way, stitched_above}

-- ---- vectors of calls

abbrev view_call : CallList → Made → CallList
view_call before made = AndCall before (view_asked made) (view_how made.how)

decided_up_to : (source : Source) (index : List Occurrence) (before : CallList) (calls : List Made) → AreDecided source index (calls_and before calls) → AreDecided source index before
unfolding AreDecided calls_and
decided_up_to source index before [] h = h
decided_up_to source index before (made ∷ calls) h = (decided_up_to source index (view_call before made) calls h).0

steps_up_to : (before : CallList) (calls : List Made) → steps_in before ≤ steps_in (calls_and before calls)
unfolding steps_in calls_and
steps_up_to before [] = omega arith
steps_up_to before (made ∷ calls) = omega (arith, steps_up_to (view_call before made) calls)

calls_joined : (before : CallList) (first rest : List Made) → calls_and before (first ++ rest) ≡ calls_and (calls_and before first) rest
unfolding calls_and
calls_joined before [] rest = refl
calls_joined before (made ∷ first) rest = calls_joined (view_call before made) first rest

-- the calls up to some place, and one more
record SplitsAt (calls : List Made) (i : ℕ) (made : Made) : Type 0 where
  rest : List Made
  whole : view_calls calls ≡ calls_and (view_call (view_calls (take i calls)) made) rest
  one_more : view_calls (take (i + 1) calls) ≡ view_call (view_calls (take i calls)) made

splits_at : (calls : List Made) (i : ℕ) (made : Made) → i < length calls → made ≡ get_or calls i made → SplitsAt calls i made
splits_at calls i made low is =
    let further : take (i + 1) calls ≡ take i calls ++ made ∷ [] = take_more calls i made low ∙ ap (λ m. take i calls ++ m ∷ []) (sym is) in
    let one = ap view_calls further ∙ calls_and_one NoCalls (take i calls) made in
    record {
      rest = drop (i + 1) calls;
      whole =
          ap view_calls (sym (take-append-drop (i + 1) calls)) ∙ calls_joined NoCalls (take (i + 1) calls) (drop (i + 1) calls)
          ∙ ap (λ before. calls_and before (drop (i + 1) calls)) one;
      one_more = one;
    }

-- ---- calls that are known

module _ (services : ServicesTree) (records : List Record) (limit : ℕ) (plan : List FaultOf) where
  abbrev here : Ground
  here = ground services records limit plan

  abbrev stitched : Source
  stitched = stitched_source services records limit plan

  -- a test's call is known with what its callee's tree tells
  pub record IsPart (asked : Asked) (how : How) : Type 0 where
    pub tree : Tree
    pub below : IsStitchedSo here (asked.entry ∷ []) asked (Ran tree)
    pub own : Contains records (record_of tree)
    pub same_method : (record_of tree).method ≡ asked.callee
    pub how_is : how ≡ KnownHow (steps_of tree) (injected_of tree)

  pub is_part : MethodsAreDecided → (asked : Asked) (how : How) → IsDecidedSo stitched (asked.entry ∷ []) asked how → IsPart asked how
  unfolding AreDecided
  is_part decided asked Faulted so =
      let known = is_known records _ (Fault asked.reply) (sym (answers_known services records limit plan (asked.entry ∷ []) asked.callee asked.args refl) ∙ so) in
      absurd (let e = known.decided in cc)
  is_part decided asked (Ran tree) so =
      let known = is_known records _ Forward (sym (answers_known services records limit plan (asked.entry ∷ []) asked.callee asked.args refl)
      ∙ forwards_so stitched (asked.entry ∷ []) asked tree so) in
      absurd (let e = known.decided in cc)
  is_part decided asked (KnownHow steps injected) so =
      let known = is_known records _ (Known asked.reply steps injected)
      (sym (answers_known services records limit plan (asked.entry ∷ []) asked.callee asked.args refl) ∙ so) in
      let tree = evaluated_is_stitched services records limit plan decided asked.callee asked.args (asked.entry ∷ []) known.tree known.left known.done known.recorded in
      let parts = known_parts asked.reply (reply_of known.tree) steps (steps_of known.tree) injected (injected_of known.tree) known.decided in
      record {
        tree = known.tree;
        below = stitched_above here (asked.entry ∷ []) asked known.tree refl (record { stitched = tree; replies = sym parts.0 });
        own = (subst (HoldsOfEach (Contains records)) (records_parts known.tree) known.recorded).0;
        same_method = tree.asked.same_method;
        how_is = (λ i. KnownHow (parts.1 i) (parts.2 i));
      }
    where
      known_parts : (one other : Reply) (steps more : ℕ) (injected callees : List MethodId) → Known one steps injected ≡ Known other more callees
          → (one ≡ other) × (steps ≡ more) × (injected ≡ callees)
      known_parts one other steps more injected callees e = (cc, cc, cc)

  -- ---- walks along them

  -- those so far were found
  pub record IsWalkedTo (found : Found) (parts : CallList) : Type 0 where
    pub has : HasCalls here found parts
    pub steps_are : found.steps ≡ steps_in parts

  pub none_walked : (found : Found) → IsNothing found → IsWalkedTo found (view_calls [])
  unfolding records_in calls_within steps_in AreDecided calls_and
  none_walked found nothing = record {
    has = record {
      calls = NoCalls;
      parts_are = tt;
      recorded = tt;
      decided = tt;
      are_at = ap (map (slice_get records)) nothing.uses;
      visits = nothing.visits;
    };
    steps_are = nothing.steps;
  }

  module _ (decided : MethodsAreDecided) (sound : IsSound here) (calls : List Made) (known : AreDecided stitched [] (view_calls calls))
      (i : ℕ) (made : Made) (low : i < length calls) (is : made ≡ get_or calls i made) where
    split : SplitsAt calls i made
    split = splits_at calls i made low is

    part : IsPart (view_asked made) (view_how made.how)
    unfolding AreDecided
    part = is_part decided (view_asked made) (view_how made.how)
        (decided_up_to stitched [] (view_call (view_calls (take i calls)) made) split.rest (subst (AreDecided stitched []) split.whole known)).1

    -- it is a method's
    pub no_such_method : ¬ (length (methods_of services) ≤ made.callee.0)
    no_such_method past =
        let there = sound.there (record_of part.tree) part.own in
        let same = ap (λ (m : MethodId). m.0) part.same_method in
        omega (arith, past, there, same)

    abbrev request : PreparedCall
    request = record { entry = made.entry; callee = made.callee; args = made.args }

    steps_known : steps_in (view_calls (take (i + 1) calls)) ≡ steps_in (view_calls (take i calls)) + steps_of part.tree
    unfolding steps_in
    steps_known = ap steps_in split.one_more ∙ ap (λ how. steps_in (view_calls (take i calls)) + steps_below how) part.how_is

    -- and is found
    pub found_again : (found later : Found) → IsWalkedTo found (view_calls (take i calls)) → steps_in (view_calls calls) ≤ limit
        → ¬ (FindsCall here request (made.entry ∷ []) found later None)
    unfolding steps_in
    found_again found later walked enough none =
        let fits : steps_in (view_calls (take (i + 1) calls)) ≤ steps_in (view_calls calls) =
        subst (λ cs. steps_in cs ≤ steps_in (view_calls calls)) (sym split.one_more)
        (subst (λ cs. steps_in (view_call (view_calls (take i calls)) made) ≤ steps_in cs) (sym split.whole)
        (steps_up_to (view_call (view_calls (take i calls)) made) split.rest)) in
        let a = walked.steps_are in
        let b = steps_known in
        none made.reply (Ran part.tree) part.below (omega (arith, fits, a, b, enough))

    pub walked_further : (found later : Found) (given : Reply) → IsWalkedTo found (view_calls (take i calls)) → HasCall here request (made.entry ∷ []) found later given
        → IsWalkedTo later (view_calls (take (i + 1) calls))
    unfolding records_in calls_within injected_by steps_in AreDecided
    walked_further found later given walked call =
        let same = one_way here sound request (made.entry ∷ []) given made.reply call.how (Ran part.tree) call.stitched part.below in
        let adds = subst (λ how. Adds records found later (records_below how) (call_at (made.entry ∷ []) (asked_and_got request made.reply) how ∷ calls_below (made.entry ∷ []) how) (injected_by made.callee how) (steps_below how)) same.same_how
        (subst (λ r. Adds records found later (records_below call.how) (call_at (made.entry ∷ []) (asked_and_got request r) call.how ∷ calls_below (made.entry ∷ []) call.how) (injected_by made.callee call.how) (steps_below call.how)) same.same_reply call.adds) in
        let has = walked.has in
        let s = adds.steps_are in
        let a = walked.steps_are in
        let b = steps_known in
        record {
          has = record {
            calls = AndCall has.calls (view_asked made) (Ran part.tree);
            parts_are = subst (λ cs. ArePartsOf cs (AndCall has.calls (view_asked made) (Ran part.tree))) (sym split.one_more)
                (subst (λ how. ArePartsOf (AndCall (view_calls (take i calls)) (view_asked made) how) (AndCall has.calls (view_asked made) (Ran part.tree))) (sym part.how_is)
                (has.parts_are, refl, refl, refl));
            recorded = each_joined (Contains records) (records_in has.calls) (records_of part.tree) has.recorded part.below.recorded;
            decided = (has.decided, part.below.decided);
            are_at =
                ap (map (slice_get records)) adds.uses
                ∙ at_joined records found.uses.items adds.places (records_in has.calls) (records_of part.tree) has.are_at adds.are_at;
            visits =
                adds.visits ∙ ap (λ visits. visits ++ map visit_of (call_at (made.entry ∷ []) (asked_and_got request made.reply) (Ran part.tree) ∷ calls_below (made.entry ∷ []) (Ran part.tree))) has.visits
                ∙ sym (map_joined visit_of (calls_within [] has.calls) (call_at (made.entry ∷ []) (asked_and_got request made.reply) (Ran part.tree) ∷ calls_below (made.entry ∷ []) (Ran part.tree)));
          };
          steps_are = omega (arith, s, a, b);
        }

    -- ---- as the code has it

    pub within_calls : (found : Found) → IsWalkedTo found (view_calls (take i calls)) → steps_in (view_calls calls) ≤ limit → found.steps ≤ limit
    unfolding steps_in
    within_calls found walked enough =
        let fits : steps_in (view_calls (take (i + 1) calls)) ≤ steps_in (view_calls calls) =
        subst (λ cs. steps_in cs ≤ steps_in (view_calls calls)) (sym split.one_more)
        (subst (λ cs. steps_in (view_call (view_calls (take i calls)) made) ≤ steps_in cs) (sym split.whole)
        (steps_up_to (view_call (view_calls (take i calls)) made) split.rest)) in
        let a = walked.steps_are in
        let b = steps_known in
        omega (arith, fits, a, b, enough)

    module _ (at : List Occurrence) (root : at ≡ []) (args : List Value) (same : args ≡ made.args) (found later : Found) (result : Option Reply)
        (finds : FindsCall here (record { entry = made.entry; callee = made.callee; args = args }) (at ++ made.entry ∷ []) found later result)
        (walked : IsWalkedTo found (view_calls (take i calls))) where
      found_there : FindsCall here request (made.entry ∷ []) found later result
      found_there =
          subst (λ here_at. FindsCall here request (here_at ++ made.entry ∷ []) found later result) root
          (subst (λ xs. FindsCall here (record { entry = made.entry; callee = made.callee; args = xs }) (at ++ made.entry ∷ []) found later result) same finds)

      pub never_none : steps_in (view_calls calls) ≤ limit → ¬ (result ≡ None)
      never_none enough e = found_again found later walked enough (subst (FindsCall here request (made.entry ∷ []) found later) e found_there)

      pub walked_on : (given : Reply) → result ≡ Some given → IsWalkedTo later (view_calls (take (i + 1) calls))
      walked_on given e = walked_further found later given walked (subst (FindsCall here request (made.entry ∷ []) found later) e found_there)

-- ---- injections among visits

filter_map_joined : {A B : Type 0} (f : A → Option B) (xs : List A) (x : A) → filter_map f (xs ++ x ∷ []) ≡ filter_map f xs ++ option_to_list (f x)
filter_map_joined {B = B} f [] x = by (f x)
  where
    by : (o : Option B) → cons_option o [] ≡ option_to_list o
    by None = refl
    by (Some y) = refl
filter_map_joined {B = B} f (z ∷ xs) x = by (f z) (filter_map_joined f xs x)
  where
    by : (o : Option B) → filter_map f (xs ++ x ∷ []) ≡ filter_map f xs ++ option_to_list (f x) → cons_option o (filter_map f (xs ++ x ∷ [])) ≡ cons_option o (filter_map f xs) ++ option_to_list (f x)
    by None e = e
    by (Some y) e = ap (λ ys. y ∷ ys) e

pub injected_more : (visits : List Visit) (i : ℕ) (visit : Visit) → i < length visits → visit ≡ get_or visits i visit → (old new : List FaultOf)
    → old ≡ filter_map injection_of (take i visits) → new ≡ old ++ option_to_list (injection_of visit) → new ≡ filter_map injection_of (take (i + 1) visits)
injected_more visits i visit low is old new so_far added =
    added ∙ ap (λ front. front ++ option_to_list (injection_of visit)) so_far
    ∙ sym (filter_map_joined injection_of (take i visits) visit)
    ∙ ap (filter_map injection_of) (sym (take_more visits i visit low ∙ ap (λ v. take i visits ++ v ∷ []) (sym is)))
