-- What stays right as a body comes further.
use Rattle.std.proofs.Common.{◌≡◌, ◌==◌, ℕ, suc, ◌+◌, ◌≤◌, ◌<◌, Bool, true, false, cond, List, [], ◌∷◌, ◌++◌, length, Option, Some, refl, sym, ap, ◌∙◌, length-append, arith}
use Rattle.std.specs.Prelude.{unwrap_or}
use Rattle.std.specs.Ordering.{is_eq, nat_cmp}
use Rattle.std.specs.Cmp.{unsigned_ties}
use Rattle.std.proofs.lemmas.Bool.Decides.{Decides-eqb}
use Rattle.std.specs.BTreeMap.{BTreeMap}
use Rattle.fb_base.specs.declared.method.MethodId.{MethodId}
use Rattle.fb_tree.specs.declared.node.Made.{Made}
use Rattle.fb_tree.specs.Runs.{CallList, NoCalls, AndCall}
use Rattle.fb_tree.specs.Records.{records_in, records_below}
use Rattle.fb_tree.specs.Calls.{calls_at, injected_in}
use Rattle.fb_tree.specs.Views.{calls_and, view_calls, view_asked, view_how}
use Rattle.fb_tree.specs.ViewEquations.{calls_and_one}
use Rattle.fb_meaning.specs.Bodies.{Whose, OfMethod, OfTest, questions}
use Rattle.fb_eval.specs.declared.body.Body.{Body}
use Rattle.fb_eval.specs.declared.progress.Progress.{Progress}
use Rattle.fb_eval.specs.Units.{most_units}
use Rattle.fb_eval.specs.States.{whose_of, calls_of, state_of, CountsSites, KeepsCall, IsKept, IsReady, IsReadyToCall, invocations, told_with}

-- a unit is taken
pub kept_begun : (whose : Whose) (calls : List Made) (sites : BTreeMap ℕ ℕ) (injected : Option (List MethodId)) (steps fuel left : ℕ)
    → IsKept whose calls sites injected steps fuel → fuel ≡ suc left → IsKept whose calls sites injected (steps + 1) left × (length calls + left < most_units)
kept_begun whose calls sites injected steps fuel left kept e =
    (record { counted = kept.counted; told = kept.told; taken = omega (arith, kept.taken, e); few = omega (arith, kept.few, e) }, omega (arith, kept.few, e))

-- fewer units
pub kept_with : (whose : Whose) (calls : List Made) (sites : BTreeMap ℕ ℕ) (injected : Option (List MethodId)) (steps fuel left : ℕ)
    → IsKept whose calls sites injected steps fuel → left ≤ fuel → IsKept whose calls sites injected steps left
kept_with whose calls sites injected steps fuel left kept h =
    record { counted = kept.counted; told = kept.told; taken = omega (arith, kept.taken, h); few = omega (arith, kept.few, h) }

-- a call more
pub calls_more : (before : Progress) (made : Made) (after : Progress) → KeepsCall before made after
    → calls_of after ≡ AndCall (calls_of before) (view_asked made) (view_how made.how)
calls_more before made after kept = ap view_calls kept.calls ∙ calls_and_one NoCalls before.calls.items made

told_more : (whose : Whose) (calls : CallList) (made : Made) (told : Option (List MethodId)) → told ≡ questions whose calls
    → told_with told made ≡ questions whose (AndCall calls (view_asked made) (view_how made.how))
unfolding injected_in
told_more OfMethod calls made told e = ap (λ t. told_with t made) e
told_more OfTest calls made told e = ap (λ t. told_with t made) e

pub ready_returned : (body : Body) (before : Progress) (made : Made) (after : Progress) (fuel left : ℕ) → IsReadyToCall body before fuel → KeepsCall before made after
    → CountsSites after → left ≤ fuel → IsReady body after left
ready_returned body before made after fuel left ready kept sites h = record {
  counted = sites;
  told = kept.injected ∙ told_more (whose_of body.whose) (calls_of before) made before.injected ready.0.told
      ∙ sym (ap (questions (whose_of body.whose)) (calls_more before made after kept));
  taken = omega (arith, ready.0.taken, kept.steps, h);
  few = omega (arith, ready.1, ap length kept.calls, length-append before.calls.items (made ∷ []), h);
}

pub state_returned : (before : Progress) (made : Made) (after : Progress) (fuel left : ℕ) → KeepsCall before made after
    → state_of after left ≡ record (state_of before fuel) { calls = AndCall (calls_of before) (view_asked made) (view_how made.how); fuel = left }
state_returned before made after fuel left kept = λ i. record {
  variables = kept.variables i;
  calls = calls_more before made after kept i;
  fuel = left;
  steps = kept.steps i;
}

pub invocations_more : (before : Progress) (made : Made) (after : Progress) → KeepsCall before made after
    → invocations after ≡ invocations before + length (records_below (view_how made.how))
unfolding records_in
invocations_more before made after kept =
    ap (λ calls. length (records_in calls)) (calls_more before made after kept)
    ∙ length-append (records_in (calls_of before)) (records_below (view_how made.how))

-- a site has not called more often than the body
few_and : (site : ℕ) (before : CallList) (calls : List Made) → calls_at site (calls_and before calls) ≤ calls_at site before + length calls
unfolding calls_and
few_and site before [] = omega arith
few_and site before (made ∷ calls) = few_made (made.entry.site == site) (few_and site (AndCall before (view_asked made) (view_how made.how)) calls)
  where
    few_made : {n : ℕ} (b : Bool) → n ≤ (calls_at site before + cond b 1 0) + length calls → n ≤ calls_at site before + suc (length calls)
    few_made true h = omega arith
    few_made false h = omega arith

pub few_at_site : (site : ℕ) (calls : List Made) → calls_at site (view_calls calls) ≤ length calls
few_at_site site calls = omega (arith, few_and site NoCalls calls)

-- a site's count, with a call more
pub counts_more : (calls : List Made) (made : Made) (site : ℕ) (before after : Option ℕ) → unwrap_or before 0 ≡ calls_at site (view_calls calls)
    → made.entry.count ≡ calls_at made.entry.site (view_calls calls) + 1 → after ≡ cond (is_eq (nat_cmp made.entry.site site)) (Some made.entry.count) before
    → unwrap_or after 0 ≡ calls_at site (view_calls (calls ++ made ∷ []))
counts_more calls made site before after is count put =
    ap (λ o. unwrap_or o 0) (put ∙ ap (λ b. cond b (Some made.entry.count) before) (sym (unsigned_ties made.entry.site site)))
    ∙ by_site (made.entry.site == site) refl
    ∙ sym (ap (calls_at site) (calls_and_one NoCalls calls made))
  where
    by_site : (b : Bool) → (made.entry.site == site) ≡ b → unwrap_or (cond b (Some made.entry.count) before) 0 ≡ calls_at site (view_calls calls) + cond b 1 0
    by_site true e = count ∙ ap (λ s. calls_at s (view_calls calls) + 1) ((Decides-eqb made.entry.site site).0 e)
    by_site false e = is ∙ omega arith
