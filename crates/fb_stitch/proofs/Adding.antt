-- What walks find, added up.
use Rattle.std.proofs.Common.{◌≡◌, ◌+◌, ℕ, List, [], ◌∷◌, ◌++◌, map, length, slice_get, slice_set, Some, refl, sym, ap, ◌∙◌, arith, append_assoc, append-nil}
use Rattle.fb_base.specs.declared.method.MethodId.{MethodId}
use Rattle.fb_tree.specs.Calls.{PlacedCall, visit_of}
use Rattle.fb_tree.specs.declared.recorded.Record.{Record}
use Rattle.fb_meaning.specs.Spelling.{AreAt}
use Rattle.fb_stitch.specs.declared.found.Found.{Found}
use Rattle.fb_stitch.specs.Finding.{Adds, AddsVisit, Opens, Closes}
use Rattle.fb_stitch.proofs.Lists.{set_behind}

pub map_joined : {A B : Type 0} (f : A → B) (xs ys : List A) → map f (xs ++ ys) ≡ map f xs ++ map f ys
map_joined f [] ys = refl
map_joined f (x ∷ xs) ys = ap (λ more. f x ∷ more) (map_joined f xs ys)

pub at_joined : (records : List Record) (some more : List ℕ) (items others : List Record) → AreAt records some items → AreAt records more others
    → AreAt records (some ++ more) (items ++ others)
at_joined records some more items others first second =
    map_joined (slice_get records) some more ∙ ap (λ front. front ++ map (slice_get records) more) first
    ∙ ap (λ rest. map Some items ++ rest) second ∙ sym (map_joined Some items others)

module _ (records : List Record) where
  pub adds_nothing : (old : Found) → Adds records old old [] [] [] 0
  adds_nothing old = record {
    places = [];
    are_at = refl;
    uses = sym (append-nil old.uses.items);
    visits = sym (append-nil old.visits);
    injected = sym (append-nil old.injected);
    steps_are = omega arith;
  }

  pub adds_then : (old middle new : Found) (items others : List Record) (calls later : List PlacedCall) (callees more : List MethodId) (steps further : ℕ)
      → Adds records old middle items calls callees steps → Adds records middle new others later more further
      → Adds records old new (items ++ others) (calls ++ later) (callees ++ more) (steps + further)
  adds_then old middle new items others calls later callees more steps further first second =
      let s = first.steps_are in
      let t = second.steps_are in
      record {
        places = first.places ++ second.places;
        are_at = at_joined records first.places second.places items others first.are_at second.are_at;
        uses = second.uses ∙ ap (λ uses. uses ++ second.places) first.uses ∙ append_assoc old.uses.items first.places second.places;
        visits =
            second.visits ∙ ap (λ visits. visits ++ map visit_of later) first.visits
            ∙ append_assoc old.visits (map visit_of calls) (map visit_of later) ∙ ap (λ visits. old.visits ++ visits) (sym (map_joined visit_of calls later));
        injected = second.injected ∙ ap (λ injected. injected ++ more) first.injected ∙ append_assoc old.injected callees more;
        steps_are = omega (arith, s, t);
      }

  -- a call's own visit
  pub adds_visit : (old new : Found) (call : PlacedCall) (callees : List MethodId) → AddsVisit old new (visit_of call) callees
      → Adds records old new [] (call ∷ []) callees 0
  adds_visit old new call callees visit =
      let s = visit.steps in
      record {
        places = [];
        are_at = refl;
        uses = visit.uses ∙ sym (append-nil old.uses.items);
        visits = visit.visits;
        injected = visit.injected;
        steps_are = omega (arith, s);
      }

  -- an invocation, from where it began to its end
  pub adds_closed : (old start now new : Found) (id steps : ℕ) (item : Record) (items : List Record) (calls : List PlacedCall) (callees : List MethodId) (below : ℕ)
      → Opens old start → Adds records start now items calls callees below → Closes (length old.uses.items) id steps now new → slice_get records id ≡ Some item
      → Adds records old new (item ∷ items) calls callees (steps + below)
  adds_closed old start now new id steps item items calls callees below opens adds closes is =
      let s = opens.steps in
      let t = adds.steps_are in
      let u = closes.steps_are in
      record {
        places = id ∷ adds.places;
        are_at = ap (λ first. first ∷ map (slice_get records) adds.places) is ∙ ap (λ more. Some item ∷ more) adds.are_at;
        uses =
            closes.uses
            ∙ ap (λ uses. slice_set uses (length old.uses.items) id)
            (adds.uses ∙ ap (λ uses. uses ++ adds.places) opens.uses ∙ append_assoc old.uses.items (0 ∷ []) adds.places)
            ∙ set_behind old.uses.items 0 id adds.places;
        visits = closes.visits ∙ adds.visits ∙ ap (λ visits. visits ++ map visit_of calls) opens.visits;
        injected = closes.injected ∙ adds.injected ∙ ap (λ injected. injected ++ callees) opens.injected;
        steps_are = omega (arith, s, t, u);
      }
