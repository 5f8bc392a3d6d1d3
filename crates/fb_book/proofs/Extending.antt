-- The extensions of a row's plan, by its calls and the choices for each.
use Rattle.std.proofs.Common.{◌≡◌, ℕ, Option, Some, List, [], ◌∷◌, ◌++◌, map, slice_get, Contains, refl, sym, ap, ◌∙◌, subst}
use Rattle.std.specs.Prelude.{option_map, option_and_then}
use Rattle.std.specs.List.{position_from}
use Rattle.std.proofs.lemmas.Option.{same_Some}
use Rattle.fb_base.specs.declared.reply.Reply.{Reply}
use Rattle.fb_base.specs.Replies.{same_reply, same_reply-Decides}
use Rattle.fb_index.specs.Entry.{Occurrence}
use Rattle.fb_index.specs.declared.fault.Fault.{Fault}
use Rattle.fb_tree.specs.declared.visit.Visit.{Visit}
use Rattle.fb_campaign.specs.Plans.{begun_after_plan, between_services, extensions_at, extensions_of}
use Rattle.fb_campaign.specs.Runs.{Choices, AreDistinct}
use Rattle.fb_functest.specs.PlanLines.{with_fault}
use Rattle.fb_book.specs.declared.call.Call.{Call}
use Rattle.fb_book.specs.declared.child.Child.{Child}
use Rattle.fb_book.specs.declared.row.Row.{Row}
use Rattle.fb_book.specs.Books.{child_by, child_in, child_of}
use Rattle.fb_book.specs.Calls.{called, calls_for, is_at, place_of}
use Rattle.fb_book.specs.Kept.{IsChildOf}
use Rattle.fb_book.proofs.Lists.{in_get, get_in, in_map, map_has, in_flat_map, flat_map_has, get_map, map_get, one_place, then_some, map_some, found_item, finds, same_end}
use Rattle.fb_book.proofs.Sameness.{same_key, key_itself}

-- plans that are longer by a fault are one where the shorter ones and the faults are
pub same_longer : (plan other : List Fault) (fault another : List Occurrence × Reply) → with_fault plan fault ≡ with_fault other another
    → (plan ≡ other) × (fault ≡ another)
same_longer plan other fault another is =
    let same = same_end plan other (record { index = fault.0; reply = fault.1 }) (record { index = another.0; reply = another.1 }) is in
    (same.0, λ i. ((same.1 i).index, (same.1 i).reply))

module _ (choices : Choices) (rows : List Row) where
  -- ---- an extension of a row's plan

  pub record ExtendedAt (number : ℕ) (row : Row) (longer : List Fault) : Type 0 where
    pub child : Child
    pub call : Call
    pub given : Reply
    pub is : IsChildOf rows choices child row call given
    pub number_is : child.parent ≡ number
    pub longer_is : longer ≡ with_fault row.plan (call.index, given)

  pub extended_at : (number : ℕ) (row : Row) (visits : List Visit) (longer : List Fault) → slice_get rows number ≡ Some row → row.calls ≡ calls_for row.plan visits
      → Contains (extensions_of choices visits row.plan) longer → ExtendedAt number row longer
  extended_at number row visits longer there calls has =
      let at = flat_map_has (extensions_at choices row.plan) longer (between_services (begun_after_plan row.plan visits)) has in
      let given = map_has (λ given. row.plan ++ record { index = at.0.index; reply = given } ∷ []) longer (choices at.0.callee) at.2 in
      let place = get_in (calls_for row.plan visits) (called at.0) (in_map called at.0 (between_services (begun_after_plan row.plan visits)) at.1) in
      let choice = get_in (choices at.0.callee) given.0 given.1 in
      record {
        child = record { parent = number; call = place.0; choice = choice.0 };
        call = called at.0;
        given = given.0;
        is = record { parent = there; there = ap (λ cs. slice_get cs place.0) calls ∙ place.1; chosen = choice.1 };
        number_is = refl;
        longer_is = sym given.2;
      }

  pub extends_at : (child : Child) (row : Row) (call : Call) (given : Reply) (visits : List Visit) → IsChildOf rows choices child row call given → row.calls ≡ calls_for row.plan visits
      → Contains (extensions_of choices visits row.plan) (with_fault row.plan (call.index, given))
  extends_at child row call given visits is calls =
      let at = map_get called (between_services (begun_after_plan row.plan visits)) child.call call (ap (λ cs. slice_get cs child.call) (sym calls) ∙ is.there) in
      let chosen : Contains (choices at.0.callee) given = subst (λ (c : Call). Contains (choices c.callee) given) (sym at.2) (in_get (choices call.callee) child.choice given is.chosen) in
      subst (λ (c : Call). Contains (extensions_of choices visits row.plan) (with_fault row.plan (c.index, given))) at.2
      (in_flat_map (extensions_at choices row.plan) at.0 (with_fault row.plan (at.0.index, given)) (between_services (begun_after_plan row.plan visits))
      (in_get (between_services (begun_after_plan row.plan visits)) child.call at.0 at.1)
      (in_map (λ given. row.plan ++ record { index = at.0.index; reply = given } ∷ []) given (choices at.0.callee) chosen))

  -- an extension is told by its row's plan and its fault, where calls and choices differ
  pub one_child : (one other : Child) (row another : Row) (call call_too : Call) (given given_too : Reply) → IsChildOf rows choices one row call given
      → IsChildOf rows choices other another call_too given_too → AreDistinct (map (λ (call : Call). call.index) row.calls) → AreDistinct (choices call.callee)
      → one.parent ≡ other.parent → call.index ≡ call_too.index → given ≡ given_too → one ≡ other
  one_child one other row another call call_too given given_too is too differ choices_differ parent index given_is =
      let rows_are : row ≡ another = same_Some row another (sym is.parent ∙ ap (slice_get rows) parent ∙ too.parent) in
      let there : slice_get row.calls other.call ≡ Some call_too = ap (λ (r : Row). slice_get r.calls other.call) rows_are ∙ too.there in
      let place : one.call ≡ other.call = one_place (map (λ (c : Call). c.index) row.calls) one.call other.call call.index differ
      (get_map (λ (c : Call). c.index) row.calls one.call call is.there)
      (get_map (λ (c : Call). c.index) row.calls other.call call_too there ∙ ap Some (sym index)) in
      let calls_are : call ≡ call_too = same_Some call call_too (sym is.there ∙ ap (slice_get row.calls) place ∙ there) in
      let choice : one.choice ≡ other.choice = one_place (choices call.callee) one.choice other.choice given choices_differ is.chosen
      (ap (λ (c : Call). slice_get (choices c.callee) other.choice) calls_are ∙ too.chosen ∙ ap Some (sym given_is)) in
      λ i. record { parent = parent i; call = place i; choice = choice i }

  -- ---- the extension that a line is

  pub record Found (parent : Option ℕ) (fault : Option (List Occurrence × Reply)) (child : Child) : Type 0 where
    pub row : Row
    pub call : Call
    pub given : Reply
    pub is : IsChildOf rows choices child row call given
    pub named : parent ≡ Some child.parent
    pub added : fault ≡ Some (call.index, given)

  pub found : (parent : Option ℕ) (fault : Option (List Occurrence × Reply)) (child : Child) → child_of rows choices parent fault ≡ Some child → Found parent fault child
  found parent fault child is =
      let number = then_some _ parent child is in
      let of_fault = then_some _ fault child number.2 in
      let row = then_some _ (slice_get rows number.0) child of_fault.2 in
      let place = then_some _ (place_of of_fault.0.0 row.0.calls) child row.2 in
      let call = then_some _ (slice_get row.0.calls place.0) child place.2 in
      let choice = map_some _ (position_from (same_reply of_fault.0.1) 0 (choices call.0.callee)) child call.2 in
      let at = found_item (is_at of_fault.0.0) place.0 row.0.calls place.1 in
      let same_call : call.0 ≡ at.0 = same_Some call.0 at.0 (sym call.1 ∙ at.1) in
      let index : of_fault.0.0 ≡ call.0.index = same_key of_fault.0.0 at.0.index at.2 ∙ ap (λ (c : Call). c.index) (sym same_call) in
      let given = found_item (same_reply of_fault.0.1) choice.0 (choices call.0.callee) choice.1 in
      let reply : of_fault.0.1 ≡ given.0 = (same_reply-Decides of_fault.0.1 given.0).0 given.2 in
      subst (Found parent fault) choice.2 (record {
        row = row.0;
        call = call.0;
        given = given.0;
        is = record { parent = row.1; there = call.1; chosen = given.1 };
        named = number.1;
        added = of_fault.1 ∙ (λ i. Some (index i, reply i));
      })

  -- what there is is found
  pub finds_child : (parent : Option ℕ) (fault : Option (List Occurrence × Reply)) (child : Child) → Found parent fault child
      → ((row : Row) → slice_get rows child.parent ≡ Some row → AreDistinct (map (λ (call : Call). call.index) row.calls))
      → (other : Child) × (child_of rows choices parent fault ≡ Some other)
  finds_child parent fault child there differ =
      let calls = there.row.calls in
      let index = there.call.index in
      let place = finds (is_at index) 0 child.call there.call calls there.is.there (key_itself index) in
      let at = found_item (is_at index) place.0 calls place.1 in
      let same_index : index ≡ at.0.index = same_key index at.0.index at.2 in
      let place_is : child.call ≡ place.0 = one_place (map (λ (c : Call). c.index) calls) child.call place.0 index (differ there.row there.is.parent)
      (get_map (λ (c : Call). c.index) calls child.call there.call there.is.there)
      (get_map (λ (c : Call). c.index) calls place.0 at.0 at.1 ∙ ap Some (sym same_index)) in
      let call_there : slice_get calls place.0 ≡ Some there.call = ap (slice_get calls) (sym place_is) ∙ there.is.there in
      let choice = finds (same_reply there.given) 0 child.choice there.given (choices there.call.callee) there.is.chosen ((same_reply-Decides there.given there.given).1 refl) in (
        record { parent = child.parent; call = place.0; choice = choice.0 },
        (λ i. option_and_then (λ number. option_and_then (λ (f : List Occurrence × Reply). option_and_then (λ (row : Row). child_in choices number f.0 f.1 row.calls) (slice_get rows number)) (there.added i)) (there.named i))
            ∙ ap (option_and_then (λ (row : Row). child_in choices child.parent index there.given row.calls)) there.is.parent
            ∙ ap (option_and_then (λ place. option_and_then (child_by choices child.parent place there.given) (slice_get calls place))) place.1
            ∙ ap (option_and_then (child_by choices child.parent place.0 there.given)) call_there
            ∙ ap (option_map (λ choice. record { parent = child.parent; call = place.0; choice = choice })) choice.1,
      )
