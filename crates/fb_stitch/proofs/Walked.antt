-- The turns of a walk, and its ends.
use Rattle.std.proofs.Common.{◌≡◌, ◌<◌, ◌≤◌, ◌+◌, ◌-◌, ℕ, List, [], ◌∷◌, ◌++◌, length, take, slice_get, Contains, Option, Some, None, inl, inr, refl, sym, ap, ◌∙◌, subst, arith, length-append}
use Rattle.std.proofs.lemmas.Option.{same_Some}
use Rattle.std.proofs.lemmas.List.{length-map, take_all}
use Rattle.fb_base.specs.declared.method.MethodId.{MethodId}
use Rattle.fb_base.specs.declared.reply.Reply.{Reply}
use Rattle.fb_base.specs.declared.value.Value.{Value}
use Rattle.fb_index.specs.Entry.{Occurrence}
use Rattle.fb_graph.specs.Chain.{IsRank}
use Rattle.fb_check.specs.Calls.{graph_of}
use Rattle.fb_check.specs.Programs.{methods_of}
use Rattle.fb_store.specs.Following.{Asks, Ends, following}
use Rattle.fb_store.specs.Walks.{Walk, walk_of}
use Rattle.fb_tree.specs.Runs.{Tree, Invocation, AndCall}
use Rattle.fb_tree.specs.Records.{asked_of, record_of, records_of, records_in, steps_of, steps_in}
use Rattle.fb_tree.specs.Calls.{calls_within, injected_in, injected_of}
use Rattle.fb_tree.specs.declared.asked.Asked.{Asked}
use Rattle.fb_tree.specs.declared.recorded.Record.{Record}
use Rattle.fb_meaning.specs.Bodies.{PreparedCall, asked_and_got}
use Rattle.fb_meaning.specs.CallLaws.{AreDecided, extended}
use Rattle.fb_meaning.specs.Each.{HoldsOfEach}
use Rattle.fb_meaning.specs.Parting.{calls_in}
use Rattle.fb_stitch.specs.declared.found.Found.{Found}
use Rattle.fb_stitch.specs.Stitched.{Ground, IsStitched, IsSound}
use Rattle.fb_stitch.specs.Finding.{Opens, Closes, EndsAt, FindsTree, FindsCall, GoesOnWith, HasCall}
use Rattle.fb_stitch.proofs.Lists.{IsItem, item_of, contained, each_joined}
use Rattle.fb_stitch.proofs.Beginnings.{BeginsSo, IsWalk, IsNext, IsEnd, walk_found, none_begins, what_follows}
use Rattle.fb_stitch.proofs.Extended.{from_none, records_parts}
use Rattle.fb_stitch.proofs.Adding.{adds_then, adds_closed, map_joined}
use Rattle.fb_stitch.proofs.Longest.{all_calls, few_calls}
use Rattle.fb_stitch.proofs.Unique.{one_way}
use Rattle.fb_stitch.proofs.Underway.{IsUnderway, begins_underway, goes_on, goes_on_like, begins_shorter, next_reply, calls_one_more, calls_enough}

-- what a call asks for
abbrev pub request_of : Asked → PreparedCall
request_of asked = record { entry = asked.entry; callee = asked.callee; args = asked.args }

module _ (ground : Ground) (method : MethodId) (args : List Value) (index : List Occurrence) (old : Found) where
  -- a walk stands at some replies, with what was found so far
  pub record IsWalking (slot : ℕ) (now : Found) (cursor : Walk) : Type 0 where
    pub start : Found
    pub opened : Opens old start
    pub slot_is : slot ≡ length old.uses.items
    pub stands : cursor ≡ record { records = ground.records; method = method; args = args; replies = cursor.replies }
    pub first : Record
    pub there : IsItem ground.records first
    pub begun : BeginsSo method args cursor.replies first
    pub underway : IsUnderway ground method args index start now cursor.replies

  walking : (slot : ℕ) (start now : Found) (cursor : Walk) (replies : List Reply) → Opens old start → slot ≡ length old.uses.items
      → IsWalk ground.records method args replies cursor → IsUnderway ground method args index start now replies → IsWalking slot now cursor
  walking slot start now cursor replies opened slot_is walk underway =
      let same : replies ≡ cursor.replies = ap (λ (w : Walk). w.replies) (sym walk.stands) in
      record {
        start = start;
        opened = opened;
        slot_is = slot_is;
        stands = walk.stands ∙ ap (λ rs. record { records = ground.records; method = method; args = args; replies = rs }) same;
        first = walk.first;
        there = walk.there;
        begun = subst (λ rs. BeginsSo method args rs walk.first) same walk.begun;
        underway = subst (IsUnderway ground method args index start now) same underway;
      }

  -- no record is of the method on these arguments
  pub none_starts : (new : Found) → None ≡ walk_of ground.records method args [] → FindsTree ground method args index old new None
  none_starts new none tree stitched fits =
      let own = subst (HoldsOfEach (Contains ground.records)) (records_parts tree) stitched.recorded in
      let at = item_of ground.records (record_of tree) own.0 in
      none_begins ground.records method args [] (sym none) at.0 (record_of tree) at.1
      (record { method_is = stitched.asked.same_method; args_are = stitched.asked.same_args; replies_are = refl })

  pub starts : (slot : ℕ) (start : Found) (cursor : Walk) → Some cursor ≡ walk_of ground.records method args [] → Opens old start → slot ≡ length old.uses.items
      → old.steps ≤ ground.limit → IsWalking slot start cursor
  starts slot start cursor is opened slot_is within =
      let same = opened.steps in
      walking slot start start cursor [] opened slot_is (walk_found ground.records method args [] cursor (sym is))
      (begins_underway ground method args index start (omega (arith, within, same)) (λ tree. from_none (calls_in tree)))

  module _ (sound : IsSound ground) (slot : ℕ) (now : Found) (cursor : Walk) (is : IsWalking slot now cursor) where
    -- what the clauses say of the cursor, at these records, this method and these arguments
    at_cursor : (P : Walk → Type 0) → P cursor → P (record { records = ground.records; method = method; args = args; replies = cursor.replies })
    at_cursor P p = subst P is.stands p

    next_is : (asked : Asked) → Some (Asks asked) ≡ following cursor.records cursor.method cursor.args cursor.replies → IsNext ground.records method args cursor.replies asked
    next_is asked follows =
        what_follows ground.records method args cursor.replies (Asks asked)
        (at_cursor (λ w. following w.records w.method w.args cursor.replies ≡ Some (Asks asked)) (sym follows))

    end_is : (id : ℕ) → Some (Ends id) ≡ following cursor.records cursor.method cursor.args cursor.replies → IsEnd ground.records method args cursor.replies id
    end_is id follows =
        what_follows ground.records method args cursor.replies (Ends id)
        (at_cursor (λ w. following w.records w.method w.args cursor.replies ≡ Some (Ends id)) (sym follows))

    module _ (asked : Asked) (follows : Some (Asks asked) ≡ following cursor.records cursor.method cursor.args cursor.replies) where
      -- the record that goes on so
      pub next_at : (first : Record) × Contains ground.records first × (first.method ≡ method) × (slice_get first.calls (length cursor.replies) ≡ Some asked)
      next_at =
          let next = next_is asked follows in
          (next.first, contained ground.records next.first next.there.0 next.there.1, next.begun.method_is, next.next)

      -- the call isn't known
      pub none_called : (later new : Found) → FindsCall ground (request_of asked) (index ++ asked.entry ∷ []) now later None → FindsTree ground method args index old new None
      none_called later new none tree stitched fits =
          let on = goes_on ground method args index is.start now cursor.replies is.underway sound asked (next_is asked follows) tree stitched in
          let a = is.opened.steps in
          let b = is.underway.adds.steps_are in
          let c = on.fits in
          none on.reply on.how on.stitched (omega (arith, a, b, c, fits))

      module _ (later : Found) (given : Reply) (call : HasCall ground (request_of asked) (index ++ asked.entry ∷ []) now later given) where
        -- no record goes on with its reply
        pub none_goes_on : (new : Found) → None ≡ walk_of cursor.records cursor.method cursor.args (cursor.replies ++ given ∷ []) → FindsTree ground method args index old new None
        none_goes_on new none tree stitched fits =
            let on = goes_on ground method args index is.start now cursor.replies is.underway sound asked (next_is asked follows) tree stitched in
            let same = one_way ground sound (request_of asked) (index ++ asked.entry ∷ []) on.reply given on.how call.how on.stitched call.stitched in
            none_begins ground.records method args (cursor.replies ++ given ∷ [])
            (at_cursor (λ w. walk_of w.records w.method w.args (cursor.replies ++ given ∷ []) ≡ None) (sym none)) on.place (record_of tree) on.item_is
            (subst (λ r. BeginsSo method args (cursor.replies ++ r ∷ []) (record_of tree)) same.same_reply on.begun)

        further_underway : IsUnderway ground method args index is.start later (cursor.replies ++ given ∷ [])
        unfolding records_in calls_within injected_in steps_in AreDecided
        further_underway =
            let u = is.underway in
            let made = asked_and_got (request_of asked) given in
            let next = next_is asked follows in
            record {
              calls = AndCall u.calls made call.how;
              replied = map_joined (λ (a : Asked). a.reply) (asked_of u.calls) (made ∷ []) ∙ ap (λ front. front ++ given ∷ []) u.replied;
              fronts = λ j item at b. (
                  let short = begins_shorter method args cursor.replies item given b in
                  let like = goes_on_like method args cursor.replies next.first item asked (sound.agreed next.there.0 j next.first item next.there.1 at) next.begun short next.next in
                  let got = next_reply method args cursor.replies item like.other given b like.next in
                  let whole : like.other ≡ made = like.alike ∙ ap (λ r. asked_and_got (request_of asked) r) got in
                  calls_one_more method args cursor.replies item like.other given (asked_of u.calls) (u.fronts j item at short) like.next
                  ∙ ap (λ a. asked_of u.calls ++ a ∷ []) whole);
              recorded = each_joined (Contains ground.records) (records_in u.calls) _ u.recorded call.stitched.recorded;
              decided = (u.decided, call.stitched.decided);
              adds = adds_then ground.records is.start now later _ _ _ _ _ _ _ _ u.adds call.adds;
              within = call.within;
              front = λ tree stitched. (
                  let on = goes_on ground method args index is.start now cursor.replies u sound asked next tree stitched in
                  let same = one_way ground sound (request_of asked) (index ++ asked.entry ∷ []) on.reply given on.how call.how on.stitched call.stitched in (
                    on.more,
                    on.extends ∙ ap (λ r. extended u.calls ((asked_and_got (request_of asked) r, on.how) ∷ on.more)) same.same_reply
                        ∙ ap (λ h. extended u.calls ((made, h) ∷ on.more)) same.same_how,
                  ));
            }

        pub goes_further : (further : Walk) → Some further ≡ walk_of cursor.records cursor.method cursor.args (cursor.replies ++ given ∷ []) → IsWalking slot later further
        goes_further further e =
            walking slot is.start later further (cursor.replies ++ given ∷ []) is.opened is.slot_is
            (walk_found ground.records method args (cursor.replies ++ given ∷ []) further
            (at_cursor (λ w. walk_of w.records w.method w.args (cursor.replies ++ given ∷ []) ≡ Some further) (sym e)))
            further_underway

      -- ---- as the code has it

      pub next_within : asked.callee.0 < length (methods_of ground.services)
      next_within = (let next = next_at in (sound.lowers next.0 (length cursor.replies) asked next.1 next.3).within)

      pub next_lower : (k j : ℕ) → IsRank (graph_of ground.services) method.0 k → IsRank (graph_of ground.services) asked.callee.0 j → j < k
      next_lower k j own below =
          let next = next_at in
          (sound.lowers next.0 (length cursor.replies) asked next.1 next.3).lower k j
          (subst (λ (m : MethodId). IsRank (graph_of ground.services) m.0 k) (sym next.2) own) below

      module _ (given_args : List Value) (same_args : given_args ≡ asked.args) (later : Found) (result : Option Walk)
          (goes_on_so : GoesOnWith ground (record { entry = asked.entry; callee = asked.callee; args = given_args }) (index ++ asked.entry ∷ []) cursor now later result) where
        goes : GoesOnWith ground (request_of asked) (index ++ asked.entry ∷ []) cursor now later result
        goes = subst (λ a. GoesOnWith ground (record { entry = asked.entry; callee = asked.callee; args = a }) (index ++ asked.entry ∷ []) cursor now later result) same_args goes_on_so

        pub walk_stops : (new : Found) → result ≡ None → FindsTree ground method args index old new None
        walk_stops new e = by (subst (GoesOnWith ground (request_of asked) (index ++ asked.entry ∷ []) cursor now later) e goes)
          where
            by : GoesOnWith ground (request_of asked) (index ++ asked.entry ∷ []) cursor now later None → FindsTree ground method args index old new None
            by (inl none) = none_called later new none
            by (inr some) = none_goes_on later some.0 some.1 new (sym some.2)

        pub walk_goes : (next : Walk) → result ≡ Some next → IsWalking slot later next
        walk_goes next e =
            let some = subst (GoesOnWith ground (request_of asked) (index ++ asked.entry ∷ []) cursor now later) e goes in
            goes_further later some.0 some.1 next (sym some.2)

        pub walk_nearer : (next : Walk) → result ≡ Some next → all_calls ground.records + 1 - length next.replies < all_calls ground.records + 1 - length cursor.replies
        walk_nearer next e =
            let some = subst (GoesOnWith ground (request_of asked) (index ++ asked.entry ∷ []) cursor now later) e goes in
            let walk = walk_found ground.records method args (cursor.replies ++ some.0 ∷ []) next
            (at_cursor (λ w. walk_of w.records w.method w.args (cursor.replies ++ some.0 ∷ []) ≡ Some next) some.2) in
            let longer : length next.replies ≡ length cursor.replies + 1 = ap (λ (w : Walk). length w.replies) walk.stands ∙ length-append cursor.replies (some.0 ∷ []) in
            let few = few_calls ground.records walk.there.0 walk.first walk.there.1 in
            let enough = calls_enough method args (cursor.replies ++ some.0 ∷ []) walk.first walk.begun in
            let again : length (cursor.replies ++ some.0 ∷ []) ≡ length cursor.replies + 1 = length-append cursor.replies (some.0 ∷ []) in
            omega (arith, longer, few, enough, again)

    -- ---- its end

    module _ (id : ℕ) (follows : Some (Ends id) ≡ following cursor.records cursor.method cursor.args cursor.replies) where
      pub end_at : (item : Record) × (slice_get ground.records id ≡ Some item)
      end_at = (let end = end_is id follows in (end.item, end.item_is))

      abbrev tree_of : Record → Tree
      tree_of item = Invocation method args is.underway.calls item.reply item.steps

      calls_whole : (end : IsEnd ground.records method args cursor.replies id) → end.item.calls ≡ asked_of is.underway.calls
      calls_whole end =
          let many : length end.item.calls ≡ length cursor.replies = sym (length-map end.item.calls (λ (a : Asked). a.reply)) ∙ ap length end.ended.replies_are in
          let begun : BeginsSo method args cursor.replies end.item = record {
            method_is = end.ended.method_is;
            args_are = end.ended.args_are;
            replies_are = ap (take (length cursor.replies)) end.ended.replies_are ∙ take_all (length cursor.replies) cursor.replies (omega arith);
          } in
          sym (take_all (length cursor.replies) end.item.calls (omega (arith, many))) ∙ is.underway.fronts id end.item end.item_is begun

      recorded_so : (end : IsEnd ground.records method args cursor.replies id) → record_of (tree_of end.item) ≡ end.item
      recorded_so end =
          let calls = calls_whole end in
          λ i. record {
            method = sym end.ended.method_is i;
            args = sym end.ended.args_are i;
            calls = sym calls i;
            reply = end.item.reply;
            steps = end.item.steps;
          }

      stitched_so : (end : IsEnd ground.records method args cursor.replies id) → IsStitched ground method args index (tree_of end.item)
      unfolding records_of
      stitched_so end = record {
        asked = record { same_method = refl; same_args = refl; decided = is.underway.decided };
        recorded = (contained ground.records (record_of (tree_of end.item)) id (end.item_is ∙ ap Some (sym (recorded_so end))), is.underway.recorded);
      }

      pub ends : (new : Found) (result : Option Reply) → EndsAt ground slot id now new result → FindsTree ground method args index old new result
      unfolding records_of calls_within injected_of steps_of
      ends new None at = λ tree stitched fits.
          let end = end_is id follows in
          let same_item : end.item ≡ at.0 = same_Some end.item at.0 (sym end.item_is ∙ at.1) in
          let same = sound.unique method args index (tree_of end.item) tree (stitched_so end) stitched in
          let a = is.opened.steps in
          let b = is.underway.adds.steps_are in
          let c : steps_of (tree_of end.item) ≡ steps_of tree = ap steps_of same in
          let d : end.item.steps ≡ at.0.steps = ap (λ (r : Record). r.steps) same_item in
          let e = at.2 in
          omega (arith, a, b, c, d, e, fits)
      ends new (Some given) at =
          let end = end_is id follows in
          let same_item : end.item ≡ at.0 = same_Some end.item at.0 (sym end.item_is ∙ at.1) in
          record {
            tree = tree_of end.item;
            stitched = stitched_so end;
            replies = ap (λ (r : Record). r.reply) same_item ∙ at.2;
            adds = adds_closed ground.records old is.start now new id end.item.steps (record_of (tree_of end.item)) _ _ _ _ is.opened is.underway.adds
                (subst (λ n. Closes n id end.item.steps now new) is.slot_is (subst (λ (r : Record). Closes slot id r.steps now new) (sym same_item) at.4))
                (end.item_is ∙ ap Some (sym (recorded_so end)));
            within = at.3;
          }

      pub slot_within : slot < length now.uses.items
      slot_within =
          let a = is.slot_is in
          let b : length now.uses.items ≡ length is.start.uses.items + length is.underway.adds.places = ap length is.underway.adds.uses ∙ length-append is.start.uses.items is.underway.adds.places in
          let c : length is.start.uses.items ≡ length old.uses.items + 1 = ap length is.opened.uses ∙ length-append old.uses.items (0 ∷ []) in
          omega (arith, a, b, c)

    pub within_limit : now.steps ≤ ground.limit
    within_limit = is.underway.within
