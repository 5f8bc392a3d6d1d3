-- Walks that are underway: what was found so far is a front of each tree that is stitched there.
use Rattle.std.proofs.Common.{◌≡◌, ◌≤◌, ◌+◌, ℕ, suc, List, [], ◌∷◌, ◌++◌, length, map, take, option_map, append-nil, slice_get, Contains, Some, ◌⊎◌, inl, inr, refl, sym, ap, ◌∙◌, subst, arith, length-append}
use Rattle.std.proofs.lemmas.Option.{slice_get_within, same_Some, slice_get-map}
use Rattle.std.proofs.lemmas.List.{length-map, take-map, take-take, append_cancel_left}
use Rattle.fb_base.specs.declared.method.MethodId.{MethodId}
use Rattle.fb_base.specs.declared.reply.Reply.{Reply}
use Rattle.fb_base.specs.declared.value.Value.{Value}
use Rattle.fb_index.specs.Entry.{Occurrence}
use Rattle.fb_store.specs.Following.{replies_of}
use Rattle.fb_tree.specs.Agreement.{RecordsAgree, AreApart, AskTheSame, EndTheSame, replies_before}
use Rattle.fb_tree.specs.Runs.{Tree, CallList, NoCalls, How}
use Rattle.fb_tree.specs.Records.{asked_of, record_of, records_in, steps_of, steps_in, steps_below}
use Rattle.fb_tree.specs.Calls.{calls_within, injected_in}
use Rattle.fb_tree.specs.declared.asked.Asked.{Asked}
use Rattle.fb_tree.specs.declared.recorded.Record.{Record}
use Rattle.fb_meaning.specs.CallLaws.{Answer, extended, ExtendsCalls, AreDecided}
use Rattle.fb_meaning.specs.Each.{HoldsOfEach}
use Rattle.fb_meaning.specs.Parting.{calls_in}
use Rattle.fb_stitch.specs.declared.found.Found.{Found}
use Rattle.fb_stitch.specs.Stitched.{Ground, IsStitched, IsStitchedSo, IsSound}
use Rattle.fb_stitch.specs.Finding.{Adds}
use Rattle.fb_stitch.proofs.Lists.{item_of, item_behind, take_front, take_one_more}
use Rattle.fb_stitch.proofs.Beginnings.{BeginsSo, IsNext}
use Rattle.fb_stitch.proofs.Extended.{asked_of_extended, decided_first, recorded_first, steps_with_first, calls_recorded, records_parts, steps_parts}
use Rattle.fb_stitch.proofs.Adding.{adds_nothing, map_joined}

-- ---- records that begin alike

module _ (method : MethodId) (args : List Value) (replies : List Reply) where
  pub calls_enough : (item : Record) → BeginsSo method args replies item → length replies ≤ length item.calls
  calls_enough item b = by (replies_of item) replies b.replies_are (length-map item.calls (λ (asked : Asked). asked.reply))
    where
      by : (all front : List Reply) → take (length front) all ≡ front → length all ≡ length item.calls → length front ≤ length item.calls
      by all front is same = omega (arith, take_short front all is, same)
        where
          take_short : (front all : List Reply) → take (length front) all ≡ front → length front ≤ length all
          take_short [] all is = omega arith
          take_short (x ∷ front) [] is = absurd (cc)
          take_short (x ∷ front) (y ∷ all) is = omega (arith, take_short front all (let e : y ∷ take (length front) all ≡ x ∷ front = is in cc))

  -- two of them go on alike
  pub go_on_alike : (a b : Record) → RecordsAgree a b → BeginsSo method args replies a → BeginsSo method args replies b
      → AskTheSame (length replies) a b ⊎ EndTheSame (length replies) a b
  go_on_alike a b agree of_a of_b = elim (agree (length replies)) [ inl apart ↦ absurd (together apart) | inr alike ↦ alike ]
    where
      before : (item : Record) → BeginsSo method args replies item → replies_before (length replies) item ≡ replies
      before item b = sym (take-map (λ asked. asked.reply) (length replies) item.calls) ∙ b.replies_are

      together : ¬ (AreApart (length replies) a b)
      together (inl e) = e (of_a.method_is ∙ sym of_b.method_is)
      together (inr (inl e)) = e (of_a.args_are ∙ sym of_b.args_are)
      together (inr (inr (inl few))) = omega (arith, calls_enough a of_a, few)
      together (inr (inr (inr (inl few)))) = omega (arith, calls_enough b of_b, few)
      together (inr (inr (inr (inr e)))) = e (before a of_a ∙ sym (before b of_b))

  -- what asks for the same as a record that goes on
  pub record GoesOnLike (asked : Asked) (item : Record) : Type 0 where
    pub other : Asked
    pub next : slice_get item.calls (length replies) ≡ Some other
    pub alike : other ≡ record { entry = asked.entry; callee = asked.callee; args = asked.args; reply = other.reply }

  pub goes_on_like : (first item : Record) (asked : Asked) → RecordsAgree first item → BeginsSo method args replies first → BeginsSo method args replies item
      → slice_get first.calls (length replies) ≡ Some asked → GoesOnLike asked item
  goes_on_like first item asked agree of_first of_item is =
      elim (go_on_alike first item agree of_first of_item) [
        | inl ask ↦ (
            let same : asked ≡ ask.first = same_Some asked ask.first (sym is ∙ ask.first_asked) in
            record {
              other = ask.second;
              next = ask.second_asked;
              alike = λ i. record {
                entry = (sym ask.same_entry ∙ ap (λ a. a.entry) (sym same)) i;
                callee = (sym ask.same_callee ∙ ap (λ a. a.callee) (sym same)) i;
                args = (sym ask.same_args ∙ ap (λ a. a.args) (sym same)) i;
                reply = ask.second.reply;
              };
            })
        | inr end ↦ (let within = slice_get_within first.calls (length replies) asked is in absurd (omega (arith, within, end.0)))
      ]

  -- what begins with one more reply begins so, and has that reply
  pub begins_shorter : (item : Record) (answer : Reply) → BeginsSo method args (replies ++ answer ∷ []) item → BeginsSo method args replies item
  begins_shorter item answer b = record {
    method_is = b.method_is;
    args_are = b.args_are;
    replies_are =
        sym (take-take (length replies) (length (replies ++ answer ∷ [])) (replies_of item) (omega (arith, length-append replies (answer ∷ []))))
        ∙ ap (take (length replies)) b.replies_are ∙ take_front replies (answer ∷ []);
  }

  one_longer : (answer : Reply) → length (replies ++ answer ∷ []) ≡ suc (length replies)
  one_longer answer = length-append replies (answer ∷ []) ∙ omega arith

  replied_at : (item : Record) (asked : Asked) → slice_get item.calls (length replies) ≡ Some asked → slice_get (replies_of item) (length replies) ≡ Some asked.reply
  replied_at item asked is = slice_get-map (λ (call : Asked). call.reply) item.calls (length replies) ∙ ap (option_map (λ (call : Asked). call.reply)) is

  pub next_reply : (item : Record) (asked : Asked) (answer : Reply) → BeginsSo method args (replies ++ answer ∷ []) item
      → slice_get item.calls (length replies) ≡ Some asked → asked.reply ≡ answer
  next_reply item asked answer b is =
      let short = begins_shorter item answer b in
      let both : replies ++ asked.reply ∷ [] ≡ replies ++ answer ∷ [] =
      ap (λ front. front ++ asked.reply ∷ []) (sym short.replies_are) ∙ sym (take_one_more (replies_of item) (length replies) asked.reply (replied_at item asked is))
      ∙ ap (λ n. take n (replies_of item)) (sym (one_longer answer)) ∙ b.replies_are in
      let tails : asked.reply ∷ [] ≡ answer ∷ [] = append_cancel_left replies (asked.reply ∷ []) (answer ∷ []) both in
      cc

  -- it begins with its own next reply
  pub begins_longer : (item : Record) (asked : Asked) → BeginsSo method args replies item → slice_get item.calls (length replies) ≡ Some asked
      → BeginsSo method args (replies ++ asked.reply ∷ []) item
  begins_longer item asked b is = record {
    method_is = b.method_is;
    args_are = b.args_are;
    replies_are =
        ap (λ n. take n (replies_of item)) (one_longer asked.reply)
        ∙ take_one_more (replies_of item) (length replies) asked.reply (replied_at item asked is) ∙ ap (λ front. front ++ asked.reply ∷ []) b.replies_are;
  }

  -- its calls up to the next one
  pub calls_one_more : (item : Record) (asked : Asked) (answer : Reply) (before : List Asked) → take (length replies) item.calls ≡ before
      → slice_get item.calls (length replies) ≡ Some asked → take (length (replies ++ answer ∷ [])) item.calls ≡ before ++ asked ∷ []
  calls_one_more item asked answer before is next =
      ap (λ n. take n item.calls) (one_longer answer) ∙ take_one_more item.calls (length replies) asked next ∙ ap (λ front. front ++ asked ∷ []) is

-- ---- walks

module _ (ground : Ground) (method : MethodId) (args : List Value) (index : List Occurrence) (start : Found) where
  pub record IsUnderway (now : Found) (replies : List Reply) : Type 0 where
    pub calls : CallList
    -- these replies
    pub replied : map (λ asked. asked.reply) (asked_of calls) ≡ replies
    -- which any record has that begins with them
    pub fronts : (j : ℕ) (item : Record) → slice_get ground.records j ≡ Some item → BeginsSo method args replies item → take (length replies) item.calls ≡ asked_of calls
    pub recorded : HoldsOfEach (Contains ground.records) (records_in calls)
    pub decided : AreDecided ground.source index calls
    pub adds : Adds ground.records start now (records_in calls) (calls_within index calls) (injected_in calls) (steps_in calls)
    pub within : now.steps ≤ ground.limit
    -- and any tree that is stitched there
    pub front : (tree : Tree) → IsStitched ground method args index tree → ExtendsCalls calls (calls_in tree)

  pub begins_underway : start.steps ≤ ground.limit → ((tree : Tree) → ExtendsCalls NoCalls (calls_in tree)) → IsUnderway start []
  unfolding records_in calls_within injected_in steps_in AreDecided
  begins_underway within any = record {
    calls = NoCalls;
    replied = refl;
    fronts = λ j item is b. refl;
    recorded = tt;
    decided = tt;
    adds = adds_nothing ground.records start;
    within = within;
    front = λ tree stitched. any tree;
  }

  module _ (now : Found) (replies : List Reply) (underway : IsUnderway now replies) where
    -- the record of a tree that is stitched there begins so
    pub record HasRecord (tree : Tree) : Type 0 where
      pub place : ℕ
      pub item_is : slice_get ground.records place ≡ Some (record_of tree)
      pub added : List Answer
      pub extends : calls_in tree ≡ extended underway.calls added
      pub calls_are : (record_of tree).calls ≡ asked_of underway.calls ++ map (λ a. a.0) added
      pub begun : BeginsSo method args replies (record_of tree)

    pub has_record : (tree : Tree) → IsStitched ground method args index tree → HasRecord tree
    has_record tree stitched =
        let own = subst (HoldsOfEach (Contains ground.records)) (records_parts tree) stitched.recorded in
        let at = item_of ground.records (record_of tree) own.0 in
        let ext = underway.front tree stitched in
        let calls_are : (record_of tree).calls ≡ asked_of underway.calls ++ map (λ a. a.0) ext.0 =
        calls_recorded tree ∙ ap asked_of ext.1 ∙ asked_of_extended underway.calls ext.0 in
        record {
          place = at.0;
          item_is = at.1;
          added = ext.0;
          extends = ext.1;
          calls_are = calls_are;
          begun = record {
            method_is = stitched.asked.same_method;
            args_are = stitched.asked.same_args;
            replies_are =
                ap (λ calls. take (length replies) (map (λ (asked : Asked). asked.reply) calls)) calls_are
                ∙ ap (take (length replies)) (map_joined (λ (asked : Asked). asked.reply) (asked_of underway.calls) (map (λ a. a.0) ext.0)
                ∙ ap (λ front. front ++ map (λ (asked : Asked). asked.reply) (map (λ a. a.0) ext.0)) underway.replied)
                ∙ take_front replies (map (λ (asked : Asked). asked.reply) (map (λ a. a.0) ext.0));
          };
        }

    as_many : length (asked_of underway.calls) ≡ length replies
    as_many = sym (length-map (asked_of underway.calls) (λ (asked : Asked). asked.reply)) ∙ ap length underway.replied

    -- where a record goes on with a call, so does a tree
    pub record GoesOn (asked : Asked) (tree : Tree) : Type 0 where
      pub reply : Reply
      pub how : How
      pub more : List Answer
      pub extends : calls_in tree ≡ extended underway.calls ((record { entry = asked.entry; callee = asked.callee; args = asked.args; reply = reply }, how) ∷ more)
      pub stitched : IsStitchedSo ground (index ++ asked.entry ∷ []) (record { entry = asked.entry; callee = asked.callee; args = asked.args; reply = reply }) how
      pub fits : steps_in underway.calls + steps_below how ≤ steps_of tree
      pub begun : BeginsSo method args (replies ++ reply ∷ []) (record_of tree)
      pub place : ℕ
      pub item_is : slice_get ground.records place ≡ Some (record_of tree)

    module _ (sound : IsSound ground) (asked : Asked) (next : IsNext ground.records method args replies asked) where
      pub goes_on : (tree : Tree) → IsStitched ground method args index tree → GoesOn asked tree
      goes_on tree stitched = by has.added has.extends has.calls_are
        where
          has : HasRecord tree
          has = has_record tree stitched

          by : (added : List Answer) → calls_in tree ≡ extended underway.calls added → (record_of tree).calls ≡ asked_of underway.calls ++ map (λ a. a.0) added → GoesOn asked tree
          by [] extends calls_are =
              absurd (next.none_ends has.place (record_of tree) has.item_is (record {
                method_is = has.begun.method_is;
                args_are = has.begun.args_are;
                replies_are =
                    ap (map (λ (asked : Asked). asked.reply)) calls_are
                    ∙ map_joined (λ (asked : Asked). asked.reply) (asked_of underway.calls) [] ∙ rw underway.replied (append-nil replies);
              }))
          by ((other, how) ∷ more) extends calls_are =
              let like = goes_on_like method args replies next.first (record_of tree) asked (sound.agreed next.there.0 has.place next.first (record_of tree) next.there.1 has.item_is)
              next.begun has.begun next.next in
              let here : slice_get (record_of tree).calls (length replies) ≡ Some other =
              ap (λ n. slice_get (record_of tree).calls n) (sym as_many) ∙ ap (λ calls. slice_get calls (length (asked_of underway.calls))) calls_are
              ∙ item_behind (asked_of underway.calls) other (map (λ a. a.0) more) in
              let same : other ≡ like.other = same_Some other like.other (sym here ∙ like.next) in
              let is : other ≡ record { entry = asked.entry; callee = asked.callee; args = asked.args; reply = other.reply } =
              same ∙ like.alike ∙ ap (λ (a : Asked). record { entry = asked.entry; callee = asked.callee; args = asked.args; reply = a.reply }) (sym same) in
              with_call other how more is extends here
            where
              with_call : (other : Asked) (how : How) (more : List Answer) → other ≡ record { entry = asked.entry; callee = asked.callee; args = asked.args; reply = other.reply }
                  → calls_in tree ≡ extended underway.calls ((other, how) ∷ more) → slice_get (record_of tree).calls (length replies) ≡ Some other → GoesOn asked tree
              with_call other how more is extends here =
                  let answer = other.reply in
                  let as_asked = ap (λ (a : Asked). extended underway.calls ((a, how) ∷ more)) is in
                  let whole = extends ∙ as_asked in
                  let decided = subst (AreDecided ground.source index) whole stitched.asked.decided in
                  let recorded = subst (λ calls. HoldsOfEach (Contains ground.records) (records_in calls)) whole (subst (HoldsOfEach (Contains ground.records)) (records_parts tree) stitched.recorded).1 in
                  let few = steps_with_first underway.calls (record { entry = asked.entry; callee = asked.callee; args = asked.args; reply = answer }) how more in
                  let parts = steps_parts tree in
                  let as_steps = ap steps_in whole in
                  record {
                    reply = answer;
                    how = how;
                    more = more;
                    extends = whole;
                    stitched = record {
                      decided = decided_first ground.source index underway.calls (record { entry = asked.entry; callee = asked.callee; args = asked.args; reply = answer }) how more decided;
                      recorded = recorded_first (Contains ground.records) underway.calls (record { entry = asked.entry; callee = asked.callee; args = asked.args; reply = answer }) how more recorded;
                    };
                    fits = omega (arith, few, parts, as_steps);
                    begun = begins_longer method args replies (record_of tree) other has.begun here;
                    place = has.place;
                    item_is = has.item_is;
                  }
