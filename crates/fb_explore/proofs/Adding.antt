-- Records, added one by one with their lines.
use Rattle.std.proofs.Common.{◌≡◌, ◌<◌, ◌≤◌, ℕ, Bool, true, false, cond, Option, Some, None, List, [], ◌∷◌, ◌++◌, length, slice_get, refl, sym, ap, ◌∙◌, subst, arith, append_assoc}
use Rattle.std.specs.Prelude.{IfSome}
use Rattle.std.specs.List.{All, list_any}
use Rattle.std.specs.Option.{option_map_or}
use Rattle.std.proofs.lemmas.List.Elements.{All-nil, All-cons}
use Rattle.std.proofs.lemmas.Option.{slice_get_within}
use Rattle.fb_syntax.specs.Trees.{ServicesTree}
use Rattle.fb_check.specs.Programs.{methods_of}
use Rattle.fb_tree.specs.Agreement.{RecordsAgree}
use Rattle.fb_tree.specs.Sameness.{same_record}
use Rattle.fb_tree.specs.declared.asked.Asked.{Asked}
use Rattle.fb_tree.specs.declared.recorded.Record.{Record}
use Rattle.fb_meaning.specs.Each.{HoldsOfEach}
use Rattle.fb_meaning.specs.RecordLaws.{TrueRecordsAgree}
use Rattle.fb_meaning.specs.DecisionLaws.{IsTrueOnce}
use Rattle.fb_meaning.specs.Records.{IsCallOf}
use Rattle.fb_report.specs.Names.{IsMethodOf, IsRecordOf}
use Rattle.fb_report.specs.declared.line.Line.{Line}
use Rattle.fb_store.specs.Following.{number_of, with_record}
use Rattle.fb_stitch.specs.Sources.{AreTrueOf}
use Rattle.fb_explore.specs.declared.error.PutError.{PutError}
use Rattle.fb_explore.specs.Puts.{HavePutLines}
use Rattle.fb_explore.specs.Recording.{inv_lines, lines_at, lines_if_new, new_lines, numbers, with_records}
use Rattle.fb_explore.proofs.Numbers.{with_known, with_new, number_known, number_of_new}
use Rattle.fb_explore.proofs.Puts.{put_nothing, put_then, put_short}

-- ---- true records

all_of_each : {A : Type 0} (P Q : A → Type 0) → ((x : A) → P x → Q x) → (xs : List A) → HoldsOfEach P xs → All Q xs
all_of_each P Q also [] each = All-nil Q
all_of_each P Q also (x ∷ xs) each = All-cons Q x xs (also x each.0) (all_of_each P Q also xs each.1)

pub of_services : (services : ServicesTree) (item : Record) → IsTrueOnce services item → IsRecordOf services item
of_services services item (fuel, is) = (
  slice_get_within (methods_of services) item.method.0 is.method is.there,
  all_of_each (IsCallOf services item.method.0) (λ asked. IsMethodOf services asked.callee)
      (λ (asked : Asked) call. slice_get_within (methods_of services) asked.callee.0 call.callee call.there) item.calls is.calls_fit,
)

pub agrees_with : TrueRecordsAgree → (services : ServicesTree) (item : Record) (known : List Record) → IsTrueOnce services item
    → AreTrueOf services known → All (RecordsAgree item) known
agrees_with law services item known is each =
    all_of_each (IsTrueOnce services) (RecordsAgree item) (λ other also. law services is.0 also.0 item other is.1 also.1) known each

each_push : {A : Type 0} (P : A → Type 0) (xs : List A) (x : A) → HoldsOfEach P xs → P x → HoldsOfEach P (xs ++ x ∷ [])
each_push P [] x each last = (last, tt)
each_push P (y ∷ xs) x each last = (each.0, each_push P xs x each.1 last)

still_true : (services : ServicesTree) (item : Record) (known : List Record) → IsTrueOnce services item → AreTrueOf services known
    → AreTrueOf services (with_record known item)
still_true services item known is each = by (list_any (same_record item) known) refl
  where
    by : (b : Bool) → list_any (same_record item) known ≡ b → AreTrueOf services (with_record known item)
    by true among = subst (AreTrueOf services) (sym (with_known known item among)) each
    by false new = subst (AreTrueOf services) (sym (with_new known item new)) (each_push (IsTrueOnce services) known item each is)

-- ---- one record

module _ (services : ServicesTree) (owner : ℕ) where
  pub known_lines : (known : List Record) (item : Record) → list_any (same_record item) known ≡ true → lines_if_new services owner known item ≡ []
  unfolding lines_if_new
  known_lines known item is = ap (λ b. cond b [] (inv_lines services owner (length known) item)) is

  pub fresh_lines : (known : List Record) (item : Record) → list_any (same_record item) known ≡ false
      → lines_if_new services owner known item ≡ inv_lines services owner (length known) item
  unfolding lines_if_new
  fresh_lines known item is = ap (λ b. cond b [] (inv_lines services owner (length known) item)) is

  -- a number below that of the known ones is that of one of them
  pub none_if_known : (known : List Record) (item : Record) → number_of known item < length known → lines_if_new services owner known item ≡ []
  none_if_known known item low = known_lines known item (number_known known item (λ same. absurd (omega (arith, low, same))))

at_end : (known : List Record) (item : Record) → slice_get (known ++ item ∷ []) (length known) ≡ Some item
at_end [] item = refl
at_end (first ∷ known) item = at_end known item

module _ (known : List Record) (item : Record) (high : length known ≤ number_of known item) where
  -- else it is the last one
  found_last : slice_get (with_record known item) (number_of known item) ≡ Some item
  found_last =
      let new = number_of_new known item high in
      ap (λ all. slice_get all (number_of known item)) (with_new known item new.0) ∙ ap (slice_get (known ++ item ∷ [])) new.1 ∙ at_end known item

  pub last_of_services : (services : ServicesTree) → IsRecordOf services item → IfSome (slice_get (with_record known item) (number_of known item)) (IsRecordOf services)
  last_of_services services is = subst (λ found. IfSome found (IsRecordOf services)) (sym found_last) is

  pub lines_of_last : (services : ServicesTree) (owner : ℕ) → lines_at services owner (with_record known item) (number_of known item) ≡ lines_if_new services owner known item
  lines_of_last services owner =
      let new = number_of_new known item high in
      ap (λ found. option_map_or (inv_lines services owner (number_of known item)) found []) found_last
      ∙ ap (λ number. inv_lines services owner number item) new.1
      ∙ sym (fresh_lines services owner known item new.0)

-- ---- the loop

-- all that there is to do where so many were known at first, with what is left of it
pub record IsSoFar (services : ServicesTree) (owner : ℕ) (before items left known : List Record) (uses : List ℕ)
    (written : Option (List ℕ)) (faults : ℕ) (now : Option (List ℕ)) (faults_now : ℕ) : Type 0 where
  pub left_true : AreTrueOf services left
  pub known_true : AreTrueOf services known
  pub front : List Line
  pub put : HavePutLines front None written faults now faults_now
  pub lines : front ++ new_lines services owner known left ≡ new_lines services owner before items
  pub numbered : uses ++ numbers known left ≡ numbers before items
  pub known_is : with_records known left ≡ with_records before items

module _ (services : ServicesTree) (owner : ℕ) (before items : List Record) where
  pub begins : (written : Option (List ℕ)) (faults : ℕ) → AreTrueOf services before → AreTrueOf services items
      → IsSoFar services owner before items items before [] written faults written faults
  begins written faults known_true is = record {
    left_true = is;
    known_true = known_true;
    front = [];
    put = put_nothing written faults;
    lines = refl;
    numbered = refl;
    known_is = refl;
  }

  module _ (left known : List Record) (uses : List ℕ) (item : Record) (u v w : Option (List ℕ)) (f g h : ℕ)
      (so_far : IsSoFar services owner before items (item ∷ left) known uses u f v g) where
    pub goes_on : HavePutLines (lines_if_new services owner known item) None v g w h
        → IsSoFar services owner before items left (with_record known item) (uses ++ number_of known item ∷ []) u f w h
    goes_on more = record {
      left_true = so_far.left_true.1;
      known_true = still_true services item known so_far.left_true.0 so_far.known_true;
      front = so_far.front ++ lines_if_new services owner known item;
      put = put_then so_far.front (lines_if_new services owner known item) None u v w f g h so_far.put more;
      lines = append_assoc so_far.front (lines_if_new services owner known item) (new_lines services owner (with_record known item) left) ∙ so_far.lines;
      numbered = append_assoc uses (number_of known item ∷ []) (numbers (with_record known item) left) ∙ so_far.numbered;
      known_is = so_far.known_is;
    }

    pub stops_at_item : (error : PutError) → HavePutLines (lines_if_new services owner known item) (Some error) v g w h
        → HavePutLines (new_lines services owner before items) (Some error) u f w h
    stops_at_item error more =
        subst (λ lines. HavePutLines lines (Some error) u f w h)
        (append_assoc so_far.front (lines_if_new services owner known item) (new_lines services owner (with_record known item) left) ∙ so_far.lines)
        (put_short (so_far.front ++ lines_if_new services owner known item) (new_lines services owner (with_record known item) left) error u w f h
        (put_then so_far.front (lines_if_new services owner known item) (Some error) u v w f g h so_far.put more))
