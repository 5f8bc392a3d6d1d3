-- Records that begin with some replies.
use Rattle.std.proofs.Common.{◌≡◌, ◌<◌, ◌≤◌, ◌+◌, ℕ, zero, suc, Bool, true, false, List, [], ◌∷◌, ◌++◌, length, take, Option, Some, None, slice_get, option_map, Decides, refl, sym, ap, ◌∙◌, arith, length-append, length-take, add-one}
use Rattle.std.proofs.lemmas.Bool.Decides.{Decides-and, Decides-eqb, Decides-like, not_from_Decides}
use Rattle.std.proofs.lemmas.Slice.Eq.{slice_eq-Decides}
use Rattle.std.proofs.lemmas.Option.{slice_get-map}
use Rattle.std.proofs.lemmas.List.{take-take, take_at, length-map, append_cancel_left}
use Rattle.fb_base.specs.declared.method.MethodId.{MethodId}
use Rattle.fb_base.specs.declared.value.Value.{Value}
use Rattle.fb_base.specs.declared.reply.Reply.{Reply}
use Rattle.fb_base.specs.SameLaws.{same_value-Decides}
use Rattle.fb_base.specs.Replies.{same_reply-Decides}
use Rattle.fb_tree.specs.declared.asked.Asked.{Asked}
use Rattle.fb_tree.specs.declared.recorded.Record.{Record}
use Rattle.fb_store.specs.Following.{begins, ends, replies_of}
use Rattle.fb_store.specs.Growth.{first_of}
use Rattle.fb_store.proofs.Firsts.{first_from_position, position_from_first, nowhere_from_position, position_from_nowhere, position_one_more, position_at_last, position_still_nowhere}

-- a test whose fact fails is false
pub false_from_Decides : {P : Type 0} {b : Bool} → Decides b P → ¬ P → b ≡ false
false_from_Decides {b = true} decides apart = absurd (apart (decides.0 refl))
false_from_Decides {b = false} decides apart = refl

-- it is of the method and the arguments, and its replies begin with these
pub record BeginsSo (method : MethodId) (args : List Value) (replies : List Reply) (item : Record) : Type 0 where
  pub method_is : item.method ≡ method
  pub args_are : item.args ≡ args
  pub replies_are : take (length replies) (replies_of item) ≡ replies

pub begins-Decides : (method : MethodId) (args : List Value) (replies : List Reply) (item : Record)
    → Decides (begins method args replies item) (BeginsSo method args replies item)
unfolding begins
begins-Decides method args replies item =
    let requests = Decides-and _ _ (Decides-eqb item.method.0 method.0) (slice_eq-Decides same_value-Decides item.args args _ refl) in
    let parts = Decides-and _ _ requests (slice_eq-Decides same_reply-Decides (take (length replies) (replies_of item)) replies _ refl) in
    Decides-like (begins method args replies item)
    (λ e. record { method_is = (λ i. record { 0 = e.0.0 i }); args_are = e.0.1; replies_are = e.1 })
    (λ b. ((ap (λ m. m.0) b.method_is, b.args_are), b.replies_are)) parts

-- it has exactly these replies
pub record EndsSo (method : MethodId) (args : List Value) (replies : List Reply) (item : Record) : Type 0 where
  pub method_is : item.method ≡ method
  pub args_are : item.args ≡ args
  pub replies_are : replies_of item ≡ replies

pub ends-Decides : (method : MethodId) (args : List Value) (replies : List Reply) (item : Record)
    → Decides (ends method args replies item) (EndsSo method args replies item)
unfolding ends
ends-Decides method args replies item =
    let requests = Decides-and _ _ (Decides-eqb item.method.0 method.0) (slice_eq-Decides same_value-Decides item.args args _ refl) in
    let parts = Decides-and _ _ requests (slice_eq-Decides same_reply-Decides (replies_of item) replies _ refl) in
    Decides-like (ends method args replies item)
    (λ e. record { method_is = (λ i. record { 0 = e.0.0 i }); args_are = e.0.1; replies_are = e.1 })
    (λ b. ((ap (λ m. m.0) b.method_is, b.args_are), b.replies_are)) parts

pub length-replies_of : (item : Record) → length (replies_of item) ≡ length item.calls
length-replies_of item = length-map item.calls (λ asked. asked.reply)

-- the reply of a call
pub reply_at : (item : Record) (k : ℕ) (asked : Asked) → slice_get item.calls k ≡ Some asked → slice_get (replies_of item) k ≡ Some asked.reply
reply_at item k asked is = slice_get-map (λ call. call.reply) item.calls k ∙ ap (option_map (λ call. call.reply)) is

-- one item more
pub take_one_more : {A : Type 0} (xs : List A) (k : ℕ) (x : A) → slice_get xs k ≡ Some x → take (k + 1) xs ≡ take k xs ++ x ∷ []
take_one_more {A = A} xs k x is = rw add-one (by xs k is)
  where
    by : (xs : List A) (k : ℕ) → slice_get xs k ≡ Some x → take (suc k) xs ≡ take k xs ++ x ∷ []
    by [] k is = cc
    by (y ∷ xs) zero is = ap (λ z. z ∷ []) (let e : Some y ≡ Some x = is in cc)
    by (y ∷ xs) (suc k) is = ap (λ zs. y ∷ zs) (by xs k is)

pub within_from_take : {A : Type 0} (xs ys : List A) → take (length ys) xs ≡ ys → length ys ≤ length xs
within_from_take xs ys is = omega (arith, length-take (length ys) xs, ap length is)

module _ (method : MethodId) (args : List Value) (replies : List Reply) (item : Record) where
  -- it has as many calls
  pub calls_enough : BeginsSo method args replies item → length replies ≤ length item.calls
  calls_enough b = omega (arith, within_from_take (replies_of item) replies b.replies_are, length-replies_of item)

  -- it begins with its own next reply
  pub begins_next : (asked : Asked) → BeginsSo method args replies item → slice_get item.calls (length replies) ≡ Some asked
      → BeginsSo method args (replies ++ asked.reply ∷ []) item
  begins_next asked b is =
      record {
        method_is = b.method_is;
        args_are = b.args_are;
        replies_are =
            ap (λ n. take n (replies_of item)) (length-append replies (asked.reply ∷ []))
            ∙ take_one_more (replies_of item) (length replies) asked.reply (reply_at item (length replies) asked is)
            ∙ ap (λ front. front ++ asked.reply ∷ []) b.replies_are;
      }

  -- what begins with more begins so
  pub begins_shorter : (more : List Reply) → BeginsSo method args (replies ++ more) item → BeginsSo method args replies item
  begins_shorter more b =
      record {
        method_is = b.method_is;
        args_are = b.args_are;
        replies_are =
            sym (take-take (length replies) (length (replies ++ more)) (replies_of item) (omega (arith, length-append replies more)))
            ∙ ap (take (length replies)) b.replies_are
            ∙ take_at replies more (length replies) refl;
      }

-- its own next reply is the one with which it goes on
pub next_from_longer : (method : MethodId) (args : List Value) (replies : List Reply) (item : Record) (asked : Asked) (answer : Reply)
    → slice_get item.calls (length replies) ≡ Some asked → BeginsSo method args (replies ++ answer ∷ []) item → asked.reply ≡ answer
next_from_longer method args replies item asked answer is b =
    let short = begins_shorter method args replies item (answer ∷ []) b in
    let both = sym (begins_next method args replies item asked short is).replies_are
    ∙ ap (λ n. take n (replies_of item)) (length-append replies (asked.reply ∷ []) ∙ sym (length-append replies (answer ∷ [])))
    ∙ b.replies_are in
    let tails : asked.reply ∷ [] ≡ answer ∷ [] = append_cancel_left replies (asked.reply ∷ []) (answer ∷ []) both in
    cc

-- any front of its own replies
pub begins_own : (item : Record) (k : ℕ) → k ≤ length item.calls → BeginsSo item.method item.args (take k (replies_of item)) item
begins_own item k low =
    record {
      method_is = refl;
      args_are = refl;
      replies_are = ap (λ n. take n (replies_of item)) (length-take k (replies_of item) ∙ omega (arith, length-replies_of item));
    }

module _ (records : List Record) (method : MethodId) (args : List Value) (replies : List Reply) where
  -- the first record that begins so
  pub record FirstSo (id : ℕ) : Type 0 where
    pub item : Record
    pub item_is : slice_get records id ≡ Some item
    pub begins_so : BeginsSo method args replies item
    pub before : (j : ℕ) (other : Record) → j < id → slice_get records j ≡ Some other → ¬ (BeginsSo method args replies other)

  pub first_so : (id : ℕ) → first_of records method args replies ≡ Some id → FirstSo id
  unfolding first_of
  first_so id e =
      let first = first_from_position (begins method args replies) records id e in
      record {
        item = first.item;
        item_is = first.item_is;
        begins_so = (begins-Decides method args replies first.item).0 first.passes;
        before = λ j other low is. not_from_Decides _ (begins-Decides method args replies other) (first.before j other low is);
      }

  pub first_is : (id : ℕ) → FirstSo id → first_of records method args replies ≡ Some id
  unfolding first_of
  first_is id first =
      position_from_first (begins method args replies) records id (record {
        item = first.item;
        item_is = first.item_is;
        passes = (begins-Decides method args replies first.item).1 first.begins_so;
        before = λ j other low is. false_from_Decides (begins-Decides method args replies other) (first.before j other low is);
      })

  pub none_so : first_of records method args replies ≡ None → (j : ℕ) (other : Record) → slice_get records j ≡ Some other → ¬ (BeginsSo method args replies other)
  unfolding first_of
  none_so e j other is =
      not_from_Decides _ (begins-Decides method args replies other) (nowhere_from_position (begins method args replies) records e j other is)

  pub none_is : ((j : ℕ) (other : Record) → slice_get records j ≡ Some other → ¬ (BeginsSo method args replies other)) → first_of records method args replies ≡ None
  unfolding first_of
  none_is none =
      position_from_nowhere (begins method args replies) records
      (λ j other is. false_from_Decides (begins-Decides method args replies other) (none j other is))

  -- with one record more
  pub first_kept : (id : ℕ) (new : Record) → first_of records method args replies ≡ Some id → first_of (records ++ new ∷ []) method args replies ≡ Some id
  unfolding first_of
  first_kept id new e = position_one_more (begins method args replies) records new id e

  pub first_new : (new : Record) → first_of records method args replies ≡ None → BeginsSo method args replies new → first_of (records ++ new ∷ []) method args replies ≡ Some (length records)
  unfolding first_of
  first_new new e b = position_at_last (begins method args replies) records new e ((begins-Decides method args replies new).1 b)

  pub none_kept : (new : Record) → first_of records method args replies ≡ None → ¬ (BeginsSo method args replies new) → first_of (records ++ new ∷ []) method args replies ≡ None
  unfolding first_of
  none_kept new e apart =
      position_still_nowhere (begins method args replies) records new e (false_from_Decides (begins-Decides method args replies new) apart)

-- the same unless the new record begins so
pub first_unchanged : (records : List Record) (method : MethodId) (args : List Value) (replies : List Reply) (new : Record)
    → (first_of records method args replies ≡ None → ¬ (BeginsSo method args replies new))
    → first_of (records ++ new ∷ []) method args replies ≡ first_of records method args replies
first_unchanged records method args replies new apart = by (first_of records method args replies) refl
  where
    by : (found : Option ℕ) → first_of records method args replies ≡ found → first_of (records ++ new ∷ []) method args replies ≡ first_of records method args replies
    by (Some id) e = first_kept records method args replies id new e ∙ sym e
    by None e = none_kept records method args replies new e (apart e) ∙ sym e

-- the first that begins so is the first that begins with its own next reply
pub first_goes_on : (records : List Record) (method : MethodId) (args : List Value) (replies : List Reply) (id : ℕ) (asked : Asked)
    (first : FirstSo records method args replies id) → slice_get first.item.calls (length replies) ≡ Some asked
    → first_of records method args (replies ++ asked.reply ∷ []) ≡ Some id
first_goes_on records method args replies id asked first is =
    first_is records method args (replies ++ asked.reply ∷ []) id (record {
      item = first.item;
      item_is = first.item_is;
      begins_so = begins_next method args replies first.item asked first.begins_so is;
      before = λ j other low at b. first.before j other low at (begins_shorter method args replies other (asked.reply ∷ []) b);
    })

-- none begins with more where none begins so
pub none_longer : (records : List Record) (method : MethodId) (args : List Value) (replies more : List Reply)
    → first_of records method args replies ≡ None → first_of records method args (replies ++ more) ≡ None
none_longer records method args replies more e =
    none_is records method args (replies ++ more)
    (λ j other is b. none_so records method args replies e j other is (begins_shorter method args replies other more b))
