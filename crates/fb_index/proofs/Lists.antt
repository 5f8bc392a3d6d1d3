-- One or more texts with a sign between each two.
use Rattle.std.proofs.Common.{◌≡◌, ◌≢◌, ◌⊎◌, inl, inr, ℕ, ◌<◌, Bool, true, false, Option, Some, None, List, [], ◌∷◌, ◌++◌, length, map, ◌&&◌, eqb, cond, refl, ap, sym, ◌∙◌, arith, append_assoc, append-nil, length-append}
use Rattle.std.specs.List.{flat_map, join_with_byte, All}
use Rattle.std.specs.Option.{option_or}
use Rattle.std.proofs.lemmas.List.Concat.{flat_map-append}
use Rattle.std.proofs.lemmas.List.Elements.{All-nil, All-head, All-tail, All-push}
use Rattle.std.proofs.lemmas.Bool.Decides.{nat_tests}
use Rattle.fb_index.specs.Automaton.{Automaton, Reads, run, run_from, list_of}
use Rattle.fb_index.specs.Refusal.{BeginsSome, IsTextOf}
use Rattle.fb_index.proofs.Bools.{eqb-itself}
use Rattle.fb_index.proofs.Automata.{run_from-append, run_from-lift, stuck, run-push, kept, IsTaken, Accepts, Spells, IsSilent, both-true, Some-same}

pub map-map : {A B C : Type 0} (f : B → C) (g : A → B) (xs : List A) → map (λ x. f (g x)) xs ≡ map f (map g xs)
map-map f g [] = refl
map-map f g (x ∷ xs) = ap (λ ys. f (g x) ∷ ys) (map-map f g xs)

-- some items, each of its kind
pub record AreItems {Item : Type 0} (IsItem : Item → Type 0) (items : List Item) : Type 0 where
  pub some : 0 < length items
  pub each : All IsItem items

glue : (sign : ℕ) (a b c : List ℕ) → a ++ (sign ∷ (b ++ c)) ≡ ((a ++ (sign ∷ [])) ++ b) ++ c
glue sign a b c = simp append_assoc

module _ {Item : Type 0} (sign : ℕ) (text : Item → List ℕ) where
  abbrev pub joined : List Item → List ℕ
  joined items = join_with_byte sign (map text items)

  -- each text with the sign behind it
  abbrev pub closed : List Item → List ℕ
  closed items = flat_map (λ item. text item ++ sign ∷ []) items

  pub joined-push : (items : List Item) (x : Item) → joined (items ++ x ∷ []) ≡ closed items ++ text x
  joined-push [] x = refl
  joined-push (y ∷ []) x = glue sign (text y) [] (text x)
  joined-push (y ∷ z ∷ items) x =
      ap (λ rest. text y ++ sign ∷ rest) (joined-push (z ∷ items) x) ∙ glue sign (text y) (closed (z ∷ items)) (text x)

  pub closed-push : (items : List Item) (x : Item) → closed (items ++ x ∷ []) ≡ closed items ++ text x ++ sign ∷ []
  closed-push items x = simp (flat_map-append, append-nil, append_assoc)

  -- a whole text and the sign behind it
  pub closed-ended : (items : List Item) (x : Item) (read begun : List ℕ) (b : ℕ) → read ≡ closed items ++ begun → begun ≡ text x →
      b ≡ sign → read ++ b ∷ [] ≡ closed (items ++ x ∷ []) ++ []
  closed-ended items x read begun b parts is_text is_sign =
      rw (parts, is_text, is_sign) (sym (append-nil (closed (items ++ x ∷ [])) ∙ closed-push items x))

AreItems-push : {Item : Type 0} (IsItem : Item → Type 0) (items : List Item) (x : Item) → All IsItem items → IsItem x →
    AreItems IsItem (items ++ x ∷ [])
AreItems-push IsItem items x each is =
    record { some = omega (arith, length-append items (x ∷ [])); each = All-push IsItem items x each is }

-- items with a sign behind each stand before what is left
pub record IsListUpTo {Q Item : Type 0} (m : Automaton Q) (sign : ℕ) (text : Item → List ℕ) (whole : List ℕ) (items : List Item) (left : List ℕ) : Type 0 where
  pub read : whole ≡ closed sign text items ++ left
  pub leads : run (list_of m sign) whole ≡ run (list_of m sign) left

module _ {Q : Type 0} (m : Automaton Q) (sign : ℕ) (silent : IsSilent m sign) where
  abbrev many : Automaton Q
  many = list_of m sign

  follows : (q : Q) (b : ℕ) (next : Q) → m.step q b ≡ Some next → many.step q b ≡ Some next
  follows q b next is = rw is refl

  pub run-item : (q : Q) (bytes : List ℕ) → run_from many q bytes ≡ run_from many (run_from m q bytes).0 (run_from m q bytes).1
  run-item = run_from-lift m many (λ q. q) follows

  crossed : (q : Q) → m.is_final q ≡ true → many.step q sign ≡ Some m.start
  crossed q final = rw (silent q, eqb-itself sign, final) refl

  -- the next text begins behind the sign
  pub run-next : (q : Q) (bytes : List ℕ) → m.is_final q ≡ true → run_from many q (sign ∷ bytes) ≡ run many bytes
  run-next q bytes final = rw (crossed q final) refl

  module _ {Item : Type 0} (text : Item → List ℕ) (IsItem : Item → Type 0) (item : Spells m (IsTextOf IsItem text)) where
    abbrev IsListText : List ℕ → Type 0
    IsListText = IsTextOf (AreItems IsItem) (joined sign text)

    -- whole items with a sign behind each, and then what leads to this state
    pub record Holds (q : Q) (read : List ℕ) : Type 0 where
      pub items : List Item
      pub each : All IsItem items
      pub begun : List ℕ
      pub leads : run m begun ≡ (q, [])
      pub parts : read ≡ closed sign text items ++ begun

    keeps-sign : (t : Bool) (q : Q) (read : List ℕ) (b : ℕ) (next : Q) → (eqb b sign && m.is_final q) ≡ t → Holds q read →
        cond t (Some m.start) None ≡ Some next → Holds next (read ++ b ∷ [])
    keeps-sign true q read b next is so_far step =
        let met = both-true b sign (m.is_final q) is in
        let final : m.is_final (run m so_far.begun).0 ≡ true = rw so_far.leads met.1 in
        let whole : Accepts m so_far.begun = record { all = rw so_far.leads refl; final = final } in
        let found : IsTextOf IsItem text so_far.begun = item.accepted so_far.begun whole in
        let longer : read ++ b ∷ [] ≡ closed sign text (so_far.items ++ found.0 ∷ []) ++ [] =
        closed-ended sign text so_far.items found.0 read so_far.begun b so_far.parts found.2 met.0 in
        let holds : Holds m.start (read ++ b ∷ []) =
        record {
          items = so_far.items ++ found.0 ∷ [];
          each = All-push IsItem so_far.items found.0 so_far.each found.1;
          begun = [];
          leads = refl;
          parts = longer;
        } in
        Some-same Holds _ m.start next step holds
    keeps-sign false q read b next is so_far step = absurd cc

    keeps-item : (o : Option Q) (q : Q) (read : List ℕ) (b : ℕ) (next : Q) → m.step q b ≡ o → Holds q read →
        option_or o (cond (eqb b sign && m.is_final q) (Some m.start) None) ≡ Some next → Holds next (read ++ b ∷ [])
    keeps-item None q read b next is so_far step = keeps-sign _ q read b next refl so_far step
    keeps-item (Some more) q read b next is so_far step =
        let longer : read ++ b ∷ [] ≡ closed sign text so_far.items ++ (so_far.begun ++ b ∷ []) =
        ap (λ xs. xs ++ b ∷ []) so_far.parts ∙ append_assoc (closed sign text so_far.items) so_far.begun (b ∷ []) in
        let holds : Holds more (read ++ b ∷ []) =
        record {
          items = so_far.items;
          each = so_far.each;
          begun = so_far.begun ++ b ∷ [];
          leads = run-push m so_far.begun b q more so_far.leads is;
          parts = longer;
        } in
        Some-same Holds _ more next step holds

    keeps : (q : Q) (read : List ℕ) (b : ℕ) (next : Q) → Holds q read → many.step q b ≡ Some next → Holds next (read ++ b ∷ [])
    keeps q read b next so_far step = keeps-item _ q read b next refl so_far step

    held : (bytes : List ℕ) → IsTaken many bytes → Holds (run many bytes).0 bytes
    held bytes taken = kept many Holds keeps m.start [] bytes (record { items = []; each = All-nil IsItem; begun = []; leads = refl; parts = refl }) taken

    list-accepts : (items : List Item) → AreItems IsItem items → Accepts many (joined sign text items)
    list-accepts [] are = absurd (omega (arith, are.some))
    list-accepts (x ∷ []) are =
        let a = item.accepts (text x) (x, All-head IsItem x [] are.each, refl) in
        let whole : run many (text x) ≡ ((run m (text x)).0, []) = run-item m.start (text x) ∙ rw a.all refl in
        record { all = rw whole refl; final = rw whole a.final }
    list-accepts (x ∷ y ∷ items) are =
        let a = item.accepts (text x) (x, All-head IsItem x (y ∷ items) are.each, refl) in
        let others : AreItems IsItem (y ∷ items) = record { some = omega arith; each = All-tail IsItem x (y ∷ items) are.each } in
        let rest = list-accepts (y ∷ items) others in
        let opening : run many (text x) ≡ ((run m (text x)).0, []) = run-item m.start (text x) ∙ rw a.all refl in
        let taken : IsTaken many (text x) = rw opening refl in
        let more = joined sign text (y ∷ items) in
        let whole : run many (text x ++ sign ∷ more) ≡ run many more =
        run_from-append many m.start (text x) (sign ∷ more) taken ∙ rw opening (run-next (run m (text x)).0 more a.final) in
        record { all = rw whole rest.all; final = rw whole rest.final }

    list-accepted : (q : Q) (bytes : List ℕ) → m.is_final q ≡ true → Holds q bytes → IsListText bytes
    list-accepted q bytes final holds =
        let whole : Accepts m holds.begun = record { all = rw holds.leads refl; final = rw holds.leads final } in
        let found : IsTextOf IsItem text holds.begun = item.accepted holds.begun whole in (
          holds.items ++ found.0 ∷ [],
          AreItems-push IsItem holds.items found.0 holds.each found.1,
          holds.parts ∙ ap (λ xs. closed sign text holds.items ++ xs) found.2 ∙ sym (joined-push sign text holds.items found.0),
        )

    list-lives : (q : Q) (bytes : List ℕ) → Holds q bytes → BeginsSome IsListText bytes
    list-lives q bytes holds =
        let some : BeginsSome (IsTextOf IsItem text) holds.begun = item.lives holds.begun (rw holds.leads refl) in
        let x = some.1.0 in
        let items = holds.items ++ x ∷ [] in
        let rest = some.2.0 in
        let parts : joined sign text items ≡ bytes ++ rest =
        joined-push sign text holds.items x
        ∙ ap (λ xs. closed sign text holds.items ++ xs) (sym some.1.2 ∙ some.2.1)
        ∙ sym (append_assoc (closed sign text holds.items) holds.begun rest)
        ∙ ap (λ xs. xs ++ rest) (sym holds.parts) in
        (joined sign text items, (items, AreItems-push IsItem holds.items x holds.each some.1.1, refl), (rest, parts))

    pub list-spells : Spells many IsListText
    list-spells = record {
      accepts = λ bytes is_text. rw is_text.2 (list-accepts is_text.0 is_text.1);
      accepted = λ bytes a. list-accepted (run many bytes).0 bytes a.final (held bytes a.all);
      lives = λ bytes taken. list-lives (run many bytes).0 bytes (held bytes taken);
    }

  -- ---- reads

  no-sign : (c : ℕ) (final : Bool) → (final ≡ false) ⊎ (c ≢ sign) → (eqb c sign && final) ≡ false
  no-sign c final (inl open_end) = grind (arith, nat_tests)
  no-sign c final (inr other) = grind (arith, nat_tests)

  -- a text that stops in an item, or behind one
  stays : (before after : List ℕ) (q : Q) → run m before ≡ (q, after) → ((rest : List ℕ) (c : ℕ) → after ≡ c ∷ rest → (m.is_final q ≡ false) ⊎ (c ≢ sign)) →
      run many before ≡ (q, after)
  stays before [] q stops missed = run-item m.start before ∙ rw stops refl
  stays before (c ∷ rest) q stops missed =
      let last = stuck m m.start q c before rest stops in
      let next : many.step q c ≡ None = rw (last, no-sign c (m.is_final q) (missed rest c refl)) refl in
      run-item m.start before ∙ rw (stops, next) refl

  module _ {Item : Type 0} (text : Item → List ℕ) (whole : List ℕ) where
    abbrev texts : List Item → List ℕ
    texts = joined sign text

    pub list-missed : (items : List Item) (left after : List ℕ) → IsListUpTo m sign text whole items left → Reads m text left None after →
        Reads many texts whole None after
    list-missed items left after upto r =
        let q = (run m left).0 in
        let stops : run m left ≡ (q, after) = ap (λ xs. (q, xs)) r.stopped in
        let all = upto.leads ∙ stays left after q stops (λ rest c is. inl r.whole) in
        record { stopped = rw all refl; whole = rw all r.whole; spelled = tt }

    pub list-read : (items : List Item) (left middle after : List ℕ) (x : Item) → IsListUpTo m sign text whole items left → Reads m text left (Some x) middle →
        (after ≡ middle) × ((rest : List ℕ) → middle ≢ sign ∷ rest) → Reads many texts whole (Some (items ++ x ∷ [])) after
    list-read items left middle after x upto r (same, other) =
        let q = (run m left).0 in
        let stops : run m left ≡ (q, middle) = ap (λ xs. (q, xs)) r.stopped in
        let all = upto.leads ∙ stays left middle q stops (λ rest c is. inr (λ too. other rest (is ∙ ap (λ b. b ∷ rest) too))) in
        let spelled : whole ≡ texts (items ++ x ∷ []) ++ after =
        upto.read ∙ ap (λ xs. closed sign text items ++ xs) (r.spelled ∙ ap (λ xs. text x ++ xs) (sym same))
        ∙ sym (append_assoc (closed sign text items) (text x) after)
        ∙ ap (λ xs. xs ++ after) (sym (joined-push sign text items x)) in
        record { stopped = rw all (sym same); whole = rw all r.whole; spelled = spelled }

    pub list-next : (items : List Item) (left middle rest : List ℕ) (x : Item) → IsListUpTo m sign text whole items left → Reads m text left (Some x) middle →
        middle ≡ sign ∷ rest → IsListUpTo m sign text whole (items ++ x ∷ []) rest
    list-next items left middle rest x upto r met =
        let q = (run m left).0 in
        let stops : run m left ≡ (q, sign ∷ rest) = ap (λ xs. (q, xs)) (r.stopped ∙ met) in
        let read : whole ≡ closed sign text (items ++ x ∷ []) ++ rest =
        upto.read ∙ ap (λ xs. closed sign text items ++ xs) (r.spelled ∙ ap (λ xs. text x ++ xs) met)
        ∙ regroup (closed sign text items) (text x) rest
        ∙ ap (λ xs. xs ++ rest) (sym (closed-push sign text items x)) in
        record { read = read; leads = upto.leads ∙ run-item m.start left ∙ rw stops (run-next q rest r.whole) }
      where
        regroup : (a b c : List ℕ) → a ++ (b ++ (sign ∷ c)) ≡ ((a ++ b) ++ (sign ∷ [])) ++ c
        regroup a b c = simp append_assoc
