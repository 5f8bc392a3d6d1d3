-- Bytes that are no UTF-8 stop being the front of a text at the place that is told.
use Rattle.std.proofs.Common.{◌≡◌, ◌≢◌, ℕ, zero, suc, ◌+◌, ◌<◌, ◌≤◌, Bool, true, false, cond, Option, Some, None, List, [], ◌∷◌, ◌++◌, length, take, drop, get_or, arith, refl, sym, ap, subst, ◌∙◌, inl, inr, append_assoc, length-append, length-take, length-drop, take-append-drop}
use Rattle.std.specs.Prelude.{◌&&◌, nat_le, IsUtf8, slice_index}
use Rattle.std.specs.Str.{is_utf8}
use Rattle.std.specs.Str.Lossy.{utf8_valid_len, utf8_error_len, valid_len_up_to, second_byte_min, second_byte_max, error_len_of_some}
use Rattle.std.specs.Int.{is_in_range}
use Rattle.std.proofs.lemmas.Bool.{cases_Bool, cases_lt, cases_eq, cases_order, le-ltb, ne_eqb, and_parts, and_from, leb-true, le-leb}
use Rattle.std.proofs.lemmas.Bool.Decides.{nat_tests}
use Rattle.std.proofs.lemmas.List.{get_or-drop, take_all, take_at, take-take}
use Rattle.std.proofs.Math.Seq.{take-append-add, take-add}
use Rattle.std.proofs.lemmas.Str.{IsUtf8-append, IsUtf8-nil, IsUtf8-from_is_utf8, is_utf8-from_IsUtf8}
use Rattle.fb_syntax.specs.Stops.{CanGoOn, StopsAt}
use Rattle.fb_syntax.specs.Lexing.{not_text_at, refused_byte}
use Rattle.fb_syntax.proofs.Utf8Fronts.{Follows, IsSecond, IsChar, char_text, char_some, behind_text, tells, one_byte, two_bytes, three_bytes, four_bytes}

-- ---- some bytes go on to a text

char_is_text : (bytes : List ℕ) → IsChar bytes → IsUtf8 bytes
char_is_text bytes is = char_text is.char bytes is.is_char is.spelled

plain_follows : Follows 128
plain_follows = (omega arith, omega arith)

plain_second : (a : ℕ) → a ≢ 224 → a ≢ 240 → IsSecond a 128
plain_second a not_e0 not_f0 = record {
  follows = plain_follows;
  past_e0 = λ is. absurd (not_e0 is);
  past_ed = λ is. omega arith;
  past_f0 = λ is. absurd (not_f0 is);
  past_f4 = λ is. omega arith;
}

completed_two : (a b : ℕ) → 224 ≤ a → a < 245 → IsSecond a b → CanGoOn (a ∷ b ∷ [])
completed_two a b lo hi second =
    elim (cases_lt a 240) [
      | inl less ↦ (128 ∷ [], char_is_text (a ∷ b ∷ 128 ∷ []) (three_bytes a b 128 lo less second plain_follows))
      | inr more ↦ (128 ∷ 128 ∷ [], char_is_text (a ∷ b ∷ 128 ∷ 128 ∷ []) (four_bytes a b 128 128 more hi second plain_follows plain_follows))
    ]

completed_three : (a b d : ℕ) → 240 ≤ a → a < 245 → IsSecond a b → Follows d → CanGoOn (a ∷ b ∷ d ∷ [])
completed_three a b d lo hi second third =
    (128 ∷ [], char_is_text (a ∷ b ∷ d ∷ 128 ∷ []) (four_bytes a b d 128 lo hi second third plain_follows))

-- one byte more
goes_on_from : (front more : List ℕ) → CanGoOn (front ++ more) → CanGoOn front
goes_on_from front more (rest, h) = (more ++ rest, subst (λ (xs : List ℕ). IsUtf8 xs) (append_assoc front more rest) h)

some_second : (a : ℕ) → (b : ℕ) × IsSecond a b
some_second a =
    elim (cases_eq a 224) [
      | inl is ↦ (160, record { follows = (omega arith, omega arith); past_e0 = λ _. omega arith; past_ed = λ other. omega arith; past_f0 = λ other. omega arith; past_f4 = λ other. omega arith })
      | inr not_e0 ↦ elim (cases_eq a 240) [
        | inl is ↦ (144, record { follows = (omega arith, omega arith); past_e0 = λ other. omega arith; past_ed = λ other. omega arith; past_f0 = λ _. omega arith; past_f4 = λ other. omega arith })
        | inr not_f0 ↦ (128, plain_second a not_e0 not_f0)
      ]
    ]

completed_one : (a : ℕ) → 194 ≤ a → a < 245 → CanGoOn (a ∷ [])
completed_one a lo hi =
    elim (cases_lt a 224) [
      | inl less ↦ (128 ∷ [], char_is_text (a ∷ 128 ∷ []) (two_bytes a 128 lo less plain_follows))
      | inr more ↦ (let second = some_second a in goes_on_from (a ∷ []) (second.0 ∷ []) (completed_two a second.0 more hi second.1))
    ]

-- ---- the tests of the ranges

abbrev leads : ℕ → Bool
leads a = is_in_range 0xC2 0xF4 a

abbrev seconds : ℕ → ℕ → Bool
seconds a b = is_in_range (second_byte_min a) (second_byte_max a) b

abbrev continues : ℕ → Bool
continues b = is_in_range 0x80 0xBF b

lead_range : (a : ℕ) → leads a ≡ true → (194 ≤ a) × (a < 245)
lead_range a h = let parts = and_parts (nat_le 0xC2 a) (nat_le a 0xF4) h in (leb-true 0xC2 a parts.0, (let top = leb-true a 0xF4 parts.1 in omega arith))

range_leads : (a : ℕ) → 194 ≤ a → a < 245 → leads a ≡ true
range_leads a lo hi = and_from (nat_le 0xC2 a) (nat_le a 0xF4) (le-leb 0xC2 a lo) (le-leb a 0xF4 (omega arith))

continues_range : (b : ℕ) → continues b ≡ true → Follows b
continues_range b h = let parts = and_parts (nat_le 0x80 b) (nat_le b 0xBF) h in (leb-true 0x80 b parts.0, (let top = leb-true b 0xBF parts.1 in omega arith))

range_continues : (b : ℕ) → Follows b → continues b ≡ true
range_continues b h = and_from (nat_le 0x80 b) (nat_le b 0xBF) (le-leb 0x80 b h.0) (le-leb b 0xBF (omega (arith, h.1)))

seconds_range : (a b : ℕ) → seconds a b ≡ true → IsSecond a b
seconds_range a b h = record {
  follows = (grind (arith, nat_tests), grind (arith, nat_tests));
  past_e0 = λ is. grind (arith, nat_tests);
  past_ed = λ is. grind (arith, nat_tests);
  past_f0 = λ is. grind (arith, nat_tests);
  past_f4 = λ is. grind (arith, nat_tests);
}

range_seconds : (a b : ℕ) → 128 ≤ b → b < 192 → (a ≡ 224 → 160 ≤ b) → (a ≡ 237 → b < 160) → (a ≡ 240 → 144 ≤ b) → (a ≡ 244 → b < 144) → seconds a b ≡ true
range_seconds a b lo hi e0 ed f0 f4 = grind (arith, nat_tests)

-- ---- where bytes stop that begin with no character

abbrev NoChar : List ℕ → Type 0
NoChar rest = (bytes after : List ℕ) → IsChar bytes → ¬ (rest ≡ bytes ++ after)

-- the place that is told of them
abbrev stop_of : List ℕ → ℕ
stop_of rest = refused_byte 0 (utf8_error_len rest) (slice_index rest 0) (length rest)

stop_at_end : (rest : List ℕ) → utf8_error_len rest ≡ None → length rest ≡ stop_of rest
stop_at_end rest e = rw e refl

stop_behind : (rest : List ℕ) (n : ℕ) → utf8_error_len rest ≡ Some n → leads (slice_index rest 0) ≡ true → n ≡ stop_of rest
stop_behind rest n e lead =
    let parts = and_parts (nat_le 0xC2 (slice_index rest 0)) (nat_le (slice_index rest 0) 0xF4) lead in
    rw (e, parts.0, parts.1) (omega arith)

stop_before : (rest : List ℕ) (n : ℕ) → utf8_error_len rest ≡ Some n → leads (slice_index rest 0) ≡ false → 0 ≡ stop_of rest
stop_before rest n e bad = rw e (before (nat_le 0xC2 (slice_index rest 0)) (nat_le (slice_index rest 0) 0xF4) bad)
  where
    before : (x y : Bool) → (x && y) ≡ false → 0 ≡ cond x (cond y (0 + n) 0) 0
    before true true h = absurd cc
    before true false h = refl
    before false y h = refl

error_len : (rest : List ℕ) → 0 < length rest → utf8_error_len rest ≡ error_len_of_some rest
unfolding utf8_error_len
error_len rest some = rw (ne_eqb (length rest) 0 (λ none. omega arith)) refl

stops_without_lead : (a : ℕ) (rest : List ℕ) → NoChar (a ∷ rest) → leads a ≡ false → StopsAt (a ∷ rest) (stop_of (a ∷ rest))
stops_without_lead a rest none bad =
    let e : utf8_error_len (a ∷ rest) ≡ Some 1 = error_len (a ∷ rest) (omega arith) ∙ rw bad refl in
    subst (λ (n : ℕ). StopsAt (a ∷ rest) n) (stop_before (a ∷ rest) 1 e bad) (record {
      within = omega arith;
      before = ([], IsUtf8-nil);
      after = λ less further. elim ((tells a further.0 further.1).lead) [
        | inl ascii ↦ none (a ∷ []) rest (one_byte a ascii) refl
        | inr range ↦ (let good = range_leads a range.0 range.1 in absurd cc)
      ];
    })

stops_without_second : (a b : ℕ) (rest : List ℕ) → leads a ≡ true → seconds a b ≡ false → StopsAt (a ∷ b ∷ rest) (stop_of (a ∷ b ∷ rest))
stops_without_second a b rest lead bad =
    let range = lead_range a lead in
    let e : utf8_error_len (a ∷ b ∷ rest) ≡ Some 1 =
    error_len (a ∷ b ∷ rest) (omega arith) ∙ rw (lead, le-ltb (length (a ∷ b ∷ rest)) 2 (omega arith), bad) refl in
    subst (λ (n : ℕ). StopsAt (a ∷ b ∷ rest) n) (stop_behind (a ∷ b ∷ rest) 1 e lead) (record {
      within = omega arith;
      before = completed_one a range.0 range.1;
      after = λ less further. (
          let second = ((tells a (b ∷ further.0) further.1).second range.0).1 in
          let good = range_seconds a b second.follows.0 second.follows.1 second.past_e0 second.past_ed second.past_f0 second.past_f4 in
          cc);
    })

stops_in_one : (a : ℕ) → leads a ≡ true → StopsAt (a ∷ []) (stop_of (a ∷ []))
stops_in_one a lead =
    let range = lead_range a lead in
    let e : utf8_error_len (a ∷ []) ≡ None = error_len (a ∷ []) (omega arith) ∙ rw lead refl in
    subst (λ (n : ℕ). StopsAt (a ∷ []) n) (stop_at_end (a ∷ []) e) (record {
      within = omega arith;
      before = completed_one a range.0 range.1;
      after = λ less further. absurd (omega arith);
    })

-- two bytes of a character are all of it or not
long_lead : (a b : ℕ) (rest : List ℕ) → NoChar (a ∷ b ∷ rest) → 194 ≤ a → IsSecond a b → 224 ≤ a
long_lead a b rest none lo second =
    elim (cases_lt a 224) [
      | inl less ↦ absurd (none (a ∷ b ∷ []) rest (two_bytes a b lo less second.follows) refl)
      | inr more ↦ more
    ]

longer_lead : (a b d : ℕ) (rest : List ℕ) → NoChar (a ∷ b ∷ d ∷ rest) → 224 ≤ a → IsSecond a b → Follows d → 240 ≤ a
longer_lead a b d rest none lo second third =
    elim (cases_lt a 240) [
      | inl less ↦ absurd (none (a ∷ b ∷ d ∷ []) rest (three_bytes a b d lo less second third) refl)
      | inr more ↦ more
    ]

stops_in_two : (a b : ℕ) → NoChar (a ∷ b ∷ []) → leads a ≡ true → seconds a b ≡ true → StopsAt (a ∷ b ∷ []) (stop_of (a ∷ b ∷ []))
stops_in_two a b none lead good =
    let range = lead_range a lead in
    let second = seconds_range a b good in
    let e : utf8_error_len (a ∷ b ∷ []) ≡ None = error_len (a ∷ b ∷ []) (omega arith) ∙ rw (lead, good) refl in
    subst (λ (n : ℕ). StopsAt (a ∷ b ∷ []) n) (stop_at_end (a ∷ b ∷ []) e) (record {
      within = omega arith;
      before = completed_two a b (long_lead a b [] none range.0 second) range.1 second;
      after = λ less further. absurd (omega arith);
    })

stops_without_third : (a b d : ℕ) (rest : List ℕ) → NoChar (a ∷ b ∷ d ∷ rest) → leads a ≡ true → seconds a b ≡ true → continues d ≡ false
    → StopsAt (a ∷ b ∷ d ∷ rest) (stop_of (a ∷ b ∷ d ∷ rest))
stops_without_third a b d rest none lead good bad =
    let range = lead_range a lead in
    let second = seconds_range a b good in
    let long = long_lead a b (d ∷ rest) none range.0 second in
    let bytes = a ∷ b ∷ d ∷ rest in
    let e : utf8_error_len bytes ≡ Some 2 =
    error_len bytes (omega arith) ∙ rw (lead, le-ltb (length bytes) 2 (omega arith), good, le-ltb (length bytes) 3 (omega arith), bad) refl in
    subst (λ (n : ℕ). StopsAt bytes n) (stop_behind bytes 2 e lead) (record {
      within = omega arith;
      before = completed_two a b long range.1 second;
      after = λ less further. (let third = range_continues d ((tells a (b ∷ d ∷ further.0) further.1).third long).1 in cc);
    })

stops_in_three : (a b d : ℕ) → NoChar (a ∷ b ∷ d ∷ []) → leads a ≡ true → seconds a b ≡ true → continues d ≡ true → StopsAt (a ∷ b ∷ d ∷ []) (stop_of (a ∷ b ∷ d ∷ []))
stops_in_three a b d none lead good on =
    let range = lead_range a lead in
    let second = seconds_range a b good in
    let third = continues_range d on in
    let longer = longer_lead a b d [] none (long_lead a b (d ∷ []) none range.0 second) second third in
    let e : utf8_error_len (a ∷ b ∷ d ∷ []) ≡ None = error_len (a ∷ b ∷ d ∷ []) (omega arith) ∙ rw (lead, good, on) refl in
    subst (λ (n : ℕ). StopsAt (a ∷ b ∷ d ∷ []) n) (stop_at_end (a ∷ b ∷ d ∷ []) e) (record {
      within = omega arith;
      before = completed_three a b d longer range.1 second third;
      after = λ less further. absurd (omega arith);
    })

stops_in_four : (a b d x : ℕ) (rest : List ℕ) → NoChar (a ∷ b ∷ d ∷ x ∷ rest) → leads a ≡ true → seconds a b ≡ true → continues d ≡ true
    → StopsAt (a ∷ b ∷ d ∷ x ∷ rest) (stop_of (a ∷ b ∷ d ∷ x ∷ rest))
stops_in_four a b d x rest none lead good on =
    let range = lead_range a lead in
    let second = seconds_range a b good in
    let third = continues_range d on in
    let bytes = a ∷ b ∷ d ∷ x ∷ rest in
    let longer = longer_lead a b d (x ∷ rest) none (long_lead a b (d ∷ x ∷ rest) none range.0 second) second third in
    let e : utf8_error_len bytes ≡ Some 3 =
    error_len bytes (omega arith)
    ∙ rw (lead, le-ltb (length bytes) 2 (omega arith), good, le-ltb (length bytes) 3 (omega arith), on, le-ltb (length bytes) 4 (omega arith)) refl in
    subst (λ (n : ℕ). StopsAt bytes n) (stop_behind bytes 3 e lead) (record {
      within = omega arith;
      before = completed_three a b d longer range.1 second third;
      after = λ less further. (
          let fourth = ((tells a (b ∷ d ∷ x ∷ further.0) further.1).fourth longer).1 in
          none (a ∷ b ∷ d ∷ x ∷ []) rest (four_bytes a b d x longer range.1 second third fourth) refl);
    })

stops : (rest : List ℕ) → NoChar rest → 0 < length rest → StopsAt rest (stop_of rest)
stops [] none some = absurd (omega arith)
stops (a ∷ []) none some =
    elim (cases_Bool (leads a)) [ inl lead ↦ stops_in_one a lead | inr bad ↦ stops_without_lead a [] none bad ]
stops (a ∷ b ∷ []) none some =
    elim (cases_Bool (leads a)) [
      | inl lead ↦ elim (cases_Bool (seconds a b)) [
        | inl good ↦ stops_in_two a b none lead good
        | inr bad ↦ stops_without_second a b [] lead bad
      ]
      | inr bad ↦ stops_without_lead a (b ∷ []) none bad
    ]
stops (a ∷ b ∷ d ∷ rest) none some =
    elim (cases_Bool (leads a)) [
      | inl lead ↦ elim (cases_Bool (seconds a b)) [
        | inl good ↦ elim (cases_Bool (continues d)) [
          | inl on ↦ with_three a b d rest none lead good on
          | inr bad ↦ stops_without_third a b d rest none lead good bad
        ]
        | inr bad ↦ stops_without_second a b (d ∷ rest) lead bad
      ]
      | inr bad ↦ stops_without_lead a (b ∷ d ∷ rest) none bad
    ]
  where
    with_three : (a b d : ℕ) (rest : List ℕ) → NoChar (a ∷ b ∷ d ∷ rest) → leads a ≡ true → seconds a b ≡ true → continues d ≡ true
        → StopsAt (a ∷ b ∷ d ∷ rest) (stop_of (a ∷ b ∷ d ∷ rest))
    with_three a b d [] none lead good on = stops_in_three a b d none lead good on
    with_three a b d (x ∷ rest) none lead good on = stops_in_four a b d x rest none lead good on

-- ---- and behind a text

behind : (text rest : List ℕ) (n : ℕ) → IsUtf8 text → StopsAt rest n → StopsAt (text ++ rest) (length text + n)
behind text rest n h stop = record {
  within = omega (arith, length-append text rest, stop.within);
  before = subst CanGoOn (sym (take-append-add text rest n)) (further text (take n rest) h stop.before);
  after = λ less on. stop.after (omega (arith, length-append text rest)) (without_text text (take (n + 1) rest) h (subst CanGoOn (past n) on));
}
  where
    further : (text front : List ℕ) → IsUtf8 text → CanGoOn front → CanGoOn (text ++ front)
    further text front h (more, on) = (more, subst (λ (xs : List ℕ). IsUtf8 xs) (sym (append_assoc text front more)) (IsUtf8-append text (front ++ more) h on))

    without_text : (text front : List ℕ) → IsUtf8 text → CanGoOn (text ++ front) → CanGoOn front
    without_text text front h (more, on) = (more, behind_text text (front ++ more) h (subst (λ (xs : List ℕ). IsUtf8 xs) (append_assoc text front more) on))

    past : (n : ℕ) → take (length text + n + 1) (text ++ rest) ≡ text ++ take (n + 1) rest
    past n =
        let regrouped : length text + n + 1 ≡ length text + (n + 1) = omega arith in
        ap (λ (k : ℕ). take k (text ++ rest)) regrouped ∙ take-append-add text rest (n + 1)

-- the longest front that is a text
record LongestText (bytes : List ℕ) (bound n : ℕ) : Type 0 where
  within : n ≤ bound
  text : IsUtf8 (take n bytes)
  longest : (m : ℕ) → n < m → m ≤ bound → ¬ IsUtf8 (take m bytes)

longest_with : (bytes : List ℕ) (bound : ℕ) (b : Bool) → is_utf8 (take (suc bound) bytes) ≡ b → LongestText bytes bound (valid_len_up_to bytes bound)
    → LongestText bytes (suc bound) (cond b (suc bound) (valid_len_up_to bytes bound))
longest_with bytes bound true good shorter = record {
  within = omega arith;
  text = IsUtf8-from_is_utf8 (take (suc bound) bytes) good;
  longest = λ m more less. absurd (omega arith);
}
longest_with bytes bound false bad shorter = record {
  within = omega (arith, shorter.within);
  text = shorter.text;
  longest = λ m more less h. elim (cases_lt bound m) [
    | inl last ↦ (
        let same : m ≡ suc bound = omega arith in
        let good = is_utf8-from_IsUtf8 (take m bytes) h in
        let bad_there : is_utf8 (take m bytes) ≡ false = subst (λ (k : ℕ). is_utf8 (take k bytes) ≡ false) (sym same) bad in
        absurd cc)
    | inr earlier ↦ shorter.longest m more earlier h
  ];
}

longest_text : (bytes : List ℕ) (bound : ℕ) → LongestText bytes bound (valid_len_up_to bytes bound)
longest_text bytes zero = record { within = omega arith; text = IsUtf8-nil; longest = λ m more less h. absurd (omega arith) }
longest_text bytes (suc bound) = longest_with bytes bound (is_utf8 (take (suc bound) bytes)) refl (longest_text bytes bound)

longest_front : (bytes : List ℕ) → LongestText bytes (length bytes) (utf8_valid_len bytes)
unfolding utf8_valid_len
longest_front bytes = longest_text bytes (length bytes)

-- so many bytes further on
moved : (n : ℕ) (wrong : Option ℕ) (first len : ℕ) → n + refused_byte 0 wrong first len ≡ refused_byte n wrong first (n + len)
moved n None first len = refl
moved n (Some wrong) first len = by_tests (nat_le 0xC2 first) (nat_le first 0xF4)
  where
    by_tests : (x y : Bool) → n + cond x (cond y (0 + wrong) 0) 0 ≡ cond x (cond y (n + wrong) n) n
    by_tests true true = omega arith
    by_tests true false = omega arith
    by_tests false y = omega arith

-- nothing longer than the longest front that is a text begins with a character behind it
no_char_behind : (bytes : List ℕ) (n : ℕ) → LongestText bytes (length bytes) n → NoChar (drop n bytes)
no_char_behind bytes n found char after is cut =
    let some = char_some char is in
    let len = length char in
    let split : take (n + len) bytes ≡ take n bytes ++ char =
    take-add n len bytes ∙ ap (λ (xs : List ℕ). take n bytes ++ take len xs) cut ∙ ap (λ (xs : List ℕ). take n bytes ++ xs) (take_at char after len refl) in
    let fits : n + len ≤ length bytes = omega (arith, ap length cut, length-append char after, length-drop n bytes, found.within) in
    found.longest (n + len) (omega arith) fits
    (subst (λ (xs : List ℕ). IsUtf8 xs) (sym split) (IsUtf8-append (take n bytes) char found.text (char_is_text char is)))

pub not_text_stops : (bytes : List ℕ) → ¬ IsUtf8 bytes → StopsAt bytes (not_text_at bytes)
unfolding not_text_at
not_text_stops bytes no_text =
    let n = utf8_valid_len bytes in
    let found = longest_front bytes in
    let text = take n bytes in
    let rest = drop n bytes in
    let len : length text ≡ n = omega (arith, length-take n bytes, found.within) in
    let some : 0 < length rest = elim (cases_lt n (length bytes)) [
      | inl less ↦ omega (arith, length-drop n bytes)
      | inr all ↦ absurd (no_text (subst (λ (xs : List ℕ). IsUtf8 xs) (take_all n bytes all) found.text))
    ] in
    let stop = behind text rest (stop_of rest) found.text (stops rest (no_char_behind bytes n found) some) in
    let first : slice_index rest 0 ≡ slice_index bytes n = get_or-drop n bytes 0 0 ∙ ap (λ (k : ℕ). get_or bytes k 0) (omega arith) in
    let whole : n + length rest ≡ length bytes = omega (arith, length-drop n bytes, found.within) in
    let place : length text + stop_of rest ≡ not_text_at bytes =
    ap (λ (k : ℕ). k + stop_of rest) len ∙ moved n (utf8_error_len rest) (slice_index rest 0) (length rest)
    ∙ ap (λ (b : ℕ). refused_byte n (utf8_error_len rest) b (n + length rest)) first
    ∙ ap (λ (k : ℕ). refused_byte n (utf8_error_len rest) (slice_index bytes n) k) whole in
    subst (λ (k : ℕ). StopsAt bytes k) place (subst (λ (xs : List ℕ). StopsAt xs (length text + stop_of rest)) (take-append-drop n bytes) stop)

-- ---- there is one such place

not_earlier : (bytes : List ℕ) (a b : ℕ) → StopsAt bytes a → StopsAt bytes b → ¬ (a < b)
not_earlier bytes a b first second less =
    let shorter : take (a + 1) (take b bytes) ≡ take (a + 1) bytes = take-take (a + 1) b bytes (omega arith) in
    let split : take b bytes ≡ take (a + 1) bytes ++ drop (a + 1) (take b bytes) =
    sym (take-append-drop (a + 1) (take b bytes)) ∙ ap (λ (xs : List ℕ). xs ++ drop (a + 1) (take b bytes)) shorter in
    first.after (omega (arith, second.within)) (goes_on_from (take (a + 1) bytes) (drop (a + 1) (take b bytes)) (subst CanGoOn split second.before))

pub one_stop : (bytes : List ℕ) (a b : ℕ) → StopsAt bytes a → StopsAt bytes b → a ≡ b
one_stop bytes a b first second =
    elim (cases_order a b) [
      | inl same ↦ same
      | inr different ↦ elim different [
        | inl less ↦ absurd (not_earlier bytes a b first second less)
        | inr more ↦ absurd (not_earlier bytes b a second first more)
      ]
    ]
