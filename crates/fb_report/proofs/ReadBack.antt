-- What is written of a tree is read again as that tree.
use Rattle.std.proofs.Common.{◌≡◌, ℕ, zero, suc, ◌^◌, ◌<◌, ◌≤◌, ◌&&◌, ℤ, pos, negsuc, Bool, true, false, List, [], ◌∷◌, ◌++◌, Option, Some, None, Ordering, Less, Equal, Greater, option_map, option_and_then, decimal, inl, inr, refl, sym, ap, ◌∙◌, subst, arith, append-nil}
use Rattle.std.proofs.lemmas.Bool.{and_parts, cases_lt}
use Rattle.std.specs.Ordering.{nat_cmp, match_ordering}
use Rattle.std.specs.Cmp.Lexicographic.{slice_cmp}
use Rattle.std.specs.Fmt.{digits, signed_decimal}
use Rattle.json.specs.Json as json
use Rattle.json.specs.Lex.{tokens}
use Rattle.json.specs.Tree as tree
use Rattle.json.specs.Print.{IsNumber}
use Rattle.json.specs.Word.{after_number}
use Rattle.json.proofs.OnLiterals.{json_on_literals}
use Rattle.json.proofs.Printed.Decimals.{IsNumber-decimal, IsNumber-signed_decimal}
use Rattle.json.proofs.Printed.Tokens.{tokens-print}
use Rattle.json.proofs.Printed.Trees.{value-json_tokens, ArePrintable-json_tokens}
use Rattle.serde_json.specs.Data.{Num, unsigned, negative, float, Data, null, boolean, number, string, array, object, Items, no_items, item, Members, no_members, member, put}
use Rattle.serde_json.specs.Read.{of_json, of_items, of_members, number_of, max_depth, read}
use Rattle.serde_json.specs.Written.{number_text, outline, items_outline, members_outline, compact_text}
use Rattle.serde_json.proofs.Numbers.{number_of-decimal, number_of-negative}
use Rattle.serde_json.proofs.Texts.{print-outline}
use Rattle.fb_report.specs.Writable.{IsInteger, is_greater, is_above, with_last, are_sorted, IsWritable, AreWritable, HoldWritable}

-- ---- members in the order of their keys

greater-is : (o : Ordering) → is_greater o ≡ true → o ≡ Greater
greater-is Less e = cc
greater-is Equal e = cc
greater-is Greater e = refl

put-last : (key : List ℕ) (last : Data) (ms : Members) → is_above key ms ≡ true → put key last ms ≡ with_last ms key last
put-last key last no_members above = refl
put-last key last (member k d ms) above =
    let parts = and_parts _ _ above in
    rw (greater-is (slice_cmp nat_cmp key k) parts.0) (ap (member k d) (put-last key last ms parts.1))

abbrev joined : Members → Members → Members
joined no_members ms = ms
joined (member k d before) ms = member k d (joined before ms)

joined-with_last : (before : Members) (k : List ℕ) (d : Data) (ms : Members) → joined (with_last before k d) ms ≡ joined before (member k d ms)
joined-with_last no_members k d ms = refl
joined-with_last (member l e before) k d ms = ap (member l e) (joined-with_last before k d ms)

joined-nothing : (ms : Members) → joined ms no_members ≡ ms
joined-nothing no_members = refl
joined-nothing (member k d ms) = ap (member k d) (joined-nothing ms)

-- ---- from the outline to the tree

number-read : (n : Num) → IsInteger n → number_of (number_text n) ≡ Some n
number-read (unsigned n) fits = number_of-decimal n fits
number-read (negative (pos n)) fits = absurd fits
number-read (negative (negsuc n)) fits = number_of-negative n fits
number-read (float x) fits = absurd fits

mutual
  of-outline : (levels : ℕ) (d : Data) → IsWritable levels d → of_json (outline d) ≡ Some d
  of-outline levels null h = refl
  of-outline levels (boolean b) h = refl
  of-outline levels (number n) h = ap (option_map number) (number-read n h)
  of-outline levels (string s) h = refl
  of-outline zero (array ds) h = absurd h
  of-outline (suc levels) (array ds) h = ap (option_map array) (items-outline levels ds h)
  of-outline zero (object ms) h = absurd h
  of-outline (suc levels) (object ms) h = ap (option_map object) (members-outline levels ms no_members h.1 h.0)

  items-outline : (levels : ℕ) (ds : Items) → AreWritable levels ds → of_items (items_outline ds) ≡ Some ds
  items-outline levels no_items h = refl
  items-outline levels (item d ds) h =
      ap (option_and_then (λ e. option_map (item e) (of_items (items_outline ds)))) (of-outline levels d h.0) ∙ ap (option_map (item d)) (items-outline levels ds h.1)

  members-outline : (levels : ℕ) (ms before : Members) → HoldWritable levels ms → are_sorted before ms ≡ true → of_members (members_outline ms) before ≡ Some (joined before ms)
  members-outline levels no_members before h sorted = ap Some (sym (joined-nothing before))
  members-outline levels (member k d ms) before h sorted =
      let parts = and_parts _ _ sorted in
      ap (option_and_then (λ e. of_members (members_outline ms) (put k e before))) (of-outline levels d h.0)
      ∙ ap (of_members (members_outline ms)) (put-last k d before parts.0)
      ∙ members-outline levels ms (with_last before k d) h.1 parts.1
      ∙ ap Some (joined-with_last before k d ms)

-- ---- the text of the outline

least : IsNumber (signed_decimal (negsuc 9223372036854775807))
unfolding after_number digits json_on_literals
least = refl

negative-number : (n : ℕ) → n < 2 ^ 63 → IsNumber (signed_decimal (negsuc n))
negative-number n fits = elim (cases_lt n 9223372036854775807) [
  | inl small ↦ IsNumber-signed_decimal (negsuc n) (omega arith)
  | inr most ↦ (let same : 9223372036854775807 ≡ n = omega arith in subst (λ m. IsNumber (signed_decimal (negsuc m))) same least)
]

number-text : (n : Num) → IsInteger n → IsNumber (number_text n)
number-text (unsigned n) fits = IsNumber-decimal n fits
number-text (negative (pos n)) fits = absurd fits
number-text (negative (negsuc n)) fits = negative-number n fits
number-text (float x) fits = absurd fits

mutual
  has-numbers : (levels : ℕ) (d : Data) → IsWritable levels d → tree.HasNumbers (outline d)
  has-numbers levels null h = tt
  has-numbers levels (boolean b) h = tt
  has-numbers levels (number n) h = number-text n h
  has-numbers levels (string s) h = tt
  has-numbers zero (array ds) h = absurd h
  has-numbers (suc levels) (array ds) h = items-numbers levels ds h
  has-numbers zero (object ms) h = absurd h
  has-numbers (suc levels) (object ms) h = members-numbers levels ms h.1

  items-numbers : (levels : ℕ) (ds : Items) → AreWritable levels ds → tree.ItemsHaveNumbers (items_outline ds)
  items-numbers levels no_items h = tt
  items-numbers levels (item d ds) h = (has-numbers levels d h.0, items-numbers levels ds h.1)

  members-numbers : (levels : ℕ) (ms : Members) → HoldWritable levels ms → tree.MembersHaveNumbers (members_outline ms)
  members-numbers levels no_members h = tt
  members-numbers levels (member k d ms) h = (has-numbers levels d h.0, members-numbers levels ms h.1)

mutual
  depth-within : (levels : ℕ) (d : Data) → IsWritable levels d → tree.depth (outline d) ≤ levels
  depth-within levels null h = omega arith
  depth-within levels (boolean b) h = omega arith
  depth-within levels (number n) h = omega arith
  depth-within levels (string s) h = omega arith
  depth-within zero (array ds) h = absurd h
  depth-within (suc levels) (array ds) h = omega (arith, items-within levels ds h)
  depth-within zero (object ms) h = absurd h
  depth-within (suc levels) (object ms) h = omega (arith, members-within levels ms h.1)

  items-within : (levels : ℕ) (ds : Items) → AreWritable levels ds → tree.items_depth (items_outline ds) ≤ levels
  items-within levels no_items h = omega arith
  items-within levels (item d ds) h = omega (arith, depth-within levels d h.0, items-within levels ds h.1)

  members-within : (levels : ℕ) (ms : Members) → HoldWritable levels ms → tree.members_depth (members_outline ms) ≤ levels
  members-within levels no_members h = omega arith
  members-within levels (member k d ms) h = omega (arith, depth-within levels d h.0, members-within levels ms h.1)

-- the round trip
pub read-back : (d : Data) → IsWritable max_depth d → read (compact_text d) ≡ Some d
read-back d h =
    let ts = tree.json_tokens (outline d) in
    let lexed : tokens (compact_text d) ≡ ts = ap tokens (sym (print-outline d)) ∙ tokens-print ts (ArePrintable-json_tokens (outline d) (has-numbers max_depth d h)) in
    let parsed : json.value max_depth ts ≡ Some (outline d, []) =
    ap (json.value max_depth) (sym (append-nil ts)) ∙ value-json_tokens (outline d) max_depth [] (depth-within max_depth d h) in
    ap (λ o. option_and_then of_json (option_and_then (λ p. json.if_last p.0 p.1) o)) (ap (json.value max_depth) lexed ∙ parsed) ∙ of-outline max_depth d h
