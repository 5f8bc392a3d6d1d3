-- What is read so far, and what is left.
use Rattle.std.proofs.Common.{◌≡◌, ℕ, nat_le, length, filter, Bool, true, false, ◌&&◌, List, [], ◌∷◌, ◌++◌, map, cond, Option, Some, None, option_and_then, Result, Ok, Err, string_bytes, refl, sym, ap, ◌∙◌}
use Rattle.std.specs.Str.{IsUtf8, is_utf8}
use Rattle.std.specs.Option.{ok_or}
use Rattle.std.specs.List.{list_all}
use Rattle.std.proofs.lemmas.List.{length-map}
use Rattle.std.specs.declared.string.String.{String}
use Rattle.std.specs.declared.alloc.Global.{Global}
use Rattle.std.proofs.lemmas.Str.{IsUtf8-from_is_utf8, is_utf8-from_IsUtf8}
use Rattle.toml.specs.Data.{Data, Items, Members, integer, boolean, string, float, datetime, array, table, as_array}
use Rattle.toml.specs.Parse.{parse_document}
use Rattle.toml.specs.View.{view, items_of, items_view, members_view}
use Rattle.toml.specs.declared.value.Value.{Value}
use Rattle.fb_base.specs.declared.reply.Reply.{Reply}
use Rattle.fb_base.specs.Operators.{value_of_list}
use Rattle.fb_base.specs.Results.{◌>>=◌}
use Rattle.fb_syntax.specs.Trees.{MethodTree}
use Rattle.fb_syntax.specs.Views.{view_method}
use Rattle.fb_syntax.specs.declared.services.Method.{Method}
use Rattle.fb_config.specs.declared.error.FaultsWhy.TheVariants.{NotATable, TooMany}
use Rattle.fb_config.specs.ReadItems.{is_meant, kinds_meant}
use Rattle.fb_config.specs.FaultFiles.{not_too_many}
use Rattle.fb_config.specs.Documents.{document_of, data_of, keys_of, all_of}
use Rattle.fb_config.specs.Values.{scalar_of, value_of_data, are_few, few_replies, replies_in}

-- the items read before the rest
abbrev pub with_front : {A E : Type 0} → List A → Result (List A) E → Result (List A) E
with_front done (Ok rest) = Ok (done ++ rest)
with_front done (Err e) = Err e

pub document_read : (bytes : List ℕ) (t : Members) → IsUtf8 bytes → parse_document bytes ≡ Some t → document_of bytes ≡ Some t
unfolding document_of
document_read bytes t text read = ap (λ b. cond b (parse_document bytes) None) (is_utf8-from_IsUtf8 bytes text) ∙ read

pub document_none : (bytes : List ℕ) → (IsUtf8 bytes → parse_document bytes ≡ None) → document_of bytes ≡ None
unfolding document_of
document_none bytes refused = by (is_utf8 bytes) refl where
  by : (b : Bool) → is_utf8 bytes ≡ b → cond b (parse_document bytes) None ≡ None
  by true is = refused (IsUtf8-from_is_utf8 bytes is)
  by false is = refl

pub keys_all : (p : List ℕ → Bool) (es : List (String Global × Value)) → list_all p (keys_of (members_view es)) ≡ list_all (λ (k : String Global). p (string_bytes k)) (map (λ e. e.0) es)
keys_all p [] = refl
keys_all p (e ∷ es) = ap (λ b. p (string_bytes e.0) && b) (keys_all p es)

pub data_of-items : (ds : List Data) → data_of (items_of ds) ≡ ds
data_of-items [] = refl
data_of-items (d ∷ ds) = ap (λ rest. d ∷ rest) (data_of-items ds)

-- the items of an array, behind a slice of it
array_data : (items : Items) (vs ws : List Value) → ws ≡ vs → items ≡ items_view vs → data_of items ≡ map view ws
array_data items vs ws same is = ap data_of is ∙ data_of-items (map view vs) ∙ sym (ap (map view) same)

pub value_of_array : (d : Data) (vs ws : List Value) → ws ≡ vs → Some (items_view vs) ≡ as_array d → option_and_then value_of_list (all_of scalar_of (map view ws)) ≡ value_of_data d
value_of_array (array items) vs ws same is =
    let items_are : items ≡ items_view vs = cc in
    ap (λ ds. option_and_then value_of_list (all_of scalar_of ds)) (sym (array_data items vs ws same items_are))
value_of_array (string s) vs ws same is = absurd (cc)
value_of_array (integer z) vs ws same is = absurd (cc)
value_of_array (float x) vs ws same is = absurd (cc)
value_of_array (boolean b) vs ws same is = absurd (cc)
value_of_array (datetime dt) vs ws same is = absurd (cc)
value_of_array (table ms) vs ws same is = absurd (cc)

pub replies_of_array : (read : Data → Option Reply) (d : Data) (vs ws : List Value) → ws ≡ vs → Some (items_view vs) ≡ as_array d
    → cond (are_few (map view ws)) (all_of read (map view ws)) None ≡ replies_in read d
unfolding replies_in
replies_of_array read d vs ws same is =
    ap (λ ds. cond (are_few ds) (all_of read ds) None) (sym (array_data (items_view vs) vs ws same refl)) ∙ ap (option_and_then (few_replies read)) is

-- a list that isn't too long, behind a slice of it
pub list_of_array : (d : Data) (vs ws : List Value) → ws ≡ vs → Some (items_view vs) ≡ as_array d
    → cond (nat_le (length ws) 1024) (Ok (map view ws)) (Err TooMany) ≡ (ok_or (as_array d) (NotATable 0) >>= not_too_many)
list_of_array d vs ws same is =
    let listed = array_data (items_view vs) vs ws same refl in
    ap (λ n. cond (nat_le n 1024) (Ok (map view ws)) (Err TooMany)) (sym (length-map ws view) ∙ ap length (sym listed))
    ∙ ap (λ ds. cond (nat_le (length (data_of (items_view vs))) 1024) (Ok ds) (Err TooMany)) (sym listed)
    ∙ ap (λ o. ok_or o (NotATable 0) >>= not_too_many) is

-- the kinds of methods, by their trees
pub kinds_viewed : (named : Option (List ℕ)) (methods : List Method) → map (λ (m : Method). m.gives) (filter (λ (m : Method). is_meant named m.name) methods) ≡ kinds_meant (map view_method methods) named
kinds_viewed named [] = refl
kinds_viewed named (m ∷ ms) = by (is_meant named m.name) (kinds_viewed named ms) where
  by : (b : Bool) → map (λ (m : Method). m.gives) (filter (λ (m : Method). is_meant named m.name) ms) ≡ kinds_meant (map view_method ms) named
      → map (λ (m : Method). m.gives) (cond b (m ∷ filter (λ (m : Method). is_meant named m.name) ms) (filter (λ (m : Method). is_meant named m.name) ms))
      ≡ map (λ (t : MethodTree). t.gives) (cond b (view_method m ∷ filter (λ (t : MethodTree). is_meant named t.name) (map view_method ms)) (filter (λ (t : MethodTree). is_meant named t.name) (map view_method ms)))
  by true rest = ap (λ kinds. m.gives ∷ kinds) rest
  by false rest = rest
