-- The choices that a file configures fit the methods and differ.
use Rattle.std.proofs.Common.{◌≡◌, ◌==◌, ◌||◌, ◌⊎◌, ◌↔◌, ℕ, zero, suc, ◌+◌, ◌<◌, Bool, true, false, ◌&&◌, cond, bytes_eq, List, [], ◌∷◌, ◌++◌, map, filter, find, fold, flat_map, length, slice_get, option_map, option_and_then, is_some, Option, Some, None, IsNone, Result, Ok, Err, Contains, codes, refl, sym, ap, ◌∙◌, subst, inl, inr, ⊎_elim, arith}
use Rattle.std.specs.Prelude.{ℤ, pos}
use Rattle.std.specs.declared.cmp.Ordering.{Ordering}
use Rattle.std.specs.declared.cmp.Ordering.TheVariants.{Less, Equal, Greater}
use Rattle.std.specs.Option.{ok_or, option_map_or, unwrap_or}
use Rattle.std.specs.Ordering.{int_eq, nat_cmp, match_ordering, is_eq}
use Rattle.std.specs.Cmp.Lexicographic.{slice_cmp}
use Rattle.std.specs.List.{list_all, list_any}
use Rattle.std.proofs.lemmas.Bool.{and_parts, false≢true}
use Rattle.std.proofs.lemmas.Bool.Decides.{Decides-eqb}
use Rattle.std.proofs.lemmas.Map.Text.{is_eq-slice_cmp}
use Rattle.std.proofs.lemmas.Slice.Eq.{bytes_eq-Decides}
use Rattle.std.proofs.lemmas.Map.Views.{list_any-from_Contains}
use Rattle.std.proofs.lemmas.List.{length-map}
use Rattle.std.proofs.lemmas.List.Elements.{Contains-append_cases}
use Rattle.std.proofs.lemmas.Option.{slice_get-map}
use Rattle.toml.specs.Data.{Data, Items, Members, no_members, member, as_table, as_array, as_str, as_integer, get_member}
use Rattle.fb_base.specs.declared.kind.Kind.{Kind}
use Rattle.fb_base.specs.declared.value.Value.{Value}
use Rattle.fb_base.specs.declared.method.MethodId.{MethodId}
use Rattle.fb_base.specs.declared.method.MethodName.{MethodName}
use Rattle.fb_base.specs.declared.reply.Reply.{Reply}
use Rattle.fb_base.specs.declared.reply.Reply.TheVariants as reply
use Rattle.fb_base.specs.Name.{is_name}
use Rattle.fb_base.specs.Values.{has_kind}
use Rattle.fb_base.specs.Replies.{same_reply, same_reply_equiv}
use Rattle.fb_base.specs.Results.{◌>>=◌}
use Rattle.fb_campaign.specs.Runs.{AreDistinct, AreChoices, fits}
use Rattle.fb_syntax.specs.Trees.{MethodTree, ServiceTree, ServicesTree}
use Rattle.fb_check.specs.declared.signature.Signature.{Signature}
use Rattle.fb_check.specs.Declarations.{declarations_of, service_in}
use Rattle.fb_check.proofs.MethodTables.{length-signatures}
use Rattle.fb_check.specs.Programs.{kinds_given, methods_of, method_at, signature_at, item_numbered, IsMethodAt}
use Rattle.fb_config.specs.declared.error.FaultsWhy.{FaultsWhy}
use Rattle.fb_config.specs.declared.error.FaultsWhy.TheVariants.{NotToml, BadVersion, NotATable, UnknownKey, UnknownCallee, UnknownMethod, BadCode, BadValue}
use Rattle.fb_config.specs.declared.keys.Keys.{Keys}
use Rattle.fb_config.specs.declared.keys.Keys.TheVariants.{Top, Item}
use Rattle.fb_config.specs.declared.fault_item.FaultItem.{FaultItem}
use Rattle.fb_config.specs.declared.fault_file.FaultFile.{FaultFile}
use Rattle.fb_config.specs.Documents.{document_of, data_of, keys_of, is_item_key, is_known, all_of, table_with}
use Rattle.fb_config.specs.Values.{error_of, error_of_text, reply_of, reply_of_kinds, value_of_data, are_few, few_replies, replies_in}
use Rattle.fb_config.specs.ReadItems.{service_with, callee_read, method_read, is_meant, kinds_meant, codes_read, values_read, replies_read, item_read}
use Rattle.fb_config.specs.FaultFiles.{version_of, version_read, list_read, items_from, table_read, file_read}
use Rattle.fb_config.specs.Choices.{means, replies_for, choices_of, choice_table, choices_for, kind_given}
use Rattle.fb_config.specs.Once.{with_reply, each_once}
use Rattle.fb_config.specs.Fitting.{FitsMethods, EachFits, is_of_version, IsVersion, IsOfItsVersion, IsChoiceTable}
use Rattle.fb_config.proofs.Lists.{passes, all_more, all_both, found_at, stands_at, all_flat}

-- ---- what comes of steps

pub bound : {A B E : Type 0} (r : Result A E) (more : A → Result B E) (y : B) → r >>= more ≡ Ok y → (x : A) × (r ≡ Ok x) × (more x ≡ Ok y)
bound (Ok x) more y is = (x, refl, is)
bound (Err e) more y is = absurd (cc)

pub some_of_ok : {A E : Type 0} (o : Option A) (e : E) (x : A) → ok_or o e ≡ Ok x → o ≡ Some x
some_of_ok None e x is = absurd (cc)
some_of_ok (Some y) e x is = let same : y ≡ x = cc in ap Some same

pub and_then : {A B : Type 0} (o : Option A) (f : A → Option B) (y : B) → option_and_then f o ≡ Some y → (x : A) × (o ≡ Some x) × (f x ≡ Some y)
and_then None f y is = absurd (cc)
and_then (Some x) f y is = (x, refl, is)

pub mapped : {A B : Type 0} (o : Option A) (f : A → B) (y : B) → option_map f o ≡ Some y → (x : A) × (o ≡ Some x) × (f x ≡ y)
mapped None f y is = absurd (cc)
mapped (Some x) f y is = (x, refl, (cc))

if_some : {A : Type 0} (b : Bool) (x y : A) → cond b (Some x) None ≡ Some y → (b ≡ true) × (x ≡ y)
if_some true x y is = (refl, (cc))
if_some false x y is = absurd (cc)

-- ---- what is read passes

-- an error, or a value of each kind
abbrev pub has_kinds : List Kind → Reply → Bool
has_kinds kinds (reply.Ok v) = list_all (has_kind v) kinds
has_kinds kinds (reply.Err code) = true

each_read : {A B : Type 0} (read : A → Option B) (p : B → Bool) → ((x : A) (y : B) → read x ≡ Some y → p y ≡ true) → (xs : List A) (ys : List B) → all_of read xs ≡ Some ys
    → list_all p ys ≡ true
each_read read p holds [] ys is = let same : [] ≡ ys = cc in ap (list_all p) (sym same)
each_read read p holds (x ∷ xs) ys is =
    let (y, first, rest) = and_then (read x) (λ y. option_map (λ ys. y ∷ ys) (all_of read xs)) ys is in
    let (more, others, same) = mapped (all_of read xs) (λ ys. y ∷ ys) ys rest in
    ap (list_all p) (sym same) ∙ all_more p y more (holds x y first) (each_read read p holds xs more others)

list_passes : (read : Data → Option Reply) (p : Reply → Bool) → ((d : Data) (given : Reply) → read d ≡ Some given → p given ≡ true) → (d : Data) (given : List Reply)
    → replies_in read d ≡ Some given → list_all p given ≡ true
unfolding replies_in
list_passes read p holds d given is =
    let (items, array, few) = and_then (as_array d) (few_replies read) given is in
    by (are_few (data_of items)) few (each_read read p holds (data_of items)) where
      by : {A : Type 0} {o : Option A} {P : A → Type 0} {y : A} (b : Bool) → cond b o None ≡ Some y → ((z : A) → o ≡ Some z → P z) → P y
      by {y = y} true is all = all y is
      by false is all = absurd (cc)

-- each error passes
abbrev PassesErrors : (Reply → Bool) → Type 0
PassesErrors p = (code : List ℕ) → p (reply.Err code) ≡ true

error_passes : (p : Reply → Bool) → PassesErrors p → (d : Data) (given : Reply) → error_of d ≡ Some given → p given ≡ true
error_passes p errors d given is =
    let (bytes, text, some) = and_then (as_str d) error_of_text given is in
    ap p (sym (if_some (is_name bytes) (reply.Err bytes) given some).1) ∙ errors bytes

value_passes : (kinds : List Kind) (d : Data) (given : Reply) → reply_of kinds d ≡ Some given → has_kinds kinds given ≡ true
value_passes kinds d given is =
    let (v, read, some) = and_then (value_of_data d) (reply_of_kinds kinds) given is in
    let (holds, same) = if_some (list_all (has_kind v) kinds) (reply.Ok v) given some in
    ap (has_kinds kinds) (sym same) ∙ holds

none_pass : {A : Type 0} (p : A → Bool) (given : List A) → [] ≡ given → list_all p given ≡ true
none_pass p given same = ap (list_all p) (sym same)

codes_pass : (p : Reply → Bool) → PassesErrors p → (k : ℕ) (values failing : Option Data) (given : List Reply) → codes_read k values failing ≡ Ok given → list_all p given ≡ true
codes_pass p errors k values (Some d) given is = list_passes error_of p (error_passes p errors) d given (some_of_ok (replies_in error_of d) (BadCode k) given is)
codes_pass p errors k (Some v) None given is = none_pass p given (cc)
codes_pass p errors k None None given is = absurd (cc)

values_pass : (k : ℕ) (kinds : List Kind) (values : Option Data) (given : List Reply) → values_read k kinds values ≡ Ok given → list_all (has_kinds kinds) given ≡ true
values_pass k kinds None given is = none_pass (has_kinds kinds) given (cc)
values_pass k kinds (Some d) given is =
    list_passes (reply_of kinds) (has_kinds kinds) (value_passes kinds) d given (some_of_ok (replies_in (reply_of kinds) d) (BadValue k) given is)

replies_pass : (k : ℕ) (kinds : List Kind) (failing values : Option Data) (given : List Reply) → replies_read k kinds failing values ≡ Ok given → list_all (has_kinds kinds) given ≡ true
unfolding replies_read
replies_pass k kinds failing values given is =
    let (errors, first, rest) = bound (codes_read k values failing) (λ errors. values_read k kinds values >>= (λ more. Ok (errors ++ more))) given is in
    let (more, second, last) = bound (values_read k kinds values) (λ more. Ok (errors ++ more)) given rest in
    let same : errors ++ more ≡ given = cc in
    ap (list_all (has_kinds kinds)) (sym same)
    ∙ all_both (has_kinds kinds) errors more (codes_pass (has_kinds kinds) (λ code. refl) k values failing errors first) (values_pass k kinds values more second)

-- ---- versions

all_in_2 : (version : ℕ) → (version == 2) ≡ true → (replies : List Reply) → list_all (is_of_version version) replies ≡ true
all_in_2 version is [] = refl
all_in_2 version is (given ∷ rest) = all_more (is_of_version version) given rest (by given) (all_in_2 version is rest) where
  by : (given : Reply) → is_of_version version given ≡ true
  by (reply.Ok v) = is
  by (reply.Err code) = refl

old_unknown : (version : ℕ) → (version == 2) ≡ false → is_known (Item version) (codes "values") ≡ false
old_unknown version old = ap (λ b. is_item_key (codes "values") || (b && bytes_eq (codes "values") (codes "values"))) old

-- an item of version 1 has no values
no_values : (version : ℕ) → (version == 2) ≡ false → (table : Members) → list_all (is_known (Item version)) (keys_of table) ≡ true → get_member (codes "values") table ≡ None
no_values version old no_members all = refl
no_values version old (member key d rest) all =
    let (first, others) = and_parts (is_known (Item version) key) (list_all (is_known (Item version)) (keys_of rest)) all in
    by (slice_cmp nat_cmp (codes "values") key) refl first (no_values version old rest others) where
      by : (o : Ordering) → slice_cmp nat_cmp (codes "values") key ≡ o → is_known (Item version) key ≡ true → get_member (codes "values") rest ≡ None
          → match_ordering o (get_member (codes "values") rest) (Some d) (get_member (codes "values") rest) ≡ None
      by Less at first more = more
      by Greater at first more = more
      by Equal at first more =
          let same : codes "values" ≡ key = (bytes_eq-Decides (codes "values") key).0 (sym (is_eq-slice_cmp (codes "values") key) ∙ ap is_eq at) in
          absurd (false≢true (sym (old_unknown version old) ∙ ap (is_known (Item version)) same ∙ first))

known_keys : (keys : Keys) (why : FaultsWhy) (given table : Members) → table_with keys why given ≡ Ok table → list_all (is_known keys) (keys_of table) ≡ true
known_keys keys why given table is = by (list_all (is_known keys) (keys_of given)) refl is where
  by : (b : Bool) → list_all (is_known keys) (keys_of given) ≡ b → cond b (Ok given) (Err why) ≡ Ok table → list_all (is_known keys) (keys_of table) ≡ true
  by true all is = let same : given ≡ table = cc in ap (λ t. list_all (is_known keys) (keys_of t)) (sym same) ∙ all
  by false all is = absurd (cc)

replies_of_version : (version k : ℕ) (kinds : List Kind) (failing values : Option Data) (given : List Reply) → ((version == 2) ≡ false → values ≡ None)
    → replies_read k kinds failing values ≡ Ok given → list_all (is_of_version version) given ≡ true
unfolding replies_read
replies_of_version version k kinds failing values given old is = by (version == 2) refl where
  by : (b : Bool) → (version == 2) ≡ b → list_all (is_of_version version) given ≡ true
  by true is_2 = all_in_2 version is_2 given
  by false is_old =
      let (errors, first, rest) = bound (codes_read k values failing) (λ errors. values_read k kinds values >>= (λ more. Ok (errors ++ more))) given is in
      let (more, second, last) = bound (values_read k kinds values) (λ more. Ok (errors ++ more)) given rest in
      let same : errors ++ more ≡ given = cc in
      let nothing : [] ≡ more = (let read = ap (values_read k kinds) (sym (old is_old)) ∙ second in cc) in
      ap (list_all (is_of_version version)) (sym same)
      ∙ all_both (is_of_version version) errors more (codes_pass (is_of_version version) (λ code. refl) k values failing errors first) (none_pass (is_of_version version) more nothing)

version_is : (o : Option Data) (version : ℕ) → version_read o ≡ Ok version → IsVersion version
version_is None version is = inl (let same : 1 ≡ version = cc in sym same)
version_is (Some d) version is = of (as_integer d) is where
  by : (one two : Bool) → cond one (Ok 1) (cond two (Ok 2) (Err BadVersion)) ≡ Ok version → IsVersion version
  by true two is = inl (let same : 1 ≡ version = cc in sym same)
  by false true is = inr (let same : 2 ≡ version = cc in sym same)
  by false false is = absurd (cc)

  of : (n : Option ℤ) → version_of n ≡ Ok version → IsVersion version
  of None is = absurd (cc)
  of (Some n) is = by (int_eq n (pos 1)) (int_eq n (pos 2)) is

-- ---- items

-- an item's service was found, and its replies have the kinds of the methods that it means and are of the file's version
record IsRead (tree : ServicesTree) (version : ℕ) (item : FaultItem) : Type 0 where
  service : ServiceTree
  name : List ℕ
  found : service_with tree.services name ≡ Some service
  callee : item.callee ≡ service.name
  replies : list_all (has_kinds (kinds_meant service.methods item.method)) item.replies ≡ true
  of_version : list_all (is_of_version version) item.replies ≡ true

is_read : (tree : ServicesTree) (version k : ℕ) (d : Data) (item : FaultItem) → item_read tree version k d ≡ Ok item → IsRead tree version item
unfolding item_read
is_read tree version k d item is =
    let (given, a, first) = bound (ok_or (as_table d) (NotATable k)) _ item is in
    let (table, b, second) = bound (table_with (Item version) (UnknownKey k) given) _ item first in
    let (service, c, third) = bound (ok_or (callee_read tree.services (get_member (codes "callee") table)) (UnknownCallee k)) _ item second in
    let (method, e, fourth) = bound (ok_or (method_read service.methods (get_member (codes "method") table)) (UnknownMethod k)) _ item third in
    let kinds = kinds_meant service.methods method in
    let (replies, f, last) = bound (replies_read k kinds (get_member (codes "codes") table) (get_member (codes "values") table)) _ item fourth in
    let same : record { callee = service.name; method = method; replies = replies } ≡ item = cc in
    let (name, text, named) = and_then (option_and_then as_str (get_member (codes "callee") table)) (service_with tree.services) service
    (some_of_ok (callee_read tree.services (get_member (codes "callee") table)) (UnknownCallee k) service c) in
    record {
      service = service;
      name = name;
      found = named;
      callee = ap (λ (i : FaultItem). i.callee) (sym same);
      replies = subst (λ (i : FaultItem). list_all (has_kinds (kinds_meant service.methods i.method)) i.replies ≡ true) same
          (replies_pass k kinds (get_member (codes "codes") table) (get_member (codes "values") table) replies f);
      of_version = subst (λ (i : FaultItem). list_all (is_of_version version) i.replies ≡ true) same
          (replies_of_version version k kinds (get_member (codes "codes") table) (get_member (codes "values") table) replies
          (λ old. no_values version old table (known_keys (Item version) (UnknownKey k) given table b)) f);
    }

all_imply : {X : Type 0} (p q : X → Bool) → ((x : X) → p x ≡ true → q x ≡ true) → (xs : List X) → list_all p xs ≡ true → list_all q xs ≡ true
all_imply p q holds [] all = refl
all_imply p q holds (x ∷ xs) all =
    let (first, rest) = and_parts (p x) (list_all p xs) all in
    all_more q x xs (holds x first) (all_imply p q holds xs rest)

-- the kind of each method that is meant is among theirs
kind_passes : (p : Kind → Bool) (named : Option (List ℕ)) (methods : List MethodTree) (k : ℕ) (method : MethodTree) → list_all p (kinds_meant methods named) ≡ true
    → slice_get methods k ≡ Some method → is_meant named method.name ≡ true → p method.gives ≡ true
kind_passes p named [] k method all at meant = absurd (cc)
kind_passes p named (m ∷ ms) k method all at meant = by (is_meant named m.name) refl k all at (λ n rest there. kind_passes p named ms n method rest there meant) where
  by : (b : Bool) → is_meant named m.name ≡ b → (k : ℕ)
      → list_all p (map (λ (x : MethodTree). x.gives) (cond b (m ∷ filter (λ (x : MethodTree). is_meant named x.name) ms) (filter (λ (x : MethodTree). is_meant named x.name) ms))) ≡ true
      → slice_get (m ∷ ms) k ≡ Some method
      → ((n : ℕ) → list_all p (kinds_meant ms named) ≡ true → slice_get ms n ≡ Some method → p method.gives ≡ true) → p method.gives ≡ true
  by true first zero all at later =
      let same : m ≡ method = cc in
      ap (λ (x : MethodTree). p x.gives) (sym same) ∙ (and_parts (p m.gives) (list_all p (kinds_meant ms named)) all).0
  by false first zero all at later =
      absurd (let same : m ≡ method = cc in let wrong = sym first ∙ ap (λ (x : MethodTree). is_meant named x.name) same ∙ meant in cc)
  by true first (suc k) all at later = later k (and_parts (p m.gives) (list_all p (kinds_meant ms named)) all).1 at
  by false first (suc k) all at later = later k all at

-- looking up by name and by number agree
abbrev pub ServicesJoin : ServicesTree → Type 0
ServicesJoin tree =
    (position : ℕ) (name : List ℕ) →
    (option_map (λ (x : ServiceTree). x.name) (item_numbered tree.services position) ≡ Some name) ↔ (service_in (declarations_of tree) name ≡ Some position)

abbrev pub TreesJoin : ServicesTree → Type 0
TreesJoin tree =
    (method position : ℕ) (name : MethodName) → option_map (λ (x : Signature). x.name) (signature_at tree method) ≡ Some name →
    option_map (λ (x : Signature). x.service) (signature_at tree method) ≡ Some position → IsMethodAt tree method position name

-- the kind that a method gives
kind_at : (tree : ServicesTree) (number : ℕ) (method : MethodTree) → method_at tree number ≡ Some method → slice_get (kinds_given tree) number ≡ Some method.gives
kind_at tree number method at =
    slice_get-map (λ (x : MethodTree). x.gives) (methods_of tree) number ∙ ap (option_map (λ (x : MethodTree). x.gives)) at

-- a reply that has the kinds of the methods that are meant fits each of them
reply_fits : (tree : ServicesTree) (number : ℕ) (kinds : List Kind) (method : MethodTree) → method_at tree number ≡ Some method
    → ((p : Kind → Bool) → list_all p kinds ≡ true → p method.gives ≡ true) → (given : Reply) → has_kinds kinds given ≡ true
    → fits (slice_get (kinds_given tree)) (record { 0 = number }) given ≡ true
reply_fits tree number kinds method at among (reply.Ok v) has =
    ap (λ o. option_map_or (has_kind v) o false) (kind_at tree number method at) ∙ among (has_kind v) has
reply_fits tree number kinds method at among (reply.Err code) has = ap is_some (kind_at tree number method at)

fits_methods : (tree : ServicesTree) → ServicesJoin tree → TreesJoin tree → (version : ℕ) (item : FaultItem) → IsRead tree version item → FitsMethods tree item
fits_methods tree services_join trees_join version item read number signature at meant =
    let (same_callee, same_method) = and_parts (bytes_eq item.callee signature.name.service) (is_meant item.method signature.name.method) meant in
    let callee : item.callee ≡ signature.name.service = (bytes_eq-Decides item.callee signature.name.service).0 same_callee in
    let there = trees_join number signature.service signature.name (ap (option_map (λ (x : Signature). x.name)) at) (ap (option_map (λ (x : Signature). x.service)) at) in
    let (i, stands, named) = found_at (λ (x : ServiceTree). bytes_eq read.name x.name) tree.services read.service read.found in
    let one = (services_join (suc i) signature.name.service).0 (ap (option_map (λ (x : ServiceTree). x.name)) stands ∙ ap Some (sym read.callee ∙ callee)) in
    let other = (services_join signature.service signature.name.service).0 (ap (option_map (λ (x : ServiceTree). x.name)) there.placed ∙ ap Some there.service_named) in
    let place : suc i ≡ signature.service = (let both : Some (suc i) ≡ Some signature.service = sym one ∙ other in cc) in
    let service : read.service ≡ there.service = (let both : Some read.service ≡ Some there.service = sym stands ∙ ap (item_numbered tree.services) place ∙ there.placed in cc) in
    let (j, has) = stands_at there.service.methods there.method there.has_method in
    let meant_there : is_meant item.method there.method.name ≡ true = ap (is_meant item.method) there.method_named ∙ same_method in
    let kinds = kinds_meant read.service.methods item.method in
    all_imply (has_kinds kinds) (fits (slice_get (kinds_given tree)) (record { 0 = number }))
    (reply_fits tree number kinds there.method there.numbered
    (λ p all. kind_passes p item.method there.service.methods j there.method (subst (λ (x : ServiceTree). list_all p (kinds_meant x.methods item.method) ≡ true) service all) has meant_there))
    item.replies read.replies

items_read : (tree : ServicesTree) (version k : ℕ) (ds : List Data) (items : List FaultItem) → items_from tree version k ds ≡ Ok items → (n : ℕ) (item : FaultItem) → slice_get items n ≡ Some item
    → IsRead tree version item
items_read tree version k [] items is n item at = absurd (let same : [] ≡ items = cc in let wrong : None ≡ Some item = ap (λ xs. slice_get xs n) same ∙ at in cc)
items_read tree version k (d ∷ ds) items is n item at =
    let (first, one, more) = bound (item_read tree version k d) (λ first. items_from tree version (suc k) ds >>= (λ rest. Ok (first ∷ rest))) items is in
    let (rest, others, last) = bound (items_from tree version (suc k) ds) (λ rest. Ok (first ∷ rest)) items more in
    let same : first ∷ rest ≡ items = cc in
    by n first rest (ap (λ xs. slice_get xs n) same ∙ at) one (λ m there. items_read tree version (suc k) ds rest others m item there) where
      by : (n : ℕ) (first : FaultItem) (rest : List FaultItem) → slice_get (first ∷ rest) n ≡ Some item → item_read tree version k d ≡ Ok first
          → ((m : ℕ) → slice_get rest m ≡ Some item → IsRead tree version item) → IsRead tree version item
      by zero first rest at one later = let same : first ≡ item = cc in subst (IsRead tree version) same (is_read tree version k d first one)
      by (suc n) first rest at one later = later n at

-- a file's version, and each of its items
record IsFileRead (tree : ServicesTree) (file : FaultFile) : Type 0 where
  version : IsVersion file.version
  items : (n : ℕ) (item : FaultItem) → slice_get file.items n ≡ Some item → IsRead tree file.version item

is_file_read : (tree : ServicesTree) (bytes : List ℕ) (file : FaultFile) → file_read tree bytes ≡ Ok file → IsFileRead tree file
unfolding file_read table_read
is_file_read tree bytes file is =
    let (given, a, first) = bound (ok_or (document_of bytes) NotToml) _ file is in
    let (table, b, second) = bound (table_with Top (UnknownKey 0) given) _ file first in
    let (version, c, third) = bound (version_read (get_member (codes "version") table)) _ file second in
    let (list, d, fourth) = bound (list_read (get_member (codes "fault") table)) _ file third in
    let (items, e, last) = bound (items_from tree version 1 list) _ file fourth in
    let same : record { version = version; items = items } ≡ file = cc in
    subst (IsFileRead tree) same (record { version = version_is (get_member (codes "version") table) version c; items = items_read tree version 1 list items e })

pub file_fits : (tree : ServicesTree) → ServicesJoin tree → TreesJoin tree → (bytes : List ℕ) (file : FaultFile) → file_read tree bytes ≡ Ok file → EachFits tree file.items
file_fits tree services_join trees_join bytes file is n item at =
    fits_methods tree services_join trees_join file.version item ((is_file_read tree bytes file is).items n item at)

pub file_of_version : (tree : ServicesTree) (bytes : List ℕ) (file : FaultFile) → file_read tree bytes ≡ Ok file → IsOfItsVersion file
file_of_version tree bytes file is =
    let read = is_file_read tree bytes file is in
    record { version = read.version; replies = λ n item at. (read.items n item at).of_version }

-- ---- choices

with_passes : (p : Reply → Bool) (known : List Reply) (given : Reply) → list_all p known ≡ true → p given ≡ true → list_all p (with_reply known given) ≡ true
with_passes p known given all one = by (list_any (same_reply given) known) where
  by : (b : Bool) → list_all p (cond b known (known ++ given ∷ [])) ≡ true
  by true = all
  by false = all_both p known (given ∷ []) all (all_more p given [] one refl)

once_passes : (p : Reply → Bool) (known rest : List Reply) → list_all p known ≡ true → list_all p rest ≡ true → list_all p (fold with_reply known rest) ≡ true
once_passes p known [] all more = all
once_passes p known (given ∷ rest) all more =
    let (one, others) = and_parts (p given) (list_all p rest) more in
    once_passes p (with_reply known given) rest (with_passes p known given all one) others

distinct_push : {A : Type 0} (xs : List A) (x : A) → AreDistinct xs → ¬ (Contains xs x) → AreDistinct (xs ++ x ∷ [])
distinct_push [] x differ new = (λ has. absurd (omega (arith, has.1)), tt)
distinct_push {A} (y ∷ xs) x differ new = (
  λ has. ⊎_elim differ.0 (λ last. new (0, omega arith, is_it last)) (Contains-append_cases xs (x ∷ []) y has),
  distinct_push xs x differ.1 (λ has. new (suc has.0, omega (arith, has.1), has.2)),
) where
  is_it : Contains (x ∷ []) y → y ≡ x
  is_it (zero, within, is) = sym is
  is_it (suc k, within, is) = absurd (omega (arith, within))

with_differs : (known : List Reply) (given : Reply) → AreDistinct known → AreDistinct (with_reply known given)
with_differs known given differ = by (list_any (same_reply given) known) refl where
  by : (b : Bool) → list_any (same_reply given) known ≡ b → AreDistinct (cond b known (known ++ given ∷ []))
  by true is = differ
  by false is = distinct_push known given differ (λ has. false≢true (sym is ∙ list_any-from_Contains same_reply_equiv given known has))

once_differ : (known rest : List Reply) → AreDistinct known → AreDistinct (fold with_reply known rest)
once_differ known [] differ = differ
once_differ known (given ∷ rest) differ = once_differ (with_reply known given) rest (with_differs known given differ)

abbrev fits_at : ServicesTree → ℕ → Reply → Bool
fits_at tree number = fits (slice_get (kinds_given tree)) (record { 0 = number })

choices_pass : (p : Reply → Bool) (name : MethodName) (items : List FaultItem)
    → ((n : ℕ) (item : FaultItem) → slice_get items n ≡ Some item → means item name ≡ true → list_all p item.replies ≡ true)
    → list_all p (choices_of items name) ≡ true
unfolding choices_of
choices_pass p name items each =
    once_passes p [] (flat_map (replies_for name) items) refl
    (all_flat p (replies_for name) items (λ k item is. by item (means item name) refl (each k item is))) where
      by : (item : FaultItem) (b : Bool) → means item name ≡ b → (means item name ≡ true → list_all p item.replies ≡ true)
          → list_all p (cond b item.replies []) ≡ true
      by item true is holds = holds is
      by item false is holds = refl

abbrev chosen : List FaultItem → Option Signature → List Reply
chosen items o = unwrap_or (option_map (λ (s : Signature). choices_of items s.name) o) []

choices_at : (tree : ServicesTree) (file : FaultFile) (method : MethodId) → choices_for (choice_table tree file) method ≡ chosen file.items (signature_at tree method.0)
unfolding choice_table
choices_at tree file method = ap (λ o. unwrap_or o []) (slice_get-map (λ (s : Signature). choices_of file.items s.name) (declarations_of tree).methods method.0)

chosen_fit : (tree : ServicesTree) (items : List FaultItem) → EachFits tree items → (method : MethodId) (given : Reply) (o : Option Signature) → signature_at tree method.0 ≡ o
    → Contains (chosen items o) given → fits (slice_get (kinds_given tree)) method given ≡ true
chosen_fit tree items each method given None at has = absurd (omega (arith, has.1))
chosen_fit tree items each method given (Some signature) at has =
    passes (fits (slice_get (kinds_given tree)) method) (choices_of items signature.name) given
    (choices_pass (fits_at tree method.0) signature.name items (λ n item is. each n item is method.0 signature at)) has

chosen_differ : (items : List FaultItem) (o : Option Signature) → AreDistinct (chosen items o)
unfolding choices_of
chosen_differ items None = tt
chosen_differ items (Some signature) = once_differ [] (flat_map (replies_for signature.name) items) tt

chosen_of_version : (version : ℕ) (items : List FaultItem)
    → ((n : ℕ) (item : FaultItem) → slice_get items n ≡ Some item → list_all (is_of_version version) item.replies ≡ true)
    → (o : Option Signature) (given : Reply) → Contains (chosen items o) given → is_of_version version given ≡ true
chosen_of_version version items each None given has = absurd (omega (arith, has.1))
chosen_of_version version items each (Some signature) given has =
    passes (is_of_version version) (choices_of items signature.name) given
    (choices_pass (is_of_version version) signature.name items (λ n item is meant. each n item is)) has

pub is_choice_table : (tree : ServicesTree) (file : FaultFile) → EachFits tree file.items → IsOfItsVersion file → IsChoiceTable (choice_table tree file)
unfolding choice_table
is_choice_table tree file each of_version = record {
  choices = record {
    fitting = λ method given has. chosen_fit tree file.items each method given (signature_at tree method.0) refl (subst (λ xs. Contains xs given) (choices_at tree file method) has);
    differ = λ method. subst AreDistinct (sym (choices_at tree file method)) (chosen_differ file.items (signature_at tree method.0));
  };
  counted = length-map (declarations_of tree).methods (λ (s : Signature). choices_of file.items s.name) ∙ length-signatures tree
      ∙ sym (length-map (methods_of tree) (λ (x : MethodTree). x.gives));
  version = of_version.version;
  values = λ method v has. (Decides-eqb file.version 2).0
      (chosen_of_version file.version file.items of_version.replies (signature_at tree method.0) (reply.Ok v) (subst (λ xs. Contains xs (reply.Ok v)) (choices_at tree file method) has));
}

-- ---- the table

pub table_is : (tree : ServicesTree) (file : FaultFile) (kinds : List Kind) (choices : List (List Reply)) → kinds ≡ kinds_given tree
    → choices ≡ map (λ (s : Signature). choices_of file.items s.name) (declarations_of tree).methods
    → record { version = file.version; kinds = kinds; choices = choices } ≡ choice_table tree file
unfolding choice_table
table_is tree file kinds choices first second = λ i. record { version = file.version; kinds = first i; choices = second i }

pub none_chosen : (tree : ServicesTree) (file : FaultFile) → file.items ≡ [] → (method : MethodId) → choices_for (choice_table tree file) method ≡ []
unfolding choices_of
none_chosen tree file none method = choices_at tree file method ∙ ap (λ items. chosen items (signature_at tree method.0)) none ∙ by (signature_at tree method.0) where
  by : (o : Option Signature) → chosen [] o ≡ []
  by None = refl
  by (Some signature) = refl
