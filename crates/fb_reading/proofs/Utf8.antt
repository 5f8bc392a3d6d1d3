-- What is written of a line is UTF-8.
use Rattle.std.proofs.Common.{◌≡◌, ℕ, suc, ◌^◌, ◌<◌, ℤ, pos, negsuc, Bool, true, false, ◌==◌, List, [], ◌∷◌, map, Option, Some, None, decimal, codes, IsUtf8, refl, arith, ltb-true}
use Rattle.std.specs.Prelude.{FitsSigned, IfSome, if◌then◌else◌}
use Rattle.std.specs.Fmt.{signed_decimal}
use Rattle.std.specs.Int.{w64}
use Rattle.std.specs.List.{All, join_with_byte}
use Rattle.std.proofs.lemmas.Bool.{and_parts}
use Rattle.std.proofs.lemmas.Fmt.{IsAscii-decimal}
use Rattle.std.proofs.lemmas.List.Elements.{All-head, All-tail}
use Rattle.std.proofs.lemmas.Str.{IsUtf8-append, IsUtf8-from_ascii, IsUtf8-nil}
use Rattle.std.proofs.lemmas.Str.Ascii.{IsAscii-cons, IsAscii-nil}
use Rattle.std.specs.Str.{IsAscii}
use Rattle.hex.specs.Hex.{lower_digits}
use Rattle.hex.proofs.HexLemmas.{IsAscii-encode_with}
use Rattle.json.proofs.Printed.Utf8.{are_ascii, IsUtf8-are_ascii, IsUtf8-quoted, IsUtf8-boolean}
use Rattle.serde_json.specs.Data.{Data, null, boolean, number, string, array, object, Items, no_items, item, Members, no_members, member}
use Rattle.serde_json.specs.Find.{of_integer}
use Rattle.serde_json.specs.Written.{comma_if, compact_text, items_text, members_text, number_text}
use Rattle.fb_base.specs.declared.items.Items.{Items as ItemsOf}
use Rattle.fb_base.specs.declared.items.Items.TheVariants as items
use Rattle.fb_base.specs.declared.method.MethodName.{MethodName}
use Rattle.fb_base.specs.declared.value.Value.{Value}
use Rattle.fb_base.specs.declared.value.Value.TheVariants as value
use Rattle.fb_base.specs.declared.reply.Reply.{Reply}
use Rattle.fb_base.specs.declared.reply.Reply.TheVariants as reply
use Rattle.fb_base.specs.Replies.{IsProperReply}
use Rattle.fb_base.specs.Text.{IsText}
use Rattle.fb_base.specs.Values.{IsProper, AreProper}
use Rattle.fb_base.proofs.Names.{IsName-utf8}
use Rattle.fb_index.specs.Entry.{Occurrence, IsEntry, entry_text}
use Rattle.fb_index.specs.Fault.{IsFault, fault_text}
use Rattle.fb_index.specs.Index.{IsIndex, index_text}
use Rattle.fb_index.specs.Plan.{IsPlan, plan_text}
use Rattle.fb_index.specs.Spelling.{int_spelling, bool_spelling, text_spelling, items_spelling, value_spelling, reply_text}
use Rattle.fb_index.specs.declared.fault.Fault.{Fault}
use Rattle.fb_tree.specs.declared.outcome.Outcome.{Outcome}
use Rattle.fb_tree.specs.declared.outcome.Outcome.TheVariants as outcome
use Rattle.fb_report.specs.declared.line.Cause.{Cause}
use Rattle.fb_report.specs.declared.line.Cause.TheVariants as cause
use Rattle.fb_report.specs.declared.line.Line.{Line}
use Rattle.fb_report.specs.declared.line.Line.TheVariants.{Header, Inv, Plan, End}
use Rattle.fb_report.specs.declared.named.NamedAsked.{NamedAsked}
use Rattle.fb_report.specs.Bytes.{line_text}
use Rattle.fb_report.specs.Ranges.{IsLong, IsMethodName, IsProperCall, IsProperOutcome, IsProperLine}
use Rattle.fb_report.specs.Trees.{trees_of, items_tree, value_tree, reply_tree, method_text, call_tree, outcome_text, cause_text, optional_tree, number_tree, index_tree, plan_tree, plan_members, code_of, faulted_index, faulted_reply, line_tree}

-- ---- trees

-- its keys, its texts and its numbers are spelled in UTF-8
abbrev mutual
  IsSpelled : Data → Type 0
  IsSpelled null = Unit {0}
  IsSpelled (boolean b) = Unit {0}
  IsSpelled (number n) = IsUtf8 (number_text n)
  IsSpelled (string s) = IsUtf8 s
  IsSpelled (array ds) = AreSpelled ds
  IsSpelled (object ms) = HoldSpelled ms

  AreSpelled : Items → Type 0
  AreSpelled no_items = Unit {0}
  AreSpelled (item d ds) = IsSpelled d × AreSpelled ds

  HoldSpelled : Members → Type 0
  HoldSpelled no_members = Unit {0}
  HoldSpelled (member k d ms) = (are_ascii k ≡ true) × IsSpelled d × HoldSpelled ms

behind : (sign : ℕ) (bytes : List ℕ) → IsUtf8 (sign ∷ []) → IsUtf8 bytes → IsUtf8 (sign ∷ bytes)
behind sign bytes one rest = IsUtf8-append (sign ∷ []) bytes one rest

comma-spelled : (later : Bool) → IsUtf8 (comma_if later)
comma-spelled true = IsUtf8-are_ascii (44 ∷ []) refl
comma-spelled false = IsUtf8-nil

mutual
  tree-utf8 : (d : Data) → IsSpelled d → IsUtf8 (compact_text d)
  tree-utf8 null h = IsUtf8-are_ascii _ refl
  tree-utf8 (boolean b) h = IsUtf8-boolean b
  tree-utf8 (number n) h = h
  tree-utf8 (string s) h = IsUtf8-quoted s h
  tree-utf8 (array ds) h = behind 91 _ (IsUtf8-are_ascii _ refl) (items-utf8 false ds h)
  tree-utf8 (object ms) h = behind 123 _ (IsUtf8-are_ascii _ refl) (members-utf8 false ms h)

  items-utf8 : (later : Bool) (ds : Items) → AreSpelled ds → IsUtf8 (items_text later ds)
  items-utf8 later no_items h = IsUtf8-are_ascii (93 ∷ []) refl
  items-utf8 later (item d ds) h = IsUtf8-append _ _ (comma-spelled later) (IsUtf8-append _ _ (tree-utf8 d h.0) (items-utf8 true ds h.1))

  members-utf8 : (later : Bool) (ms : Members) → HoldSpelled ms → IsUtf8 (members_text later ms)
  members-utf8 later no_members h = IsUtf8-are_ascii (125 ∷ []) refl
  members-utf8 later (member k d ms) h =
      IsUtf8-append _ _ (comma-spelled later)
      (IsUtf8-append _ _ (IsUtf8-quoted k (IsUtf8-are_ascii k h.0)) (behind 58 _ (IsUtf8-are_ascii _ refl) (IsUtf8-append _ _ (tree-utf8 d h.1) (members-utf8 true ms h.2))))

-- ---- numbers, names and the texts of indexes and plans

number-utf8 : (n : ℕ) → n < 2 ^ 64 → IsUtf8 (decimal n)
number-utf8 n fits = IsUtf8-from_ascii (decimal n) (IsAscii-decimal n fits)

signed-utf8 : (n : ℤ) → FitsSigned w64 n → IsUtf8 (signed_decimal n)
signed-utf8 (pos n) fits = number-utf8 n (omega (arith, fits))
signed-utf8 (negsuc n) fits = behind 45 _ (IsUtf8-are_ascii _ refl) (number-utf8 (suc n) (omega (arith, fits)))

int-utf8 : (n : ℤ) → FitsSigned w64 n → IsUtf8 (number_text (of_integer n))
int-utf8 (pos n) fits = number-utf8 n (omega (arith, fits))
int-utf8 (negsuc n) fits = signed-utf8 (negsuc n) fits

method-utf8 : (name : MethodName) → IsMethodName name → IsUtf8 (method_text name)
method-utf8 name is = IsUtf8-append _ _ (IsName-utf8 _ is.0) (behind 46 _ (IsUtf8-are_ascii _ refl) (IsName-utf8 _ is.1))

outcome-utf8 : (o : Outcome) → IsProperOutcome o → IsUtf8 (outcome_text o)
outcome-utf8 outcome.Passed is = IsUtf8-are_ascii _ refl
outcome-utf8 (outcome.AssertFailed n) is = IsUtf8-append (codes "assert_failed ") _ (IsUtf8-are_ascii _ refl) (number-utf8 n (omega (arith, is)))
outcome-utf8 (outcome.CallFailed site code) is =
    IsUtf8-append (codes "call_failed ") _ (IsUtf8-are_ascii _ refl)
    (IsUtf8-append _ _ (number-utf8 site (omega (arith, is.0))) (behind 32 _ (IsUtf8-are_ascii _ refl) (IsName-utf8 code is.1)))
outcome-utf8 (outcome.Fault n) is = IsUtf8-append (codes "fault ") _ (IsUtf8-are_ascii _ refl) (number-utf8 n (omega (arith, is)))

cause-utf8 : (c : Cause) → IsUtf8 (cause_text c)
cause-utf8 cause.Completed = IsUtf8-are_ascii _ refl
cause-utf8 cause.Fuel = IsUtf8-are_ascii _ refl
cause-utf8 cause.Budget = IsUtf8-are_ascii _ refl

joined-utf8 : {A : Type 0} (Fits : A → Type 0) (text : A → List ℕ) (sign : ℕ) → IsUtf8 (sign ∷ []) → ((x : A) → Fits x → IsUtf8 (text x)) → (xs : List A) → All Fits xs → IsUtf8 (join_with_byte sign (map text xs))
joined-utf8 Fits text sign one each [] all = IsUtf8-nil
joined-utf8 Fits text sign one each (x ∷ []) all = each x (All-head Fits x [] all)
joined-utf8 Fits text sign one each (x ∷ y ∷ xs) all =
    IsUtf8-append _ _ (each x (All-head Fits x (y ∷ xs) all)) (behind sign _ one (joined-utf8 Fits text sign one each (y ∷ xs) (All-tail Fits x (y ∷ xs) all)))

entry-utf8 : (entry : Occurrence) → IsEntry entry → IsUtf8 (entry_text entry)
entry-utf8 entry is =
    IsUtf8-append _ _ (number-utf8 entry.site (omega (arith, is.0))) (behind 46 _ (IsUtf8-are_ascii _ refl) (number-utf8 entry.count (omega (arith, is.1))))

index-utf8 : (index : List Occurrence) → IsIndex index → IsUtf8 (index_text index)
index-utf8 index is = joined-utf8 IsEntry entry_text 47 (IsUtf8-are_ascii _ refl) entry-utf8 index is

bool-utf8 : (b : Bool) → IsUtf8 (bool_spelling b)
bool-utf8 true = IsUtf8-are_ascii _ refl
bool-utf8 false = IsUtf8-are_ascii _ refl

ascii-by : (bytes : List ℕ) → are_ascii bytes ≡ true → IsAscii bytes
ascii-by [] all = IsAscii-nil
ascii-by (b ∷ bytes) all =
    let parts = and_parts _ _ all in
    IsAscii-cons b bytes (ltb-true b 128 parts.0) (ascii-by bytes parts.1)

digits-ascii : IsAscii lower_digits
digits-ascii = ascii-by lower_digits refl

text-utf8 : (bytes : List ℕ) → IsUtf8 (text_spelling bytes)
text-utf8 bytes = behind 120 _ (IsUtf8-are_ascii _ refl) (IsUtf8-from_ascii _ (IsAscii-encode_with _ bytes digits-ascii))

items-spelled : (xs : ItemsOf) → AreProper xs → IsUtf8 (items_spelling xs)
items-spelled items.Empty is = IsUtf8-nil
items-spelled (items.Ints xs) is = joined-utf8 (FitsSigned w64) int_spelling 59 (IsUtf8-are_ascii _ refl) signed-utf8 xs is.each
items-spelled (items.Bools xs) is = joined-utf8 (λ _. Unit {0}) bool_spelling 59 (IsUtf8-are_ascii _ refl) (λ b u. bool-utf8 b) xs is.each
items-spelled (items.Texts xs) is = joined-utf8 IsText text_spelling 59 (IsUtf8-are_ascii _ refl) (λ s u. text-utf8 s) xs is.each

value-spelled : (v : Value) → IsProper v → IsUtf8 (value_spelling v)
value-spelled (value.Int n) is = signed-utf8 n is
value-spelled (value.Bool b) is = bool-utf8 b
value-spelled (value.Text bytes) is = text-utf8 bytes
value-spelled (value.List xs) is = behind 91 _ (IsUtf8-are_ascii _ refl) (IsUtf8-append _ _ (items-spelled xs is) (IsUtf8-are_ascii (93 ∷ []) refl))

reply-spelled : (r : Reply) → IsProperReply r → IsUtf8 (reply_text r)
reply-spelled (reply.Ok v) is = IsUtf8-append (codes "ok:") _ (IsUtf8-are_ascii _ refl) (value-spelled v is)
reply-spelled (reply.Err code) is = IsName-utf8 code is

fault-utf8 : (fault : Fault) → IsFault fault → IsUtf8 (fault_text fault)
fault-utf8 fault is = IsUtf8-append _ _ (index-utf8 fault.index is.0) (behind 61 _ (IsUtf8-are_ascii _ refl) (reply-spelled fault.reply is.1))

plan-utf8 : (plan : List Fault) → IsPlan plan → IsUtf8 (plan_text plan)
plan-utf8 [] is = IsUtf8-are_ascii _ refl
plan-utf8 (fault ∷ faults) is = joined-utf8 IsFault fault_text 44 (IsUtf8-are_ascii _ refl) fault-utf8 (fault ∷ faults) is

-- ---- the parts of lines

trees-spelled : {A : Type 0} (Fits : A → Type 0) (tree : A → Data) → ((x : A) → Fits x → IsSpelled (tree x)) → (xs : List A) → All Fits xs → AreSpelled (trees_of tree xs)
trees-spelled Fits tree each [] all = tt
trees-spelled Fits tree each (x ∷ xs) all = (each x (All-head Fits x xs all), trees-spelled Fits tree each xs (All-tail Fits x xs all))

optional-spelled : {A : Type 0} (Fits : A → Type 0) (tree : A → Data) → ((x : A) → Fits x → IsSpelled (tree x)) → (o : Option A) → IfSome o Fits → IsSpelled (optional_tree tree o)
optional-spelled Fits tree each None fits = tt
optional-spelled Fits tree each (Some x) fits = each x fits

list-spelled : (xs : ItemsOf) → AreProper xs → IsSpelled (items_tree xs)
list-spelled items.Empty is = tt
list-spelled (items.Ints xs) is = trees-spelled (FitsSigned w64) (λ n. number (of_integer n)) int-utf8 xs is.each
list-spelled (items.Bools xs) is = trees-spelled (λ _. Unit {0}) boolean (λ b u. tt) xs is.each
list-spelled (items.Texts xs) is = trees-spelled IsText string (λ s h. h.0) xs is.each

value-is : (v : Value) → IsProper v → IsSpelled (value_tree v)
value-is (value.Int n) is = int-utf8 n is
value-is (value.Bool b) is = tt
value-is (value.Text bytes) is = is.0
value-is (value.List xs) is = list-spelled xs is

reply-is : (r : Reply) → IsProperReply r → IsSpelled (reply_tree r)
reply-is (reply.Ok v) is = (refl, value-is v is, tt)
reply-is (reply.Err code) is = (refl, IsName-utf8 code is, tt)

call-is : (asked : NamedAsked) → IsProperCall asked → IsSpelled (call_tree asked)
call-is asked is =
    let entry = is.entry in
    let count = number-utf8 asked.entry.count (omega (arith, entry)) in
    let site = number-utf8 asked.entry.site (omega (arith, entry)) in
    let args = trees-spelled IsProper value_tree value-is asked.args is.args in
    (refl, args, (refl, method-utf8 asked.callee is.callee, (refl, count, (refl, reply-is asked.reply is.reply, (refl, site, tt)))))

-- ---- lines

plan-members : (id : ℕ) (parent : Option ℕ) (fault : Option (List Occurrence × Reply)) (run : Bool) (uses : List ℕ) (outcome : Outcome) → IsLong id → IfSome parent IsLong
    → IfSome fault (λ f. IsIndex f.0 × IsProperReply f.1) → All IsLong uses → IsProperOutcome outcome → HoldSpelled (plan_members id parent (faulted_index fault) run uses outcome)
plan-members id parent fault run uses outcome long above given all ends =
    let index = faulted-index fault given in
    let parents = optional-spelled IsLong number_tree number-utf8 parent above in
    let numbers = trees-spelled IsLong number_tree number-utf8 uses all in
    (refl, number-utf8 id long, (refl, index, (refl, IsUtf8-are_ascii _ refl, (refl, outcome-utf8 outcome ends, (refl, parents, (refl, tt, (refl, numbers, tt)))))))
  where
    faulted-index : (f : Option (List Occurrence × Reply)) → IfSome f (λ g. IsIndex g.0 × IsProperReply g.1) → IsSpelled (optional_tree index_tree (faulted_index f))
    faulted-index None h = tt
    faulted-index (Some f) h = index-utf8 f.0 h.0

faulted-reply : (f : Option (List Occurrence × Reply)) → IfSome f (λ g. IsIndex g.0 × IsProperReply g.1) → IsSpelled (optional_tree reply_tree (faulted_reply f))
faulted-reply None h = tt
faulted-reply (Some f) h = reply-is f.1 h.1

faulted-code : (f : Option (List Occurrence × Reply)) → IfSome f (λ g. IsIndex g.0 × IsProperReply g.1) → IsSpelled (optional_tree string (code_of (faulted_reply f)))
faulted-code None h = tt
faulted-code (Some (index, reply.Ok v)) h = tt
faulted-code (Some (index, reply.Err code)) h = IsName-utf8 code h.1

-- a plan line's object, by which key comes first
plan-object : (two : Bool) (fault : Option (List Occurrence × Reply)) (ms : Members) → IfSome fault (λ f. IsIndex f.0 × IsProperReply f.1) → HoldSpelled ms
    → IsSpelled (object (member (if two then codes "fault" else codes "code")
    (if two then optional_tree reply_tree (faulted_reply fault) else optional_tree string (code_of (faulted_reply fault))) ms))
plan-object true fault ms given rest = (refl, faulted-reply fault given, rest)
plan-object false fault ms given rest = (refl, faulted-code fault given, rest)

line-is : (line : Line) → IsProperLine line → IsSpelled (line_tree line)
unfolding line_tree IsProperLine
line-is (Header version fuel reduction) h =
    let spelled = number-utf8 version (omega (arith, h.0)) in
    (refl, number-utf8 fuel h.1, (refl, IsUtf8-are_ascii _ refl, (refl, tt, (refl, spelled, tt))))
line-is (Inv id plan made) h =
    let parts = h.2 in
    let args = trees-spelled IsProper value_tree value-is made.args parts.args in
    let calls = trees-spelled IsProperCall call_tree call-is made.calls parts.calls in
    (refl, args, (refl, calls, (refl, number-utf8 id h.0, (refl, IsUtf8-are_ascii _ refl, (refl, method-utf8 made.method parts.method, (refl, number-utf8 plan h.1, (refl, reply-is made.reply parts.reply, (refl, number-utf8 made.steps parts.steps, tt))))))))
line-is (Plan version id parent fault run uses outcome) h =
    plan-object (version == 2) fault (plan_members id parent (faulted_index fault) run uses outcome) h.fault_fits (plan-members id parent fault run uses outcome h.id_fits h.parent_fits h.fault_fits h.uses_fits h.outcome_fits)
line-is (End cause plans run pruned failed invs stopped) h =
    let plan = optional-spelled IsPlan plan_tree plan-utf8 stopped h.stopped_fits in
    (refl, cause-utf8 cause, (refl, number-utf8 failed h.failed_fits, (refl, number-utf8 invs h.invs_fits, (refl, IsUtf8-are_ascii _ refl, (refl, number-utf8 plans h.plans_fits, (refl, number-utf8 pruned h.pruned_fits, (refl, number-utf8 run h.run_fits, (refl, plan, tt))))))))

pub line-utf8 : (line : Line) → IsProperLine line → IsUtf8 (line_text line)
line-utf8 line proper = tree-utf8 (line_tree line) (line-is line proper)
