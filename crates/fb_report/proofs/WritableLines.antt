-- Each line's JSON is read again.
use Rattle.std.proofs.Common.{◌≡◌, ℕ, suc, ◌^◌, ◌<◌, ℤ, pos, negsuc, Bool, true, false, ◌==◌, List, [], ◌∷◌, Option, Some, None, codes, refl, arith}
use Rattle.std.specs.Prelude.{FitsSigned, IfSome, if◌then◌else◌}
use Rattle.std.specs.Int.{w64}
use Rattle.std.specs.List.{All}
use Rattle.std.proofs.lemmas.List.Elements.{All-head, All-tail}
use Rattle.serde_json.specs.Data.{Data, boolean, number, string, object, member}
use Rattle.serde_json.specs.Find.{of_integer}
use Rattle.fb_base.specs.declared.items.Items.{Items}
use Rattle.fb_base.specs.declared.items.Items.TheVariants as items
use Rattle.fb_base.specs.declared.value.Value.{Value}
use Rattle.fb_base.specs.declared.value.Value.TheVariants as value
use Rattle.fb_base.specs.declared.reply.Reply.{Reply}
use Rattle.fb_base.specs.declared.reply.Reply.TheVariants as reply
use Rattle.fb_base.specs.Replies.{IsProperReply}
use Rattle.fb_base.specs.Text.{IsText}
use Rattle.fb_base.specs.Values.{IsProper, AreProper}
use Rattle.fb_report.specs.declared.line.Line.{Line}
use Rattle.fb_report.specs.declared.line.Line.TheVariants.{Header, Inv, Plan, End}
use Rattle.fb_report.specs.declared.named.NamedAsked.{NamedAsked}
use Rattle.fb_report.specs.Ranges.{IsLong, IsProperCall, IsProperLine}
use Rattle.fb_index.specs.Entry.{Occurrence}
use Rattle.fb_index.specs.Index.{IsIndex}
use Rattle.fb_tree.specs.declared.outcome.Outcome.{Outcome}
use Rattle.fb_report.specs.Trees.{index_tree, plan_tree, plan_members, faulted_index, faulted_reply, code_of, trees_of, items_tree, value_tree, reply_tree, call_tree, number_tree, optional_tree, line_tree}
use Rattle.fb_report.specs.Writable.{IsInteger, IsWritable, AreWritable}

pub trees-writable : {A : Type 0} (levels : ℕ) (Fits : A → Type 0) (tree : A → Data) → ((x : A) → Fits x → IsWritable levels (tree x)) → (xs : List A) → All Fits xs → AreWritable levels (trees_of tree xs)
trees-writable levels Fits tree each [] all = tt
trees-writable levels Fits tree each (x ∷ xs) all = (each x (All-head Fits x xs all), trees-writable levels Fits tree each xs (All-tail Fits x xs all))

int-writable : (n : ℤ) → FitsSigned w64 n → IsInteger (of_integer n)
int-writable (pos n) fits = omega (arith, fits)
int-writable (negsuc n) fits = omega (arith, fits)

items-writable : (levels : ℕ) (xs : Items) → AreProper xs → IsWritable (suc levels) (items_tree xs)
items-writable levels items.Empty h = tt
items-writable levels (items.Ints xs) h = trees-writable levels (FitsSigned w64) (λ n. number (of_integer n)) int-writable xs h.each
items-writable levels (items.Bools xs) h = trees-writable levels (λ _. Unit {0}) boolean (λ b u. tt) xs h.each
items-writable levels (items.Texts xs) h = trees-writable levels IsText string (λ s u. tt) xs h.each

pub value-writable : (levels : ℕ) (v : Value) → IsProper v → IsWritable (suc levels) (value_tree v)
value-writable levels (value.Int n) h = int-writable n h
value-writable levels (value.Bool b) h = tt
value-writable levels (value.Text bytes) h = tt
value-writable levels (value.List xs) h = items-writable levels xs h

pub reply-writable : (levels : ℕ) (r : Reply) → IsProperReply r → IsWritable (suc (suc levels)) (reply_tree r)
reply-writable levels (reply.Ok v) h = (refl, (value-writable levels v h, tt))
reply-writable levels (reply.Err code) h = (refl, (tt, tt))

long : (n : ℕ) → n < 2 ^ 32 → n < 2 ^ 64
long n small = omega arith

pub call-writable : (levels : ℕ) (asked : NamedAsked) → IsProperCall asked → IsWritable (suc (suc (suc levels))) (call_tree asked)
call-writable levels asked h =
    let entry = h.entry in
    (refl, (trees-writable (suc levels) IsProper value_tree (value-writable levels) asked.args h.args, (tt, (omega (arith, entry), (reply-writable levels asked.reply h.reply, (omega (arith, entry), tt))))))

optional-number : (levels : ℕ) (n : Option ℕ) → IfSome n IsLong → IsWritable levels (optional_tree number_tree n)
optional-number levels None h = tt
optional-number levels (Some n) h = h

optional-free : {A : Type 0} (levels : ℕ) (tree : A → Data) → ((x : A) → IsWritable levels (tree x)) → (o : Option A) → IsWritable levels (optional_tree tree o)
optional-free levels tree each None = tt
optional-free levels tree each (Some x) = each x

optional-reply : (levels : ℕ) (fault : Option (List Occurrence × Reply)) → IfSome fault (λ f. IsIndex f.0 × IsProperReply f.1)
    → IsWritable (suc (suc levels)) (optional_tree reply_tree (faulted_reply fault))
optional-reply levels None h = tt
optional-reply levels (Some fault) h = reply-writable levels fault.1 h.1

-- the plan line's object, by which key comes first
plan-writable : (two : Bool) (id : ℕ) (parent : Option ℕ) (fault : Option (List Occurrence × Reply)) (run : Bool) (uses : List ℕ) (outcome : Outcome) → IsLong id → IfSome parent IsLong
    → IfSome fault (λ f. IsIndex f.0 × IsProperReply f.1) → All IsLong uses
    → IsWritable 127 (object (member (if two then codes "fault" else codes "code")
    (if two then optional_tree reply_tree (faulted_reply fault) else optional_tree string (code_of (faulted_reply fault)))
    (plan_members id parent (faulted_index fault) run uses outcome)))
plan-writable true id parent fault run uses outcome long above given all =
    (refl, (optional-reply 124 fault given, (long, (optional-free 126 index_tree (λ i. tt) (faulted_index fault), (tt, (tt, (optional-number 126 parent above, (tt, (trees-writable 125 IsLong number_tree (λ n h. h) uses all, tt)))))))))
plan-writable false id parent fault run uses outcome long above given all =
    (refl, (optional-free 126 string (λ s. tt) (code_of (faulted_reply fault)), (long, (optional-free 126 index_tree (λ i. tt) (faulted_index fault), (tt, (tt, (optional-number 126 parent above, (tt, (trees-writable 125 IsLong number_tree (λ n h. h) uses all, tt)))))))))

pub line-writable : (line : Line) → IsProperLine line → IsWritable 127 (line_tree line)
unfolding line_tree IsProperLine
line-writable (Header version fuel reduction) h = (refl, (h.1, (tt, (tt, (long version h.0, tt)))))
line-writable (Inv id plan made) h =
    let parts = h.2 in (
      refl,
      (
        trees-writable 125 IsProper value_tree (value-writable 124) made.args parts.args,
        (
          trees-writable 125 IsProperCall call_tree (call-writable 122) made.calls parts.calls,
          (h.0, (tt, (tt, (h.1, (reply-writable 124 made.reply parts.reply, (parts.steps, tt)))))),
        ),
      ),
    )
line-writable (Plan version id parent fault run uses outcome) h =
    plan-writable (version == 2) id parent fault run uses outcome h.id_fits h.parent_fits h.fault_fits h.uses_fits
line-writable (End cause plans run pruned failed invs stopped) h =
    (refl, (tt, (h.failed_fits, (h.invs_fits, (tt, (h.plans_fits, (h.pruned_fits, (h.run_fits, (optional-free 126 plan_tree (λ p. tt) stopped, tt)))))))))
