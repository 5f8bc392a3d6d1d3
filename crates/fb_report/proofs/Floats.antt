-- No line has a float.
use Rattle.std.proofs.Common.{◌≡◌, ℕ, ℤ, pos, negsuc, Bool, true, false, ◌||◌, ◌==◌, List, [], ◌∷◌, Option, Some, None, refl}
use Rattle.std.specs.Prelude.{if◌then◌else◌}
use Rattle.serde_json.specs.Data.{Data, boolean, number, string}
use Rattle.serde_json.specs.Find.{of_integer}
use Rattle.serde_json.specs.Written.{has_float, items_have_float}
use Rattle.fb_base.specs.declared.items.Items.{Items}
use Rattle.fb_base.specs.declared.items.Items.TheVariants as items
use Rattle.fb_base.specs.declared.value.Value.{Value}
use Rattle.fb_base.specs.declared.value.Value.TheVariants as value
use Rattle.fb_base.specs.declared.reply.Reply.{Reply}
use Rattle.fb_base.specs.declared.reply.Reply.TheVariants as reply
use Rattle.fb_report.specs.declared.line.Line.{Line}
use Rattle.fb_report.specs.declared.line.Line.TheVariants.{Header, Inv, Plan, End}
use Rattle.fb_report.specs.declared.named.NamedAsked.{NamedAsked}
use Rattle.fb_report.specs.Trees.{trees_of, items_tree, value_tree, reply_tree, call_tree, optional_tree, code_of, faulted_index, faulted_reply, fault_tree, index_tree, number_tree, plan_tree, line_tree}

pub trees-whole : {A : Type 0} (tree : A → Data) → ((x : A) → has_float (tree x) ≡ false) → (xs : List A) → items_have_float (trees_of tree xs) ≡ false
trees-whole tree whole [] = refl
trees-whole tree whole (x ∷ xs) = rw (whole x) (trees-whole tree whole xs)

pub int-whole : (n : ℤ) → has_float (number (of_integer n)) ≡ false
int-whole (pos n) = refl
int-whole (negsuc n) = refl

pub items-whole : (xs : Items) → has_float (items_tree xs) ≡ false
items-whole items.Empty = refl
items-whole (items.Ints xs) = trees-whole _ int-whole xs
items-whole (items.Bools xs) = trees-whole boolean (λ b. refl) xs
items-whole (items.Texts xs) = trees-whole string (λ s. refl) xs

pub value-whole : (v : Value) → has_float (value_tree v) ≡ false
value-whole (value.Int n) = int-whole n
value-whole (value.Bool b) = refl
value-whole (value.Text bytes) = refl
value-whole (value.List xs) = items-whole xs

pub reply-whole : (r : Reply) → has_float (reply_tree r) ≡ false
reply-whole (reply.Ok v) = rw (value-whole v) refl
reply-whole (reply.Err code) = refl

call-whole : (asked : NamedAsked) → has_float (call_tree asked) ≡ false
call-whole asked = rw (trees-whole value_tree value-whole asked.args, reply-whole asked.reply) refl

optional-whole : {A : Type 0} (tree : A → Data) → ((x : A) → has_float (tree x) ≡ false) → (o : Option A) → has_float (optional_tree tree o) ≡ false
optional-whole tree whole None = refl
optional-whole tree whole (Some x) = whole x

either-whole : (b : Bool) (d e : Data) → has_float d ≡ false → has_float e ≡ false → has_float (if b then d else e) ≡ false
either-whole true d e first second = first
either-whole false d e first second = second

fault-whole : (version : ℕ) (r : Option Reply) → has_float (fault_tree version r) ≡ false
fault-whole version r = either-whole (version == 2) _ _ (optional-whole reply_tree reply-whole r) (optional-whole string (λ s. refl) (code_of r))

pub line_whole : (line : Line) → has_float (line_tree line) ≡ false
unfolding line_tree
line_whole (Header version fuel reduction) = refl
line_whole (Inv id plan made) =
    rw (trees-whole value_tree value-whole made.args, trees-whole call_tree call-whole made.calls, reply-whole made.reply) refl
line_whole (Plan version id parent fault run uses outcome) =
    rw (
      fault-whole version (faulted_reply fault),
      optional-whole index_tree (λ i. refl) (faulted_index fault),
      optional-whole number_tree (λ n. refl) parent,
      trees-whole number_tree (λ n. refl) uses,
    ) refl
line_whole (End cause plans run pruned failed invs stopped) = rw (optional-whole plan_tree (λ p. refl) stopped) refl
