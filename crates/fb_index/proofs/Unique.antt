-- No two lists have one text.
use Rattle.std.proofs.Common.{◌≡◌, ℕ, List, [], ◌∷◌, ◌++◌, inl, inr, refl, ap, sym, ◌∙◌, arith, append_assoc}
use Rattle.std.specs.Prelude.{codes}
use Rattle.std.specs.Fmt.{decimal}
use Rattle.std.proofs.lemmas.Fmt.{decimal_injective}
use Rattle.std.proofs.lemmas.List.{append_cancel_left}
use Rattle.fb_base.specs.Name.{IsName}
use Rattle.fb_base.specs.Replies.{IsProperReply}
use Rattle.fb_base.specs.declared.reply.Reply.{Reply}
use Rattle.fb_base.specs.declared.reply.Reply.TheVariants as reply
use Rattle.fb_index.specs.Fault.{IsFault, fault_text}
use Rattle.fb_index.specs.Plan.{IsPlan, plan_text}
use Rattle.fb_index.specs.Spelling.{reply_text, value_spelling}
use Rattle.fb_index.specs.declared.fault.Fault.{Fault}
use Rattle.fb_index.proofs.ListValues.{value-free, value-unique}
use Rattle.fb_index.specs.Entry.{Occurrence, IsEntry, IsNumber, entry_text}
use Rattle.fb_index.specs.Index.{IsIndex, index_text}
use Rattle.fb_index.specs.Reading.{number_automaton, code_automaton, entry_automaton, index_automaton}
use Rattle.fb_index.proofs.Automata.{IsSilent}
use Rattle.fb_index.proofs.Lists.{AreItems}
use Rattle.fb_index.proofs.Free.{taken-free, split-same, no-split, joined-unique, IsFree-append}
use Rattle.fb_index.specs.Pieces.{IsFree}
use Rattle.fb_index.proofs.Numbers.{number-spells}
use Rattle.fb_index.proofs.Codes.{code-spells}
use Rattle.fb_index.proofs.Texts.{entry-spells, index-spells, entry-silent, index-silent, code-silent, colon-silent}

-- ---- entries and indexes

number-free : (n : ℕ) → IsNumber n → IsFree 46 (decimal n)
number-free n is = taken-free number_automaton 46 (λ _. refl) 0 (decimal n) (number-spells.accepts (decimal n) (n, is, refl)).all

entry-free : (e : Occurrence) → IsEntry e → IsFree 47 (entry_text e)
entry-free e is = taken-free entry_automaton 47 entry-silent (inl 0) (entry_text e) (entry-spells.accepts (entry_text e) (e, is, refl)).all

entry-unique : (a b : Occurrence) → IsEntry a → IsEntry b → entry_text a ≡ entry_text b → a ≡ b
entry-unique a b is_a is_b same =
    let parts = split-same 46 (decimal a.site) (decimal b.site) _ _ (number-free a.site is_a.0) (number-free b.site is_b.0) same in
    let site = decimal_injective a.site b.site (omega arith) (omega arith) parts.0 in
    let count = decimal_injective a.count b.count (omega arith) (omega arith) parts.1 in
    (λ i. record { site = site i; count = count i })

-- a text that has entries isn't empty
pub index-some : (e : Occurrence) (index : List Occurrence) → [] ≡ index_text (e ∷ index) → ⊥
index-some e [] same = no-split 46 [] (decimal e.site) (decimal e.count) tt same
index-some e (next ∷ index) same = no-split 47 [] (entry_text e) (index_text (next ∷ index)) tt same

pub index-unique : (a b : List Occurrence) → IsIndex a → IsIndex b → index_text a ≡ index_text b → a ≡ b
index-unique [] [] is_a is_b same = refl
index-unique [] (e ∷ b) is_a is_b same = absurd (index-some e b same)
index-unique (e ∷ a) [] is_a is_b same = absurd (index-some e a (sym same))
index-unique (e ∷ a) (f ∷ b) is_a is_b same =
    joined-unique 47 entry_text IsEntry entry-free entry-unique (e ∷ a) (f ∷ b) (omega arith) (omega arith) is_a is_b same

-- ---- replies

code-free : (code : List ℕ) → IsName code → IsFree 44 code
code-free code named = taken-free code_automaton 44 code-silent 0 code (code-spells.accepts code named).all

pub code-no-colon : (code : List ℕ) → IsName code → IsFree 58 code
code-no-colon code named = taken-free code_automaton 58 colon-silent 0 code (code-spells.accepts code named).all

ok-free : (bytes : List ℕ) → IsFree 44 bytes → IsFree 44 (codes "ok:" ++ bytes)
ok-free bytes free = ((λ same. omega (arith, same)), ((λ same. omega (arith, same)), ((λ same. omega (arith, same)), free)))

reply-free : (r : Reply) → IsProperReply r → IsFree 44 (reply_text r)
reply-free (reply.Ok v) is = ok-free (value_spelling v) (value-free v is)
reply-free (reply.Err code) is = code-free code is

-- no code begins with `ok:`
pub no-code : (code bytes : List ℕ) → IsName code → code ≡ codes "ok:" ++ bytes → ⊥
no-code code bytes named same = no-split 58 code (codes "ok") bytes (code-no-colon code named) same

reply-unique : (a b : Reply) → IsProperReply a → IsProperReply b → reply_text a ≡ reply_text b → a ≡ b
reply-unique (reply.Ok v) (reply.Ok w) is_a is_b same =
    ap reply.Ok (value-unique v w is_a is_b (append_cancel_left (codes "ok:") (value_spelling v) (value_spelling w) same))
reply-unique (reply.Ok v) (reply.Err code) is_a is_b same = absurd (no-code code (value_spelling v) is_b (sym same))
reply-unique (reply.Err code) (reply.Ok w) is_a is_b same = absurd (no-code code (value_spelling w) is_a same)
reply-unique (reply.Err code) (reply.Err other) is_a is_b same = ap reply.Err same

-- ---- faults and plans

pub index-free : (sign : ℕ) → IsSilent index_automaton sign → (index : List Occurrence) → IsIndex index → IsFree sign (index_text index)
index-free sign silent [] is = tt
index-free sign silent (e ∷ index) is =
    let whole : AreItems IsEntry (e ∷ index) = record { some = omega arith; each = is } in
    taken-free index_automaton sign silent (inl 0) (index_text (e ∷ index)) (index-spells.accepts _ (e ∷ index, whole, refl)).all

comma-silent : IsSilent index_automaton 44
comma-silent (inl q) = refl
comma-silent (inr q) = refl

-- an index, and what stands behind `=`
pub index-split : (a b : List Occurrence) (r s : List ℕ) → IsIndex a → IsIndex b → index_text a ++ 61 ∷ r ≡ index_text b ++ 61 ∷ s →
    (index_text a ≡ index_text b) × (r ≡ s)
index-split a b r s is_a is_b same =
    split-same 61 (index_text a) (index_text b) r s (index-free 61 index-silent a is_a) (index-free 61 index-silent b is_b) same

pub fault-free : (f : Fault) → IsFault f → IsFree 44 (fault_text f)
fault-free f is =
    IsFree-append 44 (index_text f.index) (61 ∷ reply_text f.reply) (index-free 44 comma-silent f.index is.0)
    ((λ same. omega (arith, same)), reply-free f.reply is.1)

fault-unique : (a b : Fault) → IsFault a → IsFault b → fault_text a ≡ fault_text b → a ≡ b
fault-unique a b is_a is_b same =
    let parts = index-split a.index b.index _ _ is_a.0 is_b.0 same in
    let index = index-unique a.index b.index is_a.0 is_b.0 parts.0 in
    let reply = reply-unique a.reply b.reply is_a.1 is_b.1 parts.1 in
    (λ i. record { index = index i; reply = reply i })

-- `none` has no `=`, which a fault has
none-free : IsFree 61 (codes "none")
none-free = ((λ same. cc), ((λ same. cc), ((λ same. cc), ((λ same. cc), tt))))

plan-some : (f : Fault) (plan : List Fault) → codes "none" ≡ plan_text (f ∷ plan) → ⊥
plan-some f [] same = no-split 61 (codes "none") (index_text f.index) (reply_text f.reply) none-free same
plan-some f (g ∷ plan) same =
    no-split 61 (codes "none") (index_text f.index) (reply_text f.reply ++ 44 ∷ plan_text (g ∷ plan)) none-free
    (same ∙ append_assoc (index_text f.index) (61 ∷ reply_text f.reply) (44 ∷ plan_text (g ∷ plan)))

pub plan-unique : (a b : List Fault) → IsPlan a → IsPlan b → plan_text a ≡ plan_text b → a ≡ b
plan-unique [] [] is_a is_b same = refl
plan-unique [] (f ∷ b) is_a is_b same = absurd (plan-some f b same)
plan-unique (f ∷ a) [] is_a is_b same = absurd (plan-some f a (sym same))
plan-unique (f ∷ a) (g ∷ b) is_a is_b same =
    joined-unique 44 fault_text IsFault fault-free fault-unique (f ∷ a) (g ∷ b) (omega arith) (omega arith) is_a is_b same
