-- What texts and members tell of what is read from them.
use Rattle.std.proofs.Common.{◌≡◌, ℕ, ◌<◌, List, Some, None, Result, Ok, Err, length, refl, sym, ap, ◌∙◌, subst, arith}
use Rattle.std.specs.Prelude.{IfOk, IfErr}
use Rattle.serde_json.specs.Data.{Data, string, object, Members}
use Rattle.serde_json.specs.Find.{as_str, as_object}
use Rattle.fb_index.specs.Entry.{Occurrence}
use Rattle.fb_index.specs.Index.{IsIndex, index_text}
use Rattle.fb_report.specs.declared.line.Line.{Line}
use Rattle.fb_report.specs.declared.named.NamedAsked.{NamedAsked}
use Rattle.fb_report.specs.Ranges.{IsProperCall}
use Rattle.fb_report.specs.Trees.{call_tree, line_tree}
use Rattle.fb_reading.specs.declared.key.Key.TheVariants.{Kind}
use Rattle.fb_reading.specs.declared.key.LineError.{LineError}
use Rattle.fb_reading.specs.declared.key.LineError.TheVariants.{NotJson, BadShape, BadNumber, Memory}
use Rattle.fb_reading.specs.declared.readable.Misfit.TheVariants.{Shape}
use Rattle.fb_reading.specs.declared.sort.Sort.{Sort}
use Rattle.fb_reading.specs.Answers.{IsAnswer, IsLine, IsTreeOf, misfit_of}
use Rattle.fb_reading.specs.Refusals.{IsRefused, OrMemory, call_refused, members_refused, sort_of, sort_refused}
use Rattle.fb_reading.specs.Shapes.{IsTree}
use Rattle.fb_reading.proofs.ToldLines.{opened}
use Rattle.fb_reading.proofs.Unique.{key-passes, refused-keyed}

pub same-text : (text other : List ℕ) (d : Data) → Some text ≡ as_str d → d ≡ string other → text ≡ other
same-text text other d told same =
    let both : Some text ≡ Some other = told ∙ ap as_str same in
    cc

-- the root's text is that of no other index
pub no-root : ((a b : List Occurrence) → IsIndex a → IsIndex b → index_text a ≡ index_text b → a ≡ b)
    → (text : List ℕ) (root index : List Occurrence) → IsIndex root → length root ≡ 0 → text ≡ index_text root → IsIndex index → 0 < length index → text ≡ index_text index → ⊥
no-root indexes text root index is none told other some same =
    let one : root ≡ index = indexes root index is other (sym told ∙ same) in
    omega (arith, none, some, ap length one)

-- ---- whole lines

pub answered : (bytes : List ℕ) (d : Data) (r : Result Line LineError) → IsTreeOf bytes d → IfOk r (λ line. IsLine line × (d ≡ line_tree line)) → IfErr r (OrMemory (IsRefused d)) → IsAnswer bytes r
answered bytes d (Ok line) tree read refused = (read.0, subst (IsTreeOf bytes) read.1 tree)
answered bytes d (Err NotJson) tree read refused = absurd (refused-keyed d refused)
answered bytes d (Err (BadShape k)) tree read refused = (d, tree, refused)
answered bytes d (Err (BadNumber k)) tree read refused = (d, tree, refused)
answered bytes d (Err Memory) tree read refused = tt

-- ---- sorts

pub no-sort : (d : Data) → None ≡ sort_of d → IsRefused d (BadShape Kind)
unfolding IsRefused
no-sort d none = subst (λ s. members_refused s (as_object d) (BadShape Kind)) none refl

pub no-object : (d : Data) (told : Sort) → Some told ≡ sort_of d → None ≡ as_object d → IsRefused d (BadShape Kind)
unfolding IsRefused
no-object d told some none = subst (λ s. members_refused s (as_object d) (BadShape Kind)) some (subst (λ o. members_refused (Some told) o (BadShape Kind)) none refl)

by-sort : (d : Data) (told : Sort) (ms : Members) (e : LineError) → Some told ≡ sort_of d → Some ms ≡ as_object d → sort_refused told ms e → IsRefused d e
unfolding IsRefused
by-sort d told ms e some there refused = subst (λ s. members_refused s (as_object d) e) some (subst (λ o. members_refused (Some told) o e) there refused)

pub sorted : {A : Type 0} (d : Data) (told : Sort) (ms : Members) (r : Result A LineError) → Some told ≡ sort_of d → Some ms ≡ as_object d → IfErr r (OrMemory (sort_refused told ms)) → IfErr r (OrMemory (IsRefused d))
sorted d told ms (Ok x) some there refused = tt
sorted d told ms (Err NotJson) some there refused = by-sort d told ms NotJson some there refused
sorted d told ms (Err (BadShape k)) some there refused = by-sort d told ms (BadShape k) some there refused
sorted d told ms (Err (BadNumber k)) some there refused = by-sort d told ms (BadNumber k) some there refused
sorted d told ms (Err Memory) some there refused = tt

-- ---- calls

call-passes : (asked : NamedAsked) (e : LineError) → IsProperCall asked → (ms : Members) → object ms ≡ call_tree asked → call_refused ms e → ⊥
call-passes asked e is ms same refused =
    let entry = is.entry in
    key-passes _ _ _ _ _ _ e (asked.args, is.args, refl)
    (key-passes _ _ _ _ _ _ e (asked.callee, is.callee, refl)
    (key-passes _ _ _ _ _ _ e (asked.entry.count, (omega (arith, entry), omega (arith, entry)), refl)
    (key-passes _ _ _ _ _ _ e (asked.reply, is.reply, refl)
    (key-passes _ _ _ _ _ _ e (asked.entry.site, (omega (arith, entry), omega (arith, entry)), refl) (λ none. none)))))
    (subst (λ xs. call_refused xs e) (opened same) refused)

pub no-call : (ms : Members) (e : LineError) → OrMemory (call_refused ms) e → misfit_of e ≡ Shape → IsTree IsProperCall call_tree (object ms) → ⊥
no-call ms NotJson refused is (asked, proper, same) = call-passes asked NotJson proper ms same refused
no-call ms (BadShape k) refused is (asked, proper, same) = call-passes asked (BadShape k) proper ms same refused
no-call ms (BadNumber k) refused is (asked, proper, same) = call-passes asked (BadNumber k) proper ms same refused
no-call ms Memory refused is tree = cc
