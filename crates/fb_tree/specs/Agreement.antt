-- When two records agree.
use Rattle.std.specs.Prelude.{◌≡◌, ℕ, ◌<◌, List, length, take, map, slice_get, Some, ◌⊎◌}
use Rattle.fb_base.specs.declared.reply.Reply.{Reply}
use Rattle.fb_tree.specs.declared.asked.Asked.{Asked}
use Rattle.fb_tree.specs.declared.recorded.Record.{Record}

-- the replies of the first calls
abbrev pub replies_before : ℕ → Record → List Reply
replies_before k item = map (λ asked. asked.reply) (take k item.calls)

-- one of them has fewer calls, or they aren't the same invocation up to here
abbrev pub AreApart : ℕ → Record → Record → Type 0
AreApart k a b =
    (¬ (a.method ≡ b.method)) ⊎ (¬ (a.args ≡ b.args)) ⊎ (length a.calls < k) ⊎ (length b.calls < k)
    ⊎ (¬ (replies_before k a ≡ replies_before k b))

-- both make a further call, and ask the same
pub record AskTheSame (k : ℕ) (a b : Record) : Type 0 where
  pub first : Asked
  pub second : Asked
  pub first_asked : slice_get a.calls k ≡ Some first
  pub second_asked : slice_get b.calls k ≡ Some second
  pub same_entry : first.entry ≡ second.entry
  pub same_callee : first.callee ≡ second.callee
  pub same_args : first.args ≡ second.args

-- neither makes a further call, and the two are equal
abbrev pub EndTheSame : ℕ → Record → Record → Type 0
EndTheSame k a b = (length a.calls ≡ k) × (a ≡ b)

-- after any number of calls that got the same replies, both go on in the same way
abbrev pub RecordsAgree : Record → Record → Type 0
RecordsAgree a b = (k : ℕ) → AreApart k a b ⊎ AskTheSame k a b ⊎ EndTheSame k a b
