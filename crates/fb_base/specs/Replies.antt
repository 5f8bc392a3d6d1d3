-- Replies: when two are the same.
use Rattle.std.specs.Prelude.{◌≡◌, Bool, false, nat_eq}
use Rattle.std.specs.Bool.{Decides}
use Rattle.std.specs.Cmp.{IsEquivalence, decided}
use Rattle.std.specs.Cmp.Lexicographic.{pointwise}
use Rattle.std.proofs.lemmas.Slice.Eq.{bytes_eq-Decides}
use Rattle.fb_base.specs.declared.reply.Reply.{Reply}
use Rattle.fb_base.specs.declared.reply.Reply.TheVariants as reply
use Rattle.fb_base.specs.Name.{IsName}
use Rattle.fb_base.specs.Values.{same_value, IsProper}
use Rattle.fb_base.specs.SameLaws.{Decides-along, same_value-Decides}

-- what holds of a reply that a program has
abbrev pub IsProperReply : Reply → Type 0
IsProperReply (reply.Ok v) = IsProper v
IsProperReply (reply.Err code) = IsName code

-- whether two replies are equal
abbrev pub same_reply : Reply → Reply → Bool
same_reply (reply.Ok a) (reply.Ok b) = same_value a b
same_reply (reply.Err a) (reply.Err b) = pointwise nat_eq a b
same_reply _ _ = false

pub same_reply-Decides : (a b : Reply) → Decides (same_reply a b) (a ≡ b)
same_reply-Decides (reply.Ok a) (reply.Ok b) = Decides-along reply.Ok (λ e. cc) (same_value-Decides a b)
same_reply-Decides (reply.Err a) (reply.Err b) = Decides-along reply.Err (λ e. cc) (bytes_eq-Decides a b)
same_reply-Decides _ _ = (λ e. cc, λ e. cc)

pub same_reply_equiv : IsEquivalence same_reply
same_reply_equiv = decided same_reply same_reply-Decides
