-- What the tests of sameness decide.
use Rattle.std.proofs.Common.{◌≡◌, List, ap}
use Rattle.std.specs.Bool.{Decides}
use Rattle.std.specs.Cmp.Lexicographic.{pointwise_decides}
use Rattle.std.proofs.lemmas.Bool.Decides.{Decides-and, Decides-eqb, Decides-like}
use Rattle.fb_base.specs.Replies.{same_reply-Decides}
use Rattle.fb_index.specs.Entry.{Occurrence, same_entry}
use Rattle.fb_index.specs.Index.{same_index}
use Rattle.fb_index.specs.declared.fault.Fault.{Fault}
use Rattle.fb_campaign.specs.Campaign.{same_fault, same_plan}

same_entry-Decides : (a b : Occurrence) → Decides (same_entry a b) (a ≡ b)
same_entry-Decides a b =
    Decides-like (same_entry a b) (λ e i. record { site = e.0 i; count = e.1 i })
    (λ e. (ap (λ (x : Occurrence). x.site) e, ap (λ (x : Occurrence). x.count) e))
    (Decides-and _ _ (Decides-eqb a.site b.site) (Decides-eqb a.count b.count))

pub same_index-Decides : (a b : List Occurrence) → Decides (same_index a b) (a ≡ b)
same_index-Decides = pointwise_decides same_entry-Decides

pub same_fault-Decides : (a b : Fault) → Decides (same_fault a b) (a ≡ b)
same_fault-Decides a b =
    Decides-like (same_fault a b) (λ e i. record { index = e.0 i; reply = e.1 i })
    (λ e. (ap (λ (x : Fault). x.index) e, ap (λ (x : Fault). x.reply) e))
    (Decides-and _ _ (same_index-Decides a.index b.index) (same_reply-Decides a.reply b.reply))

pub same_plan-Decides : (a b : List Fault) → Decides (same_plan a b) (a ≡ b)
same_plan-Decides = pointwise_decides same_fault-Decides
