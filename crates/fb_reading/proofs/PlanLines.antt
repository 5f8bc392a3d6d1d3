-- Plan lines from their parts.
use Rattle.std.proofs.Common.{◌≡◌, ℕ, Bool, false, not, is_some, List, Option, Some, None, option_map, codes, inl, inr, refl, sym, ap, ◌∙◌, arith}
use Rattle.std.specs.Prelude.{IfSome}
use Rattle.std.specs.List.{All}
use Rattle.serde_json.specs.Data.{Data, null, string, object, Members, member}
use Rattle.fb_base.specs.declared.reply.Reply.{Reply}
use Rattle.fb_base.specs.declared.reply.Reply.TheVariants as reply
use Rattle.fb_base.specs.Name.{IsName}
use Rattle.fb_base.specs.Replies.{IsProperReply}
use Rattle.fb_index.specs.Entry.{Occurrence}
use Rattle.fb_tree.specs.declared.outcome.Outcome.{Outcome}
use Rattle.fb_report.specs.declared.line.Line.TheVariants.{Plan}
use Rattle.fb_report.specs.Ranges.{IsLong, IsProperLine, IsInRange}
use Rattle.fb_report.specs.Trees.{line_tree, optional_tree, plan_members, reply_tree}
use Rattle.fb_reading.specs.declared.read_lines.RestOfPlan.{RestOfPlan}
use Rattle.fb_reading.specs.Answers.{IsLineOf, IsRestOfPlan, fault_of}
use Rattle.fb_reading.specs.Shapes.{IsCallIndex, IsOutcome, is_null}

pub is-there : {A : Type 0} (tree : A → Data) → ((x : A) → is_null (tree x) ≡ false) → (o : Option A) → is_some o ≡ not (is_null (optional_tree tree o))
is-there tree some None = refl
is-there tree some (Some x) = sym (ap not (some x))

pub reply-there : (r : Reply) → is_null (reply_tree r) ≡ false
reply-there (reply.Ok v) = refl
reply-there (reply.Err code) = refl

module _ (id : ℕ) (parent : Option ℕ) (run : Bool) (uses : List ℕ) (outcome : Outcome) (ms rest : Members)
    (long : IsLong id) (above : IfSome parent IsLong) (all : All IsLong uses) (ends : IsOutcome outcome) where
  first-line : (code : Option (List ℕ)) (index : Option (List Occurrence)) → is_some index ≡ is_some code → IfSome index IsCallIndex → IfSome code IsName → ms ≡ member (codes "code") (optional_tree string code) rest
      → rest ≡ plan_members id parent index run uses outcome → IsLineOf ms (Plan 1 id parent (fault_of index (option_map reply.Err code)) run uses outcome)
  unfolding IsProperLine IsInRange line_tree
  first-line None None there is named same members = (
    (
      record { version_fits = omega arith; id_fits = long; parent_fits = above; fault_fits = tt; uses_fits = all; outcome_fits = ends.1 },
      (inl refl, tt, ends.0),
    ),
    ap object (same ∙ ap (member (codes "code") null) members),
  )
  first-line (Some code) (Some index) there is named same members = (
    (
      record { version_fits = omega arith; id_fits = long; parent_fits = above; fault_fits = (is.0, named); uses_fits = all; outcome_fits = ends.1 },
      (inl refl, (is.1, tt), ends.0),
    ),
    ap object (same ∙ ap (member (codes "code") (string code)) members),
  )
  first-line None (Some index) there is named same members = absurd cc
  first-line (Some code) None there is named same members = absurd cc

  second-line : (r : Option Reply) (index : Option (List Occurrence)) → is_some index ≡ is_some r → IfSome index IsCallIndex → IfSome r IsProperReply → ms ≡ member (codes "fault") (optional_tree reply_tree r) rest
      → rest ≡ plan_members id parent index run uses outcome → IsLineOf ms (Plan 2 id parent (fault_of index r) run uses outcome)
  unfolding IsProperLine IsInRange line_tree
  second-line None None there is proper same members = (
    (
      record { version_fits = omega arith; id_fits = long; parent_fits = above; fault_fits = tt; uses_fits = all; outcome_fits = ends.1 },
      (inr refl, tt, ends.0),
    ),
    ap object (same ∙ ap (member (codes "fault") null) members),
  )
  second-line (Some (reply.Ok v)) (Some index) there is proper same members = (
    (
      record { version_fits = omega arith; id_fits = long; parent_fits = above; fault_fits = (is.0, proper); uses_fits = all; outcome_fits = ends.1 },
      (inr refl, (is.1, refl), ends.0),
    ),
    ap object (same ∙ ap (member (codes "fault") (reply_tree (reply.Ok v))) members),
  )
  second-line (Some (reply.Err code)) (Some index) there is proper same members = (
    (
      record { version_fits = omega arith; id_fits = long; parent_fits = above; fault_fits = (is.0, proper); uses_fits = all; outcome_fits = ends.1 },
      (inr refl, (is.1, tt), ends.0),
    ),
    ap object (same ∙ ap (member (codes "fault") (reply_tree (reply.Err code))) members),
  )
  second-line None (Some index) there is proper same members = absurd cc
  second-line (Some r) None there is proper same members = absurd cc

pub code-plan : (ms : Members) (code : Option (List ℕ)) (left : Members) (rest : RestOfPlan) → IfSome code IsName → ms ≡ member (codes "code") (optional_tree string code) left
    → IsRestOfPlan (is_some code) left rest → IsLineOf ms (Plan 1 rest.id rest.parent (fault_of rest.index (option_map reply.Err code)) rest.run rest.uses rest.outcome)
code-plan ms code left rest named same is =
    first-line rest.id rest.parent rest.run rest.uses rest.outcome ms left is.id_fits is.parent_fits is.uses_fits is.outcome_fits code rest.index is.index_there is.index_fits named same is.members

pub reply-plan : (ms : Members) (r : Option Reply) (left : Members) (rest : RestOfPlan) → IfSome r IsProperReply → ms ≡ member (codes "fault") (optional_tree reply_tree r) left
    → IsRestOfPlan (is_some r) left rest → IsLineOf ms (Plan 2 rest.id rest.parent (fault_of rest.index r) rest.run rest.uses rest.outcome)
reply-plan ms r left rest proper same is =
    second-line rest.id rest.parent rest.run rest.uses rest.outcome ms left is.id_fits is.parent_fits is.uses_fits is.outcome_fits r rest.index is.index_there is.index_fits proper same is.members
