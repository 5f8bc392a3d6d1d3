-- The JSON of a line isn't refused.
use Rattle.std.proofs.Common.{ℕ, Bool, true, false, List, Option, Some, None, inl, inr, refl, sym, subst, arith}
use Rattle.std.specs.Prelude.{IfSome}
use Rattle.std.specs.List.{All}
use Rattle.fb_base.specs.declared.reply.Reply.{Reply}
use Rattle.fb_base.specs.declared.reply.Reply.TheVariants as reply
use Rattle.fb_base.specs.Replies.{IsProperReply}
use Rattle.fb_index.specs.Entry.{Occurrence}
use Rattle.fb_index.specs.Fault.{IsAtCall}
use Rattle.fb_index.specs.Index.{IsIndex}
use Rattle.fb_index.specs.Plan.{IsPlan}
use Rattle.fb_index.specs.declared.fault.Fault.{Fault}
use Rattle.fb_tree.specs.declared.outcome.Outcome.{Outcome}
use Rattle.fb_report.specs.declared.line.Line.{Line}
use Rattle.fb_report.specs.declared.line.Line.TheVariants.{Header, Inv, Plan, End}
use Rattle.fb_report.specs.Ranges.{IsLong, IsProperLine, IsInRange, IsVersion, IsFaultInRange}
use Rattle.fb_report.specs.Trees.{index_tree, optional_tree, plan_members, plan_line_tree, line_tree}
use Rattle.fb_reading.specs.declared.key.LineError.{LineError}
use Rattle.fb_reading.specs.Answers.{IsLine}
use Rattle.fb_reading.specs.Refusals.{IsRefused, plan_refused, sort_of}
use Rattle.fb_reading.specs.Shapes.{IsCallPlan, IsFrom, IsIndexBeside, IsOutcome, greatest}
use Rattle.fb_reading.proofs.Unique.{key-passes}

pub long-from : (n : ℕ) → IsLong n → IsFrom 0 greatest n
long-from n long = (omega arith, omega arith)

version-from : (n : ℕ) → IsVersion n → IsFrom 1 2 n
version-from n (inl one) = (omega arith, omega arith)
version-from n (inr two) = (omega arith, omega arith)

at-calls : (stopped : Option (List Fault)) → IfSome stopped IsPlan → IfSome stopped (All IsAtCall) → IfSome stopped IsCallPlan
at-calls None is all = tt
at-calls (Some plan) is all = (is, all)

abbrev FitsFault : Option (List Occurrence × Reply) → Type 0
FitsFault fault = IfSome fault (λ f. IsIndex f.0 × IsProperReply f.1)

module _ (id : ℕ) (parent : Option ℕ) (run : Bool) (uses : List ℕ) (outcome : Outcome) (e : LineError)
    (long : IsLong id) (above : IfSome parent IsLong) (all : All IsLong uses) (ends : IsOutcome outcome) where
  rest-passes : (faulted : Bool) (index : Option (List Occurrence)) → IsIndexBeside faulted (optional_tree index_tree index) → plan_refused faulted (plan_members id parent index run uses outcome) e → ⊥
  rest-passes faulted index beside =
      key-passes _ _ _ _ _ _ e (id, long-from id long, refl)
      (key-passes _ _ _ _ _ _ e beside
      (key-passes _ _ _ _ _ _ e refl
      (key-passes _ _ _ _ _ _ e (outcome, ends, refl)
      (key-passes _ _ _ _ _ _ e (parent, above, refl)
      (key-passes _ _ _ _ _ _ e (run, tt, refl)
      (key-passes _ _ _ _ _ _ e (uses, all, refl) (λ none. none)))))))

  module _ (fault : Option (List Occurrence × Reply)) (fits : FitsFault fault) where
    Passes : ℕ → Type 0
    Passes version = IsFaultInRange version fault → IsRefused (plan_line_tree version id parent fault run uses outcome) e → ⊥

  first-passes : (fault : Option (List Occurrence × Reply)) (fits : FitsFault fault) → Passes fault fits 1
  unfolding Passes IsRefused sort_of
  first-passes None fits there = key-passes _ _ _ _ _ _ e (None, tt, refl) (rest-passes false None refl)
  first-passes (Some (index, reply.Ok v)) fits there = absurd (omega (arith, there.1))
  first-passes (Some (index, reply.Err code)) fits there =
      key-passes _ _ _ _ _ _ e (Some code, fits.1, refl) (rest-passes true (Some index) (index, (fits.0, there.0), refl))

  second-passes : (fault : Option (List Occurrence × Reply)) (fits : FitsFault fault) → Passes fault fits 2
  unfolding Passes IsRefused sort_of
  second-passes None fits there = key-passes _ _ _ _ _ _ e (None, tt, refl) (rest-passes false None refl)
  second-passes (Some (index, reply.Ok v)) fits there =
      key-passes _ _ _ _ _ _ e (Some (reply.Ok v), fits.1, refl) (rest-passes true (Some index) (index, (fits.0, there.0), refl))
  second-passes (Some (index, reply.Err code)) fits there =
      key-passes _ _ _ _ _ _ e (Some (reply.Err code), fits.1, refl) (rest-passes true (Some index) (index, (fits.0, there.0), refl))

  plan-passes : (version : ℕ) (fault : Option (List Occurrence × Reply)) (fits : FitsFault fault) → IsVersion version → Passes fault fits version
  plan-passes version fault fits (inl one) = subst (Passes fault fits) (sym one) (first-passes fault fits)
  plan-passes version fault fits (inr two) = subst (Passes fault fits) (sym two) (second-passes fault fits)

pub line-passes : (line : Line) (e : LineError) → IsLine line → IsRefused (line_tree line) e → ⊥
unfolding IsRefused sort_of line_tree IsProperLine IsInRange Passes
line-passes (Header version fuel reduction) e h =
    key-passes _ _ _ _ _ _ e (fuel, (h.1.1, h.1.2), refl)
    (key-passes _ _ _ _ _ _ e refl
    (key-passes _ _ _ _ _ _ e (reduction, tt, refl)
    (key-passes _ _ _ _ _ _ e (version, version-from version h.1.0, refl) (λ none. none))))
line-passes (Inv id plan made) e h =
    let parts = h.0.2 in
    key-passes _ _ _ _ _ _ e (made.args, parts.args, refl)
    (key-passes _ _ _ _ _ _ e (made.calls, parts.calls, refl)
    (key-passes _ _ _ _ _ _ e (id, long-from id h.0.0, refl)
    (key-passes _ _ _ _ _ _ e refl
    (key-passes _ _ _ _ _ _ e (made.method, parts.method, refl)
    (key-passes _ _ _ _ _ _ e (plan, long-from plan h.0.1, refl)
    (key-passes _ _ _ _ _ _ e (made.reply, parts.reply, refl)
    (key-passes _ _ _ _ _ _ e (made.steps, long-from made.steps parts.steps, refl) (λ none. none))))))))
line-passes (Plan version id parent fault run uses outcome) e h =
    plan-passes id parent run uses outcome e h.0.id_fits h.0.parent_fits h.0.uses_fits (h.1.2, h.0.outcome_fits) version fault h.0.fault_fits h.1.0 h.1.1
line-passes (End cause plans run pruned failed invs stopped) e h =
    key-passes _ _ _ _ _ _ e (cause, tt, refl)
    (key-passes _ _ _ _ _ _ e (failed, long-from failed h.0.failed_fits, refl)
    (key-passes _ _ _ _ _ _ e (invs, long-from invs h.0.invs_fits, refl)
    (key-passes _ _ _ _ _ _ e refl
    (key-passes _ _ _ _ _ _ e (plans, long-from plans h.0.plans_fits, refl)
    (key-passes _ _ _ _ _ _ e (pruned, long-from pruned h.0.pruned_fits, refl)
    (key-passes _ _ _ _ _ _ e (run, long-from run h.0.run_fits, refl)
    (key-passes _ _ _ _ _ _ e (stopped, at-calls stopped h.0.stopped_fits h.1, refl) (λ none. none))))))))
