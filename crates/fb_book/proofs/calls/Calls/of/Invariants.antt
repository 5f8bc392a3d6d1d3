use Rattle.std.proofs.Common.{◌≡◌, ◌++◌, drop, map}
use Rattle.fb_campaign.specs.Plans.{begun_after_plan, between_services}
use Rattle.fb_book.specs.Calls.{called, calls_for}
use Rattle.fb_book.proofs.calls.Calls.of.Given as goal

-- those of services so far come before those that are left
abbrev pub invariant-loop-visit : goal.invariant-loop-visit
invariant-loop-visit l =
    l.calls ++ map called (between_services (drop l.visit-index (begun_after_plan l.plan l.visits))) ≡ calls_for l.plan l.visits
