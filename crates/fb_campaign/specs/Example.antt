-- A run that is given for every plan and fuel: a test calls a cart, which calls a price and gives what that gave.
use Rattle.std.specs.Prelude.{ℕ, pos, nat_le, Bool, true, false, Option, Some, None, List, [], ◌∷◌, codes, unwrap_or, if◌then◌else◌}
use Rattle.fb_base.specs.declared.kind.Kind.TheVariants.{Int}
use Rattle.fb_base.specs.declared.method.MethodId.{MethodId}
use Rattle.fb_base.specs.declared.reply.Reply.{Reply}
use Rattle.fb_base.specs.declared.reply.Reply.TheVariants as reply
use Rattle.fb_base.specs.declared.value.Value.TheVariants as value
use Rattle.fb_index.specs.Entry.{Occurrence}
use Rattle.fb_index.specs.declared.fault.Fault.{Fault}
use Rattle.fb_tree.specs.declared.outcome.Outcome.{Outcome}
use Rattle.fb_tree.specs.declared.outcome.Outcome.TheVariants as outcome
use Rattle.fb_tree.specs.declared.recorded.Record.{Record}
use Rattle.fb_tree.specs.declared.visit.Visit.{Visit}
use Rattle.fb_campaign.specs.Runs.{Went, Runs, Gives, Choices, answer_to}
use Rattle.fb_campaign.specs.Reports.{Planned, Completed, Line, RecordLine, PlanLine, EndLine}
use Rattle.fb_campaign.specs.Campaign.{Settings}

abbrev pub cart : MethodId
cart = record { 0 = 0 }

abbrev pub price : MethodId
price = record { 0 = 1 }

abbrev pub first_call : Occurrence
first_call = record { site = 1; count = 1 }

-- the test's call of the cart, and the cart's call of the price
abbrev pub cart_index : List Occurrence
cart_index = first_call ∷ []

abbrev pub price_index : List Occurrence
price_index = first_call ∷ first_call ∷ []

abbrev pub five : Reply
five = reply.Ok (value.Int (pos 5))

abbrev pub down : Reply
down = reply.Err (codes "down")

-- each method gives an int, and may fail or give five in place of its own reply, which is five too
abbrev pub ints : Gives
ints = λ number. Some Int

abbrev pub down_or_five : Choices
down_or_five = λ method. down ∷ five ∷ []

abbrev pub cart_record : Reply → Record
cart_record given = record {
  method = cart;
  args = [];
  calls = record { entry = first_call; callee = price; args = []; reply = given } ∷ [];
  reply = given;
  steps = 1;
}

abbrev pub price_record : Record
price_record = record { method = price; args = []; calls = []; reply = five; steps = 1 }

abbrev pub visits_with : Option Reply → List Visit
visits_with fault =
    record { index = cart_index; callee = cart; fault = None } ∷ record { index = price_index; callee = price; fault = fault } ∷ []

-- the price is evaluated where its call isn't answered
abbrev pub records_with : Option Reply → List Record
records_with None = cart_record five ∷ price_record ∷ []
records_with (Some given) = cart_record given ∷ []

abbrev pub outcome_with : Reply → Outcome
outcome_with (reply.Ok given) = outcome.Passed
outcome_with (reply.Err code) = outcome.CallFailed 1 code

abbrev pub went_with : Option Reply → Went
went_with fault = record { visits = visits_with fault; records = records_with fault; outcome = outcome_with (unwrap_or fault five) }

-- the test, the cart and the price take a unit each
abbrev pub example_runs : Runs
example_runs fuel plan = if nat_le 3 fuel then Some (went_with (answer_to ints plan price_index price)) else None

abbrev pub with_fault : Reply → List Fault
with_fault given = record { index = price_index; reply = given } ∷ []

abbrev pub example_plans : List (List Fault)
example_plans = [] ∷ with_fault down ∷ with_fault five ∷ []

abbrev pub example_settings : Settings
example_settings = record { fuel = 3; budget = 2; reduction = true; counts = λ plan. true }

abbrev pub example_line : List Fault → Option Reply → Option ℕ → Bool → List ℕ → Planned
example_line plan fault parent is_run uses = record {
  plan = plan;
  parent = parent;
  is_run = is_run;
  uses = uses;
  visits = visits_with fault;
  records = records_with fault;
  outcome = outcome_with (unwrap_or fault five);
}

-- a plan that gives five is pruned, since the cart's record is that of the run without faults
abbrev pub example_report : List Line
example_report =
    RecordLine (record { item = cart_record five; owner = 0 })
    ∷ RecordLine (record { item = price_record; owner = 0 })
    ∷ PlanLine (example_line [] None None true (0 ∷ 1 ∷ []))
    ∷ RecordLine (record { item = cart_record down; owner = 1 })
    ∷ PlanLine (example_line (with_fault down) (Some down) (Some 0) true (2 ∷ []))
    ∷ PlanLine (example_line (with_fault five) (Some five) (Some 0) false (0 ∷ []))
    ∷ EndLine Completed (record { plans = 3; run = 2; pruned = 1; failed = 1; records = 3 })
    ∷ []
