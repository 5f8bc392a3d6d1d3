-- The numbers of a job are within their limits.
use Rattle.std.proofs.Common.{◌≡◌, ◌≤◌, ◌&&◌, not, ℕ, Bool, true, false, refl, List, [], ◌∷◌, Option, Some, None, nat_le, leb-true, lit≤, codes, if◌then◌else◌}
use Rattle.std.specs.Option.{IfSome}
use Rattle.std.specs.Str.{bytes_eq}
use Rattle.std.specs.Str.Parse.{digits_value}
use Rattle.clap.specs.Words.{Row, first_of}
use Rattle.fb_job.specs.declared.job.Job.{Job}
use Rattle.fb_job.specs.declared.job.Job.TheVariants.{Test, Check, Replay, Fmt, Trial}
use Rattle.fb_job.specs.Commands.{rows_given, test_app, check_app, replay_app, fmt_app, trial_app}
use Rattle.fb_job.specs.Numbers.{budget_by, budget_given, fuel_by, fuel_given, is_numeral, most_budget, most_fuel, most_size, number_given, number_of, required_number, size_given, within_limits}
use Rattle.fb_job.specs.Options.{is_set}
use Rattle.fb_job.specs.Jobs.{◌>>=◌, test_of_words, check_of_words, replay_of_words, fmt_of_words, trial_of_words, job_by, job_of_words}
use Rattle.fb_job.specs.Limits.{IsBudget, IsFuel, IsSize, KeepsLimits}

-- a number that is given is within the limits
abbrev IsWithin : ℕ → ℕ → ℕ → Type 0
IsWithin least most number = (least ≤ number) × (number ≤ most)

IsWithin-tested : (least most : ℕ) (low high : Bool) (number : ℕ) → (low ≡ true → least ≤ number) → (high ≡ true → number ≤ most)
    → IfSome (if low && high then Some number else None) (IsWithin least most)
IsWithin-tested least most true true number reaches stays = (reaches refl, stays refl)
IsWithin-tested least most true false number reaches stays = tt
IsWithin-tested least most false high number reaches stays = tt

IsWithin-chosen : (least most : ℕ) (numeral : Bool) (number : Option ℕ) → IfSome number (IsWithin least most)
    → IfSome (if numeral then number else None) (IsWithin least most)
IsWithin-chosen least most true number is = is
IsWithin-chosen least most false number is = tt

IsWithin-of : (least most : ℕ) (text : List ℕ) → IfSome (number_of least most text) (IsWithin least most)
unfolding number_of
IsWithin-of least most text =
    let number = digits_value 10 text in
    IsWithin-chosen least most (is_numeral text) (within_limits least most number)
    (IsWithin-tested least most (nat_le least number) (nat_le number most) number (leb-true least number) (leb-true number most))

IsFuel-by : (text : Option (List ℕ)) → IfSome (fuel_by text) IsFuel
IsFuel-by None = (lit≤ tt, lit≤ tt)
IsFuel-by (Some text) = IsWithin-of 1 most_fuel text

IsBudget-read : (budget : Option ℕ) → IfSome budget (IsWithin 0 most_budget) → IfSome budget IsBudget
IsBudget-read None is = tt
IsBudget-read (Some budget) is = is.1

IsBudget-by : (text : Option (List ℕ)) → IfSome (budget_by text) IsBudget
IsBudget-by None = lit≤ tt
IsBudget-by (Some text) = IsBudget-read (number_of 0 most_budget text) (IsWithin-of 0 most_budget text)

IsSize-by : (text : Option (List ℕ)) → IfSome (required_number 1 most_size text) IsSize
IsSize-by None = tt
IsSize-by (Some text) = IsWithin-of 1 most_size text

-- ---- from the options to the job

abbrev test_with : Option (List ℕ) → Bool → List ℕ → List ℕ → List ℕ → ℕ → ℕ → Option Job
test_with faults reduction services test report fuel budget =
    Some (Test (record { services = services; test = test; report = report; faults = faults; fuel = fuel; budget = budget; reduction = reduction }))

test_keeps : (faults : Option (List ℕ)) (reduction : Bool) (services test report : Option (List ℕ)) (fuel budget : Option ℕ)
    → IfSome fuel IsFuel → IfSome budget IsBudget
    → IfSome (services >>= λ s. (test >>= λ t. (report >>= λ r. (fuel >>= λ f. (budget >>= λ b. test_with faults reduction s t r f b))))) KeepsLimits
test_keeps faults reduction None test report fuel budget is_fuel is_budget = tt
test_keeps faults reduction (Some s) None report fuel budget is_fuel is_budget = tt
test_keeps faults reduction (Some s) (Some t) None fuel budget is_fuel is_budget = tt
test_keeps faults reduction (Some s) (Some t) (Some r) None budget is_fuel is_budget = tt
test_keeps faults reduction (Some s) (Some t) (Some r) (Some f) None is_fuel is_budget = tt
test_keeps faults reduction (Some s) (Some t) (Some r) (Some f) (Some b) is_fuel is_budget = (is_fuel, is_budget)

check_keeps : (faults services test report : Option (List ℕ))
    → IfSome (services >>= λ s. (test >>= λ t. (report >>= λ r. Some (Check (record { services = s; test = t; report = r; faults = faults }))))) KeepsLimits
check_keeps faults None test report = tt
check_keeps faults (Some s) None report = tt
check_keeps faults (Some s) (Some t) None = tt
check_keeps faults (Some s) (Some t) (Some r) = tt

replay_keeps : (services test plan : Option (List ℕ)) (fuel : Option ℕ) → IfSome fuel IsFuel
    → IfSome (services >>= λ s. (test >>= λ t. (plan >>= λ p. (fuel >>= λ f. Some (Replay (record { services = s; test = t; plan = p; fuel = f })))))) KeepsLimits
replay_keeps None test plan fuel is = tt
replay_keeps (Some s) None plan fuel is = tt
replay_keeps (Some s) (Some t) None fuel is = tt
replay_keeps (Some s) (Some t) (Some p) None is = tt
replay_keeps (Some s) (Some t) (Some p) (Some f) is = is

fmt_keeps : (services : Option (List ℕ)) → IfSome (services >>= λ s. Some (Fmt s)) KeepsLimits
fmt_keeps None = tt
fmt_keeps (Some s) = tt

trial_keeps : (number size : Option ℕ) → IfSome size IsSize
    → IfSome (number >>= λ n. (size >>= λ s. Some (Trial n s))) KeepsLimits
trial_keeps None size is = tt
trial_keeps (Some n) None is = tt
trial_keeps (Some n) (Some s) is = is

rows_keep : (rows : Option (List Row)) (more : List Row → Option Job) → ((given : List Row) → IfSome (more given) KeepsLimits)
    → IfSome (rows >>= more) KeepsLimits
rows_keep None more each = tt
rows_keep (Some given) more each = each given

test_words_keep : (words : List (List ℕ)) → IfSome (test_of_words words) KeepsLimits
test_words_keep words =
    rows_keep (rows_given test_app words) _
    (λ rows. test_keeps (first_of (codes "faults") rows) (not (is_set (first_of (codes "no-reduction") rows)))
    (first_of (codes "services") rows) (first_of (codes "test") rows) (first_of (codes "report") rows) (fuel_given rows) (budget_given rows)
    (IsFuel-by (first_of (codes "fuel") rows)) (IsBudget-by (first_of (codes "budget") rows)))

check_words_keep : (words : List (List ℕ)) → IfSome (check_of_words words) KeepsLimits
check_words_keep words =
    rows_keep (rows_given check_app words) _
    (λ rows. check_keeps (first_of (codes "faults") rows) (first_of (codes "services") rows) (first_of (codes "test") rows) (first_of (codes "report") rows))

replay_words_keep : (words : List (List ℕ)) → IfSome (replay_of_words words) KeepsLimits
replay_words_keep words =
    rows_keep (rows_given replay_app words) _
    (λ rows. replay_keeps (first_of (codes "services") rows) (first_of (codes "test") rows) (first_of (codes "plan") rows) (fuel_given rows)
    (IsFuel-by (first_of (codes "fuel") rows)))

fmt_words_keep : (words : List (List ℕ)) → IfSome (fmt_of_words words) KeepsLimits
fmt_words_keep words = rows_keep (rows_given fmt_app words) _ (λ rows. fmt_keeps (first_of (codes "services") rows))

trial_words_keep : (words : List (List ℕ)) → IfSome (trial_of_words words) KeepsLimits
trial_words_keep words =
    rows_keep (rows_given trial_app words) _
    (λ rows. trial_keeps (number_given rows) (size_given rows) (IsSize-by (first_of (codes "SIZE") rows)))

-- ---- from the first word to the job

one_keeps : (is : Bool) (job other : Option Job) → IfSome job KeepsLimits → IfSome other KeepsLimits → IfSome (if is then job else other) KeepsLimits
one_keeps true job other keeps others = keeps
one_keeps false job other keeps others = others

by_keeps : (command : List ℕ) (words : List (List ℕ)) → IfSome (job_by command words) KeepsLimits
by_keeps command words =
    one_keeps (bytes_eq command (codes "test")) (test_of_words words) _ (test_words_keep words)
    (one_keeps (bytes_eq command (codes "check")) (check_of_words words) _ (check_words_keep words)
    (one_keeps (bytes_eq command (codes "replay")) (replay_of_words words) _ (replay_words_keep words)
    (one_keeps (bytes_eq command (codes "fmt")) (fmt_of_words words) _ (fmt_words_keep words)
    (one_keeps (bytes_eq command (codes "trial")) (trial_of_words words) None (trial_words_keep words) tt))))

pub KeepsLimits-said : (words : List (List ℕ)) → IfSome (job_of_words words) KeepsLimits
unfolding job_of_words
KeepsLimits-said [] = tt
KeepsLimits-said (command ∷ options) = by_keeps command (command ∷ options)
