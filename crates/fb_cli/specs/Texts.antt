-- The texts that a command prints.
use Rattle.std.specs.Prelude.{ℕ, Option, Some, None, List, [], ◌∷◌, ◌++◌, codes}
use Rattle.std.specs.List.{flat_map}
use Rattle.std.specs.Fmt.{decimal}
use Rattle.fb_syntax.specs.declared.parse_error.ParseWhy.{ParseWhy}
use Rattle.fb_syntax.specs.declared.parse_error.ParseWhy.TheVariants as parse
use Rattle.fb_config.specs.declared.error.FaultsWhy.{FaultsWhy}
use Rattle.fb_config.specs.declared.error.FaultsWhy.TheVariants as faults
use Rattle.fb_base.specs.declared.method.MethodName.{MethodName}
use Rattle.fb_check.specs.declared.place.Place.{Place}
use Rattle.fb_check.specs.declared.error.CheckRule.{CheckRule}
use Rattle.fb_check.specs.declared.error.CheckRule.TheVariants as rule
use Rattle.fb_check.specs.Rules.{rule_name}
use Rattle.fb_index.specs.Index.{index_text}
use Rattle.fb_index.specs.Plan.{plan_text}
use Rattle.fb_audit.specs.declared.verdict.Rule.{Rule}
use Rattle.fb_audit.specs.declared.verdict.Rule.TheVariants as broken
use Rattle.fb_tally.specs.declared.tally.Totals.{Totals as TotalsTold}
use Rattle.fb_report.specs.declared.totals.Totals.{Totals}
use Rattle.fb_cli.specs.declared.status.Role.{Role}
use Rattle.fb_cli.specs.declared.status.Role.TheVariants as role
use Rattle.fb_cli.specs.declared.status.Why.{Why}
use Rattle.fb_cli.specs.declared.status.Why.TheVariants as why
use Rattle.fb_cli.specs.declared.status.Status.{Status}
use Rattle.fb_cli.specs.declared.status.Status.TheVariants as status

-- the parts one after another, and a line feed
abbrev pub line_of : List (List ℕ) → List ℕ
line_of parts = flat_map (λ part. part) (parts ++ (10 ∷ []) ∷ [])

abbrev pub role_text : Role → List ℕ
role_text role.Services = codes "services"
role_text role.Test = codes "test"
role_text role.Faults = codes "faults"
role_text role.Report = codes "report"
role_text role.Plan = codes "plan"

-- a rule, and where it is broken
abbrev pub placed_text : List ℕ → ℕ → List ℕ
placed_text rule at = flat_map (λ part. part) (rule ∷ codes " " ∷ decimal at ∷ [])

abbrev pub syntax_text : ParseWhy → List ℕ
syntax_text (parse.NotText at) = placed_text (codes "NotText") at
syntax_text (parse.BadToken at) = placed_text (codes "BadToken") at
syntax_text (parse.Unexpected at) = placed_text (codes "Unexpected") at
syntax_text (parse.TooDeep at) = placed_text (codes "TooDeep") at
syntax_text (parse.TooMany at) = placed_text (codes "TooMany") at

-- the rule that a fault file breaks, and the item that does; a rule of the whole file names none
abbrev pub faults_text : FaultsWhy → List ℕ
faults_text faults.NotToml = codes "NotToml"
faults_text (faults.UnknownKey item) = placed_text (codes "UnknownKey") item
faults_text faults.BadVersion = codes "BadVersion"
faults_text (faults.NotATable item) = placed_text (codes "NotATable") item
faults_text faults.TooMany = codes "TooMany"
faults_text (faults.UnknownCallee item) = placed_text (codes "UnknownCallee") item
faults_text (faults.UnknownMethod item) = placed_text (codes "UnknownMethod") item
faults_text (faults.BadCode item) = placed_text (codes "BadCode") item
faults_text (faults.BadValue item) = placed_text (codes "BadValue") item

abbrev pub place_text : Place → List ℕ
place_text place =
    flat_map (λ part. part) (decimal place.service ∷ codes "." ∷ decimal place.method ∷ codes "." ∷ decimal place.statement ∷ [])

-- a method on a cycle, behind a blank
abbrev pub called_text : MethodName → List ℕ
called_text name = flat_map (λ part. part) (codes " " ∷ name.service ∷ codes "." ∷ name.method ∷ [])

-- the methods that a rule speaks of
abbrev pub methods_of : CheckRule → List MethodName
methods_of (rule.Cycle methods) = methods
methods_of _ = []

-- a rule of acceptance, the place in the source that breaks it, and of a cycle its methods
abbrev pub check_text : Place → CheckRule → List ℕ
check_text place broken =
    flat_map (λ part. part) (rule_name broken ∷ codes " " ∷ place_text place ∷ flat_map called_text (methods_of broken) ∷ [])

abbrev pub why_text : Why → List ℕ
why_text why.TooLong = codes "TooLong"
why_text (why.Syntax refused_for) = syntax_text refused_for
why_text (why.Check place broken) = check_text place broken
why_text (why.Faults refused_for) = faults_text refused_for
why_text (why.Plan at) = placed_text (codes "BadPlan") at

abbrev pub totals_text : Totals → List ℕ
totals_text totals =
    line_of (codes "completed plans " ∷ decimal totals.plans ∷ codes " run " ∷ decimal totals.run ∷ codes " pruned "
    ∷ decimal totals.pruned ∷ codes " failed " ∷ decimal totals.failed ∷ codes " invs " ∷ decimal totals.invs ∷ [])

abbrev pub first_failed_text : Option ℕ → List ℕ
first_failed_text None = []
first_failed_text (Some number) = line_of (codes "first failed plan " ∷ decimal number ∷ [])

-- the text of a completed campaign; a second line names the first failed plan where there is one
abbrev pub completed_text : Totals → List ℕ
completed_text totals = totals_text totals ++ first_failed_text totals.first_failed

-- the text of a valid report
abbrev pub valid_text : TotalsTold → List ℕ
valid_text totals =
    line_of (codes "yes plans " ∷ decimal totals.plans ∷ codes " run " ∷ decimal totals.run ∷ codes " pruned "
    ∷ decimal totals.pruned ∷ codes " failed " ∷ decimal totals.failed ∷ codes " invs " ∷ decimal totals.records ∷ [])

-- the text of a trial whose report is valid
abbrev pub trial_text : Totals → List ℕ
trial_text totals =
    line_of (codes "trial plans " ∷ decimal totals.plans ∷ codes " run " ∷ decimal totals.run ∷ codes " pruned "
    ∷ decimal totals.pruned ∷ codes " failed " ∷ decimal totals.failed ∷ codes " invs " ∷ decimal totals.invs ∷ codes " check yes" ∷ [])

-- a rule of reports, and the fault of an extension that has no line
abbrev pub rule_text : Rule → List ℕ
rule_text broken.CutLine = codes "CutLine"
rule_text broken.NotJson = codes "NotJson"
rule_text broken.BadShape = codes "BadShape"
rule_text broken.BadNumber = codes "BadNumber"
rule_text broken.V1 = codes "V1"
rule_text broken.V2 = codes "V2"
rule_text broken.V3 = codes "V3"
rule_text broken.V4 = codes "V4"
rule_text broken.V5 = codes "V5"
rule_text (broken.V6 index given) = codes "V6 " ++ plan_text (record { index = index; reply = given } ∷ [])
rule_text broken.V7 = codes "V7"
rule_text broken.V8 = codes "V8"

-- the text of a status, with the report's name where the status speaks of it; a command that was carried out prints a text
-- of its own
abbrev pub status_text : List ℕ → Status → List ℕ
status_text report status.Good = []
status_text report status.Failures = []
status_text report status.Usage = line_of (codes "usage: filibuster test, check, replay, fmt or trial" ∷ [])
status_text report status.SameName = line_of (codes "same name " ∷ report ∷ [])
status_text report (status.Refused refusal) =
    line_of (codes "refused " ∷ role_text refusal.role ∷ codes " " ∷ why_text refusal.why ∷ [])
status_text report (status.ReadFault role) = line_of (codes "read fault " ∷ role_text role ∷ [])
status_text report status.WriteFault = line_of (codes "write fault" ∷ [])
status_text report (status.FuelSpent plan) = line_of (codes "fuel spent at " ∷ plan_text plan ∷ [])
status_text report (status.BudgetSpent plan) = line_of (codes "budget spent at " ∷ plan_text plan ∷ [])
status_text report (status.NotMet index) = line_of (codes "not met " ∷ index_text index ∷ [])
status_text report (status.No line rule) = line_of (codes "no line " ∷ decimal line ∷ codes " rule " ∷ rule_text rule ∷ [])
status_text report status.Memory = []
