-- A command is decided in one way.
use Rattle.std.proofs.Common.{◌==◌, ◌≡◌, inl, inr, ℕ, Bool, true, false, List, [], ◌∷◌, ◌++◌, All, Option, Some, None, Result, Ok, Err, refl, sym, ◌∙◌, ap, subst, arith}
use Rattle.std.specs.Bool.{MatchBool}
use Rattle.std.proofs.lemmas.List.{append_cancel_left}
use Rattle.fb_files.specs.Files.{Held}
use Rattle.fb_index.specs.Entry.{Occurrence}
use Rattle.fb_index.specs.declared.fault.Fault.{Fault}
use Rattle.fb_index.specs.Fault.{IsSpelledFault}
use Rattle.fb_index.specs.Plan.{IsPlan, IsPlanText, IsPlanRefusedAt, plan_text}
use Rattle.fb_tree.specs.Calls.{injections_of}
use Rattle.fb_tree.specs.Runs.{TestRun}
use Rattle.fb_meaning.specs.Evaluations.{Evaluation, Spent, Done}
use Rattle.fb_meaning.specs.Runs.{run_of}
use Rattle.fb_replay.specs.Replays.{IsFirstUnmet, IsNotMet}
use Rattle.fb_job.specs.declared.job.Job.{Job}
use Rattle.fb_job.specs.declared.job.Job.TheVariants.{Test, Check as check_job, Replay, Fmt, Trial}
use Rattle.fb_job.specs.declared.job.ReplayJob.{ReplayJob}
use Rattle.fb_job.specs.declared.job.TestJob.{TestJob}
use Rattle.fb_job.specs.Names.{overwrites_input}
use Rattle.fb_cli.specs.declared.status.Why.TheVariants.{TooLong, Syntax, Check, Faults, Plan}
use Rattle.fb_cli.specs.declared.status.Status.{Status}
use Rattle.fb_cli.specs.declared.status.Status.TheVariants.{Good, Failures, Usage, SameName, Refused, ReadFault, WriteFault, FuelSpent, BudgetSpent, NotMet, No, Memory}
use Rattle.fb_cli.specs.Decision.{DecidesJob, DecidesWords}
use Rattle.fb_cli.specs.PlanInput.{PlanRead, ReadsPlan}
use Rattle.fb_cli.specs.Sources.{SourceTrees, sources_of}
use Rattle.fb_cli.specs.TestInputs.{CampaignInputs, inputs_of}
use Rattle.fb_campaign.specs.Reports.{Line as CampaignLine, Cause, EndLine, Completed, FuelSpent as fuel_spent, BudgetSpent as budget_spent}
use Rattle.fb_explore.specs.Ends.{EndsBy, counted}
use Rattle.fb_cli.specs.Campaigns.{DecidesCampaign, DecidesTest, campaign_over}
use Rattle.fb_cli.specs.Trials.{DecidesTrial, generated_inputs, trial_campaign}
use Rattle.fb_verify.specs.Verdicts.{VerdictsAreExact}
use Rattle.fb_cli.specs.Checking.{check_inputs_of}
use Rattle.fb_cli.proofs.Checked.{check-once}
use Rattle.fb_cli.specs.Replaying.{IsMetWith, DecidesRun, DecidesSources, DecidesPlan, is_passed}
use Rattle.fb_cli.specs.Telling.{status_printed}

-- ---- the first fault that isn't met

-- a plan that is injected has none
met-unmet : (plan injected : List Fault) (index : List Occurrence) → injected ≡ plan → IsFirstUnmet plan injected index → ⊥
met-unmet plan injected index same unmet =
    let both : unmet.met ++ unmet.others ≡ unmet.met ++ unmet.fault ∷ unmet.rest = sym unmet.found ∙ same ∙ unmet.planned in
    unmet.differs unmet.rest (append_cancel_left unmet.met unmet.others (unmet.fault ∷ unmet.rest) both)

first-once : (met also_met : List Fault) (fault other : Fault) (rest more others behind : List Fault)
    → met ++ fault ∷ rest ≡ also_met ++ other ∷ more → met ++ others ≡ also_met ++ behind
    → ((xs : List Fault) → ¬ (others ≡ fault ∷ xs)) → ((xs : List Fault) → ¬ (behind ≡ other ∷ xs)) → fault ≡ other
first-once [] [] fault other rest more others behind planned found differs unlike = cc
first-once [] (x ∷ also_met) fault other rest more others behind planned found differs unlike =
    let head : fault ≡ x = cc in
    absurd (differs (also_met ++ behind) (found ∙ ap (λ f. f ∷ (also_met ++ behind)) (sym head)))
first-once (x ∷ met) [] fault other rest more others behind planned found differs unlike =
    let head : x ≡ other = cc in
    absurd (unlike (met ++ others) (sym found ∙ ap (λ f. f ∷ (met ++ others)) head))
first-once (x ∷ met) (y ∷ also_met) fault other rest more others behind planned found differs unlike =
    let faults : met ++ fault ∷ rest ≡ also_met ++ other ∷ more = cc in
    let injected : met ++ others ≡ also_met ++ behind = cc in
    first-once met also_met fault other rest more others behind faults injected differs unlike

unmet-once : (plan injected : List Fault) (index other : List Occurrence) → IsFirstUnmet plan injected index → IsFirstUnmet plan injected other
    → index ≡ other
unmet-once plan injected index other one two =
    let fault =
    first-once one.met two.met one.fault two.fault one.rest two.rest one.others two.others (sym one.planned ∙ two.planned) (sym one.found ∙ two.found)
    one.differs two.differs in
    one.named ∙ ap (λ f. f.index) fault ∙ sym two.named

-- ---- the run

data Way (plan : List Fault) (means : Evaluation TestRun ℕ) (status : Status) : Type 0 where
  Met : IsMetWith plan means status → Way plan means status
  OutOfFuel : status ≡ FuelSpent plan → means ≡ Spent → Way plan means status
  Unmet : (index : List Occurrence) → status ≡ NotMet index → IsNotMet plan means index → Way plan means status

way : (plan : List Fault) (means : Evaluation TestRun ℕ) (status : Status) → DecidesRun plan means status → Way plan means status
way plan means Good decides = Met decides
way plan means Failures decides = Met decides
way plan means (FuelSpent spent) decides = OutOfFuel (ap FuelSpent decides.0) decides.1
way plan means (NotMet index) decides = Unmet index refl decides
way plan means (No line rule) decides = absurd decides
way plan means (BudgetSpent spent) decides = absurd decides
way plan means Usage decides = absurd decides
way plan means SameName decides = absurd decides
way plan means (Refused refusal) decides = absurd decides
way plan means (ReadFault role) decides = absurd decides
way plan means WriteFault decides = absurd decides
way plan means Memory decides = absurd decides

-- a run that is done is one
one-run : (means : Evaluation TestRun ℕ) (run other : TestRun) (left more : ℕ) → means ≡ Done run left → means ≡ Done other more → run ≡ other
one-run means run other left more is also =
    let same : Done run left ≡ Done other more = sym is ∙ also in
    cc

never-both : (means : Evaluation TestRun ℕ) (run : TestRun) (left : ℕ) → means ≡ Done run left → means ≡ Spent → ⊥
never-both means run left is spent =
    let same : Done run left ≡ Spent = sym is ∙ spent in
    cc

met-or-not : (plan : List Fault) (means : Evaluation TestRun ℕ) (status : Status) (index : List Occurrence) → IsMetWith plan means status
    → IsNotMet plan means index → ⊥
met-or-not plan means status index met unmet =
    let run = one-run means met.run unmet.run met.left unmet.left met.done unmet.done in
    met-unmet plan (injections_of unmet.run) index (ap injections_of (sym run) ∙ met.injects) unmet.unmet

ways-once : (plan : List Fault) (means : Evaluation TestRun ℕ) (one other : Status) → Way plan means one → Way plan means other → one ≡ other
ways-once plan means one other (Met a) (Met b) =
    let run = one-run means a.run b.run a.left b.left a.done b.done in
    a.told ∙ ap (λ r. status_printed (is_passed r.outcome)) run ∙ sym b.told
ways-once plan means one other (Met a) (OutOfFuel is spent) = absurd (never-both means a.run a.left a.done spent)
ways-once plan means one other (Met a) (Unmet index is b) = absurd (met-or-not plan means one index a b)
ways-once plan means one other (OutOfFuel is spent) (Met b) = absurd (never-both means b.run b.left b.done spent)
ways-once plan means one other (OutOfFuel is spent) (OutOfFuel also more) = is ∙ sym also
ways-once plan means one other (OutOfFuel is spent) (Unmet index also b) = absurd (never-both means b.run b.left b.done spent)
ways-once plan means one other (Unmet index is a) (Met b) = absurd (met-or-not plan means other index b a)
ways-once plan means one other (Unmet index is a) (OutOfFuel also spent) = absurd (never-both means a.run a.left a.done spent)
ways-once plan means one other (Unmet index is a) (Unmet place also b) =
    let run = one-run means a.run b.run a.left b.left a.done b.done in
    let unmet = subst (λ r. IsFirstUnmet plan (injections_of r) index) run a.unmet in
    is ∙ ap NotMet (unmet-once plan (injections_of b.run) index place unmet b.unmet) ∙ sym also

sources-once : (fuel : ℕ) (plan : List Fault) (sources : Result SourceTrees Status) (one other : Status)
    → DecidesSources fuel plan sources one → DecidesSources fuel plan sources other → one ≡ other
sources-once fuel plan (Err status) one other decides also = decides ∙ sym also
sources-once fuel plan (Ok sources) one other decides also =
    let means = run_of sources.services sources.test fuel plan in
    ways-once plan means one other (way plan means one decides) (way plan means other also)

decided-once : (held : Held) (job : ReplayJob) (read : PlanRead) (one other : Status)
    → DecidesPlan held job read one → DecidesPlan held job read other → one ≡ other
decided-once held job (Err found) one other decides also = decides ∙ sym also
decided-once held job (Ok plan) one other decides also =
    sources-once job.fuel plan (sources_of held job.services job.test) one other decides also

-- ---- the campaign

abbrev status_by : Cause → ℕ → Status
status_by Completed failed = status_printed (failed == 0)
status_by (fuel_spent plan) failed = FuelSpent plan
status_by (budget_spent plan) failed = BudgetSpent plan

-- the status is that by the cause of the last line
by-cause : (report : List CampaignLine) (status : Status) → DecidesCampaign report status
    → (cause : Cause) × EndsBy report cause × (status ≡ status_by cause (counted report).failed)
by-cause report Good decides = (Completed, decides.0, rw decides.1 refl)
by-cause report Failures decides =
    let some : ((counted report).failed == 0) ≡ false = grind (arith, decides.1) in
    (Completed, decides.0, rw some refl)
by-cause report (FuelSpent plan) decides = (fuel_spent plan, decides, refl)
by-cause report (BudgetSpent plan) decides = (budget_spent plan, decides, refl)
by-cause report Usage decides = absurd decides
by-cause report SameName decides = absurd decides
by-cause report (Refused refusal) decides = absurd decides
by-cause report (ReadFault role) decides = absurd decides
by-cause report WriteFault decides = absurd decides
by-cause report (NotMet index) decides = absurd decides
by-cause report (No line rule) decides = absurd decides
by-cause report Memory decides = absurd decides

-- the last line has one cause
one-cause : (report : List CampaignLine) (cause other : Cause) → EndsBy report cause → EndsBy report other → cause ≡ other
one-cause report cause other is also =
    let lines : Some (EndLine cause is.0) ≡ Some (EndLine other also.0) = sym is.1 ∙ also.1 in
    cc

campaign-once : (report : List CampaignLine) (one other : Status) → DecidesCampaign report one → DecidesCampaign report other → one ≡ other
campaign-once report one other decides also =
    let first = by-cause report one decides in
    let second = by-cause report other also in
    let same = one-cause report first.0 second.0 first.1 second.1 in
    first.2 ∙ ap (λ cause. status_by cause (counted report).failed) same ∙ sym second.2

test-once : (job : TestJob) (inputs : Result CampaignInputs Status) (one other : Status)
    → DecidesTest job inputs one → DecidesTest job inputs other → one ≡ other
test-once job (Err status) one other decides also = decides ∙ sym also
test-once job (Ok inputs) one other decides also = campaign-once (campaign_over job inputs) one other decides also

trial-once : (inputs : Result CampaignInputs Status) (one other : Status) → DecidesTrial inputs one → DecidesTrial inputs other → one ≡ other
trial-once (Err status) one other decides also = decides ∙ sym also
trial-once (Ok inputs) one other decides also = campaign-once (trial_campaign inputs) one other decides also

-- ---- the plan's text

no-plan : (text : List ℕ) (offset : ℕ) → IsPlanRefusedAt text offset → ¬ (IsPlanText text)
no-plan text offset (inl (none, missing)) = none
no-plan text offset (inr (none, refused)) = refused.no_text

plan-parts : (plan : List Fault) → All IsSpelledFault plan → IsPlan plan
plan-parts plan each = λ k d inside. (each k d inside).0

module _ (unique : (a : List Fault) (b : List Fault) → IsPlan a → IsPlan b → plan_text a ≡ plan_text b → a ≡ b)
    (offsets : (bytes : List ℕ) (one other : ℕ) → IsPlanRefusedAt bytes one → IsPlanRefusedAt bytes other → one ≡ other) where
  pub reads-once : (text : List ℕ) (one other : PlanRead) → ReadsPlan text one → ReadsPlan text other → one ≡ other
  reads-once text (Ok plan) (Ok other) is also =
      ap Ok (unique plan other (plan-parts plan is.2) (plan-parts other also.2) (sym is.1 ∙ also.1))
  reads-once text (Ok plan) (Err TooLong) is also = absurd (omega (arith, is.0, also))
  reads-once text (Ok plan) (Err (Plan offset)) is also = absurd (no-plan text offset also.1 (plan, is.2, is.1))
  reads-once text (Ok plan) (Err (Syntax found)) is also = absurd also
  reads-once text (Ok plan) (Err (Check place rule)) is also = absurd also
  reads-once text (Ok plan) (Err (Faults found)) is also = absurd also
  reads-once text (Err TooLong) (Ok other) is also = absurd (omega (arith, also.0, is))
  reads-once text (Err TooLong) (Err TooLong) is also = refl
  reads-once text (Err TooLong) (Err (Plan offset)) is also = absurd (omega (arith, is, also.0))
  reads-once text (Err TooLong) (Err (Syntax found)) is also = absurd also
  reads-once text (Err TooLong) (Err (Check place rule)) is also = absurd also
  reads-once text (Err TooLong) (Err (Faults found)) is also = absurd also
  reads-once text (Err (Plan offset)) (Ok other) is also = absurd (no-plan text offset is.1 (other, also.2, also.1))
  reads-once text (Err (Plan offset)) (Err TooLong) is also = absurd (omega (arith, is.0, also))
  reads-once text (Err (Plan offset)) (Err (Plan place)) is also = ap (λ n. Err (Plan n)) (offsets text offset place is.1 also.1)
  reads-once text (Err (Plan offset)) (Err (Syntax found)) is also = absurd also
  reads-once text (Err (Plan offset)) (Err (Check place rule)) is also = absurd also
  reads-once text (Err (Plan offset)) (Err (Faults found)) is also = absurd also
  reads-once text (Err (Syntax found)) other is also = absurd is
  reads-once text (Err (Check place rule)) other is also = absurd is
  reads-once text (Err (Faults found)) other is also = absurd is

  -- ---- the words

  job-once : VerdictsAreExact → (held : Held) (job : Job) (one other : Status) → DecidesJob held job one → DecidesJob held job other → one ≡ other
  job-once exact held (Test job) one other decides also = test-once job (inputs_of held job.services job.test job.faults) one other decides also
  job-once exact held (check_job job) one other decides also = check-once exact (check_inputs_of held job) one other decides also
  job-once exact held (Fmt services) one other decides also = decides ∙ sym also
  job-once exact held (Trial number size) one other decides also = trial-once (generated_inputs number size) one other decides also
  job-once exact held (Replay job) one other decides also =
      let same = reads-once job.plan decides.0 also.0 decides.1 also.1 in
      decided-once held job also.0 one other (subst (λ read. DecidesPlan held job read one) same decides.2) also.2

  begun-once : VerdictsAreExact → (b : Bool) (held : Held) (job : Job) (one other : Status) → MatchBool b (one ≡ SameName) (DecidesJob held job one)
      → MatchBool b (other ≡ SameName) (DecidesJob held job other) → one ≡ other
  begun-once exact true held job one other decides also = decides ∙ sym also
  begun-once exact false held job one other decides also = job-once exact held job one other decides also

  pub words-once : VerdictsAreExact → (held : Held) (job : Option Job) (one other : Status) → DecidesWords held job one → DecidesWords held job other → one ≡ other
  words-once exact held None one other decides also = decides ∙ sym also
  words-once exact held (Some job) one other decides also = begun-once exact (overwrites_input job) held job one other decides also
