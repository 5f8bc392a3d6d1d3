-- What exploring writes into the report's file, and when it is a true report.
use Rattle.std.proofs.Common.{◌≡◌, ◌≢◌, ◌⊎◌, inl, inr, ℕ, Bool, true, false, List, [], ◌∷◌, ◌++◌, All, slice_get, Option, Some, None, Result, Ok, Err, refl, sym, ◌∙◌, ap, subst, if◌then◌else◌}
use Rattle.std.specs.Option.{IfSome, option_map, option_map_or}
use Rattle.std.specs.Prelude.{IfOk}
use Rattle.std.specs.List.{last_or}
use Rattle.std.specs.Str.{bytes_eq}
use Rattle.std.proofs.lemmas.Slice.Eq.{bytes_eq-Decides}
use Rattle.fb_base.specs.declared.reply.Reply.TheVariants as reply
use Rattle.fb_syntax.specs.Trees.{ServicesTree}
use Rattle.fb_check.specs.Programs.{kinds_given}
use Rattle.fb_files.specs.declared.error.WriteError.{WriteError}
use Rattle.fb_files.specs.Files.{Held, Asked, Becomes, Creates, Grows, Appends}
use Rattle.fb_files.specs.Told.{BothTold}
use Rattle.fb_campaign.specs.Campaign.{IsCompleted}
use Rattle.fb_campaign.specs.Reports.{Line as CampaignLine, Completed, EndLine}
use Rattle.fb_campaign.specs.Runs.{AreChoices}
use Rattle.fb_config.specs.Choices.{choices_for, kind_given}
use Rattle.fb_config.specs.Fitting.{ChoosesValuesInVersion2, IsChoiceTable}
use Rattle.fb_config.specs.declared.choices.ChoiceTable.{ChoiceTable}
use Rattle.fb_report.specs.declared.line.Line.{Line}
use Rattle.fb_report.specs.declared.totals.Totals.{Totals}
use Rattle.fb_report.specs.Ranges.{IsProperLine}
use Rattle.fb_reading.specs.Answers.{IsLine}
use Rattle.fb_functest.specs.Reading.{bytes_of}
use Rattle.fb_functest.specs.ReportLaws.{CampaignsAreInRange, CompletedReportsAreTrue, AreOfVersion}
use Rattle.fb_functest.specs.Runs.{gives_of}
use Rattle.fb_functest.specs.TrueReports.{IsTrueReport}
use Rattle.fb_explore.specs.declared.end.ExploreEnd.{ExploreEnd}
use Rattle.fb_explore.specs.declared.error.PutError.{PutError}
use Rattle.fb_explore.specs.Ends.{EndsBy, stop_before_end, IsAnswerTo}
use Rattle.fb_explore.specs.Explored.{IsExplored}
use Rattle.fb_explore.specs.Puts.{Puts}
use Rattle.fb_job.specs.declared.job.TestJob.{TestJob}
use Rattle.fb_job.specs.Limits.{IsFuel}
use Rattle.fb_cli.specs.Campaigns.{campaign_over, lines_over, report_of, settings_with}
use Rattle.fb_cli.specs.Exploring.{Beside, IsWritten, Writes, held_beside, told_beside, written_in}
use Rattle.fb_cli.specs.TestInputs.{CampaignInputs}
use Rattle.fb_cli.proofs.TellingBoth.{BothTold-weaker}

-- ---- one append

other_name : (other name : List ℕ) → other ≢ name → bytes_eq other name ≡ false
other_name other name differs = known (bytes_eq other name) refl
  where
    known : (b : Bool) → bytes_eq other name ≡ b → bytes_eq other name ≡ false
    known false is = is
    known true is = absurd (differs ((bytes_eq-Decides other name).0 is))

-- what is held beside a file doesn't change where the file grows
grown_beside : (name added : List ℕ) (before after : Held) → Grows name added before after
    → (other : List ℕ) → held_beside name after other ≡ held_beside name before other
grown_beside name added before after grows other = known (bytes_eq other name) refl
  where
    known : (b : Bool) → bytes_eq other name ≡ b
        → (let held : Option (List ℕ) = if b then None else after other in held) ≡ (let held : Option (List ℕ) = if b then None else before other in held)
    known true is = refl
    known false is = grows.elsewhere other (λ same. let equal = (bytes_eq-Decides other name).1 same in absurd cc)

held_beside-grown : (name added : List ℕ) (before after : Held) → Grows name added before after → held_beside name after ≡ held_beside name before
held_beside-grown name added before after grows = λ i other. grown_beside name added before after grows other i

told_beside-grown : (name bytes : List ℕ) (result : Result (Unit {0}) WriteError) (before after : Held) → Appends bytes name result before after
    → held_beside name after ≡ held_beside name before
told_beside-grown name bytes (Ok done) before after appends = held_beside-grown name bytes before after appends
told_beside-grown name bytes (Err error) before after appends = held_beside-grown name appends.0 before after appends.2

told_beside-there : (name bytes : List ℕ) (result : Result (Unit {0}) WriteError) (before after : Option Held)
    → BothTold (Appends bytes name result) before after → told_beside (Some name) after ≡ told_beside (Some name) before
told_beside-there name bytes result None None appends = refl
told_beside-there name bytes result (Some b) (Some a) appends = ap Some (told_beside-grown name bytes result b a appends)
told_beside-there name bytes result None (Some a) appends = absurd appends
told_beside-there name bytes result (Some b) None appends = absurd appends

pub told_beside-appended : (created later : Option (List ℕ)) (bytes : List ℕ) (result : Result (Unit {0}) WriteError) (before after : Option Held)
    → later ≡ created → IfSome created (λ name. BothTold (Appends bytes name result) before after)
    → told_beside later after ≡ told_beside created before
told_beside-appended created later bytes result before after is appends =
    ap (λ name. told_beside name after) is ∙ there created appends
  where
    there : (name : Option (List ℕ)) → IfSome name (λ n. BothTold (Appends bytes n result) before after) → told_beside name after ≡ told_beside name before
    there None appends = refl
    there (Some name) appends = told_beside-there name bytes result before after appends

pub Beside-same : {one other : ℕ} {created later : Option (List ℕ)} {asked asked_later : Option Asked} {held held_later : Option Held}
    → one ≡ other → created ≡ later → asked ≡ asked_later → held ≡ held_later → (let first : Beside = record {
      reference = one;
      created = created;
      asked = asked;
      held = held;
    } in first) ≡ (let second : Beside = record { reference = other; created = later; asked = asked_later; held = held_later } in second)
Beside-same reference created asked held = λ i. record { reference = reference i; created = created i; asked = asked i; held = held i }

-- the content of a file that grew
Puts-all : (bytes : List ℕ) (held now : Option (List ℕ)) → now ≡ option_map (λ content. content ++ bytes) held → BothTold (Puts bytes None) held now
Puts-all bytes None now is = subst (λ n. BothTold (Puts bytes None) None n) (sym is) tt
Puts-all bytes (Some content) now is = subst (λ n. BothTold (Puts bytes None) (Some content) n) (sym is) refl

Puts-some : (bytes part rest : List ℕ) (stop : PutError) (held now : Option (List ℕ)) → bytes ≡ part ++ rest
    → now ≡ option_map (λ content. content ++ part) held → BothTold (Puts bytes (Some stop)) held now
Puts-some bytes part rest stop None now front is = subst (λ n. BothTold (Puts bytes (Some stop)) None n) (sym is) tt
Puts-some bytes part rest stop (Some content) now front is =
    subst (λ n. BothTold (Puts bytes (Some stop)) (Some content) n) (sym is) (part, (rest, front), refl)

pub written_in-appended : (created later : Option (List ℕ)) (bytes : List ℕ) (done : Unit {0}) (before after : Option Held)
    → later ≡ created → IfSome created (λ name. BothTold (Appends bytes name (Ok done)) before after)
    → BothTold (Puts bytes None) (written_in created before) (written_in later after)
written_in-appended created later bytes done before after is appends =
    subst (λ name. BothTold (Puts bytes None) (written_in created before) (written_in name after)) (sym is) (there created before after appends)
  where
    there : (name : Option (List ℕ)) (b a : Option Held) → IfSome name (λ n. BothTold (Appends bytes n (Ok done)) b a)
        → BothTold (Puts bytes None) (written_in name b) (written_in name a)
    there None b a appends = tt
    there (Some name) None None appends = tt
    there (Some name) (Some b) (Some a) appends = Puts-all bytes (b name) (a name) appends.here
    there (Some name) None (Some a) appends = absurd appends
    there (Some name) (Some b) None appends = absurd appends

pub written_in-failed : (created later : Option (List ℕ)) (bytes : List ℕ) (error : WriteError) (stop : PutError) (before after : Option Held)
    → later ≡ created → IfSome created (λ name. BothTold (Appends bytes name (Err error)) before after)
    → BothTold (Puts bytes (Some stop)) (written_in created before) (written_in later after)
written_in-failed created later bytes error stop before after is appends =
    subst (λ name. BothTold (Puts bytes (Some stop)) (written_in created before) (written_in name after)) (sym is) (there created before after appends)
  where
    there : (name : Option (List ℕ)) (b a : Option Held) → IfSome name (λ n. BothTold (Appends bytes n (Err error)) b a)
        → BothTold (Puts bytes (Some stop)) (written_in name b) (written_in name a)
    there None b a appends = tt
    there (Some name) None None appends = tt
    there (Some name) (Some b) (Some a) appends = Puts-some bytes appends.0 appends.1.0 stop (b name) (a name) appends.1.1 appends.2.here
    there (Some name) None (Some a) appends = absurd appends
    there (Some name) (Some b) None appends = absurd appends

-- ---- the whole report

beside_same : (name : List ℕ) (first second : Held) → held_beside name second ≡ held_beside name first
    → (other : List ℕ) → other ≢ name → second other ≡ first other
beside_same name first second same other differs =
    let there = ap (λ (held : Held). held other) same in
    rw (other_name other name differs) at there

-- a file that was empty has these bytes now
Writes-put : (report whole : List ℕ) (stop : Option PutError) (before middle after : Held) (now : Option (List ℕ))
    → Becomes report [] before middle → held_beside report after ≡ held_beside report middle → after report ≡ now
    → BothTold (Puts whole stop) (Some []) now → Writes report whole stop before after
Writes-put report whole stop before middle after None emptied same is put = absurd put
Writes-put report whole None before middle after (Some content) emptied same is put =
    record {
      here = is ∙ ap Some put;
      elsewhere = λ other differs. beside_same report middle after same other differs ∙ emptied.elsewhere other differs;
    }
Writes-put report whole (Some error) before middle after (Some content) emptied same is put =
    inr (
      put.0,
      put.1,
      record {
        here = is ∙ ap Some put.2;
        elsewhere = λ other differs. beside_same report middle after same other differs ∙ emptied.elsewhere other differs;
      },
    )

Writes-there : (report whole : List ℕ) (done : Unit {0}) (stop : Option PutError) (before middle after : Option Held)
    → BothTold (Creates report (Ok done)) before middle → told_beside (Some report) after ≡ told_beside (Some report) middle
    → BothTold (Puts whole stop) (written_in (Some report) middle) (written_in (Some report) after)
    → BothTold (Writes report whole stop) before after
Writes-there report whole done stop None None None creates same put = tt
Writes-there report whole done stop None None (Some a) creates same put = absurd cc
Writes-there report whole done stop (Some b) (Some m) None creates same put = absurd cc
Writes-there report whole done stop (Some b) (Some m) (Some a) creates same put =
    let beside : held_beside report a ≡ held_beside report m = cc in
    Writes-put report whole stop b m a (a report) creates beside refl (subst (λ held. BothTold (Puts whole stop) held (a report)) creates.here put)
Writes-there report whole done stop None (Some m) after creates same put = absurd creates
Writes-there report whole done stop (Some b) None after creates same put = absurd creates

Writes-told : (report whole : List ℕ) (done : Unit {0}) (stop : Option PutError) (created later : Option (List ℕ)) (before middle after : Option Held)
    → created ≡ Some report → later ≡ created
    → BothTold (Creates report (Ok done)) before middle → told_beside later after ≡ told_beside created middle
    → BothTold (Puts whole stop) (written_in created middle) (written_in later after)
    → BothTold (Writes report whole stop) before after
Writes-told report whole done stop created later before middle after is kept creates same put =
    let later_is = kept ∙ is in
    Writes-there report whole done stop before middle after creates (rw (is, later_is) at same) (rw (is, later_is) at put)

-- a report that couldn't be created
Writes-uncreated : (report whole : List ℕ) (error : WriteError) (stop : PutError) (before after : Option Held)
    → BothTold (Creates report (Err error)) before after → BothTold (Writes report whole (Some stop)) before after
Writes-uncreated report whole error stop before after =
    BothTold-weaker before after (λ x y creates. left_or_emptied x y creates)
  where
    left_or_emptied : (x y : Held) → (y ≡ x) ⊎ Becomes report [] x y → Writes report whole (Some stop) x y
    left_or_emptied x y (inl same) = inl same
    left_or_emptied x y (inr emptied) = inr ([], (whole, refl), emptied)

-- ---- the truth

last_of_lines : {A : Type 0} (items : List A) (first : Option A) (item : A) → last_or first items ≡ Some item
    → ((items ≡ []) × (first ≡ Some item)) ⊎ ((body : List A) × (items ≡ body ++ item ∷ []))
last_of_lines [] first item is = inl (refl, is)
last_of_lines (x ∷ xs) first item is = known (last_of_lines xs (Some x) item is)
  where
    known : ((xs ≡ []) × (Some x ≡ Some item)) ⊎ ((body : List _) × (xs ≡ body ++ item ∷ []))
        → ((x ∷ xs ≡ []) × (first ≡ Some item)) ⊎ ((body : List _) × (x ∷ xs ≡ body ++ item ∷ []))
    known (inl none) =
        let same : x ≡ item = cc in
        inr ([], ap (λ rest. x ∷ rest) none.0 ∙ ap (λ y. y ∷ []) same)
    known (inr parts) = inr (x ∷ parts.0, ap (λ rest. x ∷ rest) parts.1)

pub IsCompleted-ends : (report : List CampaignLine) → EndsBy report Completed → IsCompleted report
IsCompleted-ends report ends = known (last_of_lines report None (EndLine Completed ends.0) ends.1)
  where
    known : ((report ≡ []) × (None ≡ Some (EndLine Completed ends.0))) ⊎ ((body : List CampaignLine) × (report ≡ body ++ EndLine Completed ends.0 ∷ []))
        → IsCompleted report
    known (inl none) = absurd (let wrong = none.1 in cc)
    known (inr parts) = (parts.0, ends.0, parts.1)

-- choices that fit the kinds of a table fit those of the services that it was made for
pub AreChoices-kinds : (services : ServicesTree) (faults : ChoiceTable) → faults.kinds ≡ kinds_given services
    → AreChoices (kind_given faults) (choices_for faults) → AreChoices (gives_of services) (choices_for faults)
AreChoices-kinds services faults same proper = subst (λ kinds. AreChoices (λ method. slice_get kinds method) (choices_for faults)) same proper

-- values are chosen in version 2 alone
pub AreOfVersion-values : (faults : ChoiceTable) → ChoosesValuesInVersion2 faults → AreOfVersion faults.version (choices_for faults)
AreOfVersion-values faults values method (reply.Ok v) is = values method v is
AreOfVersion-values faults values method (reply.Err code) is = tt

report_of-lines : (job : TestJob) (inputs : CampaignInputs) (lines : List Line) → lines_over job inputs ≡ Some lines → report_of job inputs ≡ bytes_of lines
unfolding report_of
report_of-lines job inputs lines told = ap (λ found. option_map_or bytes_of found []) told

module _ (in_range : CampaignsAreInRange) (are_true : CompletedReportsAreTrue) (job : TestJob) (inputs : CampaignInputs)
    (kinds : inputs.faults.kinds ≡ kinds_given inputs.sources.services) (proper : IsChoiceTable inputs.faults) (limits : IsFuel job.fuel) where
  IsTrueReport-completed : (lines : List Line) → lines_over job inputs ≡ Some lines → EndsBy (campaign_over job inputs) Completed → All IsProperLine lines
      → IsTrueReport inputs.sources.services inputs.sources.test (choices_for inputs.faults) (report_of job inputs)
  IsTrueReport-completed lines told ends each_proper =
      let services = inputs.sources.services in
      let test = inputs.sources.test in
      let version = inputs.faults.version in
      let choices = choices_for inputs.faults in
      let settings = settings_with job in
      let ranges = in_range services test choices version settings lines proper.version (AreOfVersion-values inputs.faults proper.values) limits.0 limits.1 told in
      let each : All IsLine lines = λ k d inside. (each_proper k d inside, ranges k d inside) in
      subst (IsTrueReport services test choices) (sym (report_of-lines job inputs lines told))
      (are_true services test choices (AreChoices-kinds services inputs.faults kinds proper.choices) version settings lines
      (IsCompleted-ends (campaign_over job inputs) ends) told each)

  truth_of : (lines : List Line) (result : Result Totals ExploreEnd) → lines_over job inputs ≡ Some lines
      → IsAnswerTo (campaign_over job inputs) result → (stop_before_end result ≡ None → All IsProperLine lines)
      → IfOk result (λ totals. IsTrueReport inputs.sources.services inputs.sources.test (choices_for inputs.faults) (report_of job inputs))
  truth_of lines (Ok totals) told answer each_proper = IsTrueReport-completed lines told answer.0 (each_proper refl)
  truth_of lines (Err why) told answer each_proper = tt

  pub IsWritten-explored : (done : Unit {0}) (result : Result Totals ExploreEnd) (created later : Option (List ℕ)) (before middle after : Option Held)
      → created ≡ Some job.report → later ≡ created
      → BothTold (Creates job.report (Ok done)) before middle → told_beside later after ≡ told_beside created middle
      → IsExplored inputs.sources.services inputs.sources.test inputs.faults (settings_with job) result (written_in created middle) (written_in later after)
      → IsWritten job inputs result before after
  IsWritten-explored done result created later before middle after is kept creates same explored =
      let bytes = report_of-lines job inputs explored.lines explored.told in
      record {
        content = subst (λ whole. BothTold (Writes job.report whole (stop_before_end result)) before after) (sym bytes)
            (Writes-told job.report (bytes_of explored.lines) done (stop_before_end result) created later before middle after is kept creates same explored.put);
        answer = explored.answer;
        truth = truth_of explored.lines result explored.told explored.answer explored.proper;
      }

pub IsWritten-uncreated : (job : TestJob) (inputs : CampaignInputs) (error : WriteError) (why : ExploreEnd) (stop : PutError) (before after : Option Held)
    → stop_before_end {A = Totals} (Err why) ≡ Some stop → IsAnswerTo (campaign_over job inputs) (Err why)
    → BothTold (Creates job.report (Err error)) before after → IsWritten job inputs (Err why) before after
IsWritten-uncreated job inputs error why stop before after is answer creates =
    record {
      content = subst (λ s. BothTold (Writes job.report (report_of job inputs) s) before after) (sym is)
          (Writes-uncreated job.report (report_of job inputs) error stop before after creates);
      answer = answer;
      truth = tt;
    }
