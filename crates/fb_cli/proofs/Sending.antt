-- What was sent, by how the job ended and what the last put answered.
use Rattle.std.proofs.Common.{◌≡◌, ◌⊎◌, inl, inr, ℕ, List, [], false, Option, Some, None, refl, sym, subst, append-nil}
use Rattle.fb_base.specs.Front.{GrewByFrontOf}
use Rattle.fb_files.specs.Files.{Held, Asked}
use Rattle.fb_cli.specs.declared.status.Status.{Status}
use Rattle.fb_cli.specs.declared.status.Status.TheVariants.{Good, Failures, Usage, SameName, Refused, ReadFault, WriteFault, Memory, FuelSpent, BudgetSpent, NotMet, No}
use Rattle.fb_job.specs.declared.job.Job.{Job}
use Rattle.fb_job.specs.declared.job.Job.TheVariants.{Test, Check, Replay, Fmt, Trial}
use Rattle.fb_job.specs.Names.{overwrites_input}
use Rattle.fb_cli.specs.Telling.{AnswersTell, SendsText, SendsTold, IsToldByText}
use Rattle.fb_cli.specs.Asking.{AsksFor}
use Rattle.std.specs.Option.{IfSome}
use Rattle.fb_files.specs.Told.{BothTold}
use Rattle.fb_cli.specs.Decision.{DecidesJob, DecidesWords}
use Rattle.fb_cli.proofs.TellingBoth.{BothTold-weaker}
use Rattle.fb_cli.specs.Texts.{status_text}
use Rattle.fb_cli.specs.Trials.{AnswersTrial}
use Rattle.fb_cli.specs.Answers.{SendsFront, OfWriteFault, OfReadFault, OfDecided, SendsFrontUntold, OfFailedTrial, OfTrial, Sends, SendsFrontWhereTold, IsTextOf, IsDecidedBy}
use Rattle.fb_cli.proofs.Endings.{Ended, Kept, PutFailed, PutRefused, Ended-tell, IsDecidedBy-begun}

-- nothing was sent, which is a front of any text
pub GrewByFrontOf-none : (text before after : List ℕ) → after ≡ before → GrewByFrontOf text before after
GrewByFrontOf-none text before after same = ([], (text, refl), rw append-nil same)

-- a front of the decided text was sent
SendsFront-decided : (words : Option Job) (held : Held) (text : List ℕ) (status : Status) (asked_before asked_after : Asked) (before after : List ℕ)
    → DecidesWords held words status → IsTextOf status words (Some held) text → GrewByFrontOf text before after
    → SendsFront words held asked_before asked_after before after
SendsFront-decided words held text status x y before after decides tells sends = OfDecided status decides (text, tells, sends)

-- a front of the status's text was sent: of the read fault where that is the status, and else of the decided one
SendsFront-status : (job : Job) (held : Held) (text : List ℕ) (status : Status) (asked_before asked_after : Asked) (before after : List ℕ)
    → IsToldByText status → IsDecidedBy (DecidesWords held (Some job)) status → AsksFor job ⊥ status asked_before asked_after
    → IsTextOf status (Some job) (Some held) text → GrewByFrontOf text before after
    → SendsFront (Some job) held asked_before asked_after before after
SendsFront-status job held text (ReadFault role) x y before after told decides asks tells sends =
    OfReadFault role (record { the_job = job; said = refl; asked = asks }) (subst (λ t. GrewByFrontOf t before after) tells sends)
SendsFront-status job held text WriteFault x y before after told decides asks tells sends = absurd told
SendsFront-status job held text Memory x y before after told decides asks tells sends = absurd told
SendsFront-status job held text Good x y before after told decides asks tells sends =
    SendsFront-decided (Some job) held text Good x y before after decides tells sends
SendsFront-status job held text Failures x y before after told decides asks tells sends =
    SendsFront-decided (Some job) held text Failures x y before after decides tells sends
SendsFront-status job held text Usage x y before after told decides asks tells sends =
    SendsFront-decided (Some job) held text Usage x y before after decides tells sends
SendsFront-status job held text SameName x y before after told decides asks tells sends =
    SendsFront-decided (Some job) held text SameName x y before after decides tells sends
SendsFront-status job held text (FuelSpent plan) x y before after told decides asks tells sends =
    SendsFront-decided (Some job) held text (FuelSpent plan) x y before after decides tells sends
SendsFront-status job held text (BudgetSpent plan) x y before after told decides asks tells sends =
    SendsFront-decided (Some job) held text (BudgetSpent plan) x y before after decides tells sends
SendsFront-status job held text (NotMet index) x y before after told decides asks tells sends =
    SendsFront-decided (Some job) held text (NotMet index) x y before after decides tells sends
SendsFront-status job held text (No line rule) x y before after told decides asks tells sends =
    SendsFront-decided (Some job) held text (No line rule) x y before after decides tells sends
SendsFront-status job held text (Refused refusal) x y before after told decides asks tells sends =
    SendsFront-decided (Some job) held text (Refused refusal) x y before after decides tells sends

-- the text of a trial doesn't rest on what is held
IsTextOf-trial : (number size : ℕ) (held : Option Held) (text : List ℕ) (status : Status)
    → IsTextOf status (Some (Trial number size)) held text → IsTextOf status (Some (Trial number size)) None text
IsTextOf-trial number size held text Good tells = tells
IsTextOf-trial number size held text Failures tells = tells
IsTextOf-trial number size held text Usage tells = tells
IsTextOf-trial number size held text SameName tells = tells
IsTextOf-trial number size held text (Refused refusal) tells = tells
IsTextOf-trial number size held text (ReadFault role) tells = tells
IsTextOf-trial number size held text (FuelSpent plan) tells = tells
IsTextOf-trial number size held text (BudgetSpent plan) tells = tells
IsTextOf-trial number size held text (NotMet index) tells = tells
IsTextOf-trial number size held text (No line rule) tells = tells
IsTextOf-trial number size held text WriteFault tells = tells
IsTextOf-trial number size held text Memory tells = tells

-- where the files tell nothing
SendsFrontUntold-failed : (words : Option Job) (before after : List ℕ) → GrewByFrontOf (status_text [] WriteFault) before after
    → SendsFrontUntold words before after
SendsFrontUntold-failed None before after sends = tt
SendsFrontUntold-failed (Some (Test job)) before after sends = tt
SendsFrontUntold-failed (Some (Check job)) before after sends = tt
SendsFrontUntold-failed (Some (Replay job)) before after sends = tt
SendsFrontUntold-failed (Some (Fmt services)) before after sends = tt
SendsFrontUntold-failed (Some (Trial number size)) before after sends = OfFailedTrial sends

SendsFrontUntold-trial : (number size : ℕ) (held : Option Held) (text : List ℕ) (status : Status) (before after : List ℕ)
    → AnswersTrial ⊥ (Some (Trial number size)) status → IsTextOf status (Some (Trial number size)) held text → IsToldByText status
    → GrewByFrontOf text before after → SendsFrontUntold (Some (Trial number size)) before after
SendsFrontUntold-trial number size held text WriteFault before after decides tells told sends = absurd told
SendsFrontUntold-trial number size held text Memory before after decides tells told sends = absurd told
SendsFrontUntold-trial number size held text Good before after decides tells told sends = OfTrial Good decides (text, tells, sends)
SendsFrontUntold-trial number size held text Failures before after decides tells told sends = OfTrial Failures decides (text, tells, sends)
SendsFrontUntold-trial number size held text Usage before after decides tells told sends = OfTrial Usage decides (text, tells, sends)
SendsFrontUntold-trial number size held text SameName before after decides tells told sends = OfTrial SameName decides (text, tells, sends)
SendsFrontUntold-trial number size held text (Refused refusal) before after decides tells told sends = OfTrial (Refused refusal) decides (text, tells, sends)
SendsFrontUntold-trial number size held text (ReadFault role) before after decides tells told sends = OfTrial (ReadFault role) decides (text, tells, sends)
SendsFrontUntold-trial number size held text (FuelSpent plan) before after decides tells told sends = OfTrial (FuelSpent plan) decides (text, tells, sends)
SendsFrontUntold-trial number size held text (BudgetSpent plan) before after decides tells told sends = OfTrial (BudgetSpent plan) decides (text, tells, sends)
SendsFrontUntold-trial number size held text (NotMet index) before after decides tells told sends = OfTrial (NotMet index) decides (text, tells, sends)
SendsFrontUntold-trial number size held text (No line rule) before after decides tells told sends = OfTrial (No line rule) decides (text, tells, sends)

SendsFrontUntold-status : (job : Job) (held : Option Held) (text : List ℕ) (status : Status) (before after : List ℕ)
    → AnswersTrial ⊥ (Some job) status → IsTextOf status (Some job) held text → IsToldByText status
    → GrewByFrontOf text before after → SendsFrontUntold (Some job) before after
SendsFrontUntold-status (Test job) held text status before after decides tells told sends = tt
SendsFrontUntold-status (Check job) held text status before after decides tells told sends = tt
SendsFrontUntold-status (Replay job) held text status before after decides tells told sends = tt
SendsFrontUntold-status (Fmt services) held text status before after decides tells told sends = tt
SendsFrontUntold-status (Trial number size) held text status before after decides tells told sends =
    SendsFrontUntold-trial number size held text status before after decides tells told sends

-- nothing is held
nothing_held : Held
nothing_held = λ name. None

SendsFrontUntold-words : (words : Option Job) (held : Option Held) (text : List ℕ) (status : Status) (before after : List ℕ)
    → DecidesWords nothing_held words status → IsTextOf status words held text → GrewByFrontOf text before after → SendsFrontUntold words before after
SendsFrontUntold-words None held text status before after decides tells sends = tt
SendsFrontUntold-words (Some (Test job)) held text status before after decides tells sends = tt
SendsFrontUntold-words (Some (Check job)) held text status before after decides tells sends = tt
SendsFrontUntold-words (Some (Replay job)) held text status before after decides tells sends = tt
SendsFrontUntold-words (Some (Fmt services)) held text status before after decides tells sends = tt
SendsFrontUntold-words (Some (Trial number size)) held text status before after decides tells sends =
    OfTrial status decides (text, IsTextOf-trial number size held text status tells, sends)

Sends-kept : (words : Option Job) (told_held : Option Held) (asked_before asked_after : Option Asked) (text : List ℕ) (status : Status) (before after : List ℕ)
    → IsTextOf status words told_held text → SendsTold text status status before after
    → Sends words told_held asked_before asked_after status before after
Sends-kept words held x y text Good before after tells sends = (text, tells, sends)
Sends-kept words held x y text Failures before after tells sends = (text, tells, sends)
Sends-kept words held x y text Usage before after tells sends = (text, tells, sends)
Sends-kept words held x y text SameName before after tells sends = (text, tells, sends)
Sends-kept words held x y text (Refused refusal) before after tells sends = (text, tells, sends)
Sends-kept words held x y text (ReadFault role) before after tells sends = (text, tells, sends)
Sends-kept words held x y text (FuelSpent plan) before after tells sends = (text, tells, sends)
Sends-kept words held x y text (BudgetSpent plan) before after tells sends = (text, tells, sends)
Sends-kept words held x y text (NotMet index) before after tells sends = (text, tells, sends)
Sends-kept words held x y text (No line rule) before after tells sends = (text, tells, sends)
Sends-kept words (Some held) (Some x) (Some y) text WriteFault before after tells sends =
    OfWriteFault (subst (λ t. GrewByFrontOf t before after) tells sends)
Sends-kept words (Some held) (Some x) (Some y) text Memory before after tells sends = OfWriteFault (GrewByFrontOf-none _ before after sends)
Sends-kept words None x y text WriteFault before after tells sends =
    SendsFrontUntold-failed words before after (subst (λ t. GrewByFrontOf t before after) tells sends)
Sends-kept words (Some held) None y text WriteFault before after tells sends =
    SendsFrontUntold-failed words before after (subst (λ t. GrewByFrontOf t before after) tells sends)
Sends-kept words (Some held) (Some x) None text WriteFault before after tells sends =
    SendsFrontUntold-failed words before after (subst (λ t. GrewByFrontOf t before after) tells sends)
Sends-kept words None x y text Memory before after tells sends =
    SendsFrontUntold-failed words before after (GrewByFrontOf-none _ before after sends)
Sends-kept words (Some held) None y text Memory before after tells sends =
    SendsFrontUntold-failed words before after (GrewByFrontOf-none _ before after sends)
Sends-kept words (Some held) (Some x) None text Memory before after tells sends =
    SendsFrontUntold-failed words before after (GrewByFrontOf-none _ before after sends)

SendsTold-put : (text : List ℕ) (status answer : Status) (before after : List ℕ)
    → IsToldByText status → SendsTold text status answer before after → SendsText text answer before after
SendsTold-put text Good answer before after told sends = sends
SendsTold-put text Failures answer before after told sends = sends
SendsTold-put text Usage answer before after told sends = sends
SendsTold-put text SameName answer before after told sends = sends
SendsTold-put text (Refused refusal) answer before after told sends = sends
SendsTold-put text (ReadFault role) answer before after told sends = sends
SendsTold-put text (FuelSpent plan) answer before after told sends = sends
SendsTold-put text (BudgetSpent plan) answer before after told sends = sends
SendsTold-put text (NotMet index) answer before after told sends = sends
SendsTold-put text (No line rule) answer before after told sends = sends
SendsTold-put text WriteFault answer before after told sends = absurd told
SendsTold-put text Memory answer before after told sends = absurd told

-- a put that gave up sent a front of the text
SendsText-front : (text : List ℕ) (answer : Status) (before after : List ℕ)
    → (answer ≡ WriteFault) ⊎ (answer ≡ Memory) → SendsText text answer before after → GrewByFrontOf text before after
SendsText-front text answer before after (inl is) sends = rw is at sends
SendsText-front text answer before after (inr is) sends = rw is at sends

SendsFrontWhereTold-status : (job : Job) (held : Option Held) (asked_before asked_after : Option Asked) (text : List ℕ) (status : Status) (before after : List ℕ)
    → IfSome held (λ h. IsDecidedBy (DecidesWords h (Some job)) status) → AnswersTrial ⊥ (Some job) status
    → BothTold (AsksFor job ⊥ status) asked_before asked_after
    → IsTextOf status (Some job) held text → IsToldByText status → GrewByFrontOf text before after
    → SendsFrontWhereTold (Some job) held asked_before asked_after before after
SendsFrontWhereTold-status job (Some held) (Some x) (Some y) text status before after decides trial asks tells told sends =
    SendsFront-status job held text status x y before after told decides asks tells sends
SendsFrontWhereTold-status job None x y text status before after decides trial asks tells told sends =
    SendsFrontUntold-status job None text status before after trial tells told sends
SendsFrontWhereTold-status job (Some held) None y text status before after decides trial asks tells told sends =
    SendsFrontUntold-status job (Some held) text status before after trial tells told sends
SendsFrontWhereTold-status job (Some held) (Some x) None text status before after decides trial asks tells told sends =
    SendsFrontUntold-status job (Some held) text status before after trial tells told sends

SendsFrontWhereTold-words : (words : Option Job) (held : Option Held) (asked_before asked_after : Option Asked) (text : List ℕ) (status : Status) (before after : List ℕ)
    → ((h : Held) → DecidesWords h words status) → IsTextOf status words held text → GrewByFrontOf text before after
    → SendsFrontWhereTold words held asked_before asked_after before after
SendsFrontWhereTold-words words (Some held) (Some x) (Some y) text status before after decides tells sends =
    SendsFront-decided words held text status x y before after (decides held) tells sends
SendsFrontWhereTold-words words None x y text status before after decides tells sends =
    SendsFrontUntold-words words None text status before after (decides nothing_held) tells sends
SendsFrontWhereTold-words words (Some held) None y text status before after decides tells sends =
    SendsFrontUntold-words words (Some held) text status before after (decides nothing_held) tells sends
SendsFrontWhereTold-words words (Some held) (Some x) None text status before after decides tells sends =
    SendsFrontUntold-words words (Some held) text status before after (decides nothing_held) tells sends

-- what was sent, by the answer; a front of the text is one that may be sent
Sends-ended : (words : Option Job) (held : Option Held) (asked_before asked_after : Option Asked) (b a : ℕ) (text : List ℕ) (status answer : Status) (before after : List ℕ)
    → Ended b a status answer → IsTextOf status words held text
    → (IsToldByText status → GrewByFrontOf text before after → SendsFrontWhereTold words held asked_before asked_after before after)
    → SendsTold text status answer before after → Sends words held asked_before asked_after answer before after
Sends-ended words held x y b a text status answer before after (Kept is) tells front sends =
    subst (λ s. Sends words held x y s before after) (sym is)
    (Sends-kept words held x y text status before after tells (subst (λ s. SendsTold text status s before after) is sends))
Sends-ended words held x y b a text status answer before after (PutFailed told is rose) tells front sends =
    subst (λ s. Sends words held x y s before after) (sym is)
    (front told (SendsText-front text answer before after (inl is) (SendsTold-put text status answer before after told sends)))
Sends-ended words held x y b a text status answer before after (PutRefused told is) tells front sends =
    subst (λ s. Sends words held x y s before after) (sym is)
    (front told (SendsText-front text answer before after (inr is) (SendsTold-put text status answer before after told sends)))

-- of a job that was begun
pub Sends-told : (words : Option Job) (job : Job) (held : Option Held) (asked_before asked_after : Option Asked) (b a : ℕ) (text : List ℕ) (status answer : Status)
    (before after : Option (List ℕ))
    → words ≡ Some job → overwrites_input job ≡ false → AnswersTell b a status answer
    → IfSome held (λ h. IsDecidedBy (DecidesJob h job) status) → AnswersTrial ⊥ (Some job) status
    → BothTold (AsksFor job ⊥ status) asked_before asked_after → IsTextOf status (Some job) held text
    → BothTold (SendsTold text status answer) before after
    → BothTold (Sends words held asked_before asked_after answer) before after
Sends-told words job held x y b a text status answer before after said other answers decides trial asks tells sends =
    BothTold-weaker before after
    (λ sent now told. rw said
    (Sends-ended (Some job) held x y b a text status answer sent now (Ended-tell b a status answer answers) tells
    (SendsFrontWhereTold-status job held x y text status sent now (IsDecidedBy-begun job held status other decides) trial asks tells) told))
    sends

-- of words that decide the answer by themselves
pub Sends-words : (words : Option Job) (held : Option Held) (asked_before asked_after : Option Asked) (b a : ℕ) (text : List ℕ) (status answer : Status)
    (before after : Option (List ℕ))
    → ((h : Held) → DecidesWords h words status) → AnswersTell b a status answer → IsTextOf status words held text
    → BothTold (SendsTold text status answer) before after
    → BothTold (Sends words held asked_before asked_after answer) before after
Sends-words words held x y b a text status answer before after decides answers tells sends =
    BothTold-weaker before after
    (λ sent now told. Sends-ended words held x y b a text status answer sent now (Ended-tell b a status answer answers) tells
    (λ h. SendsFrontWhereTold-words words held x y text status sent now decides tells) told)
    sends
