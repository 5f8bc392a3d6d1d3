-- What a command tells when its work is done, and how the last put answers it.
use Rattle.std.specs.Prelude.{◌≡◌, ℕ, Bool, true, false, List, ◌++◌, string_bytes}
use Rattle.fb_base.specs.Count.{Rose}
use Rattle.fb_base.specs.Front.{GrewByFrontOf}
use Rattle.fb_cli.specs.declared.status.Status.{Status}
use Rattle.fb_cli.specs.declared.status.Status.TheVariants.{Good, Failures, WriteFault, Memory}
use Rattle.fb_cli.specs.declared.tell.Ending.{Ending}
use Rattle.fb_cli.specs.declared.tell.Ending.TheVariants.{Told, Printed}
use Rattle.fb_cli.specs.Texts.{status_text}

-- the status of a command that prints a text of its own
abbrev pub status_printed : Bool → Status
status_printed true = Good
status_printed false = Failures

-- the status of a command whose work ended so, and its text
abbrev pub status_told : Ending → Status
status_told (Told status) = status
status_told (Printed passed text) = status_printed passed

abbrev pub text_told : List ℕ → Ending → List ℕ
text_told report (Told status) = status_text report status
text_told report (Printed passed text) = string_bytes text

-- the answer of a put of the status's text: a put that failed makes it WriteFault
abbrev pub AnswersPut : ℕ → ℕ → Status → Status → Type 0
AnswersPut before after status WriteFault = Rose before after
AnswersPut before after status Memory = Unit {0}
AnswersPut before after status answer = answer ≡ status

-- the answer after the last put: a file that failed stays the answer, and want of memory puts nothing
abbrev pub AnswersTell : ℕ → ℕ → Status → Status → Type 0
AnswersTell before after WriteFault answer = answer ≡ WriteFault
AnswersTell before after Memory answer = answer ≡ Memory
AnswersTell before after status answer = AnswersPut before after status answer

-- the text was sent, or a front of it where the put gave up
abbrev pub SendsText : List ℕ → Status → List ℕ → List ℕ → Type 0
SendsText text WriteFault before after = GrewByFrontOf text before after
SendsText text Memory before after = GrewByFrontOf text before after
SendsText text answer before after = after ≡ before ++ text

-- what was sent of a status's text: nothing where memory was refused before
abbrev pub SendsTold : List ℕ → Status → Status → List ℕ → List ℕ → Type 0
SendsTold text Memory answer before after = after ≡ before
SendsTold text status answer before after = SendsText text answer before after

-- the status is told by a put of its text, whose result can change it
abbrev pub IsToldByText : Status → Type 0
IsToldByText WriteFault = ⊥
IsToldByText Memory = ⊥
IsToldByText status = Unit {0}
