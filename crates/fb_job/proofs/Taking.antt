-- Words that `clap` takes, and those in which it finds a fault.
use Rattle.std.proofs.Common.{◌≡◌, ◌∙◌, ◌⊎◌, inl, inr, ap, refl, true, false, Bool, ◌&&◌, ℕ, List, [], ◌∷◌, Some, None, Err, codes}
use Rattle.clap.specs.declared.parser.matches.ArgMatches.{ArgMatches}
use Rattle.std.specs.Str.{bytes_eq}
use Rattle.clap.specs.Words.{App, Row, IsAmong, fault_of, first_of, found_of, rows_of, is_simple, is_simple_and_free, matches_of}
use Rattle.clap.specs.declared.error.kind.ErrorKind.{ErrorKind}
use Rattle.clap.specs.declared.error.kind.ErrorKind.TheVariants.{OutOfMemory}
use Rattle.fb_job.specs.declared.job.JobError.{JobError}
use Rattle.fb_job.specs.declared.job.JobError.TheVariants.{Usage, Memory}
use Rattle.fb_job.specs.Answers.{AnswersJob, cause_of}
use Rattle.fb_job.specs.Commands.{rows_given, rows_unless}
use Rattle.fb_job.specs.Options.{is_set}

first_true : (a b : Bool) → (a && b) ≡ true → a ≡ true
first_true true b h = refl
first_true false b h = absurd (cc)

pub simple : (app : App) → is_simple_and_free app ≡ true → is_simple app ≡ true
simple app h = first_true (is_simple app) _ h

pub taken : (app : App) (words : List (List ℕ)) (rows : List Row) → fault_of app words ≡ [] → rows ≡ matches_of app words
    → rows_given app words ≡ Some rows
taken app words rows clear same = rw (clear, ← same) refl

none_among : (k : ErrorKind) (faults : List ErrorKind) (rows : List Row) → IsAmong k faults → rows_unless faults rows ≡ None
none_among k [] rows among = absurd among
none_among k (fault ∷ more) rows among = refl

pub refused : (app : App) (words : List (List ℕ)) (k : ErrorKind) (cause : JobError) → (k ≡ OutOfMemory) ⊎ IsAmong k (fault_of app words)
    → cause ≡ cause_of k → AnswersJob {A = ArgMatches} (λ m. rows_of (found_of m)) (rows_given app words) (Err cause)
refused app words k Memory how same = tt
refused app words k Usage (inl short) same = let other : Usage ≡ Memory = same ∙ ap cause_of short in absurd (cc)
refused app words k Usage (inr among) same = none_among k (fault_of app words) (matches_of app words) among

-- ---- an option without a value

pub is_set-given : (name : List ℕ) (rows : List Row) (text : List ℕ) (set : Bool) → first_of name rows ≡ Some text → set ≡ bytes_eq text (codes "true")
    → set ≡ is_set (first_of name rows)
is_set-given name rows text set first is = rw first is

pub is_set-none : (name : List ℕ) (rows : List Row) → first_of name rows ≡ None → false ≡ is_set (first_of name rows)
is_set-none name rows first = rw first refl
