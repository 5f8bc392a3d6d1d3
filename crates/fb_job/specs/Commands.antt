-- The commands with their options, as `clap` knows them.
use Rattle.std.specs.Prelude.{ℕ, Bool, true, false, List, [], ◌∷◌, Option, Some, None, codes}
use Rattle.clap.specs.Words.{App, Row, Rule, fault_of, matches_of, new_app, new_rule, with_rule}
use Rattle.clap.specs.declared.builder.action.ArgAction.TheVariants.{Set, SetTrue}

-- an option with a value
abbrev pub option_rule : List ℕ → Bool → Rule
option_rule name required = record (new_rule name) { long = Some name; action = Some Set; required = required }

-- an option without a value, which may be left out
abbrev pub flag_rule : List ℕ → Rule
flag_rule name = record (new_rule name) { long = Some name; action = Some SetTrue }

-- a word that has its meaning by its place, and has to be given
abbrev pub word_rule : List ℕ → Rule
word_rule name = record (new_rule name) { action = Some Set; required = true }

abbrev pub with_option : App → List ℕ → Bool → App
with_option app name required = with_rule app (option_rule name required)

abbrev pub with_flag : App → List ℕ → App
with_flag app name = with_rule app (flag_rule name)

abbrev pub with_word : App → List ℕ → App
with_word app name = with_rule app (word_rule name)

-- `test` with the options that it has to be given
abbrev pub test_of_files : App
test_of_files = with_option (with_option (with_option (new_app (codes "test")) (codes "services") true) (codes "test") true) (codes "report") true

unfoldable pub test_app : App
test_app =
    with_flag (with_option (with_option (with_option test_of_files (codes "faults") false) (codes "fuel") false) (codes "budget") false)
    (codes "no-reduction")

unfoldable pub check_app : App
check_app =
    with_option (with_option (with_option (with_option (new_app (codes "check")) (codes "services") true) (codes "test") true) (codes "report") true)
    (codes "faults") false

unfoldable pub replay_app : App
replay_app =
    with_option (with_option (with_option (with_option (new_app (codes "replay")) (codes "services") true) (codes "test") true) (codes "plan") true)
    (codes "fuel") false

unfoldable pub fmt_app : App
fmt_app = with_option (new_app (codes "fmt")) (codes "services") true

unfoldable pub trial_app : App
trial_app = with_word (with_word (new_app (codes "trial")) (codes "NUMBER")) (codes "SIZE")

-- the options that words give, where `clap` has no fault to find
abbrev pub rows_unless : {K : Type 0} → List K → List Row → Option (List Row)
rows_unless [] rows = Some rows
rows_unless (fault ∷ more) rows = None

abbrev pub rows_given : App → List (List ℕ) → Option (List Row)
rows_given app words = rows_unless (fault_of app words) (matches_of app words)
