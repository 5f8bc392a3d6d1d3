-- The exit codes.
use Rattle.std.specs.Prelude.{ℕ, Result, Ok, Err, if◌then◌else◌}
use Rattle.std.specs.IoError.{error_kind}
use Rattle.std.specs.declared.io.Error.{Error}
use Rattle.fb_files.specs.IoError.{is_out_of_memory}
use Rattle.fb_cli.specs.declared.status.Status.{Status}
use Rattle.fb_cli.specs.declared.status.Status.TheVariants.{Good, Failures, Usage, SameName, Refused, ReadFault, WriteFault, FuelSpent, BudgetSpent, NotMet, No, Memory}

abbrev pub code_of : Status → ℕ
code_of Good = 0
code_of Failures = 1
code_of Usage = 2
code_of SameName = 2
code_of (Refused refusal) = 3
code_of (ReadFault role) = 4
code_of WriteFault = 5
code_of (FuelSpent plan) = 6
code_of (BudgetSpent plan) = 7
code_of (No line rule) = 8
code_of Memory = 9
code_of (NotMet index) = 10

-- the words weren't to be had: memory was refused, or the system doesn't give them as text
abbrev pub code_without_words : Error → ℕ
code_without_words error = if is_out_of_memory (error_kind error) then code_of Memory else 11

-- the exit code of the process, by the answer of the top call, or by the error with which the system gave no words
abbrev pub exit_code : Result Status Error → ℕ
exit_code (Ok status) = code_of status
exit_code (Err error) = code_without_words error
