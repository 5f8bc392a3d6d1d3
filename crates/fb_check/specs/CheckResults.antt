-- What the checks answer: the accepted source where nothing is refused, and else the first refusal.
use Rattle.std.specs.Prelude.{◌≡◌, Some, None, Result, Ok, Err}
use Rattle.fb_syntax.specs.Trees.{ServicesTree, TestTree}
use Rattle.fb_check.specs.declared.program.Program.{Program}
use Rattle.fb_check.specs.declared.checked_test.CheckedTest.{CheckedTest}
use Rattle.fb_check.specs.declared.error.CheckError.{CheckError}
use Rattle.fb_check.specs.declared.error.CheckError.TheVariants.{Refused, Memory}
use Rattle.fb_check.specs.FirstRefusal.{first_refusal, first_refusal_of_test}

abbrev pub IsServicesCheck : ServicesTree → Result Program CheckError → Type 0
IsServicesCheck tree (Ok program) = (first_refusal tree ≡ None) × (program.tree ≡ tree)
IsServicesCheck tree (Err (Refused place rule)) = first_refusal tree ≡ Some (record { place = place; rule = rule })
IsServicesCheck tree (Err Memory) = Unit {0}

-- the test is one of these services
abbrev pub IsTestCheck : ServicesTree → TestTree → Result CheckedTest CheckError → Type 0
IsTestCheck services tree (Ok test) = (first_refusal_of_test services tree ≡ None) × (test.tree ≡ tree) × (test.services ≡ services)
IsTestCheck services tree (Err (Refused place rule)) = first_refusal_of_test services tree ≡ Some (record { place = place; rule = rule })
IsTestCheck services tree (Err Memory) = Unit {0}
