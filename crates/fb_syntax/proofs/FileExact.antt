-- A text has exactly the tree that it gives.
use Rattle.std.proofs.Common.{◌≡◌, ℕ, ◌≤◌, ◌↔◌, Result, Ok, Err, List, length, sym, ◌∙◌}
use Rattle.std.specs.Prelude.{IfOk}
use Rattle.fb_syntax.specs.declared.parse_error.ParseWhy.{ParseWhy}
use Rattle.fb_syntax.specs.declared.parse_error.ParseError.{ParseError}
use Rattle.fb_syntax.specs.declared.parse_error.ParseError.TheVariants as errors
use Rattle.fb_syntax.specs.declared.services.Services.{Services}
use Rattle.fb_syntax.specs.declared.test.Test.{Test}
use Rattle.fb_syntax.specs.Limits.{longest_source}
use Rattle.fb_syntax.specs.Trees.{ServicesTree, TestTree}
use Rattle.fb_syntax.specs.Views.{view_services, view_test}
use Rattle.fb_syntax.specs.FileReading.{services_of, test_of, GivesTree}
use Rattle.fb_syntax.specs.FileGrammar.{HasServices, HasTest, IsReadAs}
use Rattle.fb_syntax.proofs.FileSound.{services_sound, test_sound}
use Rattle.fb_syntax.proofs.FileComplete.{services_complete, test_complete}
use Rattle.fb_syntax.proofs.FileKept.{services_limits, test_limits}
use Rattle.fb_syntax.specs.Kept.{KeepsServicesLimits, KeepsTestLimits}

pub services_exact : (bytes : List ℕ) (tree : ServicesTree) → (services_of bytes ≡ Ok tree) ↔ HasServices bytes tree
services_exact bytes tree = (services_sound bytes tree, services_complete bytes tree)

pub test_exact : (bytes : List ℕ) (tree : TestTree) → (test_of bytes ≡ Ok tree) ↔ HasTest bytes tree
test_exact bytes tree = (test_sound bytes tree, test_complete bytes tree)

-- what is returned is the text's tree, and where the text is refused it has none
read_as : {Made Tree : Type 0} (view : Made → Tree) (Has : List ℕ → Tree → Type 0) (bytes : List ℕ) (read : Result Tree ParseWhy) (result : Result Made ParseError)
    → ((tree : Tree) → (read ≡ Ok tree) ↔ Has bytes tree) → GivesTree view result read → IsReadAs view Has bytes result
read_as view Has bytes read (Ok made) exact given = (exact (view made)).0 given
read_as view Has bytes read (Err (errors.Refused why)) exact given = λ tree has. let no_way = sym given ∙ (exact tree).1 has in absurd cc
read_as view Has bytes read (Err errors.Memory) exact given = tt

pub services_read : (bytes : List ℕ) (result : Result Services ParseError) → GivesTree view_services result (services_of bytes) → IsReadAs view_services HasServices bytes result
services_read bytes result given = read_as view_services HasServices bytes (services_of bytes) result (services_exact bytes) given

pub test_read : (bytes : List ℕ) (result : Result Test ParseError) → GivesTree view_test result (test_of bytes) → IsReadAs view_test HasTest bytes result
test_read bytes result given = read_as view_test HasTest bytes (test_of bytes) result (test_exact bytes) given

-- the text's tree keeps the limits
pub services_limited : (bytes : List ℕ) (result : Result Services ParseError) → length bytes ≤ longest_source → GivesTree view_services result (services_of bytes)
    → IfOk result (λ services. KeepsServicesLimits (view_services services))
services_limited bytes result short given = services_limits bytes result (services_read bytes result given) short

pub test_limited : (bytes : List ℕ) (result : Result Test ParseError) → length bytes ≤ longest_source → GivesTree view_test result (test_of bytes)
    → IfOk result (λ test. KeepsTestLimits (view_test test))
test_limited bytes result short given = test_limits bytes result (test_read bytes result given) short
