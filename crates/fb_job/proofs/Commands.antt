-- The commands are such as `clap` decides exactly.
use Rattle.std.proofs.Common.{◌≡◌, ◌∙◌, ap, refl, true}
use Rattle.clap.specs.Words.{App, is_simple_and_free}
use Rattle.clap.proofs.OnLiterals.{clap_on_literals}
use Rattle.fb_job.specs.Commands.{test_app, check_app, replay_app, fmt_app, trial_app}

pub test_is_simple : (app : App) → app ≡ test_app → is_simple_and_free app ≡ true
unfolding test_app clap_on_literals
test_is_simple app same = ap is_simple_and_free same ∙ refl

pub check_is_simple : (app : App) → app ≡ check_app → is_simple_and_free app ≡ true
unfolding check_app clap_on_literals
check_is_simple app same = ap is_simple_and_free same ∙ refl

pub replay_is_simple : (app : App) → app ≡ replay_app → is_simple_and_free app ≡ true
unfolding replay_app clap_on_literals
replay_is_simple app same = ap is_simple_and_free same ∙ refl

pub fmt_is_simple : (app : App) → app ≡ fmt_app → is_simple_and_free app ≡ true
unfolding fmt_app clap_on_literals
fmt_is_simple app same = ap is_simple_and_free same ∙ refl

pub trial_is_simple : (app : App) → app ≡ trial_app → is_simple_and_free app ≡ true
unfolding trial_app clap_on_literals
trial_is_simple app same = ap is_simple_and_free same ∙ refl
