use Rattle.std.proofs.Common.{◌∙◌, sym, rules}
use Rattle.clap.proofs.WalkLemmas.{first_value-rows}
use Rattle.clap.specs.Words.{found_of}
use Rattle.fb_job.proofs.command.optional_word.Goals as goal

pub returns-in_ok-word-in-Some : goal.returns-in_ok-word-in-Some
returns-in_ok-word-in-Some c = sym (sym (first_value-rows (found_of c.args.matches.now) c.args.name.now) ∙ search rules)

pub returns-in-None : goal.returns-in-None
returns-in-None c = sym (sym (first_value-rows (found_of c.args.matches.now) c.args.name.now) ∙ search rules)
