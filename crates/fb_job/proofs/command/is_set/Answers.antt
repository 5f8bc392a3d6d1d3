use Rattle.std.proofs.Common.{◌∙◌, sym, rules}
use Rattle.clap.proofs.WalkLemmas.{first_value-rows}
use Rattle.clap.specs.Words.{found_of, rows_of}
use Rattle.fb_job.proofs.Taking.{is_set-given, is_set-none}
use Rattle.fb_job.proofs.command.is_set.Goals as goal

pub returns-in-Some : goal.returns-in-Some
returns-in-Some c =
    is_set-given c.args.name.now (rows_of (found_of c.args.matches.now)) c.in-Some.text.now _
    (sym (first_value-rows (found_of c.args.matches.now) _) ∙ search rules) (search rules)

pub returns-in-None : goal.returns-in-None
returns-in-None c =
    is_set-none c.args.name.now (rows_of (found_of c.args.matches.now)) (sym (first_value-rows (found_of c.args.matches.now) _) ∙ search rules)
