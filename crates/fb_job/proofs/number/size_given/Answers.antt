use Rattle.std.proofs.Common.{◌∙◌, sym, rules}
use Rattle.clap.proofs.WalkLemmas.{first_value-rows}
use Rattle.clap.specs.Words.{found_of, rows_of}
use Rattle.fb_job.proofs.Numbers.{size_given-by, size_given-none}
use Rattle.fb_job.proofs.number.size_given.Goals as goal

pub returns-in-Some : goal.returns-in-Some
returns-in-Some c =
    size_given-by (rows_of (found_of c.args.matches.now)) c.in-Some.text.now c.number_of.result c.small.result
    (sym (first_value-rows (found_of c.args.matches.now) _) ∙ search rules) c.number_of.ensures.given c.small.ensures

pub returns-in-None : goal.returns-in-None
returns-in-None c =
    size_given-none (rows_of (found_of c.args.matches.now)) (sym (first_value-rows (found_of c.args.matches.now) _) ∙ search rules)
