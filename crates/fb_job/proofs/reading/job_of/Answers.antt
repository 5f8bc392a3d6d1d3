use Rattle.std.proofs.Common.{rules}
use Rattle.fb_job.proofs.FirstWords.{by_first, without_words}
use Rattle.fb_job.proofs.reading.job_of.Goals as goal

pub returns-in-Some : goal.returns-in-Some
returns-in-Some c = rw (← by_first c.args.words.now c.in-Some.command.now (search rules)) (search rules)

pub returns-in-None : goal.returns-in-None
returns-in-None c = without_words c.args.words.now (search rules)
