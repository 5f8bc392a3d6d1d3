use Rattle.fb_functest.proofs.OneReading.{read_one_way, written_are_read}
use Rattle.fb_functest.proofs.laws.reports_are_read_one_way.Goals as goal

pub returns-clause-one_way : goal.returns-clause-one_way
returns-clause-one_way c = read_one_way c.answers_are_unique.ensures

pub returns-clause-written : goal.returns-clause-written
returns-clause-written c = written_are_read c.written_lines_stay_whole.ensures c.written_lines_are_answers.ensures.read_again
