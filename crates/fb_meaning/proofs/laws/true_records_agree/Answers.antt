use Rattle.fb_meaning.proofs.Entries.{true_entries_differ}
use Rattle.fb_meaning.proofs.RecordAgreement.{true_records_agree as law}
use Rattle.fb_meaning.proofs.laws.true_records_agree.Goals as goal

pub returns-clause-agree : goal.returns-clause-agree
returns-clause-agree c = law

pub returns-clause-entries : goal.returns-clause-entries
returns-clause-entries c = true_entries_differ
