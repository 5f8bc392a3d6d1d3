use Rattle.fb_meaning.proofs.RecordAgreement.{same_replies_same_record as law}
use Rattle.fb_meaning.proofs.laws.same_replies_same_record.Goals as goal

pub returns : goal.returns
returns c = law
