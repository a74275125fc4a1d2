use Rattle.record.proofs.PageLaws.{reads_record}
use Rattle.record.proofs.page.PageRecord.read.Goals as goal

pub returns : goal.returns
returns c = reads_record _ _ c.first_record.ensures
