use Rattle.record.proofs.FamilyLaws.{writes}
use Rattle.record.proofs.PageLaws.{lawful}
use Rattle.record.proofs.page.PageRecord.write.Goals as goal

pub returns : goal.returns
returns c = writes lawful c.args.self.now c.args.at _ _ _ c.put_record.ensures
