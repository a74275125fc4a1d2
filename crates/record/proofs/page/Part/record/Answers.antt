use Rattle.record.proofs.FamilyLaws.{begins}
use Rattle.record.proofs.PageLaws.{lawful}
use Rattle.record.proofs.page.Part.record.Goals as goal

pub returns : goal.returns
returns c bytes apart =
    let read = c.record_of.ensures in
    begins lawful _ _ _ _ _ apart read.kind read.values read.registers
