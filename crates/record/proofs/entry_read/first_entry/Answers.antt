use Rattle.record.proofs.FamilyLaws.{begins}
use Rattle.record.proofs.EntryLaws.{lawful}
use Rattle.record.proofs.entry_read.first_entry.Goals as goal

pub returns-in-Ok : goal.returns-in-Ok
returns-in-Ok c =
    let read = c.entry_of.ensures in
    begins lawful _ _ _ _ _ c.in-Ok.ensures read.kind read.values read.registers
