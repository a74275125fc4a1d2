use Rattle.record.specs.Entries.{entries}
use Rattle.record.proofs.FamilyLaws.{puts}
use Rattle.record.proofs.entry.Entry.put_record.Goals as goal

pub returns-in-Enrol : goal.returns-in-Enrol
returns-in-Enrol c = puts entries _ _ c.in-Enrol.is _ c.args.at _ _ _ c.fields.ensures.value c.fields.ensures.writable c.put_checked-in-Enrol.ensures
