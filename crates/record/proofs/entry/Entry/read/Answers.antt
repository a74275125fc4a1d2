use Rattle.record.proofs.EntryLaws.{reads_entry}
use Rattle.record.proofs.entry.Entry.read.Goals as goal

pub returns : goal.returns
returns c = reads_entry _ c.args.place _ c.first_entry.ensures
