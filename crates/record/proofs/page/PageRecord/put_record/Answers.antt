use Rattle.record.specs.Pages.{pages}
use Rattle.record.proofs.FamilyLaws.{puts}
use Rattle.record.proofs.page.PageRecord.put_record.Goals as goal

pub returns-in-Group : goal.returns-in-Group
returns-in-Group c = puts pages _ _ c.in-Group.is _ c.args.at _ _ _ c.fields.ensures.value c.fields.ensures.writable c.put_checked-in-Group.ensures
