use Rattle.std.proofs.Common.{◌≡◌, length, rules}
use Rattle.record.specs.Format.{total}
use Rattle.record.specs.Kinds.{page_layout}
use Rattle.record.specs.Pages.{pages}
use Rattle.record.proofs.FamilyLaws.{read_body}
use Rattle.record.proofs.page.PageRecord.from_body.Goals as goal

pub returns : goal.returns
returns c =
    let size : length c.args.body.now ≡ total (page_layout c.args.kind) = search rules in
    let read = c.record_of.ensures in
    let body = read_body pages c.args.body.now c.args.kind c.record_of.result size read.kind read.values read.registers in
    record { kind_is = read.kind; body_is = body.0; writable = body.1 }
