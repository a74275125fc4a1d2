use Rattle.std.proofs.Common.{ap, ◌∙◌}
use Rattle.record.specs.Number.{big}
use Rattle.record.specs.Format.{over}
use Rattle.record.proofs.Fields.{eight, put_part}
use Rattle.record.proofs.put.Filled.put_bytes.Goals as goal

pub returns-clause-bytes : goal.returns-clause-bytes
returns-clause-bytes c =
    put_part _ _ _ c.args.at c.self.inside.width c.self.inside.number c.self.invariant (c.to_be_bytes-bytes.ensures ∙ eight c.self.inside.number) c.copy_from_slice.ensures.after
    ∙ ap (λ f. over c.args.out.now c.args.at (big f.0 f.1)) c.self.view_is
