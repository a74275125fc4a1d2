use Rattle.std.proofs.Common.{◌^◌, ltb, ap, ◌∙◌}
use Rattle.record.proofs.Fields.{none_above}
use Rattle.record.proofs.put.Filled.fits.Goals as goal

pub returns-else-self-eq8 : goal.returns-else-self-eq8
returns-else-self-eq8 c = none_above c.self.inside.number c.self.inside.width ∙ ap (λ f. ltb f.1 (256 ^ f.0)) c.self.view_is
