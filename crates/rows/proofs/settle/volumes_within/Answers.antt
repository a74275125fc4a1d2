use Rattle.std.proofs.Common.{not, ap, ◌∙◌}
use Rattle.rows.proofs.Settled.{some_volume_passed}
use Rattle.rows.proofs.settle.volumes_within.Goals as goal

pub returns : goal.returns
returns c = ap not (c.some_passed.ensures ∙ some_volume_passed c.args.rows.now)
