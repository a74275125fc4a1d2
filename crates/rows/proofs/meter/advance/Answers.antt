use Rattle.std.proofs.Common.{◌*◌, ap}
use Rattle.rows.specs.Connections.{advance}
use Rattle.rows.proofs.meter.advance.Goals as goal

pub returns-clause-value : goal.returns-clause-value
unfolding advance
returns-clause-value c =
    let value = rw c.span.ensures.value at c.counted.ensures.value in
    rw c.from.ensures (ap (λ n. n * c.args.factor * 1000) value)
