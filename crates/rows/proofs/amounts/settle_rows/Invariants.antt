use Rattle.std.proofs.Common.{◌≡◌, drop}
use Rattle.fault.specs.Values.{period_number}
use Rattle.rows.proofs.RowLine.{Walked}
use Rattle.rows.proofs.amounts.settle_rows.Given as goal

abbrev pub invariant-loop-row : goal.invariant-loop-row
invariant-loop-row l = (l.settling.price ≡ l.fn.price) × Walked l.fn.price.cents (period_number l.period) l.fn.loss l.rows (drop l.row-index l.rows) l.settling.total
