use Rattle.fault.specs.Values.{period_number}
use Rattle.rows.proofs.Settled.{RealSummed}
use Rattle.rows.proofs.settle.profiled_real.Given as goal

abbrev pub invariant-loop-row : goal.invariant-loop-row
invariant-loop-row l = RealSummed l.rows (period_number l.period) l.row-index l.sum
