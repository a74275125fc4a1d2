use Rattle.fault.specs.Values.{period_number}
use Rattle.rows.proofs.Divided.{Writing}
use Rattle.rows.proofs.divide.divide_each.Given as goal

abbrev pub invariant-loop-row : goal.invariant-loop-row
invariant-loop-row l = Writing l.initial.running.split (period_number l.period) l.initial.rows l.rows l.row-index l.running
