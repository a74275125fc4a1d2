use Rattle.std.proofs.Common.{drop}
use Rattle.fault.specs.Values.{period_number}
use Rattle.rows.proofs.Divided.{Checking}
use Rattle.rows.proofs.divide.check_rows.Given as goal

abbrev pub invariant-loop-row : goal.invariant-loop-row
invariant-loop-row l = Checking l.initial.running.split (period_number l.period) l.rows (drop l.row-index l.rows) l.running
