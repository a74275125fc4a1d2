use Rattle.std.proofs.Common.{◌≡◌, ◌++◌, map, take, drop}
use Rattle.rows.specs.Counting.{under}
use Rattle.rows.specs.Weighing.{weighed}
use Rattle.rows.proofs.weigh.Weighing.write_rows.Given as goal

abbrev pub invariant-loop-row : goal.invariant-loop-row
invariant-loop-row g l = l.rows ≡ map (under g.S.ProfileSource.means l.self weighed) (take l.row-index l.initial.rows) ++ drop l.row-index l.initial.rows
