use Rattle.std.proofs.Common.{◌≡◌, ◌++◌, map, take, drop}
use Rattle.rows.specs.Groups.{cleared}
use Rattle.rows.proofs.clear.clear_quarters.Given as goal

abbrev pub invariant-loop-row : goal.invariant-loop-row
invariant-loop-row l = l.rows ≡ map cleared (take l.row-index l.initial.rows) ++ drop l.row-index l.initial.rows
