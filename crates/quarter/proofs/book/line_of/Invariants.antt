use Rattle.std.proofs.Common.{◌≡◌, ◌++◌, drop, vec_items}
use Rattle.quarter.specs.Rows.{line_of}
use Rattle.quarter.proofs.book.line_of.Given as goal

abbrev pub invariant-loop-row : goal.invariant-loop-row
invariant-loop-row l = vec_items l.line ++ line_of (drop l.row-index l.rows) ≡ line_of l.rows
