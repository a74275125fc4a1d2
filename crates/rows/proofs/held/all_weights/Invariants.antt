use Rattle.rows.proofs.Adding.{Added}
use Rattle.rows.proofs.held.all_weights.Given as goal

abbrev pub invariant-loop-row : goal.invariant-loop-row
invariant-loop-row l = Added l.rows l.row-index l.sum
