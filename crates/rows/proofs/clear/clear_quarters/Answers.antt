use Rattle.std.proofs.Common.{arith}
use Rattle.rows.proofs.InPlace.{map_turn}
use Rattle.rows.proofs.clear.clear_quarters.Goals as goal

pub loop-row-preserved : goal.loop-row-preserved
loop-row-preserved c = map_turn _ _ _ _ (omega arith) c.loop-row.invariant _ _ c.loop-row-test.true c.clear_quarter.ensures
