use Rattle.std.proofs.Common.{arith}
use Rattle.rows.proofs.InPlace.{map_turn, map_left}
use Rattle.rows.proofs.Counting.{row_present, row_few}
use Rattle.rows.proofs.weigh.Weighing.write_rows.Goals as goal

pub write_row-requires-clause-present : goal.write_row-requires-clause-present
write_row-requires-clause-present g c =
    row_present (g.S.ProfileSource.means c.args.self.now.source.now) c.args.self.now.quarter _ _ _ _ _ (map_left _ _ _ _ (omega arith) c.loop-row.invariant _ c.loop-row-test.true) c.loop-row-test.true c.requires

pub write_row-requires-clause-few : goal.write_row-requires-clause-few
write_row-requires-clause-few g c =
    row_few (g.S.ProfileSource.means c.args.self.now.source.now) c.args.self.now.quarter _ _ _ _ _ (map_left _ _ _ _ (omega arith) c.loop-row.invariant _ c.loop-row-test.true) c.loop-row-test.true c.requires

pub loop-row-preserved : goal.loop-row-preserved
loop-row-preserved g c = map_turn _ _ _ _ (omega arith) c.loop-row.invariant _ _ c.loop-row-test.true c.write_row.ensures
