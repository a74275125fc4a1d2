use Rattle.rows.proofs.Counting.{one_summed}
use Rattle.rows.proofs.weigh.Weighing.tally.Goals as goal

pub loop-row-preserved : goal.loop-row-preserved
loop-row-preserved g c =
    let told = c.in_ok-weights.ensures in
    one_summed _ _ _ _ _ _ _ _ c.in_ok-weights.weights _ _ c.loop-row.invariant c.loop-row-test.true told.0 told.1 c.saturating_add-offtake.ensures c.saturating_add-feed_in.ensures
