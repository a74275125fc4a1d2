use Rattle.allocation.proofs.Lines.{one_counted}
use Rattle.allocation.proofs.line.Weights.of.Goals as goal

pub loop-share-preserved : goal.loop-share-preserved
loop-share-preserved c =
    let next = c.in_ok-weights.weights in
    let told = c.in_ok-weights.ensures.1 in
    one_counted _ _ _ _ _ _ _ c.loop-share.invariant c.loop-share-test.true told.0 told.1 next.few next.within
