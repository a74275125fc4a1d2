use Rattle.std.proofs.Common.{◌<◌, length, arith}
use Rattle.allocation.proofs.Lines.{midway_turn}
use Rattle.allocation.proofs.quarter.correct_line.Goals as goal

pub loop-share-preserved : goal.loop-share-preserved
loop-share-preserved c =
    let l : c.loop-share.share-index < length c.loop-share.line = omega arith in
    midway_turn _ _ _ _ _ _ _ _ c.loop-share.invariant.0 c.loop-share.invariant.1 l c.correct_share.ensures.after c.correct_share.ensures.stepped
