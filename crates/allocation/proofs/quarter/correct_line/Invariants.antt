use Rattle.std.proofs.Common.{◌≡◌}
use Rattle.allocation.proofs.Lines.{Midway, given}
use Rattle.allocation.proofs.quarter.correct_line.Given as loop

abbrev pub invariant-loop-share : loop.invariant-loop-share
invariant-loop-share l =
    let split = l.initial.running.split in
    (l.running.split ≡ split) × Midway split.total split.residual l.initial.line l.line l.share-index l.running.passed (given l.running)
