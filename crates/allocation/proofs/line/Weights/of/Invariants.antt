use Rattle.allocation.proofs.Lines.{Counted}
use Rattle.allocation.proofs.line.Weights.of.Given as goal

abbrev pub invariant-loop-share : goal.invariant-loop-share
invariant-loop-share l = Counted l.line l.share-index l.weights.0 l.weights.1.0
