use Rattle.rows.proofs.CheckDigits.{Summed}
use Rattle.rows.proofs.code.weighted_by.Given as goal

abbrev pub invariant-loop-weight : goal.invariant-loop-weight
invariant-loop-weight l = Summed l.weights l.code l.weight-index l.sum l.unit
