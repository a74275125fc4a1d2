use Rattle.std.proofs.Common.{arith}
use Rattle.std.proofs.lemmas.Int.{ints}
use Rattle.allocation.proofs.Shares.{given_limited}
use Rattle.allocation.proofs.split.Running.priced.Goals as goal

pub overflow_add-result : goal.overflow_add-result
overflow_add-result c = omega (arith, ints, given_limited c.args.self)

pub invariant_of-result : goal.invariant_of-result
invariant_of-result c = record { within = omega (arith, ints, given_limited c.args.self) }
