-- The numbers of what a fault can name. Assumes nothing.
use Rattle.std.specs.Prelude.{ℕ, ◌+◌, ◌*◌}
use Rattle.fault.specs.declared.cause.Register.{Register}
use Rattle.fault.specs.declared.cause.Direction.{Direction}
use Rattle.fault.specs.declared.cause.Direction.TheVariants.{Offtake, FeedIn}
use Rattle.fault.specs.declared.cause.Period.{Period}
use Rattle.fault.specs.declared.cause.Period.TheVariants.{Normal, Low}
use Rattle.fault.specs.declared.cause.TableKind.{TableKind}
use Rattle.fault.specs.declared.cause.TableKind.TheVariants.{Connections, Groups}
use Rattle.fault.specs.declared.cause.Limit.{Limit}
use Rattle.fault.specs.declared.cause.Limit.TheVariants.{Weights, Residual, Postings, StandingSum, Advances, Volume}

abbrev pub direction_number : Direction → ℕ
direction_number Offtake = 0
direction_number FeedIn = 1

abbrev pub period_number : Period → ℕ
period_number Normal = 0
period_number Low = 1

abbrev pub register_number : Register → ℕ
register_number r = 2 * direction_number r.direction + period_number r.period

abbrev pub table_number : TableKind → ℕ
table_number Connections = 1
table_number Groups = 2

abbrev pub limit_number : Limit → ℕ
limit_number Weights = 1
limit_number Residual = 2
limit_number Postings = 3
limit_number StandingSum = 4
limit_number Advances = 5
limit_number Volume = 6
