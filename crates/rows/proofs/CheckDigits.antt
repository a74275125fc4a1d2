-- The digits of a code, from the left. Assumes nothing.
use Rattle.std.proofs.Common.{◌≡◌, ℕ, ◌+◌, ◌-◌, ◌*◌, ◌^◌, ◌<◌, ◌≤◌, true, List, drop}
use Rattle.rows.specs.Connections.{weighted_digits}
use Rattle.rows.specs.Metering.{small_weights}

-- sum is what the first i digits come to, and unit what the next one counts
pub record Summed (weights : List ℕ) (code i sum unit : ℕ) : Type 0 where
  pub total : sum + weighted_digits (drop i weights) code ≡ weighted_digits weights code
  pub place : unit ≡ 10 ^ (17 - i)
  pub some : 0 < unit
  pub small : sum ≤ 27 * i
  pub rest : small_weights (drop i weights) ≡ true
