-- What the states of the book hold, as numbers. Assumes nothing.
use Rattle.std.specs.Prelude.{ℕ, cond, List, ℤ, ◌==◌}
use Rattle.allocation.specs.Settling.{price_of}

-- of a period, over its divided quarters: what was posted of each kind, the sum of D, and the sum of D × price
pub record Sums : Type 0 where
  pub posted : List ℕ
  pub volume : ℕ
  pub value : ℤ

-- between quarters: the month's number of quarters, its loss party, the quarters divided, all advances so far in Wh, and the two periods
pub record Month : Type 0 where
  pub quarters : ℕ
  pub loss_party : ℕ
  pub done : ℕ
  pub advanced : ℕ
  pub normal : Sums
  pub low : Sums

abbrev pub sums_of : Month → ℕ → Sums
sums_of m period = cond (period == 0) m.normal m.low

-- an open quarter: its period, its price, and what was posted of each kind
pub record Opened : Type 0 where
  pub period : ℕ
  pub price : ℤ
  pub posted : List ℕ

-- a weighed quarter: T and R
pub record Weighed : Type 0 where
  pub total : ℕ
  pub residual : ℤ

pub data State : Type 0 where
  between : Month → State
  gathering : Month → Opened → State
  slip : Month → Opened → Weighed → State
  settled : Month → State

-- the price P of a period
abbrev pub period_price : Month → ℕ → ℤ
period_price m period = price_of (sums_of m period).value (sums_of m period).volume
