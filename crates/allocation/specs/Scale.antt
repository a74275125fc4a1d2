-- The unit of fractions and the bounds of the subject, each in one place. Assumes nothing.
use Rattle.std.specs.Prelude.{ℕ, ◌+◌, ◌*◌, ◌/◌, ◌<◌, ◌≤◌}

-- the fraction at which a standing sum of 1 kWh weighs 1 Wh
abbrev pub unit : ℕ
unit = 100000

-- the largest fraction
abbrev pub whole : ℕ
whole = 1000000

-- the largest standing sum, kWh
abbrev pub most_standing : ℕ
most_standing = 10000000000

-- the largest T of a quarter, Wh
abbrev pub most_weights : ℕ
most_weights = 2000000000

-- the largest size of R of a quarter, Wh
abbrev pub most_residual : ℕ
most_residual = 2000000000

-- the largest D of a quarter, Wh: no more than T and |R| together
abbrev pub most_priced : ℕ
most_priced = most_weights + most_residual

-- the largest size of a price, cents per MWh
abbrev pub most_price : ℕ
most_price = 500000

-- the most quarters of a month
abbrev pub most_quarters : ℕ
most_quarters = 2980

-- the largest size of a running total S, Wh
abbrev pub most_volume : ℕ
most_volume = 13000000000000

-- the watt-hours of a megawatt-hour
abbrev pub per_mwh : ℕ
per_mwh = 1000000

-- so many watt-hours are the nearest to these parts of them, a half upward
abbrev pub Nearest : ℕ → ℕ → Type 0
Nearest parts wh = (wh * unit ≤ parts + unit / 2) × (parts + unit / 2 < (wh + 1) * unit)

-- what the profile gives: fraction × standing sum, rounded to the nearest watt-hour, a half upward
unfoldable pub weight_of : ℕ → ℕ → ℕ
weight_of fraction sum = (fraction * sum + unit / 2) / unit
