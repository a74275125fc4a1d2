-- Prices and amounts. Assumes nothing.
use Rattle.std.specs.Prelude.{ℕ, cond, ℤ, pos, ◌+ℤ◌, ◌-ℤ◌, ◌*ℤ◌, ◌≤ℤ◌, ◌<ℤ◌, Some, None, Option, ◌==◌, nat_lt, unsigned_abs}
use Rattle.std.specs.Int.{int_div_euclid}
use Rattle.fault.specs.declared.cause.Fault.{Fault}
use Rattle.fault.specs.declared.cause.Fault.TheVariants.{LimitPassed}
use Rattle.fault.specs.declared.cause.Limit.TheVariants.{Volume}
use Rattle.allocation.specs.Scale.{per_mwh, most_volume}

-- z / n, rounded down, towards minus infinity
abbrev pub floor : ℤ → ℕ → ℤ
floor z n = int_div_euclid z (pos n)

-- q is z / n, rounded down: n × q ≤ z < n × q + n
pub record Floor (z : ℤ) (n : ℕ) (q : ℤ) : Type 0 where
  pub low : (pos n *ℤ q) ≤ℤ z
  pub high : z <ℤ ((pos n *ℤ q) +ℤ pos n)

-- P: the sum of D × price by the sum of D, 0 without D
abbrev pub price_of : ℤ → ℕ → ℤ
price_of value volume = cond (volume == 0) (pos 0) (floor value volume)

-- G(S): S at the price P, in cents
unfoldable pub value_at : ℤ → ℤ → ℤ
value_at p s = floor (s *ℤ p) per_mwh

-- G after the volume v, less G before it
unfoldable pub amount_of : ℤ → ℤ → ℤ → ℤ
amount_of p s v = value_at p (s +ℤ v) -ℤ value_at p s

-- a running total beyond its limit
abbrev pub total_refusal : ℤ → Option Fault
total_refusal s = cond (nat_lt most_volume (unsigned_abs s)) (Some (LimitPassed Volume)) None

-- an amount is less than one cent from its volume at the price: a million times both, they are less than a million apart
pub record Cent (p v a : ℤ) : Type 0 where
  pub above : (pos per_mwh *ℤ a) <ℤ ((v *ℤ p) +ℤ pos per_mwh)
  pub below : (v *ℤ p) <ℤ ((pos per_mwh *ℤ a) +ℤ pos per_mwh)
