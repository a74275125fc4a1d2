-- A line of weights, and how it is divided. Assumes nothing.
use Rattle.std.specs.Prelude.{◌≡◌, ℕ, ◌+◌, cond, List, [], ◌∷◌, ℤ, pos, ◌+ℤ◌, Some, None, Option, nat_lt, unsigned_abs}
use Rattle.std.specs.List.{AllByRecursion}
use Rattle.fault.specs.declared.cause.Direction.{Direction}
use Rattle.fault.specs.declared.cause.Direction.TheVariants.{Offtake, FeedIn}
use Rattle.fault.specs.declared.cause.Fault.{Fault}
use Rattle.fault.specs.declared.cause.Fault.TheVariants.{LimitPassed}
use Rattle.fault.specs.declared.cause.Limit.TheVariants.{Weights as WeightLimit, Residual as ResidualLimit}
use Rattle.fault.specs.declared.cause.Quarter.{Quarter}
use Rattle.allocation.specs.declared.line.Allocated.{Allocated}
use Rattle.allocation.specs.declared.line.Posted.{Posted}
use Rattle.allocation.specs.declared.line.Share.{Share}
use Rattle.allocation.specs.Along.{along}
use Rattle.allocation.specs.Correction.{residual_of, correction_of, profiled, corrected, exact, Near}
use Rattle.allocation.specs.Refusals.{split_refusal}
use Rattle.allocation.specs.Scale.{most_weights, most_residual}
use Rattle.allocation.specs.Steps.{part}

-- T
abbrev pub total : List Share → ℕ
total [] = 0
total (s ∷ ss) = s.weight + total ss

-- V: feed-in weights minus offtake weights
abbrev pub net : List Share → ℤ
net [] = pos 0
net (s ∷ ss) = profiled s.direction s.weight +ℤ net ss

-- R of what was posted, for the net V of the weights
abbrev pub posted_residual : Posted → ℤ → ℤ
posted_residual p v = residual_of p.exchange p.measured v p.losses

-- R
abbrev pub residual : Posted → List Share → ℤ
residual p ss = posted_residual p (net ss)

-- a share with its correction, after the weights before it
abbrev pub shared : ℕ → ℤ → ℕ → Share → Share
shared t r before s = record { direction = s.direction; weight = s.weight; correction = correction_of t r before s.weight; volume = corrected t r before s.direction s.weight }

-- the line, divided from where weights before it stand
abbrev pub divided : ℕ → ℤ → ℕ → List Share → List Share
divided t r before ss = along (λ b s. b + s.weight) (shared t r) before ss

-- what the line got in all, and in one direction
abbrev pub got : List Share → ℤ
got [] = pos 0
got (s ∷ ss) = s.volume +ℤ got ss

abbrev pub got_in : Direction → List Share → ℤ
got_in d [] = pos 0
got_in d (s ∷ ss) = part d s.direction s.volume +ℤ got_in d ss

-- D
abbrev pub priced : List Share → ℕ
priced ss = unsigned_abs (got_in Offtake ss) + unsigned_abs (got_in FeedIn ss)

abbrev pub weights_refusal : ℕ → Option Fault
weights_refusal t = cond (nat_lt most_weights t) (Some (LimitPassed WeightLimit)) None

abbrev pub residual_refusal : ℤ → Option Fault
residual_refusal r = cond (nat_lt most_residual (unsigned_abs r)) (Some (LimitPassed ResidualLimit)) None

-- the first cause, in the order of the checks, for which a quarter cannot be divided
abbrev pub quarter_refusal : Posted → List Share → Quarter → Option Fault
quarter_refusal p ss q = split_refusal (total ss) (residual p ss) q

-- each volume is less than one watt-hour from its exact corrected share
abbrev pub Fair : ℕ → ℤ → List Share → Type 0
Fair t r ss = AllByRecursion (λ s. Near t s.volume (exact t r s.direction s.weight)) ss

-- the line ss became ns, and a tells of it
pub record Divides (p : Posted) (ss ns : List Share) (a : Allocated) : Type 0 where
  pub total_is : a.split.total ≡ total ss
  pub net_is : a.net ≡ net ss
  pub residual_is : a.split.residual ≡ residual p ss
  pub volumes_are : ns ≡ divided (total ss) (residual p ss) 0 ss
  pub priced_is : a.priced.wh ≡ priced ns
  -- exchange, measured volumes, losses and all corrected volumes come to zero
  pub closes : p.exchange +ℤ p.measured +ℤ p.losses +ℤ got ns ≡ pos 0
  pub fair : Fair (total ss) (residual p ss) ns
