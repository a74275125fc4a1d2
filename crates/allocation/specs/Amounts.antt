-- A line of reconciliation volumes, and its amounts. Assumes nothing.
use Rattle.std.specs.Prelude.{◌≡◌, cond, List, [], ◌∷◌, ℤ, pos, ◌+ℤ◌, Some, None, Option, nat_lt, unsigned_abs}
use Rattle.std.specs.List.{AllByRecursion}
use Rattle.fault.specs.declared.cause.Fault.{Fault}
use Rattle.fault.specs.declared.cause.Fault.TheVariants.{LimitPassed}
use Rattle.fault.specs.declared.cause.Limit.TheVariants.{Volume}
use Rattle.allocation.specs.declared.sums.Reconciled.{Reconciled}
use Rattle.allocation.specs.Along.{along}
use Rattle.allocation.specs.Scale.{most_volume}
use Rattle.allocation.specs.Settling.{value_at, amount_of, Cent}

-- a volume with its amount, after the total s of the volumes before it
abbrev pub priced_at : ℤ → ℤ → Reconciled → Reconciled
priced_at p s x = record { volume = x.volume; amount = amount_of p s x.volume }

-- the line, settled from the total s on
abbrev pub settled : ℤ → ℤ → List Reconciled → List Reconciled
settled p s xs = along (λ t x. t +ℤ x.volume) (priced_at p) s xs

-- the first running total beyond its limit
abbrev pub totals_refusal : ℤ → List Reconciled → Option Fault
totals_refusal s [] = None
totals_refusal s (x ∷ xs) = cond (nat_lt most_volume (unsigned_abs (s +ℤ x.volume))) (Some (LimitPassed Volume)) (totals_refusal (s +ℤ x.volume) xs)

-- all volumes, and all amounts
abbrev pub all_volumes : List Reconciled → ℤ
all_volumes [] = pos 0
all_volumes (x ∷ xs) = x.volume +ℤ all_volumes xs

abbrev pub all_amounts : List Reconciled → ℤ
all_amounts [] = pos 0
all_amounts (x ∷ xs) = x.amount +ℤ all_amounts xs

-- the line xs became ys at the price p
pub record Settles (p : ℤ) (xs ys : List Reconciled) : Type 0 where
  pub line : ys ≡ settled p (pos 0) xs
  -- the amounts add up to G of all volumes
  pub total : all_amounts ys ≡ value_at p (all_volumes xs)
  -- so where the volumes come to zero, the amounts do
  pub balance : all_volumes xs ≡ pos 0 → all_amounts ys ≡ pos 0
  -- each amount is less than a cent from its volume at the price
  pub near : AllByRecursion (λ y. Cent p y.volume y.amount) ys
