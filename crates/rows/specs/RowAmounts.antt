-- What the rows of a settled month come to, in cents. Assumes nothing.
use Rattle.std.specs.Prelude.{ℕ, ◌/◌, ◌%◌, Bool, true, cond, List, [], ◌∷◌, map, ℤ, pos, ◌+ℤ◌, Some, None, Option, ◌==◌}
use Rattle.fault.specs.declared.cause.Fault.{Fault}
use Rattle.fault.specs.declared.cause.Fault.TheVariants.{LimitPassed}
use Rattle.fault.specs.declared.cause.Limit.TheVariants.{Volume}
use Rattle.allocation.specs.declared.sums.Reconciled.{Reconciled}
use Rattle.allocation.specs.Amounts.{settled, totals_refusal}
use Rattle.allocation.specs.Settling.{amount_of}
use Rattle.rows.specs.declared.group.GroupRow.{GroupRow}
use Rattle.rows.specs.Dividing.{too_large}
use Rattle.rows.specs.Groups.{has_profile}
use Rattle.rows.specs.Registers.{any_register, register}
use Rattle.rows.specs.Settling.{month_in, real_in, reconciliation, settle_line, volume_passed}

-- the month or the real volume of a register beyond its limit
abbrev pub register_passed : GroupRow → ℕ → Bool
register_passed row r = cond (too_large (month_in row r)) true (too_large (real_in row r))

-- the month or the real volume of some register of a row beyond its limit
abbrev pub row_volume_passed : GroupRow → Bool
row_volume_passed row = any_register (register_passed row)

-- the real volumes of a row in a period, both directions, where it has a profile
abbrev pub row_real : ℕ → GroupRow → ℤ
row_real period row = cond (has_profile row) (real_in row (register 0 period) +ℤ real_in row (register 1 period)) (pos 0)

-- why the volumes of rows cannot be settled
abbrev pub volume_refusal : List GroupRow → Option Fault
volume_refusal rows = cond (volume_passed rows) (Some (LimitPassed Volume)) None

-- volumes that have no amount yet
abbrev pub unpriced : List ℤ → List Reconciled
unpriced = map (λ v. record { volume = v; amount = pos 0 })

-- the first running total of the line beyond its limit
abbrev pub settle_refusal : ℕ → List GroupRow → ℤ → Option Fault
settle_refusal period rows loss = totals_refusal (pos 0) (unpriced (settle_line period rows loss))

-- the last amount of a line, after the amount a
abbrev pub last_amount : ℤ → List Reconciled → ℤ
last_amount a [] = a
last_amount a (x ∷ xs) = last_amount x.amount xs

-- the amount of the loss party, who stands last
abbrev pub loss_amount : ℤ → ℕ → List GroupRow → ℤ → ℤ
loss_amount price period rows loss = last_amount (pos 0) (settled price (pos 0) (unpriced (settle_line period rows loss)))

-- the running total after the volumes of a row
abbrev pub after_row : ℤ → ℕ → GroupRow → ℤ
after_row s period row = s +ℤ reconciliation row (register 0 period) +ℤ reconciliation row (register 1 period)

-- the first running total beyond its limit, of two volumes after the total s
abbrev pub pair_refusal : ℤ → ℤ → ℤ → Option Fault
pair_refusal s first second = totals_refusal s (unpriced (first ∷ second ∷ []))

-- the first running total beyond its limit, of the two volumes of a row after the total s
abbrev pub row_refusal : ℤ → ℕ → GroupRow → Option Fault
row_refusal s period row = pair_refusal s (reconciliation row (register 0 period)) (reconciliation row (register 1 period))

-- the amount of a row in a direction, offtake first
abbrev pub row_amount : ℤ → ℤ → ℕ → GroupRow → ℕ → ℤ
row_amount price s period row direction = cond (direction == 0) (amount_of price s (reconciliation row (register 0 period))) (amount_of price (s +ℤ reconciliation row (register 0 period)) (reconciliation row (register 1 period)))

-- the amount of a row in a register; each period has its price and its running total
abbrev pub amount_in : ℤ → ℤ → ℤ → ℤ → GroupRow → ℕ → ℤ
amount_in normal_price normal low_price low row r = cond (r % 2 == 0) (row_amount normal_price normal 0 row (r / 2)) (row_amount low_price low 1 row (r / 2))
