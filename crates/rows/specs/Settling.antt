-- The rows of a month that is settled. Assumes nothing.
use Rattle.std.specs.Prelude.{ℕ, Bool, true, false, cond, List, [], ◌∷◌, ℤ, pos, ◌+ℤ◌, ◌-ℤ◌, slice_index_or}
use Rattle.rows.specs.declared.group.GroupRow.{GroupRow}
use Rattle.rows.specs.Groups.{has_profile}
use Rattle.rows.specs.Dividing.{too_large}
use Rattle.rows.specs.Registers.{register, any_register}

abbrev pub month_in : GroupRow → ℕ → ℤ
month_in row r = slice_index_or row.month r (pos 0)

-- what the meters of the group counted; of class 0 all is measured, so it is the month volume
abbrev pub real_in : GroupRow → ℕ → ℤ
real_in row r = cond (has_profile row) (slice_index_or row.real r (pos 0)) (month_in row r)

abbrev pub reconciliation : GroupRow → ℕ → ℤ
reconciliation row r = real_in row r -ℤ month_in row r

-- the real volumes of the profiled rows in a period, both directions
abbrev pub profiled_real : ℕ → List GroupRow → ℤ
profiled_real period [] = pos 0
profiled_real period (row ∷ rows) = cond (has_profile row) (real_in row (register 0 period) +ℤ real_in row (register 1 period)) (pos 0) +ℤ profiled_real period rows

-- some month or real volume beyond its limit
abbrev pub volume_passed : List GroupRow → Bool
volume_passed [] = false
volume_passed (row ∷ rows) = cond (any_register (λ r. cond (too_large (month_in row r)) true (too_large (real_in row r)))) true (volume_passed rows)

-- the reconciliation volumes of a period, in their line: row by row, offtake first, then the loss party's
abbrev pub settle_line : ℕ → List GroupRow → ℤ → List ℤ
settle_line period [] loss = loss ∷ []
settle_line period (row ∷ rows) loss = reconciliation row (register 0 period) ∷ reconciliation row (register 1 period) ∷ settle_line period rows loss
