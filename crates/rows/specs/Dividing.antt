-- The rows of a quarter that is divided. Assumes nothing.
use Rattle.std.specs.Prelude.{ℕ, ◌+◌, ◌/◌, ◌%◌, Bool, true, false, cond, ◌&&◌, List, [], ◌∷◌, ℤ, pos, negsuc, ◌+ℤ◌, ◌==◌, nat_lt, slice_index_or, unsigned_abs}
use Rattle.allocation.specs.Along.{along}
use Rattle.allocation.specs.Correction.{corrected}
use Rattle.allocation.specs.Scale.{most_volume}
use Rattle.rows.specs.declared.group.GroupRow.{GroupRow}
use Rattle.rows.specs.Groups.{has_profile}
use Rattle.rows.specs.Registers.{four, two, any_register, way}

-- the size of a weight that stands in a row, which has no sign
abbrev pub size : ℤ → ℕ
size (pos n) = n
size (negsuc n) = 0

abbrev pub no_sign : ℤ → Bool
no_sign (pos n) = true
no_sign (negsuc n) = false

-- the weight that stands in a row in a direction; class 0 has none
abbrev pub held : GroupRow → ℕ → ℕ
held row direction = cond (has_profile row) (size (slice_index_or row.quarter direction (pos 0))) 0

abbrev pub both_held : GroupRow → ℕ
both_held row = held row 0 + held row 1

-- all weights that stand in the rows
abbrev pub held_total : List GroupRow → ℕ
held_total [] = 0
held_total (row ∷ rows) = both_held row + held_total rows

-- no weight of the row is negative
abbrev pub unsigned : GroupRow → Bool
unsigned row = cond (has_profile row) (no_sign (slice_index_or row.quarter 0 (pos 0)) && no_sign (slice_index_or row.quarter 1 (pos 0))) true

abbrev pub all_unsigned : List GroupRow → Bool
all_unsigned [] = true
all_unsigned (row ∷ rows) = unsigned row && all_unsigned rows

-- the weights in the rows are those that T was taken from
abbrev pub adds_to : ℕ → List GroupRow → Bool
adds_to total rows = all_unsigned rows && held_total rows == total

-- what a row gets in a direction, where weights before it in the line stand: its corrected volume, and of class 0 what was posted
abbrev pub volume_of : ℕ → ℤ → ℕ → GroupRow → ℕ → ℤ
volume_of total residual before row direction = cond (has_profile row) (corrected total residual (before + cond (direction == 0) 0 (held row 0)) (way direction) (held row direction)) (slice_index_or row.quarter direction (pos 0))

-- a month volume with what the running period's register gets
abbrev pub month_of : ℕ → ℤ → ℕ → ℕ → GroupRow → ℕ → ℤ
month_of total residual period before row r = cond (r % 2 == period) (slice_index_or row.month r (pos 0) +ℤ volume_of total residual before row (r / 2)) (slice_index_or row.month r (pos 0))

-- a row with its corrected volumes written and added to its month volumes
abbrev pub divided_row : ℕ → ℤ → ℕ → ℕ → GroupRow → GroupRow
divided_row total residual period before row = record { group = row.group; standing = row.standing; quarter = two (volume_of total residual before row); month = four (month_of total residual period before row); real = row.real }

abbrev pub divided_rows : ℕ → ℤ → ℕ → ℕ → List GroupRow → List GroupRow
divided_rows total residual period before rows = along (λ b row. b + both_held row) (divided_row total residual period) before rows

-- a volume beyond its limit
abbrev pub too_large : ℤ → Bool
too_large z = nat_lt most_volume (unsigned_abs z)

-- some month volume of the running period would pass its limit
abbrev pub month_passed : ℕ → ℤ → ℕ → ℕ → List GroupRow → Bool
month_passed total residual period before [] = false
month_passed total residual period before (row ∷ rows) = cond (any_register (λ r. cond (r % 2 == period) (too_large (month_of total residual period before row r)) false)) true (month_passed total residual period (before + both_held row) rows)

-- what the profiled rows get in a direction in all
abbrev pub got_in : ℕ → ℤ → ℕ → ℕ → List GroupRow → ℤ
got_in total residual direction before [] = pos 0
got_in total residual direction before (row ∷ rows) = cond (has_profile row) (volume_of total residual before row direction) (pos 0) +ℤ got_in total residual direction (before + both_held row) rows

-- D
abbrev pub priced : ℕ → ℤ → List GroupRow → ℕ
priced total residual rows = unsigned_abs (got_in total residual 0 0 rows) + unsigned_abs (got_in total residual 1 0 rows)
