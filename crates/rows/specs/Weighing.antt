-- What a profile source gives the rows of a quarter. Assumes nothing.
use Rattle.std.specs.Prelude.{ℕ, ◌+◌, cond, List, [], ◌∷◌, ℤ, pos, ◌+ℤ◌, ◌-ℤ◌, Some, None, Option, slice_index}
use Rattle.fault.specs.declared.cause.Fault.{Fault}
use Rattle.fault.specs.declared.cause.Fault.TheVariants.{FractionAbsent}
use Rattle.fault.specs.declared.cause.Quarter.{Quarter}
use Rattle.profile.specs.Meanings.{Meaning}
use Rattle.profile.specs.Weights.{weight_meant}
use Rattle.rows.specs.declared.group.GroupRow.{GroupRow}
use Rattle.rows.specs.Groups.{has_profile}
use Rattle.rows.specs.Registers.{two, register}

-- the first of two checks that speaks
abbrev pub or_else : Option Fault → Option Fault → Option Fault
or_else (Some fault) other = Some fault
or_else None other = other

-- the weight of a row in a direction, or none where a fraction is needed and absent
abbrev pub row_weight : Meaning → Quarter → ℕ → GroupRow → ℕ → Option ℕ
row_weight meaning quarter period row direction = weight_meant (meaning row.group.class direction quarter.0) (slice_index row.standing (register direction period))

-- the fault of a weight that is not to be had
abbrev pub absent : GroupRow → ℕ → Quarter → Option ℕ → Option Fault
absent row direction quarter (Some w) = None
absent row direction quarter None = Some (FractionAbsent (record { class = row.group.class; direction = direction; quarter = quarter }))

-- the first absent fraction of a row: offtake before feed-in
abbrev pub row_absent : Meaning → Quarter → ℕ → GroupRow → Option Fault
row_absent meaning quarter period row = cond (has_profile row) (or_else (absent row 0 quarter (row_weight meaning quarter period row 0)) (absent row 1 quarter (row_weight meaning quarter period row 1))) None

-- the first absent fraction of the line
abbrev pub first_absent : Meaning → Quarter → ℕ → List GroupRow → Option Fault
first_absent meaning quarter period [] = None
first_absent meaning quarter period (row ∷ rows) = or_else (row_absent meaning quarter period row) (first_absent meaning quarter period rows)

abbrev pub or_zero : Option ℕ → ℕ
or_zero (Some w) = w
or_zero None = 0

-- the weight of a row in a direction, in Wh; class 0 has none
abbrev pub weight_in : Meaning → Quarter → ℕ → GroupRow → ℕ → ℕ
weight_in meaning quarter period row direction = cond (has_profile row) (or_zero (row_weight meaning quarter period row direction)) 0

-- T
abbrev pub weights_total : Meaning → Quarter → ℕ → List GroupRow → ℕ
weights_total meaning quarter period [] = 0
weights_total meaning quarter period (row ∷ rows) = weight_in meaning quarter period row 0 + weight_in meaning quarter period row 1 + weights_total meaning quarter period rows

-- V: feed-in weights minus offtake weights
abbrev pub weights_net : Meaning → Quarter → ℕ → List GroupRow → ℤ
weights_net meaning quarter period [] = pos 0
weights_net meaning quarter period (row ∷ rows) = (pos (weight_in meaning quarter period row 1) -ℤ pos (weight_in meaning quarter period row 0)) +ℤ weights_net meaning quarter period rows

-- a row with its weights written
abbrev pub weighed : Meaning → Quarter → ℕ → GroupRow → GroupRow
weighed meaning quarter period row = cond (has_profile row) (record { group = row.group; standing = row.standing; quarter = two (λ d. pos (weight_in meaning quarter period row d)); month = row.month; real = row.real }) row
