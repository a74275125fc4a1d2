-- Groups, their order, and a group's row. Assumes nothing.
use Rattle.std.specs.Prelude.{ℕ, Bool, cond, not, pos, ◌==◌, nat_lt}
use Rattle.rows.specs.declared.group.Group.{Group}
use Rattle.rows.specs.declared.group.GroupRow.{GroupRow}
use Rattle.rows.specs.Registers.{four, two}

abbrev pub group_named : ℕ → ℕ → ℕ → Group
group_named b s c = record { brp = b; supplier = s; class = c }

-- by BRP, then supplier, then class
abbrev pub group_less : Group → Group → Bool
group_less a b = cond (a.brp == b.brp) (cond (a.supplier == b.supplier) (nat_lt a.class b.class) (nat_lt a.supplier b.supplier)) (nat_lt a.brp b.brp)

-- the row of a group to which nothing was booked
abbrev pub blank : Group → GroupRow
blank g = record { group = g; standing = four (λ _. 0); quarter = two (λ _. pos 0); month = four (λ _. pos 0); real = four (λ _. pos 0) }

-- classes other than 0 have a profile
abbrev pub has_profile : GroupRow → Bool
has_profile row = not (row.group.class == 0)

-- at the opening of a quarter
abbrev pub cleared : GroupRow → GroupRow
cleared row = record { group = row.group; standing = row.standing; quarter = two (λ _. pos 0); month = row.month; real = row.real }
