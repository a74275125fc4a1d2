-- One row of a quarter that is divided. Assumes nothing.
use Rattle.std.specs.Prelude.{◌≡◌, ℕ, ◌+◌, ◌/◌, ◌%◌, ◌≤◌, Bool, true, false, cond, List, ℤ, pos, ◌+ℤ◌, Some, None, Option, ◌==◌, slice_index_or}
use Rattle.fault.specs.declared.cause.Fault.{Fault}
use Rattle.fault.specs.declared.cause.Fault.TheVariants.{ForeignTables, LimitPassed}
use Rattle.fault.specs.declared.cause.Limit.TheVariants.{Volume}
use Rattle.allocation.specs.declared.split.Running.{Running}
use Rattle.rows.specs.declared.group.GroupRow.{GroupRow}
use Rattle.rows.specs.Groups.{has_profile}
use Rattle.rows.specs.Registers.{any_register}
use Rattle.rows.specs.Dividing.{adds_to, both_held, unsigned, divided_row, volume_of, month_of, month_passed, too_large}

-- month volumes with what the two directions get in a period
abbrev pub grown_month : List ℤ → ℕ → ℤ → ℤ → ℕ → ℤ
grown_month month period offtake feed_in r = cond (r % 2 == period) (slice_index_or month r (pos 0) +ℤ cond (r / 2 == 0) offtake feed_in) (slice_index_or month r (pos 0))

-- some of those that grow passes its limit
abbrev pub grown_passed : List ℤ → ℕ → ℤ → ℤ → Bool
grown_passed month period offtake feed_in = any_register (λ r. cond (r % 2 == period) (too_large (grown_month month period offtake feed_in r)) false)

-- some month volume of a row that is divided passes its limit, of those that grow
abbrev pub row_passed : ℕ → ℤ → ℕ → ℕ → GroupRow → Bool
row_passed total residual period before row = any_register (λ r. cond (r % 2 == period) (too_large (month_of total residual period before row r)) false)

-- such a month volume where the split has come to p, and the row as the division leaves it
abbrev pub passes_month : Running → ℕ → GroupRow → Bool
passes_month p period row = row_passed p.split.total p.split.residual period p.passed row

abbrev pub divided_from : Running → ℕ → GroupRow → GroupRow
divided_from p period row = divided_row p.split.total p.split.residual period p.passed row

-- the split can go on by a row: its weights have no sign, and do not lead past T
pub record Takes (p : Running) (row : GroupRow) : Type 0 where
  pub signs : unsigned row ≡ true
  pub fits : p.passed + both_held row ≤ p.split.total

-- what a row brings to the priced volume in a direction
abbrev pub gained : ℕ → ℤ → ℕ → GroupRow → ℕ → ℤ
gained total residual before row direction = cond (has_profile row) (volume_of total residual before row direction) (pos 0)

-- n is the split p after the weights of a row
pub record RowStepped (p : Running) (row : GroupRow) (n : Running) : Type 0 where
  pub split : n.split ≡ p.split
  pub passed : n.passed ≡ p.passed + both_held row
  pub offtake : n.offtake ≡ p.offtake +ℤ gained p.split.total p.split.residual p.passed row 0
  pub feed_in : n.feed_in ≡ p.feed_in +ℤ gained p.split.total p.split.residual p.passed row 1

-- a month volume beyond its limit
abbrev pub month_refusal : ℕ → ℤ → ℕ → List GroupRow → Option Fault
month_refusal total residual period rows = cond (month_passed total residual period 0 rows) (Some (LimitPassed Volume)) None

-- rows of another quarter, and then a month volume beyond its limit
abbrev pub divide_refusal : ℕ → ℤ → ℕ → List GroupRow → Option Fault
divide_refusal total residual period rows = cond (adds_to total rows) (month_refusal total residual period rows) (Some ForeignTables)
