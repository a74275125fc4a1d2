-- The weights that stand in rows, from the first row on. Assumes nothing.
use Rattle.std.proofs.Common.{◌≡◌, ℕ, ◌+◌, ◌*◌, ◌^◌, ◌≤◌, List, drop}
use Rattle.rows.specs.declared.group.GroupRow.{GroupRow}
use Rattle.rows.specs.Dividing.{held_total, all_unsigned}

-- sum is what the first i rows hold
pub record Added (rows : List GroupRow) (i sum : ℕ) : Type 0 where
  pub total : sum + held_total (drop i rows) ≡ held_total rows
  pub signs : all_unsigned (drop i rows) ≡ all_unsigned rows
  pub small : sum ≤ i * 2 ^ 64
