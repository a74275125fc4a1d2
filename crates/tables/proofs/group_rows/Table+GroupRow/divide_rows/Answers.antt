use Rattle.std.proofs.Common.{ℕ, ◌+◌, ℤ, List, refl}
use Rattle.fault.specs.Values.{period_number}
use Rattle.rows.specs.declared.group.GroupRow.{GroupRow}
use Rattle.rows.specs.Dividing.{both_held, divided_row, divided_rows}
use Rattle.tables.specs.BookRows.{group_rules}
use Rattle.tables.proofs.Fronts.{SameKeys, along_keys, ends, stays}
use Rattle.tables.proofs.group_rows.Table+GroupRow.divide_rows.Goals as goal

divided_keys : (total : ℕ) (residual : ℤ) (period : ℕ) (rows : List GroupRow) → SameKeys group_rules rows (divided_rows total residual period 0 rows)
divided_keys total residual period = along_keys group_rules (λ b row. b + both_held row) (divided_row total residual period) (λ s x. refl) 0

pub returns-clause-rows : goal.returns-clause-rows
returns-clause-rows c =
    let split = c.args.split in
    ends group_rules _ (divided_keys split.total split.residual (period_number c.args.period)) c.args.self.now _ _ c.len-len.ensures.rows _ refl refl c.divide_front.result c.divide_front.ensures.rows

pub returns-clause-stays : goal.returns-clause-stays
returns-clause-stays c =
    let split = c.args.split in
    stays group_rules _ (divided_keys split.total split.residual (period_number c.args.period)) c.args.self.now _ _ c.len-len.ensures.rows _ refl refl c.divide_front.result c.divide_front.ensures.rows
