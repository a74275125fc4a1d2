-- The amounts of volumes that stand in a line. Assumes nothing.
use Rattle.std.specs.Prelude.{◌≡◌, ℕ, ℤ, ◌+ℤ◌, Result}
use Rattle.fault.specs.declared.cause.Fault.{Fault}
use Rattle.allocation.specs.declared.sums.Settling.{Settling}
use Rattle.allocation.specs.Refusals.{Decided}
use Rattle.allocation.specs.Settling.{amount_of, total_refusal}
use Rattle.rows.specs.declared.direction.ByDirection.{ByDirection}
use Rattle.rows.specs.declared.group.GroupRow.{GroupRow}
use Rattle.rows.specs.RowAmounts.{after_row, row_amount, row_refusal}

-- the answer is the amount of a volume behind the line p, which leaves the line n, or why it has none
abbrev pub Amounts : Settling → Settling → ℤ → Result ℤ Fault → Type 0
Amounts p n volume result = Decided (total_refusal (p.total +ℤ volume)) result (λ a. (a ≡ amount_of p.price.cents p.total volume) × (n.total ≡ p.total +ℤ volume) × (n.price ≡ p.price))

-- the answer is the amounts of a row in a period behind the line p, which leaves the line n, or why it has none
abbrev pub PeriodAmounts : Settling → Settling → ℕ → GroupRow → Result (ByDirection ℤ) Fault → Type 0
PeriodAmounts p n period row result = Decided (row_refusal p.total period row) result (λ a. (a.offtake ≡ row_amount p.price.cents p.total period row 0) × (a.feed_in ≡ row_amount p.price.cents p.total period row 1) × (n.total ≡ after_row p.total period row) × (n.price ≡ p.price))
