-- The laws, each for every history, after every event. Assumes nothing.
use Rattle.std.specs.Prelude.{◌≡◌, ℕ, ◌<◌, List, map, pos, ◌+ℤ◌, slice_index}
use Rattle.rows.specs.declared.connection.ConnectionRow.{ConnectionRow}
use Rattle.rows.specs.declared.group.Group.{Group}
use Rattle.rows.specs.declared.group.GroupRow.{GroupRow}
use Rattle.rows.specs.Registers.{register}
use Rattle.rows.specs.Settling.{month_in, real_in}
use Rattle.tables.specs.BookRows.{connection_rules, group_rules}
use Rattle.ledger.specs.Events.{History, phase, settled}
use Rattle.ledger.specs.Histories.{Start, Admitted, connections, groups}
use Rattle.ledger.specs.Keys.{Ordered, net}
use Rattle.ledger.specs.Laws.{Lawful, Reaches, Answered, Own, Settles, PageLaw, Latest, Counts, connection_row}
use Rattle.ledger.specs.Model.{group_at}
use Rattle.ledger.specs.Quantities.{connection, codes, known, standing_sum, real, allocated, exchange_in, losses_in}
use Rattle.ledger.specs.States.{State}

-- whatever state and tables a history leads to, they obey all laws
abbrev pub AllLaws : Type 0
AllLaws = (s : Start) (h : History) (state : State) (cs : List ConnectionRow) (gs : List GroupRow) → Reaches s h state cs gs → Lawful s h cs gs

pub record Enrolled (h : History) : Type 0 where
  pub table : connections h ≡ map (λ c. connection_row c (connection h c)) (codes h)
  pub codes_rise : Ordered connection_rules (codes h)
  pub groups_are : map (λ row. row.group) (groups h) ≡ known h
  pub groups_rise : Ordered group_rules (known h)

abbrev pub Enrolments : Type 0
Enrolments = (s : Start) (h : History) → Admitted s h → Enrolled h

abbrev pub StandingSums : Type 0
StandingSums = (s : Start) (h : History) → Admitted s h → (g : Group) (r : ℕ) → r < 4 → slice_index (group_at (groups h) g).standing r ≡ standing_sum h g r

pub record Read (h : History) : Type 0 where
  pub volumes : (g : Group) (r : ℕ) → r < 4 → real_in (group_at (groups h) g) r ≡ real h g r
  pub latest : Counts h

abbrev pub Readings : Type 0
Readings = (s : Start) (h : History) → Admitted s h → Read h

-- a period closes: with the allocated volumes of the history, and with those that the rows hold
pub record Closed (h : History) : Type 0 where
  pub allocations : (p : ℕ) → p < 2 → exchange_in h p +ℤ losses_in h p +ℤ net (λ g. allocated h g (register 0 p) +ℤ allocated h g (register 1 p)) (known h) ≡ pos 0
  pub rows : (p : ℕ) → p < 2 → exchange_in h p +ℤ losses_in h p +ℤ net (λ row. month_in row (register 0 p) +ℤ month_in row (register 1 p)) (groups h) ≡ pos 0

abbrev pub Closing : Type 0
Closing = (s : Start) (h : History) → Admitted s h → Closed h

pub record Shared (h : History) : Type 0 where
  pub volumes : (g : Group) (r : ℕ) → r < 4 → month_in (group_at (groups h) g) r ≡ allocated h g r
  pub latest : Latest h (groups h)

abbrev pub SharesLaw : Type 0
SharesLaw = (s : Start) (h : History) → Admitted s h → Shared h

abbrev pub Reconciliation : Type 0
Reconciliation = (s : Start) (h : History) → Admitted s h → phase h ≡ settled → (p : ℕ) → p < 2 → Settles s h (groups h) p

abbrev pub PageBytes : Type 0
PageBytes = (s : Start) (h : History) → Admitted s h → phase h ≡ settled → PageLaw s h (groups h)

abbrev pub OwnTables : Type 0
OwnTables = (s : Start) (h : History) → Admitted s h → Own s h

abbrev pub Answers : Type 0
Answers = (s : Start) (h : History) → Admitted s h → Answered s h
