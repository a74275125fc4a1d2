-- The laws of every month, after every event of its history. Assumes nothing.
use Rattle.std.specs.Prelude.{◌≡◌, ℕ, ◌%◌, ◌<◌, ◌≤◌, Bool, false, cond, List, [], ◌∷◌, map, length, ℤ, pos, ◌+ℤ◌, Some, None, ◌==◌, ◌≢◌, slice_index, slice_index_or}
use Rattle.std.specs.List.{AllByRecursion}
use Rattle.fault.specs.declared.cause.Fault.{Fault}
use Rattle.fault.specs.declared.cause.Fault.TheVariants.{ForeignTables, LimitPassed}
use Rattle.fault.specs.declared.cause.Limit.TheVariants.{Volume}
use Rattle.allocation.specs.declared.sums.Reconciled.{Reconciled}
use Rattle.allocation.specs.Amounts.{all_volumes, all_amounts}
use Rattle.allocation.specs.Amounts.{settled as priced_line}
use Rattle.allocation.specs.Correction.{exact, Near}
use Rattle.record.specs.declared.page.GroupVolumes.{GroupVolumes}
use Rattle.record.specs.declared.page.PageRecord.{PageRecord}
use Rattle.record.specs.declared.page.PageRecord.TheVariants.{Head, Group, Period, Register, Refusal}
use Rattle.record.specs.Family.{Writable, run}
use Rattle.record.specs.Pages.{pages}
use Rattle.record.specs.Places.{Page}
use Rattle.rows.specs.declared.connection.ConnectionRow.{ConnectionRow}
use Rattle.rows.specs.declared.group.GroupRow.{GroupRow}
use Rattle.rows.specs.declared.group.Group as groups_of_rows
use Rattle.rows.specs.Registers.{four, two, register, way, signed_in}
use Rattle.rows.specs.Settling.{month_in, real_in}
use Rattle.tables.specs.BookRows.{connection_rules, group_rules}
use Rattle.tables.specs.Rules.{same}
use Rattle.ledger.specs.Checks.{Check, first, page_checks}
use Rattle.ledger.specs.Events.{Move, Turn, History, enrols, reads, switches, leaves, opens, posts, weighs, puts_back, divides, withdraws, settles, moved, turned, move_refused, turn_refused, wants, phase, between, settled}
use Rattle.ledger.specs.Histories.{Start, Admitted, state_at, month_at, connections, groups, move_checks, turn_checks}
use Rattle.ledger.specs.Keys.{Ordered, net}
use Rattle.ledger.specs.Model.{group_at}
use Rattle.ledger.specs.Pages.{unpriced, settle_volumes, page_size, real_loss, page_of, page_records, page_bytes}
use Rattle.ledger.specs.Quantities.{Connection, connection, codes, known, standing_sum, done, period_now, meant, weight, weights, residual, wrote, posted_to, allocated, counted, real, group_of, advance_of, exchange_in, losses_in, price_in, real_loss_in, loss_volume_in, reconciliation_of}
use Rattle.ledger.specs.States.{State}

abbrev Group' : Type 0
Group' = groups_of_rows.Group

-- the row of a connection
abbrev pub connection_row : ℕ → Connection → ConnectionRow
connection_row c x = record { code = c; brp = x.brp; supplier = x.supplier; class = x.class; digits = x.digits; factor = x.factor; volumes = x.volumes; stands = x.stands; mark = x.mark }

-- what stands in the row of a group for a direction of the running quarter
abbrev pub written_in : List GroupRow → Group' → ℕ → ℤ
written_in gs g d = slice_index_or (group_at gs g).quarter d (pos 0)

-- an event that changes no allocated volume
abbrev pub Unallocated : History → History → Type 0
Unallocated h h' = (g : Group') (r : ℕ) → allocated h' g r ≡ allocated h g r

-- the law of shares, of a divide after h that leaves the rows gs
pub record Shares (h : History) (gs : List GroupRow) : Type 0 where
  -- every fraction that a weight needs was there
  pub present : (g : Group') (d : ℕ) → (g.class == 0) ≡ false → d < 2 → (standing_sum h g (register d (period_now h)) ≢ 0) → (parts : ℕ) × (meant h g.class d (done h) ≡ Some parts)
  -- what is written is what the running split gives, to the watt-hour
  pub exactly : (g : Group') (d : ℕ) → d < 2 → written_in gs g d ≡ wrote h g d
  -- what is written for a profiled group is less than one watt-hour from its exact corrected share
  pub near : (g : Group') (d : ℕ) → (g.class == 0) ≡ false → d < 2 → Near (weights h) (written_in gs g d) (exact (weights h) (residual h) (way d) (weight h g d))
  -- and for a group of class 0 it is what was posted to it
  pub measured : (g : Group') (d : ℕ) → ((g.class == 0) ≢ false) → d < 2 → written_in gs g d ≡ posted_to h g d
  -- exactly this is added to the allocated volumes of the running period
  pub adds : (g : Group') (d : ℕ) → d < 2 → allocated (turned divides ∷ h) g (register d (period_now h)) ≡ allocated h g (register d (period_now h)) +ℤ written_in gs g d
  -- and nothing to those of the other
  pub keeps : (g : Group') (r : ℕ) → (r % 2 == period_now h) ≡ false → allocated (turned divides ∷ h) g r ≡ allocated h g r

-- what the latest event did to allocated volumes
abbrev pub Latest : History → List GroupRow → Type 0
Latest [] gs = Unit {0}
Latest (moved m ∷ h) gs = Unallocated h (moved m ∷ h)
Latest (turned (opens p c) ∷ h) gs = Unallocated h (turned (opens p c) ∷ h)
Latest (turned (posts k b s w) ∷ h) gs = Unallocated h (turned (posts k b s w) ∷ h)
Latest (turned (weighs m) ∷ h) gs = Unallocated h (turned (weighs m) ∷ h)
Latest (turned puts_back ∷ h) gs = Unallocated h (turned puts_back ∷ h)
Latest (turned divides ∷ h) gs = Shares h gs
Latest (turned withdraws ∷ h) gs = Unallocated h (turned withdraws ∷ h)
Latest (turned settles ∷ h) gs = Unallocated h (turned settles ∷ h)
Latest (move_refused m f ∷ h) gs = Unallocated h (move_refused m f ∷ h)
Latest (turn_refused t f ∷ h) gs = Unallocated h (turn_refused t f ∷ h)

-- an event that changes no real volume of a profiled group
abbrev pub Uncounted : History → History → Type 0
Uncounted h h' = (g : Group') (r : ℕ) → counted h' g r ≡ counted h g r

-- what the latest event did to real volumes: only a read changes any, by the advances of its connection, in the group in which it stands
abbrev pub Counts : History → Type 0
Counts [] = Unit {0}
Counts (moved (enrols x) ∷ h) = Uncounted h (moved (enrols x) ∷ h)
Counts (moved (reads c s) ∷ h) = (g : Group') (r : ℕ) → counted (moved (reads c s) ∷ h) g r ≡ cond (same group_rules (group_of h c) g) (counted h g r +ℤ signed_in r (advance_of h c s r)) (counted h g r)
Counts (moved (switches c b s) ∷ h) = Uncounted h (moved (switches c b s) ∷ h)
Counts (moved (leaves c) ∷ h) = Uncounted h (moved (leaves c) ∷ h)
Counts (turned t ∷ h) = Uncounted h (turned t ∷ h)
Counts (move_refused m f ∷ h) = Uncounted h (move_refused m f ∷ h)
Counts (turn_refused t f ∷ h) = Uncounted h (turn_refused t f ∷ h)

-- the reconciliation volumes of a period in their line, from the history: group by group, offtake first, the loss party last
abbrev pub line_in : History → ℕ → List Group' → ℤ → List ℤ
line_in h p [] loss = loss ∷ []
line_in h p (g ∷ gs) loss = reconciliation_of h g (register 0 p) ∷ reconciliation_of h g (register 1 p) ∷ line_in h p gs loss

-- the law of reconciliation, for a period of a settled month
pub record Settles (s : Start) (h : History) (gs : List GroupRow) (p : ℕ) : Type 0 where
  -- the volumes that are settled are those of the history
  pub line : settle_volumes (month_at s h) p gs ≡ map unpriced (line_in h p (known h) (loss_volume_in h p))
  pub loss : real_loss (month_at s h) p gs ≡ real_loss_in h p
  -- all volumes come to zero watt-hours, and all amounts to zero cents
  pub volumes : all_volumes (settle_volumes (month_at s h) p gs) ≡ pos 0
  pub amounts : all_amounts (priced_line (price_in h p) (pos 0) (settle_volumes (month_at s h) p gs)) ≡ pos 0

-- what a page says of a group, from the history
abbrev pub volumes_in : History → Group' → GroupVolumes
volumes_in h g = record { brp = g.brp; supplier = g.supplier; class = g.class; month = four (allocated h g); real = four (real h g) }

-- the page, from the history
abbrev pub page_in : Start → History → List PageRecord
page_in s h = page_of s.quarters s.loss_party (two (price_in h)) (two (real_loss_in h)) (two (losses_in h)) (map (volumes_in h) (known h))

-- what the records of a page settle in a period, in their order: volume and amount
abbrev of_period : Bool → ℤ → ℤ → List Reconciled → List Reconciled
of_period here v a rest = cond here (record { volume = v; amount = a } ∷ rest) rest

abbrev pub page_line : ℕ → List PageRecord → List Reconciled
page_line p [] = []
page_line p (Head q l n ∷ rs) = page_line p rs
page_line p (Group v ∷ rs) = page_line p rs
page_line p (Period q c x l v a ∷ rs) = of_period (q == p) v a (page_line p rs)
page_line p (Register b s c r v a ∷ rs) = of_period (r % 2 == p) v a (page_line p rs)
page_line p (Refusal n l x y z ∷ rs) = page_line p rs

-- what a record of a page settles in a period: volume, and amount
abbrev pub record_volume : ℕ → PageRecord → ℤ
record_volume p (Head q l n) = pos 0
record_volume p (Group v) = pos 0
record_volume p (Period q c x l v a) = cond (q == p) v (pos 0)
record_volume p (Register b s c r v a) = cond (r % 2 == p) v (pos 0)
record_volume p (Refusal n l x y z) = pos 0

abbrev pub record_amount : ℕ → PageRecord → ℤ
record_amount p (Head q l n) = pos 0
record_amount p (Group v) = pos 0
record_amount p (Period q c x l v a) = cond (q == p) a (pos 0)
record_amount p (Register b s c r v a) = cond (r % 2 == p) a (pos 0)
record_amount p (Refusal n l x y z) = pos 0

-- the law of the page: its bytes are those of the history's figures, they are read again as exactly these, and what they say comes to zero
pub record PageLaw (s : Start) (h : History) (gs : List GroupRow) : Type 0 where
  pub figures : page_records (month_at s h) gs ≡ page_in s h
  pub page : Page (length (known h)) (page_in s h)
  pub size : length (page_bytes (month_at s h) gs) ≡ page_size gs
  pub decoded : (rs : List PageRecord) → AllByRecursion (Writable pages) rs → run pages rs ≡ page_bytes (month_at s h) gs → rs ≡ page_in s h
  -- the volumes of a period are those of the history in their line, each amount G after it less G before it
  pub line : (p : ℕ) → p < 2 → page_line p (page_in s h) ≡ priced_line (price_in h p) (pos 0) (map unpriced (line_in h p (known h) (loss_volume_in h p)))
  pub volumes : (p : ℕ) → p < 2 → net (record_volume p) (page_in s h) ≡ pos 0
  pub amounts : (p : ℕ) → p < 2 → net (record_amount p) (page_in s h) ≡ pos 0

-- an answer that own tables can give: neither foreign tables nor limit 6
pub record NotForeign (c : Check) : Type 0 where
  pub not_foreign : c ≡ Some ForeignTables → ⊥
  pub not_large : c ≡ Some (LimitPassed Volume) → ⊥

-- own tables give no other, whatever entry comes next
pub record Own (s : Start) (h : History) : Type 0 where
  pub moves : phase h ≡ between → (m : Move) → NotForeign (first (move_checks s h m))
  pub turns : (t : Turn) → phase h ≡ wants t → NotForeign (first (turn_checks s h t))
  pub pages : phase h ≡ settled → (memory : ℕ) → NotForeign (first (page_checks (month_at s h) (groups h) memory))

-- after a history, an entry that the state admits is accepted if no check speaks, and else refused with the fault of the first that does.
-- Nothing else is an event: neither an entry that the state does not admit nor another answer.
pub record Answered (s : Start) (h : History) : Type 0 where
  pub accepts_move : phase h ≡ between → (m : Move) → first (move_checks s h m) ≡ None → Admitted s (moved m ∷ h)
  pub refuses_move : phase h ≡ between → (m : Move) (f : Fault) → first (move_checks s h m) ≡ Some f → Admitted s (move_refused m f ∷ h)
  pub accepts_turn : (t : Turn) → phase h ≡ wants t → first (turn_checks s h t) ≡ None → Admitted s (turned t ∷ h)
  pub refuses_turn : (t : Turn) (f : Fault) → phase h ≡ wants t → first (turn_checks s h t) ≡ Some f → Admitted s (turn_refused t f ∷ h)
  pub only_moves : (m : Move) → Admitted s (moved m ∷ h) → (phase h ≡ between) × (first (move_checks s h m) ≡ None)
  pub only_refused_moves : (m : Move) (f : Fault) → Admitted s (move_refused m f ∷ h) → (phase h ≡ between) × (first (move_checks s h m) ≡ Some f)
  pub only_turns : (t : Turn) → Admitted s (turned t ∷ h) → (phase h ≡ wants t) × (first (turn_checks s h t) ≡ None)
  pub only_refused_turns : (t : Turn) (f : Fault) → Admitted s (turn_refused t f ∷ h) → (phase h ≡ wants t) × (first (turn_checks s h t) ≡ Some f)

-- all laws, of a history and the tables that it leads to
pub record Lawful (s : Start) (h : History) (cs : List ConnectionRow) (gs : List GroupRow) : Type 0 where
  -- the connections of the table are those enrolled and not left, each as the history knows it, in the order of their codes, none twice
  pub enrolled : cs ≡ map (λ c. connection_row c (connection h c)) (codes h)
  pub codes_rise : Ordered connection_rules (codes h)
  -- the groups of the table are those that were named, in their order, none twice
  pub named : map (λ row. row.group) gs ≡ known h
  pub groups_rise : Ordered group_rules (known h)
  -- no table has more rows than it may
  pub codes_few : length (codes h) ≤ connection_rules.most
  pub groups_few : length (known h) ≤ group_rules.most
  -- a standing sum is the total over the connections in the group, with or without a row
  pub standing : (g : Group') (r : ℕ) → r < 4 → slice_index (group_at gs g).standing r ≡ standing_sum h g r
  -- real and allocated volumes
  pub readings : (g : Group') (r : ℕ) → r < 4 → real_in (group_at gs g) r ≡ real h g r
  pub allocations : (g : Group') (r : ℕ) → r < 4 → month_in (group_at gs g) r ≡ allocated h g r
  pub counts : Counts h
  -- each period closes, by the rows and by the history
  pub closing : (p : ℕ) → p < 2 → exchange_in h p +ℤ losses_in h p +ℤ net (λ row. month_in row (register 0 p) +ℤ month_in row (register 1 p)) gs ≡ pos 0
  pub closes : (p : ℕ) → p < 2 → exchange_in h p +ℤ losses_in h p +ℤ net (λ g. allocated h g (register 0 p) +ℤ allocated h g (register 1 p)) (known h) ≡ pos 0
  pub latest : Latest h gs
  -- a settled month balances, on its page too
  pub settling : phase h ≡ settled → (p : ℕ) → p < 2 → Settles s h gs p
  pub page : phase h ≡ settled → PageLaw s h gs
  -- what the answer to each entry is, and that own tables never give one of foreign tables
  pub answers : Answered s h
  pub own : Own s h

-- state and tables are what a history leads to
pub record Reaches (s : Start) (h : History) (state : State) (cs : List ConnectionRow) (gs : List GroupRow) : Type 0 where
  pub admitted : Admitted s h
  pub state_is : state ≡ state_at s h
  pub connections_are : cs ≡ connections h
  pub groups_are : gs ≡ groups h
