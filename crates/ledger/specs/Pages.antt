-- What a settled month comes to, and its page. Assumes nothing.
use Rattle.std.specs.Prelude.{ℕ, ◌+◌, ◌*◌, ◌%◌, cond, List, [], ◌∷◌, ◌++◌, map, length, get_or, ℤ, pos, ◌+ℤ◌, ◌-ℤ◌, neg_ℤ, ◌==◌, nat_lt, slice_index_or}
use Rattle.allocation.specs.declared.sums.Reconciled.{Reconciled}
use Rattle.allocation.specs.Settling.{amount_of}
use Rattle.record.specs.declared.page.GroupVolumes.{GroupVolumes}
use Rattle.record.specs.declared.page.PageRecord.{PageRecord}
use Rattle.record.specs.declared.page.PageRecord.TheVariants.{Head, Group, Period, Register}
use Rattle.record.specs.Family.{run}
use Rattle.record.specs.Pages.{pages}
use Rattle.rows.specs.declared.group.GroupRow.{GroupRow}
use Rattle.rows.specs.Registers.{four, two, register}
use Rattle.rows.specs.Settling.{month_in, real_in, profiled_real, settle_line}
use Rattle.ledger.specs.Postings.{of_kind, exchange, measurement, losses}
use Rattle.ledger.specs.States.{Month, sums_of, period_price}

-- X, M and L of a period
abbrev pub period_exchange : Month → ℕ → ℤ
period_exchange m period = exchange (of_kind (sums_of m period).posted)

abbrev pub period_measurement : Month → ℕ → ℤ
period_measurement m period = measurement (of_kind (sums_of m period).posted)

abbrev pub period_losses : Month → ℕ → ℤ
period_losses m period = losses (of_kind (sums_of m period).posted)

-- what was really lost: all that came in, was measured or was read, with the other sign
abbrev pub real_loss : Month → ℕ → List GroupRow → ℤ
real_loss m period groups = neg_ℤ (period_exchange m period +ℤ period_measurement m period +ℤ profiled_real period groups)

-- the loss party's reconciliation volume
abbrev pub loss_volume : Month → ℕ → List GroupRow → ℤ
loss_volume m period groups = real_loss m period groups -ℤ period_losses m period

-- a volume that has no amount yet
abbrev pub unpriced : ℤ → Reconciled
unpriced volume = record { volume = volume; amount = pos 0 }

-- the reconciliation volumes of a period in their line, the loss party's last
abbrev pub settle_volumes : Month → ℕ → List GroupRow → List Reconciled
settle_volumes m period groups = map unpriced (settle_line period groups (loss_volume m period groups))

-- what a page says of a group: its allocated and its real volumes
abbrev pub volumes_of : GroupRow → GroupVolumes
volumes_of row = record { brp = row.group.brp; supplier = row.group.supplier; class = row.group.class; month = four (month_in row); real = four (real_in row) }

-- its reconciliation volume of a register
abbrev pub settled_for : GroupVolumes → ℕ → ℤ
settled_for v r = slice_index_or v.real r (pos 0) -ℤ slice_index_or v.month r (pos 0)

-- the running total S of a period after a group, and after all groups
abbrev pub after_group : ℕ → GroupVolumes → ℤ → ℤ
after_group period v s = s +ℤ settled_for v (register 0 period) +ℤ settled_for v (register 1 period)

abbrev pub after_groups : ℕ → List GroupVolumes → ℤ → ℤ
after_groups period [] s = s
after_groups period (v ∷ vs) s = after_groups period vs (after_group period v s)

-- where the running totals of the two periods stand
pub record Running : Type 0 where
  pub normal : ℤ
  pub low : ℤ

abbrev pub running_in : Running → ℕ → ℤ
running_in s period = cond (period == 0) s.normal s.low

-- S before a register of a group: offtake comes before feed-in
abbrev pub before_register : GroupVolumes → Running → ℕ → ℤ
before_register v s r = cond (nat_lt r 2) (running_in s (r % 2)) (running_in s (r % 2) +ℤ settled_for v (r % 2))

abbrev pub register_record : List ℤ → GroupVolumes → Running → ℕ → PageRecord
register_record prices v s r = Register v.brp v.supplier v.class r (settled_for v r) (amount_of (slice_index_or prices (r % 2) (pos 0)) (before_register v s r) (settled_for v r))

-- the records of the groups, each period's S going on from one to the next
abbrev pub group_records : List ℤ → Running → List GroupVolumes → List PageRecord
group_records prices s [] = []
group_records prices s (v ∷ vs) = Group v ∷ (four (register_record prices v s) ++ group_records prices (record { normal = after_group 0 v s.normal; low = after_group 1 v s.low }) vs)

-- the record of a period: its price, real loss and losses, and what the loss party is settled for, last in the line
abbrev pub period_record : List ℤ → List ℤ → List ℤ → List GroupVolumes → ℕ → PageRecord
period_record prices real losses vs p =
    let price = get_or prices p (pos 0) in
    let volume = slice_index_or real p (pos 0) -ℤ get_or losses p (pos 0) in
    Period p price (slice_index_or real p (pos 0)) (slice_index_or losses p (pos 0)) volume (amount_of price (after_groups p vs (pos 0)) volume)

-- a page: of prices, real losses and losses by period, and of the groups
abbrev pub page_of : ℕ → ℕ → List ℤ → List ℤ → List ℤ → List GroupVolumes → List PageRecord
page_of quarters loss_party prices real losses vs = Head quarters loss_party (length vs) ∷ (group_records prices (record { normal = pos 0; low = pos 0 }) vs ++ (period_record prices real losses vs 0 ∷ period_record prices real losses vs 1 ∷ []))

abbrev pub page_records : Month → List GroupRow → List PageRecord
page_records m groups = page_of m.quarters m.loss_party (two (period_price m)) (two (λ p. real_loss m p groups)) (two (period_losses m)) (map volumes_of groups)

abbrev pub page_bytes : Month → List GroupRow → List ℕ
page_bytes m groups = run pages (page_records m groups)

abbrev pub page_size : List GroupRow → ℕ
page_size groups = 93 + 162 * length groups
