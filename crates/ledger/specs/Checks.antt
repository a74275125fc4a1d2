-- The refusal table: for each entry its checks, in their order, each with its condition and its fault. The first that speaks is the answer,
-- and an entry is accepted if and only if none does. Assumes nothing.
use Rattle.std.specs.Prelude.{ℕ, ◌+◌, ◌/◌, ◌%◌, min, Bool, true, cond, not, ◌&&◌, ltb, List, [], ◌∷◌, ◌++◌, length, ℤ, pos, ◌+ℤ◌, is_some, Some, None, Option, ◌==◌, nat_le, nat_lt, slice_index, slice_index_or, unsigned_abs}
use Rattle.fault.specs.declared.cause.Fault.{Fault}
use Rattle.fault.specs.declared.cause.Fault.TheVariants.{OutOfRange, BadCode, CodePresent, NotEnrolled, StandTooLarge, NoPlace, MonthFull, MonthUnfinished, NotRead, ForeignTables, LimitPassed, NothingToShare, PageTooShort}
use Rattle.fault.specs.declared.cause.Length.{Length}
use Rattle.fault.specs.declared.cause.Limit.TheVariants.{Weights, Residual, Postings, StandingSum, Advances, Volume}
use Rattle.fault.specs.declared.cause.Period.{Period}
use Rattle.fault.specs.declared.cause.Period.TheVariants.{Normal, Low}
use Rattle.fault.specs.declared.cause.Position.{Position}
use Rattle.fault.specs.declared.cause.Register.{Register}
use Rattle.fault.specs.declared.cause.TableKind.TheVariants.{Connections, Groups}
use Rattle.allocation.specs.Amounts.{totals_refusal}
use Rattle.allocation.specs.Scale.{most_standing, most_weights, most_residual, most_price, most_quarters}
use Rattle.profile.specs.Meanings.{Meaning}
use Rattle.profile.specs.Places.{last_class}
use Rattle.record.specs.declared.entry.Enrolment.{Enrolment}
use Rattle.rows.specs.declared.connection.ConnectionRow.{ConnectionRow}
use Rattle.rows.specs.declared.group.Group.{Group}
use Rattle.rows.specs.declared.group.GroupRow.{GroupRow}
use Rattle.rows.specs.Connections.{bad_code, span, digits_of, row_advance, all_advances}
use Rattle.rows.specs.Dividing.{adds_to, month_passed, too_large}
use Rattle.rows.specs.Registers.{four, any_register, way, signed_in}
use Rattle.rows.specs.Settling.{volume_passed}
use Rattle.rows.specs.Weighing.{or_else, first_absent}
use Rattle.rows.specs.Groups.{group_named}
use Rattle.tables.specs.BookRows.{code, connection_rules, group_rules}
use Rattle.tables.specs.Rules.{Rules, look, same}
use Rattle.ledger.specs.Postings.{last_kind, of_kind, measured, kind_direction, measured_volume, gross}
use Rattle.ledger.specs.States.{Month, Opened, Weighed}
use Rattle.ledger.specs.Model.{quarter, own_group, new_group, group_at, weighing}
use Rattle.ledger.specs.Pages.{settle_volumes, page_size}

-- what a check says: nothing, or its fault
abbrev pub Check : Type 0
Check = Option Fault

abbrev pub when : Bool → Fault → Check
when condition fault = cond condition (Some fault) None

-- the answer: that of the first check that speaks
abbrev pub first : List Check → Check
first [] = None
first (check ∷ checks) = or_else check (first checks)

-- the largest party, posting, all postings of a quarter in Wh, and all advances of a month in Wh
abbrev pub largest_party : ℕ
largest_party = 65535

abbrev pub most_posting : ℕ
most_posting = 2000000000

abbrev pub most_posted : ℕ
most_posted = 4000000000

abbrev pub most_advanced : ℕ
most_advanced = 1000000000000

abbrev pub most_factor : ℕ
most_factor = 100

-- how many rows the lent memory has for connections and for groups
pub record Rooms : Type 0 where
  pub connections : ℕ
  pub groups : ℕ

abbrev pub outside : ℕ → ℕ → ℕ → Bool
outside least most n = cond (nat_lt n least) true (nat_lt most n)

abbrev position : ℕ → Position
position n = record { 0 = n }

abbrev tariff : ℕ → Period
tariff period = cond (period == 0) Normal Low

abbrev pub register_named : ℕ → Register
register_named r = record { direction = way (r / 2); period = tariff (r % 2) }

-- a table with no place for one row more
abbrev pub full : {R K : Type 0} → Rules R K → ℕ → List R → Bool
full rules room rows = not (nat_lt (length rows) (min rules.most room))

abbrev pub missing : List GroupRow → Group → Bool
missing groups g = not (is_some (look group_rules groups g))

-- stands that the meter cannot show, by register
abbrev pub stand_checks : ℕ → List ℕ → List Check
stand_checks limit stands = four (λ r. when (nat_le limit (slice_index stands r)) (StandTooLarge (register_named r)))

-- some standing sum of the row would pass its limit
abbrev pub sum_passed : GroupRow → List ℕ → Bool
sum_passed row volumes = any_register (λ r. ltb most_standing (slice_index row.standing r + slice_index volumes r))

-- tables that are not this book's: the connection's group has no row, or a sum below the connection's own volume
abbrev pub foreign : List GroupRow → ConnectionRow → Bool
foreign groups conn = cond (missing groups (own_group conn)) true (any_register (λ r. ltb (slice_index (group_at groups (own_group conn)).standing r) (slice_index conn.volumes r)))

-- the checks that need the connection, or the one that there is none
abbrev pub of_connection : List ConnectionRow → ℕ → (ConnectionRow → List Check) → List Check
of_connection conns c checks = elim (look connection_rules conns c) [ Some conn ↦ checks conn | None ↦ Some (NotEnrolled (code c)) ∷ [] ]

abbrev pub begin_checks : ℕ → ℕ → List Check
begin_checks quarters loss_party =
    when (outside 1 most_quarters quarters) (OutOfRange (position 1))
    ∷ when (outside 1 largest_party loss_party) (OutOfRange (position 2))
    ∷ []

abbrev pub enrol_checks : Rooms → List ConnectionRow → List GroupRow → Enrolment → List Check
enrol_checks rooms conns groups x =
    let g = group_named x.brp x.supplier x.class in
    when (outside 1 largest_party x.brp) (OutOfRange (position 2))
    ∷ when (outside 1 largest_party x.supplier) (OutOfRange (position 3))
    ∷ when (outside 1 last_class x.class) (OutOfRange (position 4))
    ∷ when (outside 5 6 x.digits) (OutOfRange (position 5))
    ∷ when (outside 1 most_factor x.factor) (OutOfRange (position 6))
    ∷ when (bad_code x.code) (BadCode (code x.code))
    ∷ when (is_some (look connection_rules conns x.code)) (CodePresent (code x.code))
    ∷ (stand_checks (span (digits_of x.digits)) x.stands
    ++ (when (full connection_rules rooms.connections conns) (NoPlace Connections)
    ∷ when (missing groups g && full group_rules rooms.groups groups) (NoPlace Groups)
    ∷ when (sum_passed (group_at groups g) x.volumes) (LimitPassed StandingSum)
    ∷ []))

abbrev pub booking_checks : Month → List GroupRow → List ℕ → ConnectionRow → List Check
booking_checks m groups stands conn =
    when (foreign groups conn) ForeignTables
    ∷ when (nat_lt most_advanced (m.advanced + all_advances conn stands)) (LimitPassed Advances)
    ∷ when (any_register (λ r. too_large (slice_index_or (group_at groups (own_group conn)).real r (pos 0) +ℤ signed_in r (row_advance conn stands r)))) (LimitPassed Volume)
    ∷ []

abbrev pub reading_checks : Month → List GroupRow → List ℕ → ConnectionRow → List Check
reading_checks m groups stands conn = stand_checks (span conn.digits) stands ++ booking_checks m groups stands conn

abbrev pub read_checks : Month → List ConnectionRow → List GroupRow → ℕ → List ℕ → List Check
read_checks m conns groups c stands = of_connection conns c (reading_checks m groups stands)

abbrev unread : Month → ConnectionRow → Bool
unread m conn = not (conn.mark == m.done)

-- a BRP and a supplier that a connection moves to
abbrev pub pair_checks : ℕ → ℕ → List Check
pair_checks b s =
    when (outside 1 largest_party b) (OutOfRange (position 2))
    ∷ when (outside 1 largest_party s) (OutOfRange (position 3))
    ∷ []

-- whether the pair is another than the connection's own
abbrev pub elsewhere : ConnectionRow → ℕ → ℕ → Bool
elsewhere conn b s = not (same group_rules (own_group conn) (new_group conn b s))

abbrev pub moving_checks : Rooms → Month → List GroupRow → ℕ → ℕ → ConnectionRow → List Check
moving_checks rooms m groups b s conn =
    when (elsewhere conn b s && (missing groups (new_group conn b s) && full group_rules rooms.groups groups)) (NoPlace Groups)
    ∷ when (unread m conn) (NotRead (code conn.code))
    ∷ when (foreign groups conn) ForeignTables
    ∷ when (elsewhere conn b s && sum_passed (group_at groups (new_group conn b s)) conn.volumes) (LimitPassed StandingSum)
    ∷ []

abbrev pub switch_checks : Rooms → Month → List ConnectionRow → List GroupRow → ℕ → ℕ → ℕ → List Check
switch_checks rooms m conns groups c b s = pair_checks b s ++ of_connection conns c (moving_checks rooms m groups b s)

abbrev pub leaving_checks : Month → List GroupRow → ConnectionRow → List Check
leaving_checks m groups conn =
    when (unread m conn) (NotRead (code conn.code))
    ∷ when (foreign groups conn) ForeignTables
    ∷ []

abbrev pub leave_checks : Month → List ConnectionRow → List GroupRow → ℕ → List Check
leave_checks m conns groups c = of_connection conns c (leaving_checks m groups)

abbrev pub open_checks : Month → ℕ → ℤ → List Check
open_checks m period price =
    when (nat_lt 1 period) (OutOfRange (position 1))
    ∷ when (nat_lt most_price (unsigned_abs price)) (OutOfRange (position 2))
    ∷ when (m.done == m.quarters) (MonthFull (quarter m.done))
    ∷ []

-- measured kinds want a party, the others 0
abbrev pub wrong_party : ℕ → ℕ → Bool
wrong_party kind party = cond (measured kind) (outside 1 largest_party party) (not (party == 0))

-- the arguments of a posting
abbrev pub naming_checks : ℕ → ℕ → ℕ → ℕ → List Check
naming_checks kind b s wh =
    when (outside 1 last_kind kind) (OutOfRange (position 1))
    ∷ when (wrong_party kind b) (OutOfRange (position 2))
    ∷ when (wrong_party kind s) (OutOfRange (position 3))
    ∷ when (nat_lt most_posting wh) (OutOfRange (position 4))
    ∷ []

-- its place and the limits
abbrev pub gathering_checks : Rooms → Opened → List GroupRow → ℕ → ℕ → ℕ → ℕ → List Check
gathering_checks rooms o groups kind b s wh =
    let g = group_named b s 0 in
    when (measured kind && (missing groups g && full group_rules rooms.groups groups)) (NoPlace Groups)
    ∷ when (nat_lt most_posted (gross (of_kind o.posted) + wh)) (LimitPassed Postings)
    ∷ when (measured kind && too_large (slice_index_or (group_at groups g).quarter (kind_direction kind) (pos 0) +ℤ measured_volume kind wh)) (LimitPassed Volume)
    ∷ []

abbrev pub post_checks : Rooms → Opened → List GroupRow → ℕ → ℕ → ℕ → ℕ → List Check
post_checks rooms o groups kind b s wh = naming_checks kind b s wh ++ gathering_checks rooms o groups kind b s wh

abbrev pub weigh_checks : Month → Opened → Meaning → List GroupRow → List Check
weigh_checks m o meaning groups =
    let w = weighing meaning m.done o groups in
    first_absent meaning (quarter m.done) o.period groups
    ∷ when (nat_lt most_weights w.total) (LimitPassed Weights)
    ∷ when (nat_lt most_residual (unsigned_abs w.residual)) (LimitPassed Residual)
    ∷ when (w.total == 0 && not (unsigned_abs w.residual == 0)) (NothingToShare (quarter m.done))
    ∷ []

abbrev pub divide_checks : Opened → Weighed → List GroupRow → List Check
divide_checks o w groups =
    when (not (adds_to w.total groups)) ForeignTables
    ∷ when (month_passed w.total w.residual o.period 0 groups) (LimitPassed Volume)
    ∷ []

-- the first connection that was not read at q: the lowest such code, since codes rise
abbrev pub first_unread : ℕ → List ConnectionRow → Check
first_unread q [] = None
first_unread q (conn ∷ conns) = cond (conn.mark == q) (first_unread q conns) (Some (NotRead (code conn.code)))

-- some volume of a row, or some running total S of a period, beyond its limit
abbrev pub volume_checks : Month → List GroupRow → List Check
volume_checks m groups =
    when (volume_passed groups) (LimitPassed Volume)
    ∷ totals_refusal (pos 0) (settle_volumes m 0 groups)
    ∷ totals_refusal (pos 0) (settle_volumes m 1 groups)
    ∷ []

abbrev pub settle_checks : Month → List ConnectionRow → List GroupRow → List Check
settle_checks m conns groups =
    when (nat_lt m.done m.quarters) (MonthUnfinished (quarter m.done))
    ∷ first_unread m.done conns
    ∷ volume_checks m groups

abbrev byte_length : ℕ → Length
byte_length n = record { 0 = n }

abbrev pub memory_checks : List GroupRow → ℕ → List Check
memory_checks groups memory = when (nat_lt memory (page_size groups)) (PageTooShort (byte_length (page_size groups))) ∷ []

abbrev pub page_checks : Month → List GroupRow → ℕ → List Check
page_checks m groups memory = volume_checks m groups ++ memory_checks groups memory
