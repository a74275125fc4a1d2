-- What each accepted entry makes of the tables and of the numbers of a state. Assumes nothing.
use Rattle.std.specs.Prelude.{ℕ, ◌+◌, ◌-◌, cond, List, map, ℤ, pos, ◌+ℤ◌, ◌*ℤ◌, Some, None, Option, ◌==◌, slice_index, slice_index_or}
use Rattle.fault.specs.declared.cause.Quarter.{Quarter}
use Rattle.allocation.specs.Correction.{residual_of}
use Rattle.profile.specs.Meanings.{Meaning}
use Rattle.record.specs.declared.entry.Enrolment.{Enrolment}
use Rattle.rows.specs.declared.connection.ConnectionRow.{ConnectionRow}
use Rattle.rows.specs.declared.connection.Digits.TheVariants.{Five}
use Rattle.rows.specs.declared.group.Group.{Group}
use Rattle.rows.specs.declared.group.GroupRow.{GroupRow}
use Rattle.rows.specs.Connections.{digits_of, row_advance, all_advances}
use Rattle.rows.specs.Dividing.{divided_rows, priced}
use Rattle.rows.specs.Groups.{group_named, blank, cleared}
use Rattle.rows.specs.Registers.{four, two, signed_in}
use Rattle.rows.specs.Weighing.{weighed, weights_total, weights_net}
use Rattle.tables.specs.BookRows.{connection_rules, group_rules}
use Rattle.tables.specs.Rules.{look, same, with_row, without, exchanged}
use Rattle.ledger.specs.Keys.{at_key}
use Rattle.ledger.specs.Postings.{each_kind, of_kind, with_posting, measured, kind_direction, measured_volume, exchange, measurement, losses}
use Rattle.ledger.specs.States.{Sums, Month, Opened, Weighed}

abbrev pub quarter : ℕ → Quarter
quarter n = record { 0 = n }

-- the group of a connection
abbrev pub own_group : ConnectionRow → Group
own_group row = record { brp = row.brp; supplier = row.supplier; class = row.class }

-- a connection of which nothing is known
abbrev pub blank_connection : ℕ → ConnectionRow
blank_connection c = record { code = c; brp = 0; supplier = 0; class = 0; digits = Five; factor = 0; volumes = four (λ _. 0); stands = four (λ _. 0); mark = 0 }

abbrev or_blank_connection : Option ConnectionRow → ℕ → ConnectionRow
or_blank_connection (Some row) c = row
or_blank_connection None c = blank_connection c

-- the connection with a code
abbrev pub connection_at : List ConnectionRow → ℕ → ConnectionRow
connection_at conns c = or_blank_connection (look connection_rules conns c) c

abbrev or_blank_group : Option GroupRow → Group → GroupRow
or_blank_group (Some row) g = row
or_blank_group None g = blank g

-- the row of a group; one without a row is blank
abbrev pub group_at : List GroupRow → Group → GroupRow
group_at groups g = or_blank_group (look group_rules groups g) g

-- a group's row changed, and made first where it is missing
abbrev pub at_group : Group → (GroupRow → GroupRow) → List GroupRow → List GroupRow
at_group = at_key group_rules blank

-- standing sums with a connection's standard year volumes in, or out
abbrev pub joined : List ℕ → GroupRow → GroupRow
joined volumes row = record { group = row.group; standing = four (λ r. slice_index row.standing r + slice_index volumes r); quarter = row.quarter; month = row.month; real = row.real }

abbrev pub parted : List ℕ → GroupRow → GroupRow
parted volumes row = record { group = row.group; standing = four (λ r. slice_index row.standing r - slice_index volumes r); quarter = row.quarter; month = row.month; real = row.real }

-- enrol
abbrev pub enrolled_row : ℕ → Enrolment → ConnectionRow
enrolled_row q x = record { code = x.code; brp = x.brp; supplier = x.supplier; class = x.class; digits = digits_of x.digits; factor = x.factor; volumes = x.volumes; stands = x.stands; mark = q }

abbrev pub enrol_connections : ℕ → Enrolment → List ConnectionRow → List ConnectionRow
enrol_connections q x conns = with_row connection_rules (enrolled_row q x) conns

abbrev pub enrol_groups : Enrolment → List GroupRow → List GroupRow
enrol_groups x groups = at_group (group_named x.brp x.supplier x.class) (joined x.volumes) groups

-- read
abbrev pub read_row : ℕ → List ℕ → ConnectionRow → ConnectionRow
read_row q stands row = record { code = row.code; brp = row.brp; supplier = row.supplier; class = row.class; digits = row.digits; factor = row.factor; volumes = row.volumes; stands = stands; mark = q }

abbrev pub read_connections : ℕ → ℕ → List ℕ → List ConnectionRow → List ConnectionRow
read_connections q c stands conns = exchanged connection_rules (read_row q stands (connection_at conns c)) conns

-- a group's real volumes with the advances of one of its connections
abbrev pub advanced_row : ConnectionRow → List ℕ → GroupRow → GroupRow
advanced_row conn stands row = record { group = row.group; standing = row.standing; quarter = row.quarter; month = row.month; real = four (λ r. slice_index_or row.real r (pos 0) +ℤ signed_in r (row_advance conn stands r)) }

abbrev pub read_groups : ConnectionRow → List ℕ → List GroupRow → List GroupRow
read_groups conn stands groups = at_group (own_group conn) (advanced_row conn stands) groups

abbrev pub read_month : ConnectionRow → List ℕ → Month → Month
read_month conn stands m = record { quarters = m.quarters; loss_party = m.loss_party; done = m.done; advanced = m.advanced + all_advances conn stands; normal = m.normal; low = m.low }

-- switch
abbrev pub moved_row : ℕ → ℕ → ConnectionRow → ConnectionRow
moved_row b s row = record { code = row.code; brp = b; supplier = s; class = row.class; digits = row.digits; factor = row.factor; volumes = row.volumes; stands = row.stands; mark = row.mark }

abbrev pub switch_connections : ℕ → ℕ → ℕ → List ConnectionRow → List ConnectionRow
switch_connections c b s conns = exchanged connection_rules (moved_row b s (connection_at conns c)) conns

-- the group that a connection has with another BRP and supplier
abbrev pub new_group : ConnectionRow → ℕ → ℕ → Group
new_group conn b s = group_named b s conn.class

-- a switch to its own pair changes nothing
abbrev pub switch_groups : ConnectionRow → ℕ → ℕ → List GroupRow → List GroupRow
switch_groups conn b s groups = cond (same group_rules (own_group conn) (new_group conn b s)) groups (at_group (new_group conn b s) (joined conn.volumes) (at_group (own_group conn) (parted conn.volumes) groups))

-- leave
abbrev pub leave_connections : ℕ → List ConnectionRow → List ConnectionRow
leave_connections c conns = without connection_rules c conns

abbrev pub leave_groups : ConnectionRow → List GroupRow → List GroupRow
leave_groups conn groups = at_group (own_group conn) (parted conn.volumes) groups

-- open, and withdraw
abbrev pub cleared_groups : List GroupRow → List GroupRow
cleared_groups groups = map cleared groups

abbrev pub opened : ℕ → ℤ → Opened
opened period price = record { period = period; price = price; posted = each_kind (λ _. 0) }

-- post
abbrev pub posted_row : ℕ → ℕ → GroupRow → GroupRow
posted_row kind wh row = record { group = row.group; standing = row.standing; quarter = two (λ d. cond (d == kind_direction kind) (slice_index_or row.quarter d (pos 0) +ℤ measured_volume kind wh) (slice_index_or row.quarter d (pos 0))); month = row.month; real = row.real }

abbrev pub post_groups : ℕ → ℕ → ℕ → ℕ → List GroupRow → List GroupRow
post_groups kind b s wh groups = cond (measured kind) (at_group (group_named b s 0) (posted_row kind wh) groups) groups

abbrev pub post_opened : ℕ → ℕ → Opened → Opened
post_opened kind wh o = record { period = o.period; price = o.price; posted = each_kind (with_posting kind wh (of_kind o.posted)) }

-- weigh
abbrev pub weigh_groups : Meaning → ℕ → ℕ → List GroupRow → List GroupRow
weigh_groups meaning q period groups = map (weighed meaning (quarter q) period) groups

-- R of an open quarter whose weights have the net V
abbrev pub residual_at : Opened → ℤ → ℤ
residual_at o v = residual_of (exchange (of_kind o.posted)) (measurement (of_kind o.posted)) v (losses (of_kind o.posted))

abbrev pub weighing : Meaning → ℕ → Opened → List GroupRow → Weighed
weighing meaning q o groups = record { total = weights_total meaning (quarter q) o.period groups; residual = residual_at o (weights_net meaning (quarter q) o.period groups) }

-- divide
abbrev pub divide_groups : Opened → Weighed → List GroupRow → List GroupRow
divide_groups o w groups = divided_rows w.total w.residual o.period 0 groups

-- the sums of a period, with one quarter more if it is of this period
abbrev pub gained : ℕ → Opened → ℕ → Sums → Sums
gained period o d s = cond (o.period == period) (record { posted = each_kind (λ k. of_kind s.posted k + of_kind o.posted k); volume = s.volume + d; value = s.value +ℤ (pos d *ℤ o.price) }) s

abbrev pub divide_month : Opened → Weighed → List GroupRow → Month → Month
divide_month o w groups m = record { quarters = m.quarters; loss_party = m.loss_party; done = m.done + 1; advanced = m.advanced; normal = gained 0 o (priced w.total w.residual groups) m.normal; low = gained 1 o (priced w.total w.residual groups) m.low }
