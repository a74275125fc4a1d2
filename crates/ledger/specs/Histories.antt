-- What a history leads to: state and tables, entry by entry, and which histories there are. Assumes nothing.
use Rattle.std.specs.Prelude.{◌≡◌, ℕ, List, [], ◌∷◌, Some, None}
use Rattle.rows.specs.declared.connection.ConnectionRow.{ConnectionRow}
use Rattle.rows.specs.declared.group.GroupRow.{GroupRow}
use Rattle.ledger.specs.Checks.{Check, Rooms, first, begin_checks, enrol_checks, read_checks, switch_checks, leave_checks, open_checks, post_checks, weigh_checks, divide_checks, settle_checks}
use Rattle.ledger.specs.Events.{Move, Turn, History, Phase, enrols, reads, switches, leaves, opens, posts, weighs, puts_back, divides, withdraws, settles, moved, turned, move_refused, turn_refused, wants, phase}
use Rattle.ledger.specs.Events.{between as Between, gathering as Gathering, slip as Slip, settled as Settled}
use Rattle.ledger.specs.Model.{connection_at, enrol_connections, enrol_groups, read_connections, read_groups, switch_connections, switch_groups, leave_connections, leave_groups, cleared_groups, post_groups, weigh_groups, divide_groups}
use Rattle.ledger.specs.Postings.{each_kind}
use Rattle.ledger.specs.Quantities.{done, period_now, price_now, posted, advanced, posted_in, volume_sum, value_sum, weights, residual}
use Rattle.ledger.specs.States.{Sums, Month, Opened, Weighed, State, between, gathering, slip, settled}

-- what begin was given: the month's quarters and loss party, and how many rows the lent memory has
pub record Start : Type 0 where
  pub quarters : ℕ
  pub loss_party : ℕ
  pub rooms : Rooms

abbrev pub sums_at : History → ℕ → Sums
sums_at h p = record { posted = each_kind (posted_in h p); volume = volume_sum h p; value = value_sum h p }

abbrev pub month_at : Start → History → Month
month_at s h = record { quarters = s.quarters; loss_party = s.loss_party; done = done h; advanced = advanced h; normal = sums_at h 0; low = sums_at h 1 }

abbrev pub opened_at : History → Opened
opened_at h = record { period = period_now h; price = price_now h; posted = each_kind (posted h) }

abbrev pub weighed_at : History → Weighed
weighed_at h = record { total = weights h; residual = residual h }

abbrev pub state_in : Phase → Month → Opened → Weighed → State
state_in Between m o w = between m
state_in Gathering m o w = gathering m o
state_in Slip m o w = slip m o w
state_in Settled m o w = settled m

abbrev pub state_at : Start → History → State
state_at s h = state_in (phase h) (month_at s h) (opened_at h) (weighed_at h)

-- the table of connections
abbrev pub connections : History → List ConnectionRow
connections [] = []
connections (moved (enrols x) ∷ h) = enrol_connections (done h) x (connections h)
connections (moved (reads c s) ∷ h) = read_connections (done h) c s (connections h)
connections (moved (switches c b s) ∷ h) = switch_connections c b s (connections h)
connections (moved (leaves c) ∷ h) = leave_connections c (connections h)
connections (turned t ∷ h) = connections h
connections (move_refused m f ∷ h) = connections h
connections (turn_refused t f ∷ h) = connections h

-- the table of groups
abbrev pub groups : History → List GroupRow
groups [] = []
groups (moved (enrols x) ∷ h) = enrol_groups x (groups h)
groups (moved (reads c s) ∷ h) = read_groups (connection_at (connections h) c) s (groups h)
groups (moved (switches c b s) ∷ h) = switch_groups (connection_at (connections h) c) b s (groups h)
groups (moved (leaves c) ∷ h) = leave_groups (connection_at (connections h) c) (groups h)
groups (turned (opens p c) ∷ h) = cleared_groups (groups h)
groups (turned (posts k b s w) ∷ h) = post_groups k b s w (groups h)
groups (turned (weighs m) ∷ h) = weigh_groups m (done h) (period_now h) (groups h)
groups (turned puts_back ∷ h) = groups h
groups (turned divides ∷ h) = divide_groups (opened_at h) (weighed_at h) (groups h)
groups (turned withdraws ∷ h) = cleared_groups (groups h)
groups (turned settles ∷ h) = groups h
groups (move_refused m f ∷ h) = groups h
groups (turn_refused t f ∷ h) = groups h

-- what the refusal table says of an entry after a history
abbrev pub move_checks : Start → History → Move → List Check
move_checks s h (enrols x) = enrol_checks s.rooms (connections h) (groups h) x
move_checks s h (reads c stands) = read_checks (month_at s h) (connections h) (groups h) c stands
move_checks s h (switches c b p) = switch_checks s.rooms (month_at s h) (connections h) (groups h) c b p
move_checks s h (leaves c) = leave_checks (month_at s h) (connections h) (groups h) c

abbrev pub turn_checks : Start → History → Turn → List Check
turn_checks s h (opens p c) = open_checks (month_at s h) p c
turn_checks s h (posts k b p w) = post_checks s.rooms (opened_at h) (groups h) k b p w
turn_checks s h (weighs m) = weigh_checks (month_at s h) (opened_at h) m (groups h)
turn_checks s h puts_back = []
turn_checks s h divides = divide_checks (opened_at h) (weighed_at h) (groups h)
turn_checks s h withdraws = []
turn_checks s h settles = settle_checks (month_at s h) (connections h) (groups h)

-- begin was accepted; each entry is one that the state admits, accepted if no check speaks, else refused with the fault of the first that does
abbrev pub Admitted : Start → History → Type 0
Admitted s [] = first (begin_checks s.quarters s.loss_party) ≡ None
Admitted s (moved m ∷ h) = Admitted s h × (phase h ≡ Between) × (first (move_checks s h m) ≡ None)
Admitted s (turned t ∷ h) = Admitted s h × (phase h ≡ wants t) × (first (turn_checks s h t) ≡ None)
Admitted s (move_refused m f ∷ h) = Admitted s h × (phase h ≡ Between) × (first (move_checks s h m) ≡ Some f)
Admitted s (turn_refused t f ∷ h) = Admitted s h × (phase h ≡ wants t) × (first (turn_checks s h t) ≡ Some f)
