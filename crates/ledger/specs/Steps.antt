-- From one entry to the next: whoever does to state and tables what the model says has gone on with the history. Assumes nothing.
use Rattle.std.specs.Prelude.{◌≡◌, ℕ, List, [], ◌∷◌, ℤ, pos, Some, None}
use Rattle.fault.specs.declared.cause.Fault.{Fault}
use Rattle.profile.specs.Meanings.{Meaning}
use Rattle.record.specs.declared.entry.Enrolment.{Enrolment}
use Rattle.rows.specs.declared.connection.ConnectionRow.{ConnectionRow}
use Rattle.rows.specs.declared.group.GroupRow.{GroupRow}
use Rattle.ledger.specs.Checks.{first, begin_checks, enrol_checks, read_checks, switch_checks, leave_checks, open_checks, post_checks, weigh_checks, divide_checks, settle_checks}
use Rattle.ledger.specs.Events.{History, enrols, reads, switches, leaves, opens, posts, weighs, puts_back, divides, withdraws, settles, moved, turned, move_refused, turn_refused}
use Rattle.ledger.specs.Histories.{Start}
use Rattle.ledger.specs.Laws.{Reaches}
use Rattle.ledger.specs.Model.{connection_at, enrol_connections, enrol_groups, read_connections, read_groups, read_month, switch_connections, switch_groups, leave_connections, leave_groups, cleared_groups, opened, post_groups, post_opened, weigh_groups, weighing, divide_groups, divide_month}
use Rattle.ledger.specs.Postings.{each_kind}
use Rattle.ledger.specs.States.{Sums, Month, Opened, Weighed, between, gathering, slip, settled}

-- a month of which nothing is booked yet
abbrev pub new_month : ℕ → ℕ → Month
new_month quarters loss_party =
    let none : Sums = record { posted = each_kind (λ _. 0); volume = 0; value = pos 0 } in
    record { quarters = quarters; loss_party = loss_party; done = 0; advanced = 0; normal = none; low = none }

-- what an entry does between quarters: its checks, and what it leaves if none of them speaks
module _ (s : Start) (h : History) (m : Month) (cs : List ConnectionRow) (gs : List GroupRow) where
  pub record BetweenSteps : Type 0 where
    pub enrol : (x : Enrolment) → first (enrol_checks s.rooms cs gs x) ≡ None → Reaches s (moved (enrols x) ∷ h) (between m) (enrol_connections m.done x cs) (enrol_groups x gs)
    pub enrol_refused : (x : Enrolment) (f : Fault) → first (enrol_checks s.rooms cs gs x) ≡ Some f → Reaches s (move_refused (enrols x) f ∷ h) (between m) cs gs
    pub read : (c : ℕ) (st : List ℕ) → first (read_checks m cs gs c st) ≡ None → Reaches s (moved (reads c st) ∷ h) (between (read_month (connection_at cs c) st m)) (read_connections m.done c st cs) (read_groups (connection_at cs c) st gs)
    pub read_refused : (c : ℕ) (st : List ℕ) (f : Fault) → first (read_checks m cs gs c st) ≡ Some f → Reaches s (move_refused (reads c st) f ∷ h) (between m) cs gs
    pub switch : (c b p : ℕ) → first (switch_checks s.rooms m cs gs c b p) ≡ None → Reaches s (moved (switches c b p) ∷ h) (between m) (switch_connections c b p cs) (switch_groups (connection_at cs c) b p gs)
    pub switch_refused : (c b p : ℕ) (f : Fault) → first (switch_checks s.rooms m cs gs c b p) ≡ Some f → Reaches s (move_refused (switches c b p) f ∷ h) (between m) cs gs
    pub leave : (c : ℕ) → first (leave_checks m cs gs c) ≡ None → Reaches s (moved (leaves c) ∷ h) (between m) (leave_connections c cs) (leave_groups (connection_at cs c) gs)
    pub leave_refused : (c : ℕ) (f : Fault) → first (leave_checks m cs gs c) ≡ Some f → Reaches s (move_refused (leaves c) f ∷ h) (between m) cs gs
    pub open_quarter : (p : ℕ) (c : ℤ) → first (open_checks m p c) ≡ None → Reaches s (turned (opens p c) ∷ h) (gathering m (opened p c)) cs (cleared_groups gs)
    pub open_refused : (p : ℕ) (c : ℤ) (f : Fault) → first (open_checks m p c) ≡ Some f → Reaches s (turn_refused (opens p c) f ∷ h) (between m) cs gs
    pub settle : first (settle_checks m cs gs) ≡ None → Reaches s (turned settles ∷ h) (settled m) cs gs
    pub settle_refused : (f : Fault) → first (settle_checks m cs gs) ≡ Some f → Reaches s (turn_refused settles f ∷ h) (between m) cs gs

  -- while a quarter is open
  pub record GatheringSteps (o : Opened) : Type 0 where
    pub post : (k b p w : ℕ) → first (post_checks s.rooms o gs k b p w) ≡ None → Reaches s (turned (posts k b p w) ∷ h) (gathering m (post_opened k w o)) cs (post_groups k b p w gs)
    pub post_refused : (k b p w : ℕ) (f : Fault) → first (post_checks s.rooms o gs k b p w) ≡ Some f → Reaches s (turn_refused (posts k b p w) f ∷ h) (gathering m o) cs gs
    pub weigh : (meaning : Meaning) → first (weigh_checks m o meaning gs) ≡ None → Reaches s (turned (weighs meaning) ∷ h) (slip m o (weighing meaning m.done o gs)) cs (weigh_groups meaning m.done o.period gs)
    pub weigh_refused : (meaning : Meaning) (f : Fault) → first (weigh_checks m o meaning gs) ≡ Some f → Reaches s (turn_refused (weighs meaning) f ∷ h) (gathering m o) cs gs
    pub withdraw : Reaches s (turned withdraws ∷ h) (between m) cs (cleared_groups gs)

  -- while a slip is out
  pub record SlipSteps (o : Opened) (w : Weighed) : Type 0 where
    pub put_back : Reaches s (turned puts_back ∷ h) (gathering m o) cs gs
    pub divide : first (divide_checks o w gs) ≡ None → Reaches s (turned divides ∷ h) (between (divide_month o w gs m)) cs (divide_groups o w gs)
    pub divide_refused : (f : Fault) → first (divide_checks o w gs) ≡ Some f → Reaches s (turn_refused divides f ∷ h) (slip m o w) cs gs

-- every entry, from every state that a history leads to
pub record Steps : Type 0 where
  pub begin : (s : Start) → first (begin_checks s.quarters s.loss_party) ≡ None → Reaches s [] (between (new_month s.quarters s.loss_party)) [] []
  pub from_between : (s : Start) (h : History) (m : Month) (cs : List ConnectionRow) (gs : List GroupRow) → Reaches s h (between m) cs gs → BetweenSteps s h m cs gs
  pub from_gathering : (s : Start) (h : History) (m : Month) (o : Opened) (cs : List ConnectionRow) (gs : List GroupRow) → Reaches s h (gathering m o) cs gs → GatheringSteps s h m cs gs o
  pub from_slip : (s : Start) (h : History) (m : Month) (o : Opened) (w : Weighed) (cs : List ConnectionRow) (gs : List GroupRow) → Reaches s h (slip m o w) cs gs → SlipSteps s h m cs gs o w
