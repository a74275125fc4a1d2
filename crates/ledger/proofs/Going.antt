-- Each entry is an event: what the model makes of state and tables is what the history with it leads to. Assumes nothing.
use Rattle.std.proofs.Common.{◌≡◌, ℕ, ◌+◌, ◌<◌, cond, not, eqb, List, [], ◌∷◌, map, ℤ, pos, ◌+ℤ◌, nat_abs, None, sym, refl, ap, ◌∙◌, arith}
use Rattle.rows.specs.declared.connection.ConnectionRow.{ConnectionRow}
use Rattle.rows.specs.declared.group.Group.{Group}
use Rattle.rows.specs.declared.group.GroupRow.{GroupRow}
use Rattle.rows.specs.Dividing.{both_held, volume_of}
use Rattle.rows.specs.Dividing.{got_in as rows_got, priced as rows_priced}
use Rattle.tables.specs.BookRows.{group_rules}
use Rattle.ledger.specs.Checks.{first}
use Rattle.ledger.specs.Events.{History, Phase, reads, divides, moved, turned, phase}
use Rattle.ledger.specs.Events.{between as Between, gathering as Gathering, slip as Slip}
use Rattle.ledger.specs.Histories.{Start, Admitted, sums_at, month_at, opened_at, weighed_at, state_in, state_at, connections, groups, move_checks}
use Rattle.ledger.specs.Keys.{Ordered, net}
use Rattle.ledger.specs.Laws.{Reaches}
use Rattle.ledger.specs.Model.{connection_at, read_month, gained, divide_month}
use Rattle.ledger.specs.Quantities.{done, advanced, known, weight, weights, residual, wrote, gets, profiled_in}
use Rattle.ledger.specs.Quantities.{priced as priced_now}
use Rattle.ledger.specs.States.{State, Month, Opened, Weighed, between, gathering, slip}
use Rattle.ledger.specs.Steps.{Steps, BetweenSteps, GatheringSteps, SlipSteps}
use Rattle.ledger.proofs.Basics.{group_order}
use Rattle.ledger.proofs.Bare.{holds, gets_later}
use Rattle.ledger.proofs.Keyed.{net_listed, net_same}
use Rattle.ledger.proofs.Members.{members, at_enrolled, listed_read}
use Rattle.ledger.proofs.Rows.{ledger_row}
use Rattle.ledger.proofs.Slips.{weighing_is}
use Rattle.ledger.proofs.Turns.{Weighted, weighted, first_gets, shown}

-- a state of the history's, and in which phase it is
in_between : (s : Start) (h : History) (m : Month) → between m ≡ state_at s h → (phase h ≡ Between) × (m ≡ month_at s h)
in_between s h m e = at (phase h) refl e
  where
    at : (p : Phase) → phase h ≡ p → between m ≡ state_in p (month_at s h) (opened_at h) (weighed_at h) → (phase h ≡ Between) × (m ≡ month_at s h)
    at Between was e = (was, cc)
    at _ was e = absurd cc

in_gathering : (s : Start) (h : History) (m : Month) (o : Opened) → gathering m o ≡ state_at s h → (phase h ≡ Gathering) × (m ≡ month_at s h) × (o ≡ opened_at h)
in_gathering s h m o e = at (phase h) refl e
  where
    at : (p : Phase) → phase h ≡ p → gathering m o ≡ state_in p (month_at s h) (opened_at h) (weighed_at h) → (phase h ≡ Gathering) × (m ≡ month_at s h) × (o ≡ opened_at h)
    at Gathering was e = (was, cc, cc)
    at _ was e = absurd cc

in_slip : (s : Start) (h : History) (m : Month) (o : Opened) (w : Weighed) → slip m o w ≡ state_at s h → (phase h ≡ Slip) × (m ≡ month_at s h) × (o ≡ opened_at h) × (w ≡ weighed_at h)
in_slip s h m o w e = at (phase h) refl e
  where
    at : (p : Phase) → phase h ≡ p → slip m o w ≡ state_in p (month_at s h) (opened_at h) (weighed_at h) → (phase h ≡ Slip) × (m ≡ month_at s h) × (o ≡ opened_at h) × (w ≡ weighed_at h)
    at Slip was e = (was, cc, cc, cc)
    at _ was e = absurd cc

-- the state and the tables of a history are reached
reached : (s : Start) (h : History) (x : State) → Admitted s h → x ≡ state_at s h → Reaches s h x (connections h) (groups h)
reached s h x a e = record { admitted = a; state_is = e; connections_are = refl; groups_are = refl }

read_month_is : (s : Start) (h : History) (c : ℕ) (st : List ℕ) → Admitted s h → first (move_checks s h (reads c st)) ≡ None → read_month (connection_at (connections h) c) st (month_at s h) ≡ month_at s (moved (reads c st) ∷ h)
read_month_is s h c st a none = let m = members s h a in ap (λ conn. read_month conn st (month_at s h)) (at_enrolled h c m (listed_read s h c st m none))

between_steps : (s : Start) (h : History) → Admitted s h → phase h ≡ Between → BetweenSteps s h (month_at s h) (connections h) (groups h)
between_steps s h a p = record {
  enrol = λ x none. reached s _ _ (a, p, none) (rw p);
  enrol_refused = λ x f some. reached s _ _ (a, p, some) (rw p);
  read = λ c st none. reached s _ _ (a, p, none) (ap between (read_month_is s h c st a none) ∙ rw p);
  read_refused = λ c st f some. reached s _ _ (a, p, some) (rw p);
  switch = λ c b t none. reached s _ _ (a, p, none) (rw p);
  switch_refused = λ c b t f some. reached s _ _ (a, p, some) (rw p);
  leave = λ c none. reached s _ _ (a, p, none) (rw p);
  leave_refused = λ c f some. reached s _ _ (a, p, some) (rw p);
  open_quarter = λ t c none. reached s _ _ (a, p, none) refl;
  open_refused = λ t c f some. reached s _ _ (a, p, some) (rw p);
  settle = λ none. reached s _ _ (a, p, none) refl;
  settle_refused = λ f some. reached s _ _ (a, p, some) (rw p);
}

gathering_steps : (s : Start) (h : History) → Admitted s h → phase h ≡ Gathering → GatheringSteps s h (month_at s h) (connections h) (groups h) (opened_at h)
gathering_steps s h a p = record {
  post = λ k b t w none. reached s _ _ (a, p, none) refl;
  post_refused = λ k b t w f some. reached s _ _ (a, p, some) (rw p);
  weigh = λ meaning none. reached s _ _ (a, p, none) (ap (slip (month_at s h) (opened_at h)) (weighing_is s h meaning a));
  weigh_refused = λ meaning f some. reached s _ _ (a, p, some) (rw p);
  withdraw = reached s _ _ (a, p, refl) refl;
}

-- D by the rows is the history's
rows_get : (t : ℕ) (r : ℤ) (row : Group → GroupRow) (w : Group → ℕ → ℕ) (q : Group → ℕ → ℤ) → Weighted row w q → (d : ℕ) → d < 2 → (ks : List Group) → Ordered group_rules ks → (before : ℕ) → rows_got t r d before (map row ks) ≡ net (λ g. cond (eqb g.class 0) (pos 0) (gets t r w before ks g d)) ks
rows_get t r row w q ok d l [] o before = refl
rows_get t r row w q ok d l (k ∷ ks) o before =
    let both : both_held (row k) ≡ w k 0 + w k 1 = λ i. ok.weight_is k 0 (omega arith) i + ok.weight_is k 1 (omega arith) i in
    let ih = rows_get t r row w q ok d l ks o.1 (before + both_held (row k)) in
    let rest : net (λ g. cond (eqb g.class 0) (pos 0) (gets t r w (before + both_held (row k)) ks g d)) ks ≡ net (λ g. cond (eqb g.class 0) (pos 0) (gets t r w before (k ∷ ks) g d)) ks =
    net_listed group_rules group_order (λ g. cond (eqb g.class 0) (pos 0) (gets t r w before (k ∷ ks) g d)) (λ g. cond (eqb g.class 0) (pos 0) (gets t r w (before + both_held (row k)) ks g d)) ks
    (λ g u. ap (λ n. cond (eqb g.class 0) (pos 0) (gets t r w (before + n) ks g d)) both ∙ ap (cond (eqb g.class 0) (pos 0)) (sym (gets_later t r w before k g ks d o.0 u))) in
    λ i. first i +ℤ (ih ∙ rest) i
  where
    first : cond (not (eqb (row k).group.class 0)) (volume_of t r before (row k) d) (pos 0) ≡ cond (eqb k.class 0) (pos 0) (gets t r w before (k ∷ ks) k d)
    first = grind (arith, ok.named k, first_gets t r row w q ok before k ks d l)

priced_is : (s : Start) (h : History) → Admitted s h → phase h ≡ Slip → rows_priced (weights h) (residual h) (groups h) ≡ priced_now h
priced_is s h a out =
    ap (rows_priced (weights h) (residual h)) (shown s h a)
    ∙ (λ i. nat_abs (got 0 (omega arith) i) + nat_abs (got 1 (omega arith) i))
  where
    plain : (d : ℕ) (g : Group) → cond (eqb g.class 0) (pos 0) (wrote h g d) ≡ cond (eqb g.class 0) (pos 0) (gets (weights h) (residual h) (weight h) 0 (known h) g d)
    plain d g = grind arith

    got : (d : ℕ) → d < 2 → rows_got (weights h) (residual h) d 0 (map (ledger_row h) (known h)) ≡ profiled_in h d
    got d l =
        rows_get (weights h) (residual h) (ledger_row h) (weight h) (holds h) (weighted s h a out) d l (known h) (members s h a).groups_ordered 0
        ∙ sym (net_same (λ g. cond (eqb g.class 0) (pos 0) (gets (weights h) (residual h) (weight h) 0 (known h) g d)) (λ g. cond (eqb g.class 0) (pos 0) (wrote h g d)) (plain d) (known h))

gained_is : (h : History) (p : ℕ) → gained p (opened_at h) (priced_now h) (sums_at h p) ≡ sums_at (turned divides ∷ h) p
gained_is h p = grind arith

divide_month_is : (s : Start) (h : History) → Admitted s h → phase h ≡ Slip → divide_month (opened_at h) (weighed_at h) (groups h) (month_at s h) ≡ month_at s (turned divides ∷ h)
divide_month_is s h a out =
    let d = priced_is s h a out in
    let x = ap (λ n. gained 0 (opened_at h) n (sums_at h 0)) d ∙ gained_is h 0 in
    let y = ap (λ n. gained 1 (opened_at h) n (sums_at h 1)) d ∙ gained_is h 1 in
    λ i. record { quarters = s.quarters; loss_party = s.loss_party; done = done h + 1; advanced = advanced h; normal = x i; low = y i }

slip_steps : (s : Start) (h : History) → Admitted s h → phase h ≡ Slip → SlipSteps s h (month_at s h) (connections h) (groups h) (opened_at h) (weighed_at h)
slip_steps s h a p = record {
  put_back = reached s _ _ (a, p, refl) refl;
  divide = λ none. reached s _ _ (a, p, none) (ap between (divide_month_is s h a p));
  divide_refused = λ f some. reached s _ _ (a, p, some) (rw p);
}

from_between : (s : Start) (h : History) (m : Month) (cs : List ConnectionRow) (gs : List GroupRow) → Reaches s h (between m) cs gs → BetweenSteps s h m cs gs
from_between s h m cs gs r = let p = in_between s h m r.state_is in rw (p.1, r.connections_are, r.groups_are) (between_steps s h r.admitted p.0)

from_gathering : (s : Start) (h : History) (m : Month) (o : Opened) (cs : List ConnectionRow) (gs : List GroupRow) → Reaches s h (gathering m o) cs gs → GatheringSteps s h m cs gs o
from_gathering s h m o cs gs r = let p = in_gathering s h m o r.state_is in rw (p.1, p.2, r.connections_are, r.groups_are) (gathering_steps s h r.admitted p.0)

from_slip : (s : Start) (h : History) (m : Month) (o : Opened) (w : Weighed) (cs : List ConnectionRow) (gs : List GroupRow) → Reaches s h (slip m o w) cs gs → SlipSteps s h m cs gs o w
from_slip s h m o w cs gs r = let p = in_slip s h m o w r.state_is in rw (p.1, p.2, p.3, r.connections_are, r.groups_are) (slip_steps s h r.admitted p.0)

pub steps : Steps
steps = record {
  begin = λ s none. reached s [] _ none refl;
  from_between = from_between;
  from_gathering = from_gathering;
  from_slip = from_slip;
}
