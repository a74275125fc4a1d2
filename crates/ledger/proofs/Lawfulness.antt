-- Every history keeps all laws. Assumes nothing.
use Rattle.std.proofs.Common.{◌≡◌, ℕ, ◌/◌, ◌<◌, cond, List, [], ◌∷◌, map, get_or, ℤ, pos, ◌+ℤ◌, Some, sym, refl, ap, ◌∙◌, subst, arith}
use Rattle.std.proofs.lemmas.Bool.{eq-eqb, true_from_ne_false}
use Rattle.allocation.specs.Correction.{exact, Near}
use Rattle.rows.specs.declared.connection.ConnectionRow.{ConnectionRow}
use Rattle.rows.specs.declared.group.Group.{Group}
use Rattle.rows.specs.declared.group.GroupRow.{GroupRow}
use Rattle.rows.specs.Registers.{register, way}
use Rattle.rows.specs.Settling.{month_in, real_in}
use Rattle.tables.specs.BookRows.{group_rules}
use Rattle.ledger.specs.Events.{History, enrols, divides, moved, turned}
use Rattle.ledger.specs.Histories.{Start, Admitted, connections, groups}
use Rattle.ledger.specs.Keys.{listed, net}
use Rattle.ledger.specs.Laws.{Shares, Latest, Counts, Answered, Lawful, Reaches, written_in}
use Rattle.ledger.specs.Quantities.{done, period_now, known, standing_sum, weight, weights, residual, wrote, posted_to, allocated, exchange_in, losses_in, gets}
use Rattle.ledger.specs.States.{State}
use Rattle.ledger.proofs.Basics.{two_read, either_way}
use Rattle.ledger.proofs.Bare.{period_small}
use Rattle.ledger.proofs.Closing.{closing, allocated_at, divide_adds}
use Rattle.ledger.proofs.Members.{members}
use Rattle.ledger.proofs.Own.{group_is, standing_is, own_tables}
use Rattle.ledger.proofs.PageProof.{page_law}
use Rattle.ledger.proofs.Rows.{ledger_row}
use Rattle.ledger.proofs.Settle.{month_row, real_row, settles_law}
use Rattle.ledger.proofs.Shares.{wrote_near}
use Rattle.ledger.proofs.Sizes.{codes_few, groups_few}
use Rattle.ledger.proofs.Slips.{slip_facts}
use Rattle.ledger.proofs.Standing.{standing_bare}
use Rattle.ledger.proofs.Turns.{shown, register_small}

-- what a divide wrote stands in the rows
wrote_row : (s : Start) (h : History) → Admitted s (turned divides ∷ h) → (g : Group) (d : ℕ) → d < 2 → written_in (groups (turned divides ∷ h)) g d ≡ wrote h g d
wrote_row s h a g d l = ap (λ row. get_or row.quarter d (pos 0)) (group_is s (turned divides ∷ h) a g) ∙ two_read (wrote h g) (pos 0) d l

shares : (s : Start) (h : History) → Admitted s (turned divides ∷ h) → Shares h (groups (turned divides ∷ h))
shares s h a = record {
  present = λ g d z l some.
      either_way (listed group_rules g (known h)) ((parts : ℕ) × (Rattle.ledger.specs.Quantities.meant h g.class d (done h) ≡ Some parts))
      (λ u. (slip_facts s h a.0 a.1).present g d u z l some)
      (λ u. absurd (some (standing_bare h g _ (members s h a.0) u)));
  exactly = λ g d l. wrote_row s h a g d l;
  near = λ g d z l. subst (λ (v : ℤ). Near (weights h) v (exact (weights h) (residual h) (way d) (weight h g d))) (sym (wrote_row s h a g d l)) (wrote_near s h a.0 g d l z);
  measured = λ g d z l. wrote_row s h a g d l ∙ rw (true_from_ne_false _ z);
  adds = λ g d l.
      let k = period_small s h a.0 in
      divide_adds h g d (period_now h) l k
      ∙ rw (eq-eqb (period_now h) (period_now h) refl) (ap (λ v. allocated h g (register d (period_now h)) +ℤ v) (sym (wrote_row s h a g d l)));
  keeps = λ g r e. ap (λ b. cond b (allocated h g r +ℤ wrote h g (r / 2)) (allocated h g r)) e;
}

latest : (s : Start) (h : History) → Admitted s h → Latest h (groups h)
latest s [] a = tt
latest s (turned divides ∷ h) a = shares s h a
latest s (e ∷ h) a = λ g r. refl

counts : (h : History) → Counts h
counts [] = tt
counts (moved (enrols x) ∷ h) = λ g r. refl
counts (e ∷ h) = λ g r. refl

-- totals over rows are totals over groups
row_net : (h : History) (p : ℕ) → p < 2 → (ks : List Group) → net (λ row. month_in row (register 0 p) +ℤ month_in row (register 1 p)) (map (ledger_row h) ks) ≡ net (allocated_at h p) ks
row_net h p k [] = refl
row_net h p k (g ∷ gs) = λ i. (month_row h g (register 0 p) (register_small 0 p (omega arith) k) i +ℤ month_row h g (register 1 p) (register_small 1 p (omega arith) k) i) +ℤ row_net h p k gs i

names : (h : History) (ks : List Group) → map (λ row. row.group) (map (ledger_row h) ks) ≡ ks
names h [] = refl
names h (g ∷ gs) = ap (λ l. g ∷ l) (names h gs)

answered : (s : Start) (h : History) → Admitted s h → Answered s h
answered s h a = record {
  accepts_move = λ between m checked. (a, between, checked);
  refuses_move = λ between m f checked. (a, between, checked);
  accepts_turn = λ t wanted checked. (a, wanted, checked);
  refuses_turn = λ t f wanted checked. (a, wanted, checked);
  only_moves = λ m e. (e.1, e.2);
  only_refused_moves = λ m f e. (e.1, e.2);
  only_turns = λ t e. (e.1, e.2);
  only_refused_turns = λ t f e. (e.1, e.2);
}

pub history_lawful : (s : Start) (h : History) → Admitted s h → Lawful s h (connections h) (groups h)
history_lawful s h a = record {
  enrolled = (members s h a).rows;
  codes_rise = (members s h a).ordered;
  named = ap (map (λ row. row.group)) (shown s h a) ∙ names h (known h);
  groups_rise = (members s h a).groups_ordered;
  codes_few = codes_few s h a;
  groups_few = groups_few s h a;
  standing = standing_is s h a;
  readings = λ g r l. ap (λ row. real_in row r) (group_is s h a g) ∙ real_row h g r l;
  allocations = λ g r l. ap (λ row. month_in row r) (group_is s h a g) ∙ month_row h g r l;
  counts = counts h;
  closing = λ p k. ap (λ n. exchange_in h p +ℤ losses_in h p +ℤ n) (ap (net (λ row. month_in row (register 0 p) +ℤ month_in row (register 1 p))) (shown s h a) ∙ row_net h p k (known h)) ∙ closing s h a p k;
  closes = λ p k. closing s h a p k;
  latest = latest s h a;
  settling = λ _ p k. settles_law s h a p k;
  page = λ _. page_law s h a;
  answers = answered s h a;
  own = own_tables s h a;
}

-- whatever a history leads to obeys all laws
pub lawful : (s : Start) (h : History) (state : State) (cs : List ConnectionRow) (gs : List GroupRow) → Reaches s h state cs gs → Lawful s h cs gs
lawful s h state cs gs r = rw (r.connections_are, r.groups_are) (history_lawful s h r.admitted)
