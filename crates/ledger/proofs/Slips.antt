-- What holds while a slip is out: T and R are the history's, within their limits, and every fraction that was needed was there. Assumes nothing.
use Rattle.std.proofs.Common.{◌≡◌, ℕ, zero, suc, ◌+◌, ◌<◌, ◌≤◌, true, false, not, ◌&&◌, eqb, ltb, List, [], ◌∷◌, map, get_or, ℤ, pos, ◌+ℤ◌, ◌-ℤ◌, nat_abs, Some, None, Option, refl, ap, ◌∙◌, subst, arith}
use Rattle.std.proofs.lemmas.Int.{ints}
use Rattle.std.proofs.lemmas.Bool.{both_ways, ltb-false}
use Rattle.std.proofs.lemmas.Bool.Decides.{nat_tests}
use Rattle.fault.specs.declared.cause.Quarter.{Quarter}
use Rattle.allocation.specs.Correction.{residual_of}
use Rattle.allocation.specs.Scale.{most_weights, most_residual}
use Rattle.profile.specs.Meanings.{Meaning}
use Rattle.profile.specs.Weights.{weight_meant}
use Rattle.rows.specs.declared.group.Group.{Group}
use Rattle.rows.specs.declared.group.GroupRow.{GroupRow}
use Rattle.rows.specs.Registers.{four, register}
use Rattle.rows.specs.Weighing.{row_weight, row_absent, absent, first_absent, weights_total}
use Rattle.rows.specs.Weighing.{weights_net as rows_net}
use Rattle.tables.specs.BookRows.{group_rules}
use Rattle.tables.specs.Rules.{same}
use Rattle.ledger.specs.Events.{History, weighs, turned, turn_refused, phase, slip}
use Rattle.ledger.specs.Histories.{Start, Admitted, groups, opened_at, weighed_at, turn_checks}
use Rattle.ledger.specs.Keys.{listed, total, net}
use Rattle.ledger.specs.Model.{quarter, weighing}
use Rattle.ledger.specs.Postings.{exchange, measurement, losses}
use Rattle.ledger.specs.Quantities.{done, period_now, posted, known, standing_sum, weight, weights, weights_net, residual, meant}
use Rattle.ledger.specs.States.{Weighed}
use Rattle.ledger.proofs.Basics.{group_order, or_else_none, all_quiet, quiet, four_read, either_way}
use Rattle.ledger.proofs.Keyed.{same_is}
use Rattle.ledger.proofs.Bare.{period_small}
use Rattle.ledger.proofs.Rows.{ledger_row}
use Rattle.ledger.proofs.Turns.{weight_row, register_small, shown}

total_weighed : (h : History) (m : Meaning) → period_now h < 2 → (ks : List Group) → weights_total m (quarter (done h)) (period_now h) (map (ledger_row h) ks) ≡ total (λ g. weight (turned (weighs m) ∷ h) g 0 + weight (turned (weighs m) ∷ h) g 1) ks
total_weighed h m k [] = refl
total_weighed h m k (g ∷ gs) = let a = weight_row h m g 0 (omega arith) k in let b = weight_row h m g 1 (omega arith) k in let ih = total_weighed h m k gs in λ i. a i + b i + ih i

net_weighed : (h : History) (m : Meaning) → period_now h < 2 → (ks : List Group) → rows_net m (quarter (done h)) (period_now h) (map (ledger_row h) ks) ≡ net (λ g. pos (weight (turned (weighs m) ∷ h) g 1) -ℤ pos (weight (turned (weighs m) ∷ h) g 0)) ks
net_weighed h m k [] = refl
net_weighed h m k (g ∷ gs) = let a = weight_row h m g 0 (omega arith) k in let b = weight_row h m g 1 (omega arith) k in let ih = net_weighed h m k gs in λ i. (pos (b i) -ℤ pos (a i)) +ℤ ih i

-- T and R of a weigh are the history's
pub weighing_is : (s : Start) (h : History) (m : Meaning) → Admitted s h → weighing m (done h) (opened_at h) (groups h) ≡ weighed_at (turned (weighs m) ∷ h)
weighing_is s h m a =
    let rows = shown s h a in
    let k = period_small s h a in
    let t : weights_total m (quarter (done h)) (period_now h) (groups h) ≡ weights (turned (weighs m) ∷ h) = ap (weights_total m (quarter (done h)) (period_now h)) rows ∙ total_weighed h m k (known h) in
    let v : rows_net m (quarter (done h)) (period_now h) (groups h) ≡ weights_net (turned (weighs m) ∷ h) = ap (rows_net m (quarter (done h)) (period_now h)) rows ∙ net_weighed h m k (known h) in
    λ i. record { total = t i; residual = residual_of (exchange (posted h)) (measurement (posted h)) (v i) (losses (posted h)) }

-- a fraction that is needed is there
abbrev pub Present : Option ℕ → ℕ → Type 0
Present o sum = (sum ≡ 0 → ⊥) → (parts : ℕ) × (o ≡ Some parts)

pub record Slip (h : History) : Type 0 where
  pub few : weights h ≤ most_weights
  pub small : nat_abs (residual h) ≤ most_residual
  pub carried : weights h ≡ 0 → residual h ≡ pos 0
  pub present : (g : Group) (d : ℕ) → listed group_rules g (known h) ≡ true → eqb g.class 0 ≡ false → d < 2 → Present (meant h g.class d (done h)) (standing_sum h g (register d (period_now h)))

size_none : (r : ℤ) → nat_abs r ≡ 0 → r ≡ pos 0
size_none r e = omega (arith, ints)

none_carried : (t n : ℕ) → (eqb t 0 && not (eqb n 0)) ≡ false → t ≡ 0 → n ≡ 0
none_carried t n e z = grind (arith, nat_tests)

-- where no fraction of the line is absent, none of a group's is
absent_none : (row : GroupRow) (d : ℕ) (q : Quarter) (o : Option ℕ) (sum : ℕ) → absent row d q (weight_meant o sum) ≡ None → Present o sum
absent_none row d q (Some parts) sum e some = (parts, refl)
absent_none row d q None sum e some = absurd (some (weightless sum e))
  where
    weightless : (n : ℕ) → absent row d q (weight_meant None n) ≡ None → n ≡ 0
    weightless n e = grind (arith, nat_tests)

row_present : (h : History) (m : Meaning) (g : Group) → period_now h < 2 → row_absent m (quarter (done h)) (period_now h) (ledger_row h g) ≡ None → eqb g.class 0 ≡ false → (d : ℕ) → d < 2 → Present (m g.class d (done h)) (standing_sum h g (register d (period_now h)))
row_present h m g k e z d l =
    let parts = or_else_none _ _ (rw z at e) in
    subst (λ (n : ℕ). Present (m g.class d (done h)) n) (four_read (standing_sum h g) 0 (register d (period_now h)) (register_small d (period_now h) l k))
    (at d l parts.0 parts.1)
  where
    at : (d : ℕ) → d < 2 → absent (ledger_row h g) 0 (quarter (done h)) (row_weight m (quarter (done h)) (period_now h) (ledger_row h g) 0) ≡ None → absent (ledger_row h g) 1 (quarter (done h)) (row_weight m (quarter (done h)) (period_now h) (ledger_row h g) 1) ≡ None → Present (m g.class d (done h)) (get_or (four (standing_sum h g)) (register d (period_now h)) 0)
    at (suc (suc d)) l a b = absurd (omega arith)
    at zero l a b = absent_none (ledger_row h g) 0 (quarter (done h)) (m g.class 0 (done h)) _ a
    at d l a b = absent_none (ledger_row h g) 1 (quarter (done h)) (m g.class 1 (done h)) _ b

line_present : (h : History) (m : Meaning) → period_now h < 2 → (ks : List Group) → first_absent m (quarter (done h)) (period_now h) (map (ledger_row h) ks) ≡ None → (g : Group) → listed group_rules g ks ≡ true → row_absent m (quarter (done h)) (period_now h) (ledger_row h g) ≡ None
line_present h m k [] e g l = absurd (both_ways _ refl l)
line_present h m k (j ∷ js) e g l =
    let parts = or_else_none _ _ e in
    either_way (same group_rules j g) (row_absent m (quarter (done h)) (period_now h) (ledger_row h g) ≡ None)
    (λ t. subst (λ (q : Group). row_absent m (quarter (done h)) (period_now h) (ledger_row h q) ≡ None) (same_is group_rules group_order j g t) parts.0)
    (λ f. line_present h m k js parts.1 g (rw f at l))

weigh_slip : (s : Start) (h : History) (m : Meaning) → Admitted s (turned (weighs m) ∷ h) → Slip (turned (weighs m) ∷ h)
weigh_slip s h m a =
    let q = all_quiet (turn_checks s h (weighs m)) a.2 in
    let w = weighing_is s h m a.0 in
    let few = quiet _ _ q.1.0 in
    let small = quiet _ _ q.1.1.0 in
    let none = quiet _ _ q.1.1.1.0 in
    let k = period_small s h a.0 in
    record {
      few = ltb-false _ _ (subst (λ (x : Weighed). ltb most_weights x.total ≡ false) w few);
      small = ltb-false _ _ (subst (λ (x : Weighed). ltb most_residual (nat_abs x.residual) ≡ false) w small);
      carried = λ z. size_none _ (none_carried _ _ (subst (λ (x : Weighed). (eqb x.total 0 && not (eqb (nat_abs x.residual) 0)) ≡ false) w none) z);
      present = λ g d l z k'. row_present h m g k (line_present h m k (known h) (subst (λ (rows : List GroupRow). first_absent m (quarter (done h)) (period_now h) rows ≡ None) (shown s h a.0) q.0) g l) z d k';
    }

pub slip_facts : (s : Start) (h : History) → Admitted s h → phase h ≡ slip → Slip h
slip_facts s (turned (weighs m) ∷ h) a out = weigh_slip s h m a
slip_facts s (turn_refused t f ∷ h) a out = let ih = slip_facts s h a.0 out in record { few = ih.few; small = ih.small; carried = ih.carried; present = ih.present }
slip_facts s h a out = absurd cc
