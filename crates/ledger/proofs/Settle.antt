-- A settled month balances. Assumes nothing.
use Rattle.std.proofs.Common.{◌≡◌, ℕ, suc, ◌+◌, ◌<◌, ◌≤◌, Bool, true, false, cond, eqb, List, [], ◌∷◌, map, ℤ, pos, ◌+ℤ◌, ◌-ℤ◌, neg_ℤ, nat_abs, None, refl, ap, ◌∙◌, arith}
use Rattle.std.proofs.lemmas.Int.{ints}
use Rattle.std.proofs.lemmas.Bool.{le-ltb}
use Rattle.allocation.specs.Amounts.{all_volumes, totals_refusal}
use Rattle.allocation.specs.Scale.{most_volume}
use Rattle.allocation.proofs.Money.{settles}
use Rattle.rows.specs.declared.group.Group.{Group}
use Rattle.rows.specs.Registers.{register}
use Rattle.rows.specs.Settling.{month_in, real_in, reconciliation, profiled_real, settle_line}
use Rattle.tables.specs.BookRows.{group_rules}
use Rattle.ledger.specs.Events.{History, divides, turned}
use Rattle.ledger.specs.Histories.{Start, Admitted, groups, month_at}
use Rattle.ledger.specs.Keys.{listed, total, net}
use Rattle.ledger.specs.Laws.{Settles, line_in}
use Rattle.ledger.specs.Pages.{unpriced, period_exchange, period_measurement, period_losses, real_loss, loss_volume, settle_volumes}
use Rattle.ledger.specs.Quantities.{period_now, known, allocated, counted, real, exchange_in, measurement_in, losses_in, read_in, real_loss_in, loss_volume_in, price_in, reconciliation_of}
use Rattle.ledger.specs.States.{period_price}
use Rattle.ledger.proofs.Basics.{four_read, either_way}
use Rattle.ledger.proofs.Keyed.{net_same, net_sum}
use Rattle.ledger.proofs.Members.{members, net_known, cond_const}
use Rattle.ledger.proofs.Bare.{allocated_bare}
use Rattle.ledger.proofs.Bounds.{all_sizes, allocated_size, booked_within, counted_size, count_within, advanced_within, done_small}
use Rattle.ledger.proofs.Closing.{closing, allocated_at, measured_at, measured_sum, divided_at}
use Rattle.ledger.proofs.Rows.{ledger_row}
use Rattle.ledger.proofs.Turns.{shown, register_small}

-- what a row says of a group
pub month_row : (h : History) (g : Group) (r : ℕ) → r < 4 → month_in (ledger_row h g) r ≡ allocated h g r
month_row h g r l = four_read (allocated h g) (pos 0) r l

pub real_row : (h : History) (g : Group) (r : ℕ) → r < 4 → real_in (ledger_row h g) r ≡ real h g r
real_row h g r l = grind (arith, four_read (counted h g) (pos 0) r l, month_row h g r l)

pub settled_row : (h : History) (g : Group) (r : ℕ) → r < 4 → reconciliation (ledger_row h g) r ≡ reconciliation_of h g r
settled_row h g r l = λ i. real_row h g r l i -ℤ month_row h g r l i

profiled_rows : (h : History) (p : ℕ) → p < 2 → (ks : List Group) → profiled_real p (map (ledger_row h) ks) ≡ net (λ g. cond (eqb g.class 0) (pos 0) (real h g (register 0 p) +ℤ real h g (register 1 p))) ks
profiled_rows h p k [] = refl
profiled_rows h p k (g ∷ gs) =
    let a = real_row h g (register 0 p) (register_small 0 p (omega arith) k) in
    let b = real_row h g (register 1 p) (register_small 1 p (omega arith) k) in
    grind (arith, a, b, profiled_rows h p k gs)

pub real_loss_is : (s : Start) (h : History) → Admitted s h → (p : ℕ) → p < 2 → real_loss (month_at s h) p (groups h) ≡ real_loss_in h p
real_loss_is s h a p k =
    let e = ap (profiled_real p) (shown s h a) ∙ profiled_rows h p k (known h) in
    λ i. neg_ℤ (sums p k i +ℤ e i)
  where
    sums : (p : ℕ) → p < 2 → period_exchange (month_at s h) p +ℤ period_measurement (month_at s h) p ≡ exchange_in h p +ℤ measurement_in h p
    sums (suc (suc p)) k = absurd (omega arith)
    sums p k = refl

pub losses_are : (s : Start) (h : History) (p : ℕ) → p < 2 → period_losses (month_at s h) p ≡ losses_in h p
losses_are s h (suc (suc p)) k = absurd (omega arith)
losses_are s h p k = refl

pub prices_are : (s : Start) (h : History) (p : ℕ) → p < 2 → period_price (month_at s h) p ≡ price_in h p
prices_are s h (suc (suc p)) k = absurd (omega arith)
prices_are s h p k = refl

line_rows : (h : History) (p : ℕ) → p < 2 → (ks : List Group) (loss : ℤ) → settle_line p (map (ledger_row h) ks) loss ≡ line_in h p ks loss
line_rows h p k [] loss = refl
line_rows h p k (g ∷ gs) loss =
    let a = settled_row h g (register 0 p) (register_small 0 p (omega arith) k) in
    let b = settled_row h g (register 1 p) (register_small 1 p (omega arith) k) in
    λ i. a i ∷ b i ∷ line_rows h p k gs loss i

pub settle_line_is : (s : Start) (h : History) → Admitted s h → (p : ℕ) → p < 2 → settle_volumes (month_at s h) p (groups h) ≡ map unpriced (line_in h p (known h) (loss_volume_in h p))
settle_line_is s h a p k =
    let e = real_loss_is s h a p k in
    let f = losses_are s h p k in
    let loss : loss_volume (month_at s h) p (groups h) ≡ loss_volume_in h p = λ i. e i -ℤ f i in
    ap (map unpriced) (ap (λ rows. settle_line p rows (loss_volume (month_at s h) p (groups h))) (shown s h a) ∙ line_rows h p k (known h) _ ∙ ap (line_in h p (known h)) loss)

-- of class 0, what was allocated in a period is what was measured
abbrev measured_allocated : History → ℕ → Group → ℤ
measured_allocated h p g = cond (eqb g.class 0) (allocated_at h p g) (pos 0)

bare_measured : (h : History) (p : ℕ) (g : Group) → listed group_rules g (known h) ≡ false → measured_allocated h p g ≡ pos 0
bare_measured h p g u = cond_const (eqb g.class 0) _ _ (pos 0) (λ i. allocated_bare h g (register 0 p) u i +ℤ allocated_bare h g (register 1 p) u i) refl

abbrev Metered : History → ℕ → Type 0
Metered h p = net (measured_allocated h p) (known h) ≡ measurement_in h p

metered_divide : (s : Start) (h : History) (p : ℕ) → Admitted s h → p < 2 → Metered h p → Metered (turned divides ∷ h) p
metered_divide s h p a k ih =
    let h' = turned divides ∷ h in
    either_way (eqb (period_now h) p) (Metered h' p)
    (λ e.
    let n = net_same (λ g. measured_allocated h p g +ℤ measured_at h g) (measured_allocated h' p) (λ g. step g ∙ rw e) (known h) ∙ net_sum (measured_allocated h p) (measured_at h) (known h) in
    let m = measured_sum s h a in
    rw e (omega (arith, ints)))
    (λ e. let n = net_same (measured_allocated h p) (measured_allocated h' p) (λ g. step g ∙ rw e) (known h) in rw e (omega (arith, ints)))
  where
    step : (g : Group) → measured_allocated (turned divides ∷ h) p g ≡ cond (eqb (period_now h) p) (measured_allocated h p g +ℤ measured_at h g) (measured_allocated h p g)
    step g = grind (arith, divided_at h g p k)

metered : (s : Start) (h : History) → Admitted s h → (p : ℕ) → p < 2 → Metered h p
metered s [] a p k = refl
metered s (turned divides ∷ h) a p k = metered_divide s h p a.0 k (metered s h a.0 p k)
metered s (e ∷ h) a p k = net_known (measured_allocated h p) e h (members s h a.0).groups_ordered (bare_measured h p) ∙ metered s h a.0 p k

-- the reconciliation volumes of a group in a period
abbrev pub settled_at : History → ℕ → Group → ℤ
settled_at h p g = reconciliation_of h g (register 0 p) +ℤ reconciliation_of h g (register 1 p)

line_volumes : (h : History) (p : ℕ) (ks : List Group) (loss : ℤ) → all_volumes (map unpriced (line_in h p ks loss)) ≡ net (settled_at h p) ks +ℤ loss
line_volumes h p [] loss = omega (arith, ints)
line_volumes h p (g ∷ gs) loss = let ih = line_volumes h p gs loss in omega (arith, ints)

-- what is settled for groups is what was read less what was allocated to profiled groups
settled_parts : (h : History) (p : ℕ) (ks : List Group) → net (settled_at h p) ks +ℤ net (allocated_at h p) ks ≡ net (λ g. cond (eqb g.class 0) (pos 0) (real h g (register 0 p) +ℤ real h g (register 1 p))) ks +ℤ net (measured_allocated h p) ks
settled_parts h p [] = refl
settled_parts h p (g ∷ gs) =
    let ih = settled_parts h p gs in
    let here = one (eqb g.class 0) (allocated h g (register 0 p)) (allocated h g (register 1 p)) (counted h g (register 0 p)) (counted h g (register 1 p)) in
    omega (arith, ints)
  where
    one : (b : Bool) (x y u v : ℤ) → ((cond b x u -ℤ x) +ℤ (cond b y v -ℤ y)) +ℤ (x +ℤ y) ≡ cond b (pos 0) (cond b x u +ℤ cond b y v) +ℤ cond b (x +ℤ y) (pos 0)
    one true x y u v = omega (arith, ints)
    one false x y u v = omega (arith, ints)

-- with the loss party's, all reconciliation volumes come to zero
pub balance : (s : Start) (h : History) → Admitted s h → (p : ℕ) → p < 2 → net (settled_at h p) (known h) +ℤ loss_volume_in h p ≡ pos 0
balance s h a p k =
    let c = closing s h a p k in
    let m = metered s h a p k in
    let e = settled_parts h p (known h) in
    closes (exchange_in h p) (measurement_in h p) (losses_in h p) (read_in h p) _ _ _ c m e
  where
    closes : (x m l r n al me : ℤ) → x +ℤ l +ℤ al ≡ pos 0 → me ≡ m → n +ℤ al ≡ r +ℤ me → n +ℤ (neg_ℤ (x +ℤ m +ℤ r) -ℤ l) ≡ pos 0
    closes x m l r n al me c e f = omega (arith, ints)

pub settles_law : (s : Start) (h : History) → Admitted s h → (p : ℕ) → p < 2 → Settles s h (groups h) p
settles_law s h a p k =
    let line = settle_line_is s h a p k in
    let none : all_volumes (settle_volumes (month_at s h) p (groups h)) ≡ pos 0 = ap all_volumes line ∙ line_volumes h p (known h) (loss_volume_in h p) ∙ balance s h a p k in
    record {
      line = line;
      loss = real_loss_is s h a p k;
      volumes = none;
      amounts = (settles (price_in h p) (settle_volumes (month_at s h) p (groups h)) _ refl).balance none;
    }

-- the size of what a group is settled for in a period
abbrev pub settled_size : History → ℕ → Group → ℕ
settled_size h p g = nat_abs (reconciliation_of h g (register 0 p)) + nat_abs (reconciliation_of h g (register 1 p))

size_parts : (h : History) (p : ℕ) (g : Group) → settled_size h p g ≤ counted_size h p g + allocated_size h p g
size_parts h p g = one (eqb g.class 0) (allocated h g (register 0 p)) (allocated h g (register 1 p)) (counted h g (register 0 p)) (counted h g (register 1 p))
  where
    one : (b : Bool) (x y u v : ℤ) → nat_abs (cond b x u -ℤ x) + nat_abs (cond b y v -ℤ y) ≤ (nat_abs u + nat_abs v) + cond b 0 (nat_abs x + nat_abs y)
    one true x y u v = omega (arith, ints)
    one false x y u v = omega (arith, ints)

pub all_settled : (s : Start) (h : History) → Admitted s h → (p : ℕ) → p < 2 → total (settled_size h p) (known h) ≤ most_volume
all_settled s h a p k =
    let t = all_sizes (counted_size h p) (allocated_size h p) (settled_size h p) (size_parts h p) (known h) in
    let c = count_within s h a p k in
    let b = booked_within s h a p k in
    let d = done_small s h a in
    let v = advanced_within s h a in
    omega arith

-- so no running total passes its limit
running_small : (h : History) (p : ℕ) (ks : List Group) (loss s : ℤ) → nat_abs s + total (settled_size h p) ks ≤ most_volume → s +ℤ (net (settled_at h p) ks +ℤ loss) ≡ pos 0 → totals_refusal s (map unpriced (line_in h p ks loss)) ≡ None
running_small h p [] loss s few none =
    let z : s +ℤ loss ≡ pos 0 = omega (arith, ints) in
    rw z
running_small h p (g ∷ gs) loss s few none =
    let x = reconciliation_of h g (register 0 p) in
    let y = reconciliation_of h g (register 1 p) in
    let a : nat_abs (s +ℤ x) ≤ most_volume = omega (arith, ints) in
    let b : nat_abs ((s +ℤ x) +ℤ y) ≤ most_volume = omega (arith, ints) in
    let c : nat_abs ((s +ℤ x) +ℤ y) + total (settled_size h p) gs ≤ most_volume = omega (arith, ints) in
    let d : ((s +ℤ x) +ℤ y) +ℤ (net (settled_at h p) gs +ℤ loss) ≡ pos 0 = omega (arith, ints) in
    rw (le-ltb most_volume _ a, le-ltb most_volume _ b) (running_small h p gs loss ((s +ℤ x) +ℤ y) c d)

pub totals_small : (s : Start) (h : History) → Admitted s h → (p : ℕ) → p < 2 → totals_refusal (pos 0) (settle_volumes (month_at s h) p (groups h)) ≡ None
totals_small s h a p k =
    ap (totals_refusal (pos 0)) (settle_line_is s h a p k)
    ∙ running_small h p (known h) (loss_volume_in h p) (pos 0) (let l = all_settled s h a p k in omega arith) (let b = balance s h a p k in omega (arith, ints))
