-- Each period closes: what was exchanged and lost in its divided quarters, and all allocated volumes, come to zero. Assumes nothing.
use Rattle.std.proofs.Common.{◌≡◌, ℕ, zero, suc, ◌+◌, ◌/◌, ◌%◌, ◌<◌, Bool, true, false, cond, eqb, List, [], ◌∷◌, ℤ, pos, ◌+ℤ◌, ◌-ℤ◌, neg_ℤ, sym, refl, ap, subst, ◌∙◌, add-zero, add_assoc, zero-add, arith}
use Rattle.std.proofs.lemmas.Int.{ints}
use Rattle.std.proofs.lemmas.Bool.{both_ways, eqb-true}
use Rattle.std.proofs.lemmas.Bool.Decides.{nat_tests}
use Rattle.allocation.specs.Correction.{share, correction_of, corrected}
use Rattle.allocation.proofs.Shares.{share_start, share_none, share_whole}
use Rattle.rows.specs.declared.group.Group.{Group}
use Rattle.rows.specs.Registers.{register, way}
use Rattle.rows.specs.Groups.{group_named}
use Rattle.tables.specs.BookRows.{group_rules}
use Rattle.tables.specs.Rules.{same}
use Rattle.ledger.specs.Events.{History, opens, posts, divides, withdraws, turned, phase, slip}
use Rattle.ledger.specs.Histories.{Start, Admitted}
use Rattle.ledger.specs.Keys.{listed, listing, Ordered, total, net}
use Rattle.ledger.specs.Postings.{measured, kind_direction, measured_volume, exchange, measurement, losses, with_posting}
use Rattle.ledger.specs.Quantities.{period_now, posted, posted_to, known, weight, weights, weights_net, residual, gets, wrote, allocated, exchange_in, losses_in}
use Rattle.ledger.proofs.Basics.{group_order, either_way}
use Rattle.ledger.proofs.Keyed.{net_at, net_listed, net_zero, net_same, net_sum}
use Rattle.ledger.proofs.Members.{members, net_known, cond_const}
use Rattle.ledger.proofs.Bare.{gets_first, gets_later, posted_bare, allocated_bare, measured_elsewhere}
use Rattle.ledger.proofs.Rows.{other, self}
use Rattle.ledger.proofs.Slips.{slip_facts}

-- what was posted to a group, if it is of class 0
abbrev pub measured_at : History → Group → ℤ
measured_at h g = cond (eqb g.class 0) (posted_to h g 0 +ℤ posted_to h g 1) (pos 0)

-- there are two measured kinds
measured_cases : (P : ℕ → Type 0) → P 3 → P 4 → (k : ℕ) → measured k ≡ true → P k
measured_cases P x y k m = either_way (eqb k 3) (P k) (λ t. subst P (sym (eqb-true k 3 t)) x) (λ e. subst P (sym (four k e m)) y)
  where
    four : (k : ℕ) → eqb k 3 ≡ false → measured k ≡ true → k ≡ 4
    four k e m = grind (arith, nat_tests)

-- one measured posting more
post_more : (k w : ℕ) (a b : ℤ) → measured k ≡ true → cond (eqb 0 (kind_direction k)) (a +ℤ measured_volume k w) a +ℤ cond (eqb 1 (kind_direction k)) (b +ℤ measured_volume k w) b ≡ (a +ℤ b) +ℤ measured_volume k w
post_more k w a b = measured_cases (λ n. cond (eqb 0 (kind_direction n)) (a +ℤ measured_volume n w) a +ℤ cond (eqb 1 (kind_direction n)) (b +ℤ measured_volume n w) b ≡ (a +ℤ b) +ℤ measured_volume n w) (omega (arith, ints)) (omega (arith, ints)) k

net_more : (f : ℕ → ℕ) (k w : ℕ) → measured k ≡ true → measurement (with_posting k w f) ≡ measurement f +ℤ measured_volume k w
net_more f k w = measured_cases (λ n. measurement (with_posting n w f) ≡ measurement f +ℤ measured_volume n w) (omega (arith, ints)) (omega (arith, ints)) k

net_else : (f : ℕ → ℕ) (k w : ℕ) → measured k ≡ false → measurement (with_posting k w f) ≡ measurement f
net_else f k w m = grind (arith, nat_tests)

bare_at : (h : History) (g : Group) → listed group_rules g (known h) ≡ false → measured_at h g ≡ pos 0
bare_at h g u = cond_const (eqb g.class 0) _ _ (pos 0) (λ i. posted_bare h g 0 u i +ℤ posted_bare h g 1 u i) refl

measured_kept : (h : History) (k b p w : ℕ) (g : Group) → (measured k ≡ true → same group_rules (group_named b p 0) g ≡ false) → measured_at (turned (posts k b p w) ∷ h) g ≡ measured_at h g
measured_kept h k b p w g away = λ i. cond (eqb g.class 0) (measured_elsewhere k b p w g 0 (posted_to h g 0) away i +ℤ measured_elsewhere k b p w g 1 (posted_to h g 1) away i) (pos 0)

posted_sum : (s : Start) (h : History) (k b p w : ℕ) → Admitted s h → net (measured_at h) (known h) ≡ measurement (posted h) → net (measured_at (turned (posts k b p w) ∷ h)) (known (turned (posts k b p w) ∷ h)) ≡ measurement (with_posting k w (posted h))
posted_sum s h k b p w a ih =
    let h' = turned (posts k b p w) ∷ h in
    let n = group_named b p 0 in
    either_way (measured k) (net (measured_at h') (known h') ≡ measurement (with_posting k w (posted h)))
    (λ e.
    let step = net_at group_rules group_order (measured_at h) (measured_at h') n (λ j ne. measured_kept h k b p w j (λ _. other j n ne)) (known h) (members s h a).groups_ordered (bare_at h n) in
    let here : measured_at h' n ≡ measured_at h n +ℤ measured_volume k w = rw (e, self n) (post_more k w (posted_to h n 0) (posted_to h n 1) e) in
    let m = net_more (posted h) k w e in
    ap (λ y. net (measured_at h') (cond y (listing group_rules n (known h)) (known h))) e ∙ moves _ _ _ _ _ _ _ step here ih m)
    (λ e.
    ap (λ y. net (measured_at h') (cond y (listing group_rules n (known h)) (known h))) e
    ∙ net_same (measured_at h) (measured_at h') (λ j. measured_kept h k b p w j (λ t. absurd (both_ways _ e t))) (known h)
    ∙ ih ∙ sym (net_else (posted h) k w e))
  where
    moves : (n' f n g v m m' : ℤ) → n' +ℤ f ≡ n +ℤ g → g ≡ f +ℤ v → n ≡ m → m' ≡ m +ℤ v → n' ≡ m'
    moves n' f n g v m m' a b c d = omega (arith, ints)

-- what was posted to all groups of class 0 is M
pub measured_sum : (s : Start) (h : History) → Admitted s h → net (measured_at h) (known h) ≡ measurement (posted h)
measured_sum s [] a = refl
measured_sum s (turned (opens p c) ∷ h) a = net_same (λ g. pos 0) (measured_at (turned (opens p c) ∷ h)) (λ g. cond_const (eqb g.class 0) _ _ (pos 0) refl refl) (known h) ∙ net_zero (known h)
measured_sum s (turned (posts k b p w) ∷ h) a = posted_sum s h k b p w a.0 (measured_sum s h a.0)
measured_sum s (turned withdraws ∷ h) a = net_same (λ g. pos 0) (measured_at (turned withdraws ∷ h)) (λ g. cond_const (eqb g.class 0) _ _ (pos 0) refl refl) (known h) ∙ net_zero (known h)
measured_sum s (e ∷ h) a = net_known (measured_at h) e h (members s h a.0).groups_ordered (bare_at h) ∙ measured_sum s h a.0

-- two weights of a group, one after the other in the line
pair_sum : (t : ℕ) (r : ℤ) (before x y : ℕ) → corrected t r (before + 0) (way 0) x +ℤ corrected t r (before + x) (way 1) y ≡ (pos y -ℤ pos x) +ℤ (share t r (before + (x + y)) -ℤ share t r before)
unfolding correction_of
pair_sum t r before x y =
    let a = ap (share t r) (ap (λ n. n + x) (add-zero before)) in
    let b = ap (share t r) (add-zero before) in
    let c = ap (share t r) (sym (add_assoc before x y)) in
    omega (arith, ints)

no_weight : (t : ℕ) (r : ℤ) (before x y : ℕ) → x ≡ 0 → y ≡ 0 → pos 0 ≡ (pos y -ℤ pos x) +ℤ (share t r (before + (x + y)) -ℤ share t r before)
no_weight t r before x y e f =
    let none : before + (x + y) ≡ before = omega arith in
    let a = ap (share t r) none in
    let c = ap pos e in
    let d = ap pos f in
    omega (arith, ints)

-- what the profiled groups of a line get is the net of their weights and what the split gives out along it
line_sum : (t : ℕ) (r : ℤ) (w : Group → ℕ → ℕ) → ((g : Group) (d : ℕ) → eqb g.class 0 ≡ true → w g d ≡ 0) → (ks : List Group) → Ordered group_rules ks → (before : ℕ)
    → net (λ g. cond (eqb g.class 0) (pos 0) (gets t r w before ks g 0 +ℤ gets t r w before ks g 1)) ks ≡ net (λ g. pos (w g 1) -ℤ pos (w g 0)) ks +ℤ (share t r (before + total (λ g. w g 0 + w g 1) ks) -ℤ share t r before)
line_sum t r w none [] o before = let a = ap (share t r) (add-zero before) in omega (arith, ints)
line_sum t r w none (k ∷ ks) o before =
    let ih = line_sum t r w none ks o.1 (before + (w k 0 + w k 1)) in
    let rest = net_listed group_rules group_order (λ g. cond (eqb g.class 0) (pos 0) (gets t r w (before + (w k 0 + w k 1)) ks g 0 +ℤ gets t r w (before + (w k 0 + w k 1)) ks g 1)) (λ g. cond (eqb g.class 0) (pos 0) (gets t r w before (k ∷ ks) g 0 +ℤ gets t r w before (k ∷ ks) g 1)) ks
    (λ g l i. cond (eqb g.class 0) (pos 0) (gets_later t r w before k g ks 0 o.0 l i +ℤ gets_later t r w before k g ks 1 o.0 l i)) in
    let seam = ap (share t r) (add_assoc before (w k 0 + w k 1) (total (λ g. w g 0 + w g 1) ks)) in
    let first = either_way (eqb k.class 0) (cond (eqb k.class 0) (pos 0) (gets t r w before (k ∷ ks) k 0 +ℤ gets t r w before (k ∷ ks) k 1) ≡ (pos (w k 1) -ℤ pos (w k 0)) +ℤ (share t r (before + (w k 0 + w k 1)) -ℤ share t r before))
    (λ e. rw e (no_weight t r before (w k 0) (w k 1) (none k 0 e) (none k 1 e)))
    (λ e. rw e ((λ i. gets_first t r w before k ks 0 i +ℤ gets_first t r w before k ks 1 i) ∙ pair_sum t r before (w k 0) (w k 1))) in
    omega (arith, ints)

-- all of R is given out, where some weight carries it
all_given : (t : ℕ) (r : ℤ) → (t ≡ 0 → r ≡ pos 0) → share t r (0 + t) -ℤ share t r 0 ≡ r
all_given zero r carried = let a = share_none (0 + 0) r in let b = share_none 0 r in let e = carried refl in omega (arith, ints)
all_given (suc t) r carried = let whole = ap (share (suc t) r) (zero-add (suc t)) ∙ share_whole (suc t) r (omega arith) in let start = share_start (suc t) r in omega (arith, ints)

class_none : (h : History) (g : Group) (d : ℕ) → eqb g.class 0 ≡ true → weight h g d ≡ 0
class_none h g d e = rw e

-- what a divide writes for all groups, both directions
abbrev pub wrote_at : History → Group → ℤ
wrote_at h g = wrote h g 0 +ℤ wrote h g 1

pub wrote_sum : (s : Start) (h : History) → Admitted s h → phase h ≡ slip → exchange (posted h) +ℤ losses (posted h) +ℤ net (wrote_at h) (known h) ≡ pos 0
wrote_sum s h a out =
    let f = slip_facts s h a out in
    let apart = net_same (λ g. measured_at h g +ℤ cond (eqb g.class 0) (pos 0) (gets (weights h) (residual h) (weight h) 0 (known h) g 0 +ℤ gets (weights h) (residual h) (weight h) 0 (known h) g 1)) (wrote_at h) (λ g. two_ways (eqb g.class 0) _ _ _ _) (known h)
    ∙ net_sum (measured_at h) (λ g. cond (eqb g.class 0) (pos 0) (gets (weights h) (residual h) (weight h) 0 (known h) g 0 +ℤ gets (weights h) (residual h) (weight h) 0 (known h) g 1)) (known h) in
    let m = measured_sum s h a in
    let l = line_sum (weights h) (residual h) (weight h) (class_none h) (known h) (members s h a).groups_ordered 0 in
    let r = all_given (weights h) (residual h) f.carried in
    closes (exchange (posted h)) (measurement (posted h)) (losses (posted h)) (weights_net h) (residual h) _ _ _ _ refl apart m l r
  where
    two_ways : (b : Bool) (p q x y : ℤ) → cond b p x +ℤ cond b q y ≡ cond b (p +ℤ q) (pos 0) +ℤ cond b (pos 0) (x +ℤ y)
    two_ways true p q x y = omega (arith, ints)
    two_ways false p q x y = omega (arith, ints)

    closes : (x m l v r n a b c : ℤ) → r ≡ neg_ℤ (x +ℤ m +ℤ v +ℤ l) → n ≡ a +ℤ b → a ≡ m → b ≡ v +ℤ c → c ≡ r → x +ℤ l +ℤ n ≡ pos 0
    closes x m l v r n a b c h1 h2 h3 h4 h5 = omega (arith, ints)

-- the allocated volumes of a group in a period
abbrev pub allocated_at : History → ℕ → Group → ℤ
allocated_at h p g = allocated h g (register 0 p) +ℤ allocated h g (register 1 p)

abbrev pub Closed : History → ℕ → Type 0
Closed h p = exchange_in h p +ℤ losses_in h p +ℤ net (allocated_at h p) (known h) ≡ pos 0

bare_allocated : (h : History) (p : ℕ) (g : Group) → listed group_rules g (known h) ≡ false → allocated_at h p g ≡ pos 0
bare_allocated h p g u = λ i. allocated_bare h g (register 0 p) u i +ℤ allocated_bare h g (register 1 p) u i

pub of_register : (d p : ℕ) → d < 2 → p < 2 → (register d p % 2 ≡ p) × (register d p / 2 ≡ d)
of_register d p l k = (omega arith, omega arith)

-- what a divide adds to an allocated volume
pub divide_adds : (h : History) (g : Group) (d p : ℕ) → d < 2 → p < 2 → allocated (turned divides ∷ h) g (register d p) ≡ cond (eqb (period_now h) p) (allocated h g (register d p) +ℤ wrote h g d) (allocated h g (register d p))
divide_adds h g d p l k =
    let e = of_register d p l k in
    rw (e.0, e.1) (ap (λ b. cond b (allocated h g (register d p) +ℤ wrote h g d) (allocated h g (register d p))) (turned_round p (period_now h)))
  where
    turned_round : (n m : ℕ) → eqb n m ≡ eqb m n
    turned_round n m = grind (arith, nat_tests)

pub divided_at : (h : History) (g : Group) (p : ℕ) → p < 2 → allocated_at (turned divides ∷ h) p g ≡ cond (eqb (period_now h) p) (allocated_at h p g +ℤ wrote_at h g) (allocated_at h p g)
divided_at h g p k = (λ i. divide_adds h g 0 p (omega arith) k i +ℤ divide_adds h g 1 p (omega arith) k i) ∙ both (eqb (period_now h) p) (allocated h g (register 0 p)) (allocated h g (register 1 p)) (wrote h g 0) (wrote h g 1)
  where
    both : (b : Bool) (x y u v : ℤ) → cond b (x +ℤ u) x +ℤ cond b (y +ℤ v) y ≡ cond b ((x +ℤ y) +ℤ (u +ℤ v)) (x +ℤ y)
    both true x y u v = omega (arith, ints)
    both false x y u v = refl

divide_closed : (s : Start) (h : History) (p : ℕ) → Admitted s h → phase h ≡ slip → p < 2 → Closed h p → Closed (turned divides ∷ h) p
divide_closed s h p a out k ih =
    let h' = turned divides ∷ h in
    either_way (eqb (period_now h) p) (Closed h' p)
    (λ e.
    let n = net_same (λ g. allocated_at h p g +ℤ wrote_at h g) (allocated_at h' p) (λ g. divided_at h g p k ∙ rw e) (known h) ∙ net_sum (allocated_at h p) (wrote_at h) (known h) in
    let w = wrote_sum s h a out in
    rw e (omega (arith, ints)))
    (λ e. let n = net_same (allocated_at h p) (allocated_at h' p) (λ g. divided_at h g p k ∙ rw e) (known h) in rw e (omega (arith, ints)))

pub closing : (s : Start) (h : History) → Admitted s h → (p : ℕ) → p < 2 → Closed h p
closing s [] a p k = refl
closing s (turned divides ∷ h) a p k = divide_closed s h p a.0 a.1 k (closing s h a.0 p k)
closing s (e ∷ h) a p k = ap (λ n. exchange_in h p +ℤ losses_in h p +ℤ n) (net_known (allocated_at h p) e h (members s h a.0).groups_ordered (bare_allocated h p)) ∙ closing s h a.0 p k
