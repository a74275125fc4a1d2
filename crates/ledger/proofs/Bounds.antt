-- How large the volumes of own tables become. Assumes nothing.
use Rattle.std.proofs.Common.{◌≡◌, ℕ, suc, ◌+◌, ◌*◌, ◌/◌, ◌%◌, ◌<◌, ◌≤◌, Bool, true, false, cond, eqb, ltb, List, [], ◌∷◌, ℤ, pos, ◌+ℤ◌, neg_ℤ, nat_abs, refl, subst, arith}
use Rattle.std.proofs.lemmas.Bool.{ltb-false, eqb-false}
use Rattle.std.proofs.lemmas.Bool.Decides.{nat_tests}
use Rattle.allocation.specs.Scale.{most_quarters}
use Rattle.rows.specs.declared.connection.ConnectionRow.{ConnectionRow}
use Rattle.rows.specs.declared.group.Group.{Group}
use Rattle.rows.specs.Connections.{all_advances}
use Rattle.rows.specs.Registers.{register, signed_in}
use Rattle.tables.specs.BookRows.{group_rules}
use Rattle.ledger.specs.Checks.{begin_checks, reading_checks, most_posted, most_advanced}
use Rattle.ledger.specs.Events.{History, Phase, reads, opens, posts, divides, withdraws, moved, turned, phase, between, slip, settled}
use Rattle.ledger.specs.Histories.{Start, Admitted, connections, groups, month_at, turn_checks}
use Rattle.ledger.specs.Keys.{listed, total}
use Rattle.ledger.specs.Postings.{gross, with_posting}
use Rattle.ledger.specs.Quantities.{done, period_now, posted, posted_to, with_measured, known, group_of, weights, residual, wrote, allocated, counted, advance_of, advanced, weight}
use Rattle.ledger.proofs.Basics.{inside, sign_size, sum_size, group_order, all_quiet, quiet, found, either_way}
use Rattle.ledger.proofs.Keyed.{total_one, total_changed}
use Rattle.ledger.proofs.Members.{members, total_known, cond_const, is_enrolled, listed_read}
use Rattle.ledger.proofs.Bare.{allocated_bare, counted_bare, gets_unlisted}
use Rattle.ledger.proofs.Closing.{divide_adds}
use Rattle.ledger.proofs.Shares.{wrote_size, wrote_within}
use Rattle.ledger.proofs.Rows.{other}
use Rattle.ledger.proofs.Slips.{slip_facts}

-- a month has no more quarters than any
pub quarters_small : (s : Start) (h : History) → Admitted s h → s.quarters ≤ most_quarters
quarters_small s [] a = inside _ _ s.quarters (quiet _ _ (all_quiet (begin_checks s.quarters s.loss_party) a).0)
quarters_small s (moved m ∷ h) a = quarters_small s h a.0
quarters_small s (e ∷ h) a = quarters_small s h a.0

-- a quarter that is open is yet to be divided
abbrev pub busy : Phase → ℕ
busy between = 0
busy settled = 0
busy p = 1

pub done_within : (s : Start) (h : History) → Admitted s h → done h + busy (phase h) ≤ s.quarters
done_within s [] a = omega arith
done_within s (turned (opens p c) ∷ h) a =
    let l = rw a.1 at (done_within s h a.0) in
    let n = eqb-false (done h) s.quarters (quiet _ _ (all_quiet (turn_checks s h (opens p c)) a.2).1.1.0) in
    omega arith
done_within s (turned t ∷ h) a = let l = rw a.1 at (done_within s h a.0) in omega arith
done_within s (e ∷ h) a = done_within s h a.0

pub done_small : (s : Start) (h : History) → Admitted s h → done h ≤ most_quarters
done_small s h a = let x = done_within s h a in let y = quarters_small s h a in omega arith

gross_more : (f : ℕ → ℕ) (k w : ℕ) → gross (with_posting k w f) ≤ gross f + w
gross_more f k w = grind (arith, nat_tests)

pub gross_within : (s : Start) (h : History) → Admitted s h → gross (posted h) ≤ most_posted
gross_within s [] a = omega arith
gross_within s (turned (opens p c) ∷ h) a = omega arith
gross_within s (turned (posts k b p w) ∷ h) a =
    let l = ltb-false _ _ (quiet _ _ (all_quiet (turn_checks s h (posts k b p w)) a.2).1.1.1.1.1.0) in
    let m = gross_more (posted h) k w in
    omega arith
gross_within s (turned withdraws ∷ h) a = omega arith
gross_within s (e ∷ h) a = gross_within s h a.0

-- what was posted to a group is part of what was posted of its kind
posted_more : (k b s w : ℕ) (g : Group) (v u : ℤ) (f : ℕ → ℕ) → nat_abs v ≤ f 3 → nat_abs u ≤ f 4
    → (nat_abs (with_measured k b s w g 0 v) ≤ with_posting k w f 3) × (nat_abs (with_measured k b s w g 1 u) ≤ with_posting k w f 4)
posted_more k b s w g v u f l m = (grind (arith, nat_tests, sum_size v (neg_ℤ (pos w)), sign_size true w), grind (arith, nat_tests, sum_size u (pos w)))

pub posted_within : (h : History) (g : Group) → (nat_abs (posted_to h g 0) ≤ posted h 3) × (nat_abs (posted_to h g 1) ≤ posted h 4)
posted_within [] g = (omega arith, omega arith)
posted_within (turned (opens p c) ∷ h) g = (omega arith, omega arith)
posted_within (turned (posts k b s w) ∷ h) g = let ih = posted_within h g in posted_more k b s w g (posted_to h g 0) (posted_to h g 1) (posted h) ih.0 ih.1
posted_within (turned withdraws ∷ h) g = (omega arith, omega arith)
posted_within (e ∷ h) g = posted_within h g

pub posted_size : (h : History) (g : Group) (d : ℕ) → d < 2 → nat_abs (posted_to h g d) ≤ gross (posted h)
posted_size h g (suc (suc d)) l = absurd (omega arith)
posted_size h g d l = let x = posted_within h g in omega arith

abbrev pub most_booked : ℕ
most_booked = 4000000000

-- what a divide writes for one group
pub wrote_small : (s : Start) (h : History) → Admitted s h → phase h ≡ slip → (g : Group) (d : ℕ) → d < 2 → nat_abs (wrote h g d) ≤ most_booked
wrote_small s h a out g d l =
    let f = slip_facts s h a out in
    let few = f.few in
    let small = f.small in
    let all = wrote_within s h a in
    let part = part_size d l in
    let one = total_one group_rules group_order (wrote_size h) g (known h) in
    let none = gets_unlisted (weights h) (residual h) (weight h) 0 (known h) g d in
    let posted = posted_size h g d l in
    let limit = gross_within s h a in
    either_way (eqb g.class 0) (nat_abs (wrote h g d) ≤ most_booked) (λ t. rw t (omega arith))
    (λ z. either_way (listed group_rules g (known h)) (nat_abs (wrote h g d) ≤ most_booked) (λ u. let o = one u in let p = part z in omega arith) (λ u. rw (z, none u) (omega arith)))
  where
    part_size : (d : ℕ) → d < 2 → eqb g.class 0 ≡ false → nat_abs (wrote h g d) ≤ wrote_size h g
    part_size (suc (suc d)) l z = absurd (omega arith)
    part_size d l z = rw z (omega arith)

pub half_small : (r : ℕ) → r < 4 → r / 2 < 2
half_small r l = omega arith

pub divide_size : (b : Bool) (x y : ℤ) (n : ℕ) → nat_abs x ≤ n * most_booked → nat_abs y ≤ most_booked → nat_abs (cond b (x +ℤ y) x) ≤ (n + 1) * most_booked
divide_size b x y n l k = grind (arith, sum_size x y)

pub allocated_within : (s : Start) (h : History) → Admitted s h → (g : Group) (r : ℕ) → r < 4 → nat_abs (allocated h g r) ≤ done h * most_booked
allocated_within s [] a g r l = omega arith
allocated_within s (turned divides ∷ h) a g r l = divide_size (eqb (r % 2) (period_now h)) (allocated h g r) (wrote h g (r / 2)) (done h) (allocated_within s h a.0 g r l) (wrote_small s h a.0 a.1 g (r / 2) (half_small r l))
allocated_within s (e ∷ h) a g r l = allocated_within s h a.0 g r l

-- the size of a profiled group's allocated volumes in a period
abbrev pub allocated_size : History → ℕ → Group → ℕ
allocated_size h p g = cond (eqb g.class 0) 0 (nat_abs (allocated h g (register 0 p)) + nat_abs (allocated h g (register 1 p)))

bare_size : (h : History) (p : ℕ) (g : Group) → listed group_rules g (known h) ≡ false → allocated_size h p g ≡ 0
bare_size h p g u = cond_const (eqb g.class 0) _ _ 0 refl (λ i. nat_abs (allocated_bare h g (register 0 p) u i) + nat_abs (allocated_bare h g (register 1 p) u i))

pub all_sizes : (f g k : Group → ℕ) → ((x : Group) → k x ≤ f x + g x) → (ks : List Group) → total k ks ≤ total f ks + total g ks
all_sizes f g k e [] = omega arith
all_sizes f g k e (x ∷ xs) = let here = e x in let ih = all_sizes f g k e xs in omega arith

divided_size : (h : History) (p : ℕ) → p < 2 → (g : Group) → allocated_size (turned divides ∷ h) p g ≤ allocated_size h p g + wrote_size h g
divided_size h p k g = grind (arith, divide_adds h g 0 p (omega arith) k, divide_adds h g 1 p (omega arith) k, sum_size (allocated h g (register 0 p)) (wrote h g 0), sum_size (allocated h g (register 1 p)) (wrote h g 1))

abbrev Booked : History → ℕ → Type 0
Booked h p = total (allocated_size h p) (known h) ≤ done h * most_booked

pub booked_within : (s : Start) (h : History) → Admitted s h → (p : ℕ) → p < 2 → Booked h p
booked_within s [] a p k = omega arith
booked_within s (turned divides ∷ h) a p k =
    let ih = booked_within s h a.0 p k in
    let f = slip_facts s h a.0 a.1 in
    let few = f.few in
    let small = f.small in
    let w = wrote_within s h a.0 in
    let t = all_sizes (allocated_size h p) (wrote_size h) (allocated_size (turned divides ∷ h) p) (divided_size h p k) (known h) in
    omega arith
booked_within s (e ∷ h) a p k = rw (total_known (allocated_size h p) e h (members s h a.0).groups_ordered (bare_size h p)) (booked_within s h a.0 p k)

-- the limit of all advances
pub advanced_within : (s : Start) (h : History) → Admitted s h → advanced h ≤ most_advanced
advanced_within s [] a = omega arith
advanced_within s (moved (reads c st) ∷ h) a =
    let f = found (connections h) c (reading_checks (month_at s h) (groups h) st) a.2 in
    let m = members s h a.0 in
    let is = (is_enrolled h c f.0 m f.1).1 in
    let q = quiet _ _ (all_quiet (reading_checks (month_at s h) (groups h) st f.0) f.2).1.1.1.1.1.0 in
    ltb-false _ _ (subst (λ (conn : ConnectionRow). ltb most_advanced (advanced h + all_advances conn st) ≡ false) is q)
advanced_within s (e ∷ h) a = advanced_within s h a.0

-- the size of an advance with its sign
pub signed_size : (r n : ℕ) → nat_abs (signed_in r n) ≡ n
signed_size r n = sign_size (ltb r 2) n

counted_more : (h : History) (c : ℕ) (st : List ℕ) (g : Group) (r : ℕ) → nat_abs (counted (moved (reads c st) ∷ h) g r) ≤ nat_abs (counted h g r) + advance_of h c st r
counted_more h c st g r = grind (arith, sum_size (counted h g r) (signed_in r (advance_of h c st r)), signed_size r (advance_of h c st r))

pub one_of_four : (f : ℕ → ℕ) (r : ℕ) → r < 4 → f r ≤ f 0 + f 1 + f 2 + f 3
one_of_four f r l = grind arith

pub counted_within : (h : History) (g : Group) (r : ℕ) → r < 4 → nat_abs (counted h g r) ≤ advanced h
counted_within [] g r l = omega arith
counted_within (moved (reads c st) ∷ h) g r l = let m = counted_more h c st g r in let ih = counted_within h g r l in let o = one_of_four (advance_of h c st) r l in omega arith
counted_within (e ∷ h) g r l = counted_within h g r l

-- the size of what a group's meters counted in a period
abbrev pub counted_size : History → ℕ → Group → ℕ
counted_size h p g = nat_abs (counted h g (register 0 p)) + nat_abs (counted h g (register 1 p))

bare_count : (s : Start) (h : History) → Admitted s h → (p : ℕ) (g : Group) → listed group_rules g (known h) ≡ false → counted_size h p g ≡ 0
bare_count s h a p g u = λ i. nat_abs (counted_bare s h a g (register 0 p) u i) + nat_abs (counted_bare s h a g (register 1 p) u i)

abbrev Counted : History → ℕ → Type 0
Counted h p = total (counted_size h p) (known h) ≤ advanced h

two_of_four : (f : ℕ → ℕ) (p : ℕ) → p < 2 → f (register 0 p) + f (register 1 p) ≤ f 0 + f 1 + f 2 + f 3
two_of_four f p k = grind arith

counted_read : (s : Start) (h : History) (c : ℕ) (st : List ℕ) (p : ℕ) → Admitted s (moved (reads c st) ∷ h) → p < 2 → Counted h p → Counted (moved (reads c st) ∷ h) p
counted_read s h c st p a k ih =
    let m = members s h a.0 in
    let g = group_of h c in
    let h' = moved (reads c st) ∷ h in
    let here = m.in_known c (listed_read s h c st m a.2) in
    let step = total_changed group_rules group_order (counted_size h p) (counted_size h' p) g (λ j ne. rw (other j g ne)) (known h) m.groups_ordered here in
    let x = counted_more h c st g (register 0 p) in
    let y = counted_more h c st g (register 1 p) in
    let t = two_of_four (advance_of h c st) p k in
    omega arith

pub count_within : (s : Start) (h : History) → Admitted s h → (p : ℕ) → p < 2 → Counted h p
count_within s [] a p k = omega arith
count_within s (moved (reads c st) ∷ h) a p k = counted_read s h c st p a k (count_within s h a.0 p k)
count_within s (e ∷ h) a p k = rw (total_known (counted_size h p) e h (members s h a.0).groups_ordered (bare_count s h a.0 p)) (count_within s h a.0 p k)
