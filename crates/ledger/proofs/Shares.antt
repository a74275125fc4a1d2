-- What a divide writes is less than a watt-hour from the exact corrected share, and how much it is in all. Assumes nothing.
use Rattle.std.proofs.Common.{◌≡◌, ℕ, suc, ◌+◌, ◌<◌, ◌≤◌, Bool, true, false, cond, eqb, List, [], ◌∷◌, ℤ, pos, ◌+ℤ◌, nat_abs, sym, refl, ap, subst, add-zero, add_assoc, arith}
use Rattle.std.proofs.lemmas.Int.{ints}
use Rattle.std.proofs.lemmas.Bool.{both_ways}
use Rattle.fault.specs.declared.cause.Direction.{Direction}
use Rattle.fault.specs.declared.cause.Direction.TheVariants.{Offtake, FeedIn}
use Rattle.allocation.specs.Correction.{share, correction_of, profiled, corrected, exact, Near}
use Rattle.allocation.proofs.Shares.{near, size_grows, share_within}
use Rattle.rows.specs.declared.group.Group.{Group}
use Rattle.rows.specs.Registers.{way}
use Rattle.tables.specs.BookRows.{group_rules}
use Rattle.tables.specs.Rules.{same}
use Rattle.ledger.specs.Events.{History}
use Rattle.ledger.specs.Histories.{Start, Admitted}
use Rattle.ledger.specs.Keys.{listed, Ordered, total}
use Rattle.ledger.specs.Quantities.{known, weight, weights, residual, gets, wrote, posted_to}
use Rattle.ledger.proofs.Basics.{group_order, either_way}
use Rattle.ledger.proofs.Keyed.{same_is, total_same, total_listed}
use Rattle.ledger.proofs.Members.{members}
use Rattle.ledger.proofs.Standing.{standing_bare}
use Rattle.ledger.proofs.Bare.{gets_unlisted, gets_later, weight_none}
use Rattle.ledger.proofs.Rows.{self}

gets_near : (t : ℕ) (r : ℤ) (w : Group → ℕ → ℕ) (before : ℕ) (ks : List Group) (g : Group) (d : ℕ) → d < 2 → listed group_rules g ks ≡ true → before + total (λ k. w k 0 + w k 1) ks ≤ t → Near t (gets t r w before ks g d) (exact t r (way d) (w g d))
gets_near t r w before [] g d l u fits = absurd (both_ways _ refl u)
gets_near t r w before (k ∷ ks) g d l u fits =
    either_way (same group_rules k g) (Near t (gets t r w before (k ∷ ks) g d) (exact t r (way d) (w g d)))
    (λ e. rw e (subst (λ (q : Group). Near t (corrected t r (before + cond (eqb d 0) 0 (w k 0)) (way d) (w k d)) (exact t r (way d) (w q d))) (same_is group_rules group_order k g e) (here d l fits)))
    (λ e. rw e (gets_near t r w (before + (w k 0 + w k 1)) ks g d l (rw e at u) (omega arith)))
  where
    here : (d : ℕ) → d < 2 → before + total (λ k. w k 0 + w k 1) (k ∷ ks) ≤ t → Near t (corrected t r (before + cond (eqb d 0) 0 (w k 0)) (way d) (w k d)) (exact t r (way d) (w k d))
    here (suc (suc d)) l fits = absurd (omega arith)
    here d l fits = near t (before + cond (eqb d 0) 0 (w k 0)) (w k d) r (way d) (omega arith)

corrected_none : (t : ℕ) (r : ℤ) (d : Direction) → corrected t r 0 d 0 ≡ pos 0
unfolding correction_of
corrected_none t r Offtake = omega (arith, ints)
corrected_none t r FeedIn = omega (arith, ints)

-- a profiled group gets a volume less than a watt-hour from its exact share
pub wrote_near : (s : Start) (h : History) → Admitted s h → (g : Group) (d : ℕ) → d < 2 → eqb g.class 0 ≡ false → Near (weights h) (wrote h g d) (exact (weights h) (residual h) (way d) (weight h g d))
wrote_near s h a g d l z =
    subst (λ (b : Bool). Near (weights h) (cond b (posted_to h g d) (gets (weights h) (residual h) (weight h) 0 (known h) g d)) (exact (weights h) (residual h) (way d) (weight h g d))) (sym z)
    (either_way (listed group_rules g (known h)) (Near (weights h) (gets (weights h) (residual h) (weight h) 0 (known h) g d) (exact (weights h) (residual h) (way d) (weight h g d)))
    (λ u. gets_near (weights h) (residual h) (weight h) 0 (known h) g d l u (omega arith))
    (λ u. rw (gets_unlisted (weights h) (residual h) (weight h) 0 (known h) g d u, weight_none h g d (standing_bare h g _ (members s h a) u))
    (rw (corrected_none (weights h) (residual h) (way d)) at (near (weights h) 0 0 (residual h) (way d) (omega arith)))))

-- the size of what a group gets, if it is profiled
abbrev pub got_size : ℕ → ℤ → (Group → ℕ → ℕ) → ℕ → List Group → Group → ℕ
got_size t r w before ks g = cond (eqb g.class 0) 0 (nat_abs (gets t r w before ks g 0) + nat_abs (gets t r w before ks g 1))

size_of : (d : Direction) (w : ℕ) (c : ℤ) → nat_abs (profiled d w +ℤ c) ≤ w + nat_abs c
size_of Offtake w c = omega (arith, ints)
size_of FeedIn w c = omega (arith, ints)

pair_size : (t : ℕ) (r : ℤ) (before x y : ℕ) → nat_abs (corrected t r (before + 0) (way 0) x) + nat_abs (corrected t r (before + x) (way 1) y) + nat_abs (share t r before) ≤ (x + y) + nat_abs (share t r (before + (x + y)))
pair_size t r before x y =
    let a = size_of Offtake x (correction_of t r (before + 0) x) in
    let b = size_of FeedIn y (correction_of t r (before + x) y) in
    let c = size_grows t (before + 0) x r in
    let d = size_grows t (before + x) y r in
    let e = ap (λ n. nat_abs (share t r n)) (add-zero before) in
    let f = ap (λ n. nat_abs (share t r (n + x))) (add-zero before) in
    let g = ap (λ n. nat_abs (share t r n)) (add_assoc before x y) in
    omega arith

line_size : (t : ℕ) (r : ℤ) (w : Group → ℕ → ℕ) (ks : List Group) → Ordered group_rules ks → (before : ℕ) → total (got_size t r w before ks) ks + nat_abs (share t r before) ≤ total (λ g. w g 0 + w g 1) ks + nat_abs (share t r (before + total (λ g. w g 0 + w g 1) ks))
line_size t r w [] o before = let a = ap (λ n. nat_abs (share t r n)) (add-zero before) in omega arith
line_size t r w (k ∷ ks) o before =
    let ih = line_size t r w ks o.1 (before + (w k 0 + w k 1)) in
    let rest = total_listed group_rules group_order (got_size t r w (before + (w k 0 + w k 1)) ks) (got_size t r w before (k ∷ ks)) ks
    (λ g l i. cond (eqb g.class 0) 0 (nat_abs (gets_later t r w before k g ks 0 o.0 l i) + nat_abs (gets_later t r w before k g ks 1 o.0 l i))) in
    let seam = ap (λ n. nat_abs (share t r n)) (add_assoc before (w k 0 + w k 1) (total (λ g. w g 0 + w g 1) ks)) in
    let first = either_way (eqb k.class 0) (got_size t r w before (k ∷ ks) k + nat_abs (share t r before) ≤ (w k 0 + w k 1) + nat_abs (share t r (before + (w k 0 + w k 1))))
    (λ e. rw e (omega (arith, size_grows t before (w k 0 + w k 1) r)))
    (λ e. rw (e, self k) (pair_size t r before (w k 0) (w k 1))) in
    omega arith

-- all that a divide writes for profiled groups is no more than T and |R|
abbrev pub wrote_size : History → Group → ℕ
wrote_size h g = cond (eqb g.class 0) 0 (nat_abs (wrote h g 0) + nat_abs (wrote h g 1))

pub wrote_within : (s : Start) (h : History) → Admitted s h → total (wrote_size h) (known h) ≤ weights h + nat_abs (residual h)
wrote_within s h a =
    let l = line_size (weights h) (residual h) (weight h) (known h) (members s h a).groups_ordered 0 in
    let e = total_same (got_size (weights h) (residual h) (weight h) 0 (known h)) (wrote_size h) (λ g. grind arith) (known h) in
    let c = share_within (weights h) (0 + weights h) (residual h) (omega arith) in
    omega arith
