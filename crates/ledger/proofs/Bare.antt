-- What a row holds within a quarter, and that nothing is booked to a group that no entry named. Assumes nothing.
use Rattle.std.proofs.Common.{◌≡◌, ℕ, ◌+◌, ◌/◌, ◌%◌, ◌<◌, true, false, cond, eqb, List, [], ◌∷◌, ℤ, pos, ◌+ℤ◌, sym, refl, ap, ◌∙◌, arith}
use Rattle.std.proofs.lemmas.Bool.{both_ways, cond_both, false_from_ne_true, ltb-false}
use Rattle.allocation.specs.Correction.{corrected}
use Rattle.rows.specs.declared.group.Group.{Group}
use Rattle.rows.specs.Registers.{register, way}
use Rattle.rows.specs.Groups.{group_named}
use Rattle.tables.specs.BookRows.{group_rules}
use Rattle.tables.specs.Rules.{same}
use Rattle.tables.proofs.Finding.{same_equal}
use Rattle.ledger.specs.Events.{Event, History, Phase, reads, opens, posts, weighs, divides, withdraws, moved, turned, turn_refused, phase, between, gathering, slip, settled}
use Rattle.ledger.specs.Histories.{Start, Admitted, turn_checks}
use Rattle.ledger.specs.Keys.{listed, listing, Ahead}
use Rattle.ledger.specs.Postings.{measured}
use Rattle.ledger.specs.Quantities.{period_now, known, group_of, standing_sum, weight, weights, residual, gets, wrote, posted_to, with_measured, allocated, counted}
use Rattle.ledger.proofs.Basics.{group_order, all_quiet, quiet}
use Rattle.ledger.proofs.Keyed.{listed_apart, ahead_other}
use Rattle.ledger.proofs.Members.{members, cond_const, known_stays, listed_self, listed_read}
use Rattle.ledger.proofs.Standing.{standing_bare}

-- what the quarter volumes of a group's row hold
abbrev pub holds : History → Group → ℕ → ℤ
holds [] g d = pos 0
holds (turned (opens p c) ∷ h) g d = pos 0
holds (turned (posts k b s w) ∷ h) g d = with_measured k b s w g d (holds h g d)
holds (turned (weighs m) ∷ h) g d = cond (eqb g.class 0) (holds h g d) (pos (weight (turned (weighs m) ∷ h) g d))
holds (turned divides ∷ h) g d = wrote h g d
holds (turned withdraws ∷ h) g d = pos 0
holds (e ∷ h) g d = holds h g d

-- a group of class 0 holds what was posted to it
pub holds_posted : (h : History) (g : Group) (d : ℕ) → eqb g.class 0 ≡ true → holds h g d ≡ posted_to h g d
holds_posted [] g d z = refl
holds_posted (turned (opens p c) ∷ h) g d z = refl
holds_posted (turned (posts k b s w) ∷ h) g d z = ap (with_measured k b s w g d) (holds_posted h g d z)
holds_posted (turned (weighs m) ∷ h) g d z = rw z (holds_posted h g d z)
holds_posted (turned divides ∷ h) g d z = rw z
holds_posted (turned withdraws ∷ h) g d z = refl
holds_posted (e ∷ h) g d z = holds_posted h g d z

-- the states are apart
abbrev phase_number : Phase → ℕ
phase_number between = 0
phase_number gathering = 1
phase_number slip = 2
phase_number settled = 3

pub apart : (a b : Phase) (p : Phase) → p ≡ a → p ≡ b → (phase_number a ≡ phase_number b → ⊥) → ⊥
apart a b p x y differ = differ (ap phase_number (sym x ∙ y))

-- while a slip is out, the profiled groups hold their weights
pub holds_weights : (s : Start) (h : History) → Admitted s h → phase h ≡ slip → (g : Group) (d : ℕ) → eqb g.class 0 ≡ false → holds h g d ≡ pos (weight h g d)
holds_weights s (turned (weighs m) ∷ h) a out g d z = rw z
holds_weights s (turn_refused t f ∷ h) a out g d z = holds_weights s h a.0 out g d z
holds_weights s h a out g d z = cc

-- the running period is one of the two
pub period_small : (s : Start) (h : History) → Admitted s h → period_now h < 2
period_small s [] a = omega arith
period_small s (turned (opens p c) ∷ h) a = let l = ltb-false 1 p (quiet _ _ (all_quiet (turn_checks s h (opens p c)) a.2).0) in omega arith
period_small s (e ∷ h) a = period_small s h a.0

-- a group that is not known now was not known before
pub unknown_before : (e : Event) (h : History) (g : Group) → listed group_rules g (known (e ∷ h)) ≡ false → listed group_rules g (known h) ≡ false
unknown_before e h g u = false_from_ne_true _ (λ t. both_ways _ u (known_stays e h g t))

pub gets_unlisted : (t : ℕ) (r : ℤ) (w : Group → ℕ → ℕ) (before : ℕ) (ks : List Group) (g : Group) (d : ℕ) → listed group_rules g ks ≡ false → gets t r w before ks g d ≡ pos 0
gets_unlisted t r w before [] g d u = refl
gets_unlisted t r w before (k ∷ ks) g d u = grind (arith, gets_unlisted t r w (before + (w k 0 + w k 1)) ks g d)

-- the first of a line gets the first share, and the others what the rest of the line gives them
pub gets_first : (t : ℕ) (r : ℤ) (w : Group → ℕ → ℕ) (before : ℕ) (k : Group) (ks : List Group) (d : ℕ) → gets t r w before (k ∷ ks) k d ≡ corrected t r (before + cond (eqb d 0) 0 (w k 0)) (way d) (w k d)
gets_first t r w before k ks d = rw (same_equal group_rules group_order k k refl)

pub gets_later : (t : ℕ) (r : ℤ) (w : Group → ℕ → ℕ) (before : ℕ) (k g : Group) (ks : List Group) (d : ℕ) → Ahead group_rules k ks → listed group_rules g ks ≡ true → gets t r w before (k ∷ ks) g d ≡ gets t r w (before + (w k 0 + w k 1)) ks g d
gets_later t r w before k g ks d a l = rw (ahead_other group_rules group_order k g ks a l)

-- what a posting to another group leaves
pub measured_elsewhere : (k b s w : ℕ) (g : Group) (d : ℕ) (v : ℤ) → (measured k ≡ true → same group_rules (group_named b s 0) g ≡ false) → with_measured k b s w g d v ≡ v
measured_elsewhere k b s w g d v other = cond_both (measured k) _ _ (λ x. x ≡ v) (λ t. rw (other t)) (λ _. refl)

posted_elsewhere : (k b s w : ℕ) (h : History) (g : Group) → listed group_rules g (known (turned (posts k b s w) ∷ h)) ≡ false → measured k ≡ true → same group_rules (group_named b s 0) g ≡ false
posted_elsewhere k b s w h g u m = listed_apart group_rules group_order (group_named b s 0) g (listing group_rules (group_named b s 0) (known h)) (listed_self (group_named b s 0) (known h)) (rw m at u)

pub posted_bare : (h : History) (g : Group) (d : ℕ) → listed group_rules g (known h) ≡ false → posted_to h g d ≡ pos 0
posted_bare [] g d u = refl
posted_bare (turned (opens p c) ∷ h) g d u = refl
posted_bare (turned (posts k b s w) ∷ h) g d u = measured_elsewhere k b s w g d (posted_to h g d) (posted_elsewhere k b s w h g u) ∙ posted_bare h g d (unknown_before (turned (posts k b s w)) h g u)
posted_bare (turned withdraws ∷ h) g d u = refl
posted_bare (e ∷ h) g d u = posted_bare h g d (unknown_before e h g u)

wrote_bare : (h : History) (g : Group) (d : ℕ) → listed group_rules g (known h) ≡ false → wrote h g d ≡ pos 0
wrote_bare h g d u = cond_const (eqb g.class 0) _ _ _ (posted_bare h g d u) (gets_unlisted (weights h) (residual h) (weight h) 0 (known h) g d u)

-- no standing sum, no weight
pub weight_none : (h : History) (g : Group) (d : ℕ) → standing_sum h g (register d (period_now h)) ≡ 0 → weight h g d ≡ 0
weight_none h g d e = cond_const (eqb g.class 0) _ _ _ refl (rw e)

pub holds_bare : (s : Start) (h : History) → Admitted s h → (g : Group) (d : ℕ) → listed group_rules g (known h) ≡ false → holds h g d ≡ pos 0
holds_bare s [] a g d u = refl
holds_bare s (turned (opens p c) ∷ h) a g d u = refl
holds_bare s (turned (posts k b p w) ∷ h) a g d u = measured_elsewhere k b p w g d (holds h g d) (posted_elsewhere k b p w h g u) ∙ holds_bare s h a.0 g d (unknown_before (turned (posts k b p w)) h g u)
holds_bare s (turned (weighs m) ∷ h) a g d u =
    cond_const (eqb g.class 0) _ _ _ (holds_bare s h a.0 g d u) (ap pos (weight_none (turned (weighs m) ∷ h) g d (standing_bare h g _ (members s h a.0) u)))
holds_bare s (turned divides ∷ h) a g d u = wrote_bare h g d u
holds_bare s (turned withdraws ∷ h) a g d u = refl
holds_bare s (e ∷ h) a g d u = holds_bare s h a.0 g d (unknown_before e h g u)

pub allocated_bare : (h : History) (g : Group) (r : ℕ) → listed group_rules g (known h) ≡ false → allocated h g r ≡ pos 0
allocated_bare [] g r u = refl
allocated_bare (turned divides ∷ h) g r u = cond_const (eqb (r % 2) (period_now h)) _ _ _ (λ i. allocated_bare h g r u i +ℤ wrote_bare h g (r / 2) u i) (allocated_bare h g r u)
allocated_bare (e ∷ h) g r u = allocated_bare h g r (unknown_before e h g u)

pub counted_bare : (s : Start) (h : History) → Admitted s h → (g : Group) (r : ℕ) → listed group_rules g (known h) ≡ false → counted h g r ≡ pos 0
counted_bare s [] a g r u = refl
counted_bare s (moved (reads c st) ∷ h) a g r u =
    let m = members s h a.0 in
    rw (listed_apart group_rules group_order (group_of h c) g (known h) (m.in_known c (listed_read s h c st m a.2)) u) (counted_bare s h a.0 g r u)
counted_bare s (e ∷ h) a g r u = counted_bare s h a.0 g r (unknown_before e h g u)
