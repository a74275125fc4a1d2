-- Standing sums from entry to entry. Assumes nothing.
use Rattle.std.proofs.Common.{◌≡◌, ℕ, ◌+◌, ◌≤◌, true, false, cond, List, ◌∷◌, get_or, refl, ap, ◌∙◌, subst}
use Rattle.record.specs.declared.entry.Enrolment.{Enrolment}
use Rattle.rows.specs.declared.group.Group.{Group}
use Rattle.rows.specs.Groups.{group_named}
use Rattle.tables.specs.BookRows.{connection_rules, group_rules}
use Rattle.tables.specs.Rules.{same}
use Rattle.tables.proofs.Finding.{same_equal}
use Rattle.ledger.specs.Events.{History, enrols, reads, switches, leaves, moved}
use Rattle.ledger.specs.Keys.{listed}
use Rattle.ledger.specs.Quantities.{connection, codes, known, group_of, volume_in, standing_sum}
use Rattle.ledger.proofs.Basics.{connection_order, group_order, either_way}
use Rattle.ledger.proofs.Keyed.{listed_apart, total_listing, total_changed, total_unlisting, total_zero, total_one, total_same}
use Rattle.ledger.proofs.Members.{Members, other_way, self}

pub standing_enrol : (h : History) (x : Enrolment) (g : Group) (r : ℕ) → listed connection_rules x.code (codes h) ≡ false
    → standing_sum (moved (enrols x) ∷ h) g r ≡ standing_sum h g r + cond (same group_rules (group_named x.brp x.supplier x.class) g) (get_or x.volumes r 0) 0
standing_enrol h x g r new =
    let h' = moved (enrols x) ∷ h in
    total_listing connection_rules connection_order (volume_in h g r) (volume_in h' g r) x.code (λ j ne. rw (other_way j x.code ne)) (codes h) new
    ∙ ap (λ n. standing_sum h g r + n) (rw (self x.code))

pub standing_read : (h : History) (c : ℕ) (st : List ℕ) (g : Group) (r : ℕ) → standing_sum (moved (reads c st) ∷ h) g r ≡ standing_sum h g r
standing_read h c st g r =
    total_same (volume_in h g r) (volume_in (moved (reads c st) ∷ h) g r)
    (λ j. either_way (same connection_rules c j) (volume_in (moved (reads c st) ∷ h) g r j ≡ volume_in h g r j) (λ t. rw t) (λ f. rw f))
    (codes h)

pub standing_switch : (h : History) (c b p : ℕ) (g : Group) (r : ℕ) → Members h → listed connection_rules c (codes h) ≡ true
    → standing_sum (moved (switches c b p) ∷ h) g r + cond (same group_rules (group_of h c) g) (get_or (connection h c).volumes r 0) 0
    ≡ standing_sum h g r + cond (same group_rules (group_named b p (connection h c).class) g) (get_or (connection h c).volumes r 0) 0
standing_switch h c b p g r m here =
    let h' = moved (switches c b p) ∷ h in
    total_changed connection_rules connection_order (volume_in h g r) (volume_in h' g r) c (λ j ne. rw (other_way j c ne)) (codes h) m.ordered here
    ∙ ap (λ n. standing_sum h g r + n) (rw (self c))

pub standing_leave : (h : History) (c : ℕ) (g : Group) (r : ℕ) → listed connection_rules c (codes h) ≡ true
    → standing_sum (moved (leaves c) ∷ h) g r + cond (same group_rules (group_of h c) g) (get_or (connection h c).volumes r 0) 0 ≡ standing_sum h g r
standing_leave h c g r here = total_unlisting connection_rules connection_order (volume_in h g r) c (codes h) here

-- a connection counts in its own group
pub standing_own : (h : History) (c r : ℕ) → listed connection_rules c (codes h) ≡ true → get_or (connection h c).volumes r 0 ≤ standing_sum h (group_of h c) r
standing_own h c r here =
    subst (λ (n : ℕ). n ≤ standing_sum h (group_of h c) r) (rw (same_equal group_rules group_order (group_of h c) (group_of h c) refl))
    (total_one connection_rules connection_order (volume_in h (group_of h c) r) c (codes h) here)

-- nobody stands in a group that no entry named
pub standing_bare : (h : History) (g : Group) (r : ℕ) → Members h → listed group_rules g (known h) ≡ false → standing_sum h g r ≡ 0
standing_bare h g r m u =
    total_zero connection_rules connection_order (volume_in h g r) (codes h)
    (λ c l. rw (listed_apart group_rules group_order (group_of h c) g (known h) (m.in_known c l) u))
