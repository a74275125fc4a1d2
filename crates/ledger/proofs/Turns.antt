-- The rows of groups from turn to turn of a quarter. Assumes nothing.
use Rattle.std.proofs.Common.{◌≡◌, ℕ, ◌+◌, ◌/◌, ◌%◌, ◌<◌, cond, eqb, List, [], ◌∷◌, map, get_or, ℤ, pos, ◌+ℤ◌, sym, refl, ap, ◌∙◌, arith}
use Rattle.std.proofs.lemmas.Bool.{both_ways}
use Rattle.profile.specs.Meanings.{Meaning}
use Rattle.rows.specs.declared.group.Group.{Group}
use Rattle.rows.specs.declared.group.GroupRow.{GroupRow}
use Rattle.rows.specs.Dividing.{held, both_held, volume_of, divided_row, divided_rows}
use Rattle.rows.specs.Groups.{group_named, blank, cleared}
use Rattle.rows.specs.Registers.{four, two, register}
use Rattle.rows.specs.Weighing.{weight_in, weighed}
use Rattle.tables.specs.BookRows.{group_rules}
use Rattle.ledger.specs.Events.{History, enrols, reads, switches, leaves, opens, posts, weighs, divides, withdraws, moved, turned, phase, slip}
use Rattle.ledger.specs.Histories.{Start, Admitted, groups}
use Rattle.ledger.specs.Keys.{Ordered}
use Rattle.ledger.specs.Model.{quarter, posted_row, at_group}
use Rattle.ledger.specs.Postings.{measured}
use Rattle.ledger.specs.Quantities.{done, period_now, known, standing_sum, weight, weights, residual, gets, wrote, allocated, counted}
use Rattle.ledger.proofs.Basics.{group_order, four_read, two_read, either_way}
use Rattle.ledger.proofs.Keyed.{at_key_made, map_map, map_same, map_listed}
use Rattle.ledger.proofs.Members.{members}
use Rattle.ledger.proofs.Bare.{gets_later, holds, holds_posted, holds_weights, period_small, measured_elsewhere}
use Rattle.ledger.proofs.Rows.{made, made_same, ledger_row, row_bare, Shown, other, self, rows_enrol, rows_read, rows_switch, rows_leave}

-- a register of a direction and a period is one of the four
pub register_small : (d p : ℕ) → d < 2 → p < 2 → register d p < 4
register_small d p h k = omega arith

rows_cleared : (h h' : History) → Shown h → ((g : Group) → ledger_row h' g ≡ cleared (ledger_row h g)) → map cleared (groups h) ≡ map (ledger_row h') (known h)
rows_cleared h h' ih e = ap (map cleared) ih ∙ map_map (ledger_row h) cleared (ledger_row h') e (known h)

-- a row of which only the quarter volumes are others
abbrev holding : History → Group → (ℕ → ℤ) → GroupRow
holding h g q = made g (standing_sum h g) q (allocated h g) (counted h g)

same_held : (h : History) (g : Group) (q q' : ℕ → ℤ) → ((i : ℕ) → i < 2 → q i ≡ q' i) → holding h g q ≡ holding h g q'
same_held h g q q' e = made_same g (standing_sum h g) (standing_sum h g) q q' (allocated h g) (allocated h g) (counted h g) (counted h g) (λ i _. refl) e (λ i _. refl) (λ i _. refl)

-- the weight that a source gives a row is the group's
pub weight_row : (h : History) (m : Meaning) (g : Group) (d : ℕ) → d < 2 → period_now h < 2 → weight_in m (quarter (done h)) (period_now h) (ledger_row h g) d ≡ weight (turned (weighs m) ∷ h) g d
weight_row h m g d l k = grind (arith, four_read (standing_sum h g) 0 (register d (period_now h)) (register_small d (period_now h) l k))

weighed_made : (h : History) (m : Meaning) (g : Group) → period_now h < 2 → ledger_row (turned (weighs m) ∷ h) g ≡ weighed m (quarter (done h)) (period_now h) (ledger_row h g)
weighed_made h m g k = grind (arith, weight_row h m g 0 (omega arith) k, weight_row h m g 1 (omega arith) k)

rows_post : (s : Start) (h : History) (k b p w : ℕ) → Admitted s h → Shown h → Shown (turned (posts k b p w) ∷ h)
rows_post s h k b p w a ih =
    let h' = turned (posts k b p w) ∷ h in
    let n = group_named b p 0 in
    either_way (measured k) (Shown h')
    (λ e. rw e (ap (at_group n (posted_row k w)) ih
    ∙ at_key_made group_rules group_order (ledger_row h) (ledger_row h') (λ j. refl) n
    (λ j ne. same_held h j (holds h' j) (holds h j) (λ i _. measured_elsewhere k b p w j i (holds h j i) (λ _. other j n ne)))
    blank (posted_row k w) (grind (arith, e, self n)) (known h) (row_bare s h a n) (members s h a).groups_ordered))
    (λ e. rw e (ih ∙ map_same (ledger_row h') (ledger_row h) (λ j. same_held h j (holds h j) (holds h' j) (λ i _. sym (measured_elsewhere k b p w j i (holds h j i) (λ t. absurd (both_ways _ e t))))) (known h)))

-- a row with these volumes written, and added in the running period
abbrev written : ℕ → (ℕ → ℤ) → GroupRow → GroupRow
written p v row = record { group = row.group; standing = row.standing; quarter = two v; month = four (λ r. cond (eqb (r % 2) p) (get_or row.month r (pos 0) +ℤ v (r / 2)) (get_or row.month r (pos 0))); real = row.real }

written_same : (p : ℕ) (v u : ℕ → ℤ) (row : GroupRow) → ((d : ℕ) → d < 2 → v d ≡ u d) → written p v row ≡ written p u row
written_same p v u row e = grind (arith, e 0, e 1)

-- what a group gets: by the line of weights, and of class 0 what it holds
abbrev got : ℕ → ℤ → (Group → ℕ → ℕ) → (Group → ℕ → ℤ) → ℕ → List Group → Group → ℕ → ℤ
got t r w q before ks g d = cond (eqb g.class 0) (q g d) (gets t r w before ks g d)

-- the rows of a table that hold these weights
pub record Weighted (row : Group → GroupRow) (w : Group → ℕ → ℕ) (q : Group → ℕ → ℤ) : Type 0 where
  pub named : (g : Group) → (row g).group ≡ g
  pub weight_is : (g : Group) (d : ℕ) → d < 2 → held (row g) d ≡ w g d
  pub quarter_is : (g : Group) (d : ℕ) → d < 2 → get_or (row g).quarter d (pos 0) ≡ q g d

pub first_gets : (t : ℕ) (r : ℤ) (row : Group → GroupRow) (w : Group → ℕ → ℕ) (q : Group → ℕ → ℤ) → Weighted row w q → (before : ℕ) (k : Group) (ks : List Group) (d : ℕ) → d < 2 → volume_of t r before (row k) d ≡ got t r w q before (k ∷ ks) k d
first_gets t r row w q ok before k ks d l = grind (arith, ok.named k, ok.weight_is k 0 (omega arith), ok.weight_is k d l, ok.quarter_is k d l, self k)

along_gets : (t : ℕ) (r : ℤ) (p : ℕ) (row : Group → GroupRow) (w : Group → ℕ → ℕ) (q : Group → ℕ → ℤ) → Weighted row w q → (ks : List Group) → Ordered group_rules ks → (before : ℕ) → divided_rows t r p before (map row ks) ≡ map (λ g. written p (got t r w q before ks g) (row g)) ks
along_gets t r p row w q ok [] o before = refl
along_gets t r p row w q ok (k ∷ ks) o before =
    let here : divided_row t r p before (row k) ≡ written p (got t r w q before (k ∷ ks) k) (row k) = written_same p (volume_of t r before (row k)) (got t r w q before (k ∷ ks) k) (row k) (first_gets t r row w q ok before k ks) in
    let both : both_held (row k) ≡ w k 0 + w k 1 = λ i. ok.weight_is k 0 (omega arith) i + ok.weight_is k 1 (omega arith) i in
    let ih = along_gets t r p row w q ok ks o.1 (before + both_held (row k)) in
    let rest : map (λ g. written p (got t r w q (before + both_held (row k)) ks g) (row g)) ks ≡ map (λ g. written p (got t r w q before (k ∷ ks) g) (row g)) ks =
    map_listed group_rules group_order (λ g. written p (got t r w q before (k ∷ ks) g) (row g)) (λ g. written p (got t r w q (before + both_held (row k)) ks g) (row g)) ks
    (λ g l. written_same p (got t r w q (before + both_held (row k)) ks g) (got t r w q before (k ∷ ks) g) (row g)
    (λ d _. ap (λ n. got t r w q (before + n) ks g d) both ∙ ap (cond (eqb g.class 0) (q g d)) (sym (gets_later t r w before k g ks d o.0 l)))) in
    λ i. here i ∷ (ih ∙ rest) i

-- while a slip is out, the rows hold the weights
pub weighted : (s : Start) (h : History) → Admitted s h → phase h ≡ slip → Weighted (ledger_row h) (weight h) (holds h)
weighted s h a out = record {
  named = λ g. refl;
  weight_is = λ g d l. grind (arith, two_read (holds h g) (pos 0) d l, holds_weights s h a out g d);
  quarter_is = λ g d l. two_read (holds h g) (pos 0) d l;
}

pub rows_divide : (s : Start) (h : History) → Admitted s h → phase h ≡ slip → Shown h → Shown (turned divides ∷ h)
rows_divide s h a out ih =
    let h' = turned divides ∷ h in
    ap (divided_rows (weights h) (residual h) (period_now h) 0) ih
    ∙ along_gets (weights h) (residual h) (period_now h) (ledger_row h) (weight h) (holds h) (weighted s h a out) (known h) (members s h a).groups_ordered 0
    ∙ map_same (ledger_row h') (λ g. written (period_now h) (got (weights h) (residual h) (weight h) (holds h) 0 (known h) g) (ledger_row h g)) (λ g. same_row g) (known h)
  where
    same_volume : (g : Group) (d : ℕ) → got (weights h) (residual h) (weight h) (holds h) 0 (known h) g d ≡ wrote h g d
    same_volume g d = grind (arith, holds_posted h g d)

    same_row : (g : Group) → written (period_now h) (got (weights h) (residual h) (weight h) (holds h) 0 (known h) g) (ledger_row h g) ≡ ledger_row (turned divides ∷ h) g
    same_row g = grind (arith, same_volume g 0, same_volume g 1)

-- after every history the table of groups is the history's
pub shown : (s : Start) (h : History) → Admitted s h → Shown h
shown s [] a = refl
shown s (moved (enrols x) ∷ h) a = rows_enrol s h x a.0 (shown s h a.0) a.2
shown s (moved (reads c st) ∷ h) a = rows_read s h c st a.0 (shown s h a.0) a.2
shown s (moved (switches c b p) ∷ h) a = rows_switch s h c b p a.0 (shown s h a.0) a.2
shown s (moved (leaves c) ∷ h) a = rows_leave s h c a.0 (shown s h a.0) a.2
shown s (turned (opens p c) ∷ h) a = rows_cleared h (turned (opens p c) ∷ h) (shown s h a.0) (λ g. refl)
shown s (turned (posts k b p w) ∷ h) a = rows_post s h k b p w a.0 (shown s h a.0)
shown s (turned (weighs m) ∷ h) a = ap (map (weighed m (quarter (done h)) (period_now h))) (shown s h a.0) ∙ map_map (ledger_row h) (weighed m (quarter (done h)) (period_now h)) (ledger_row (turned (weighs m) ∷ h)) (λ g. weighed_made h m g (period_small s h a.0)) (known h)
shown s (turned divides ∷ h) a = rows_divide s h a.0 a.1 (shown s h a.0)
shown s (turned withdraws ∷ h) a = rows_cleared h (turned withdraws ∷ h) (shown s h a.0) (λ g. refl)
shown s (e ∷ h) a = shown s h a.0
