-- The table of groups is the history's: each known group's row has its sums and volumes. Assumes nothing.
use Rattle.std.proofs.Common.{◌≡◌, ℕ, ◌+◌, ◌-◌, ◌<◌, true, false, cond, List, ◌∷◌, map, get_or, ℤ, pos, ◌+ℤ◌, None, sym, refl, ap, ◌∙◌, subst, arith}
use Rattle.record.specs.declared.entry.Enrolment.{Enrolment}
use Rattle.rows.specs.declared.group.Group.{Group}
use Rattle.rows.specs.declared.group.GroupRow.{GroupRow}
use Rattle.rows.specs.Groups.{group_named, blank}
use Rattle.rows.specs.Registers.{four, two, signed_in}
use Rattle.tables.specs.BookRows.{connection_rules, group_rules}
use Rattle.tables.specs.Rules.{same}
use Rattle.tables.proofs.Finding.{same_equal}
use Rattle.ledger.specs.Checks.{first}
use Rattle.ledger.specs.Events.{History, enrols, reads, switches, leaves, moved}
use Rattle.ledger.specs.Histories.{Start, Admitted, groups, move_checks}
use Rattle.ledger.specs.Keys.{listed}
use Rattle.ledger.specs.Model.{own_group, joined, parted, advanced_row, at_group, switch_groups}
use Rattle.ledger.specs.Quantities.{connection, codes, known, group_of, standing_sum, allocated, counted, advance_of}
use Rattle.ledger.proofs.Basics.{group_order, four_read, four_same, two_same, either_way}
use Rattle.ledger.proofs.Keyed.{same_is, at_key_made, listing_listed, map_same}
use Rattle.ledger.proofs.Members.{members, same_comm, row_at, at_enrolled, unlisted_enrol, listed_read, listed_switch, listed_leave}
use Rattle.ledger.proofs.Standing.{standing_enrol, standing_read, standing_switch, standing_leave, standing_bare}
use Rattle.ledger.proofs.Bare.{holds, holds_bare, allocated_bare, counted_bare}

-- a row of these sums and volumes
abbrev pub made : Group → (ℕ → ℕ) → (ℕ → ℤ) → (ℕ → ℤ) → (ℕ → ℤ) → GroupRow
made g st q m r = record { group = g; standing = four st; quarter = two q; month = four m; real = four r }

pub made_same : (g : Group) (st st' : ℕ → ℕ) (q q' m m' r r' : ℕ → ℤ) → ((i : ℕ) → i < 4 → st i ≡ st' i) → ((i : ℕ) → i < 2 → q i ≡ q' i) → ((i : ℕ) → i < 4 → m i ≡ m' i) → ((i : ℕ) → i < 4 → r i ≡ r' i) → made g st q m r ≡ made g st' q' m' r'
made_same g st st' q q' m m' r r' a b c d = grind (arith, four_same st st' a, two_same q q' b, four_same m m' c, four_same r r' d)

-- the row of a group after a history
abbrev pub ledger_row : History → Group → GroupRow
ledger_row h g = made g (standing_sum h g) (holds h g) (allocated h g) (counted h g)

pub row_bare : (s : Start) (h : History) → Admitted s h → (g : Group) → listed group_rules g (known h) ≡ false → ledger_row h g ≡ blank g
row_bare s h a g u =
    made_same g _ (λ _. 0) _ (λ _. pos 0) _ (λ _. pos 0) _ (λ _. pos 0)
    (λ i _. standing_bare h g i (members s h a) u)
    (λ i _. holds_bare s h a g i u)
    (λ i _. allocated_bare h g i u)
    (λ i _. counted_bare s h a g i u)

abbrev pub Shown : History → Type 0
Shown h = groups h ≡ map (ledger_row h) (known h)

pub other : (j g : Group) → same group_rules j g ≡ false → same group_rules g j ≡ false
other j g ne = same_comm group_rules g j ∙ ne

pub self : (g : Group) → same group_rules g g ≡ true
self g = same_equal group_rules group_order g g refl

-- a row of which only the standing sums are others
abbrev summed : History → Group → (ℕ → ℕ) → GroupRow
summed h g st = made g st (holds h g) (allocated h g) (counted h g)

same_sums : (h : History) (g : Group) (st st' : ℕ → ℕ) → ((i : ℕ) → i < 4 → st i ≡ st' i) → summed h g st ≡ summed h g st'
same_sums h g st st' e = made_same g st st' (holds h g) (holds h g) (allocated h g) (allocated h g) (counted h g) (counted h g) e (λ i _. refl) (λ i _. refl) (λ i _. refl)

pub rows_enrol : (s : Start) (h : History) (x : Enrolment) → Admitted s h → Shown h → first (move_checks s h (enrols x)) ≡ None → Shown (moved (enrols x) ∷ h)
rows_enrol s h x a ih none =
    let m = members s h a in
    let h' = moved (enrols x) ∷ h in
    let g = group_named x.brp x.supplier x.class in
    let new = unlisted_enrol s h x m none in
    ap (at_group g (joined x.volumes)) ih
    ∙ at_key_made group_rules group_order (ledger_row h) (ledger_row h') (λ k. refl) g
    (λ j ne. same_sums h j (standing_sum h' j) (standing_sum h j) (λ i _. standing_enrol h x j i new ∙ rw (other j g ne) (omega arith)))
    blank (joined x.volumes)
    (same_sums h g (standing_sum h' g) (λ i. get_or (four (standing_sum h g)) i 0 + get_or x.volumes i 0) (λ i l. standing_enrol h x g i new ∙ rw (self g, four_read (standing_sum h g) 0 i l)))
    (known h) (row_bare s h a g) m.groups_ordered

pub rows_read : (s : Start) (h : History) (c : ℕ) (st : List ℕ) → Admitted s h → Shown h → first (move_checks s h (reads c st)) ≡ None → Shown (moved (reads c st) ∷ h)
rows_read s h c st a ih none =
    let m = members s h a in
    let h' = moved (reads c st) ∷ h in
    let g = group_of h c in
    let here = listed_read s h c st m none in
    ap (λ conn. at_group (own_group conn) (advanced_row conn st) (groups h)) (at_enrolled h c m here)
    ∙ ap (at_group g (advanced_row (row_at h c) st)) ih
    ∙ at_key_made group_rules group_order (ledger_row h) (ledger_row h') (λ k. refl) g
    (λ j ne. made_same j (standing_sum h' j) (standing_sum h j) (holds h j) (holds h j) (allocated h j) (allocated h j) (counted h' j) (counted h j) (λ i _. standing_read h c st j i) (λ i _. refl) (λ i _. refl) (λ i _. rw (other j g ne)))
    blank (advanced_row (row_at h c) st)
    (made_same g (standing_sum h' g) (standing_sum h g) (holds h g) (holds h g) (allocated h g) (allocated h g) (counted h' g) (λ i. get_or (four (counted h g)) i (pos 0) +ℤ signed_in i (advance_of h c st i))
    (λ i _. standing_read h c st g i) (λ i _. refl) (λ i _. refl) (λ i l. rw (self g, four_read (counted h g) (pos 0) i l)))
    (known h) (row_bare s h a g) m.groups_ordered
    ∙ ap (map (ledger_row h')) (listing_listed group_rules group_order g (known h) m.groups_ordered (m.in_known c here))

-- a row without a connection's volumes, if it is of this group
abbrev left_sum : History → ℕ → Group → ℕ → ℕ
left_sum h c j i = standing_sum h j i - cond (same group_rules (group_of h c) j) (get_or (connection h c).volumes i 0) 0

abbrev without_in : History → ℕ → Group → GroupRow
without_in h c j = summed h j (left_sum h c j)

taken_out : (s : Start) (h : History) (c : ℕ) → Admitted s h → Shown h → listed connection_rules c (codes h) ≡ true → at_group (group_of h c) (parted (connection h c).volumes) (groups h) ≡ map (without_in h c) (known h)
taken_out s h c a ih here =
    let m = members s h a in
    let g = group_of h c in
    ap (at_group g (parted (connection h c).volumes)) ih
    ∙ at_key_made group_rules group_order (ledger_row h) (without_in h c) (λ k. refl) g
    (λ j ne. same_sums h j (left_sum h c j) (standing_sum h j) (λ i _. rw (other j g ne) (omega arith)))
    blank (parted (connection h c).volumes)
    (same_sums h g (left_sum h c g) (λ i. get_or (four (standing_sum h g)) i 0 - get_or (connection h c).volumes i 0) (λ i l. rw (self g, four_read (standing_sum h g) 0 i l)))
    (known h) (row_bare s h a g) m.groups_ordered
    ∙ ap (map (without_in h c)) (listing_listed group_rules group_order g (known h) m.groups_ordered (m.in_known c here))

pub rows_leave : (s : Start) (h : History) (c : ℕ) → Admitted s h → Shown h → first (move_checks s h (leaves c)) ≡ None → Shown (moved (leaves c) ∷ h)
rows_leave s h c a ih none =
    let here = listed_leave s h c (members s h a) none in
    let h' = moved (leaves c) ∷ h in
    ap (λ conn. at_group (own_group conn) (parted conn.volumes) (groups h)) (at_enrolled h c (members s h a) here)
    ∙ taken_out s h c a ih here
    ∙ map_same (ledger_row h') (without_in h c) (λ j. same_sums h j (left_sum h c j) (standing_sum h' j) (λ i _. omega (arith, standing_leave h c j i here))) (known h)

switch_own : (s : Start) (h : History) (c b p : ℕ) → Admitted s h → Shown h → listed connection_rules c (codes h) ≡ true → same group_rules (group_of h c) (group_named b p (connection h c).class) ≡ true
    → groups h ≡ map (ledger_row (moved (switches c b p) ∷ h)) (known (moved (switches c b p) ∷ h))
switch_own s h c b p a ih here own =
    let m = members s h a in
    let h' = moved (switches c b p) ∷ h in
    let n = group_named b p (connection h c).class in
    let is = same_is group_rules group_order (group_of h c) n own in
    ih
    ∙ map_same (ledger_row h') (ledger_row h)
    (λ j. same_sums h j (standing_sum h j) (standing_sum h' j) (λ i _. omega (arith, standing_switch h c b p j i m here, ap (λ q. cond (same group_rules q j) (get_or (connection h c).volumes i 0) 0) is)))
    (known h)
    ∙ ap (map (ledger_row h')) (sym (listing_listed group_rules group_order n (known h) m.groups_ordered (subst (λ (q : Group). listed group_rules q (known h) ≡ true) is (m.in_known c here))))

switch_away : (s : Start) (h : History) (c b p : ℕ) → Admitted s h → Shown h → listed connection_rules c (codes h) ≡ true → same group_rules (group_of h c) (group_named b p (connection h c).class) ≡ false
    → at_group (group_named b p (connection h c).class) (joined (connection h c).volumes) (at_group (group_of h c) (parted (connection h c).volumes) (groups h)) ≡ map (ledger_row (moved (switches c b p) ∷ h)) (known (moved (switches c b p) ∷ h))
switch_away s h c b p a ih here away =
    let m = members s h a in
    let h' = moved (switches c b p) ∷ h in
    let n = group_named b p (connection h c).class in
    ap (at_group n (joined (connection h c).volumes)) (taken_out s h c a ih here)
    ∙ at_key_made group_rules group_order (without_in h c) (ledger_row h') (λ k. refl) n
    (λ j ne. same_sums h j (standing_sum h' j) (left_sum h c j) (λ i _. omega (arith, standing_switch h c b p j i m here, ap (λ t. cond t (get_or (connection h c).volumes i 0) 0) (other j n ne))))
    blank (joined (connection h c).volumes)
    (same_sums h n (standing_sum h' n) (λ i. get_or (four (left_sum h c n)) i 0 + get_or (connection h c).volumes i 0)
    (λ i l. rw (four_read (left_sum h c n) 0 i l) (omega (arith, standing_switch h c b p n i m here, ap (λ t. cond t (get_or (connection h c).volumes i 0) 0) away, ap (λ t. cond t (get_or (connection h c).volumes i 0) 0) (self n)))))
    (known h) (λ u. same_sums h n (left_sum h c n) (standing_sum h n) (λ i _. rw away (omega arith)) ∙ row_bare s h a n u) m.groups_ordered

pub rows_switch : (s : Start) (h : History) (c b p : ℕ) → Admitted s h → Shown h → first (move_checks s h (switches c b p)) ≡ None → Shown (moved (switches c b p) ∷ h)
rows_switch s h c b p a ih none =
    let here = listed_switch s h c b p (members s h a) none in
    ap (λ conn. switch_groups conn b p (groups h)) (at_enrolled h c (members s h a) here)
    ∙ either_way (same group_rules (group_of h c) (group_named b p (connection h c).class)) (switch_groups (row_at h c) b p (groups h) ≡ map (ledger_row (moved (switches c b p) ∷ h)) (known (moved (switches c b p) ∷ h)))
    (λ t. rw t (switch_own s h c b p a ih here t))
    (λ f. rw f (switch_away s h c b p a ih here f))
