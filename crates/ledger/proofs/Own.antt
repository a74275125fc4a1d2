-- What only foreign tables can give, own tables never give. Assumes nothing.
use Rattle.std.proofs.Common.{◌≡◌, ℕ, ◌+◌, ◌/◌, ◌%◌, ◌<◌, ◌≤◌, Bool, true, false, cond, not, ◌&&◌, eqb, ltb, List, [], ◌∷◌, ◌++◌, map, get_or, ℤ, pos, ◌+ℤ◌, nat_abs, is_some, Some, None, Option, sym, refl, ap, ◌∙◌, subst, arith, rules}
use Rattle.std.proofs.lemmas.Bool.{both_ways, cond_both, and_right, ltb-false, le-ltb, eq-eqb}
use Rattle.fault.specs.declared.cause.Fault.{Fault}
use Rattle.fault.specs.declared.cause.Fault.TheVariants.{NotEnrolled, NoPlace, ForeignTables, LimitPassed}
use Rattle.fault.specs.declared.cause.Limit.TheVariants.{Postings, Advances, Volume}
use Rattle.fault.specs.declared.cause.Quarter.{Quarter}
use Rattle.fault.specs.declared.cause.TableKind.TheVariants.{Groups}
use Rattle.allocation.specs.Scale.{most_volume}
use Rattle.profile.specs.Meanings.{Meaning}
use Rattle.rows.specs.declared.connection.ConnectionRow.{ConnectionRow}
use Rattle.rows.specs.declared.group.Group.{Group}
use Rattle.rows.specs.declared.group.GroupRow.{GroupRow}
use Rattle.rows.specs.Connections.{all_advances, row_advance, span}
use Rattle.rows.specs.Dividing.{all_unsigned, held_total, adds_to, month_passed, too_large, divided_rows, divided_row, both_held}
use Rattle.rows.specs.Groups.{group_named, has_profile}
use Rattle.rows.specs.Registers.{any_register, signed_in}
use Rattle.rows.specs.Settling.{month_in, real_in, volume_passed}
use Rattle.rows.specs.Weighing.{or_else, first_absent, row_absent, absent, row_weight}
use Rattle.tables.specs.BookRows.{code, connection_rules, group_rules}
use Rattle.tables.specs.Rules.{look}
use Rattle.ledger.specs.Checks.{Check, first, when, foreign, missing, most_posted, most_advanced, of_connection, stand_checks, naming_checks, gathering_checks, full, booking_checks, reading_checks, pair_checks, moving_checks, leaving_checks, first_unread, volume_checks, memory_checks}
use Rattle.ledger.specs.Events.{Move, Turn, History, Phase, enrols, reads, switches, leaves, opens, posts, weighs, puts_back, divides, withdraws, settles, turned, wants, phase, slip}
use Rattle.ledger.specs.Histories.{Start, Admitted, connections, groups, month_at, opened_at, move_checks, turn_checks}
use Rattle.ledger.specs.Keys.{listed, total}
use Rattle.ledger.specs.Laws.{NotForeign, Own}
use Rattle.ledger.specs.Model.{quarter, group_at}
use Rattle.ledger.specs.Postings.{gross, measured, kind_direction, measured_volume}
use Rattle.ledger.specs.Quantities.{done, period_now, posted, posted_to, connection, codes, known, group_of, standing_sum, weight, weights, residual, wrote, allocated, counted, real, advanced, advance_of}
use Rattle.ledger.proofs.Basics.{sign_size, sum_size, group_order, four_read, two_read, all_registers, either_way}
use Rattle.ledger.proofs.Keyed.{look_made}
use Rattle.ledger.proofs.Members.{members, cond_const, row_at, looked}
use Rattle.ledger.proofs.Standing.{standing_own}
use Rattle.ledger.proofs.Bare.{holds, holds_posted, holds_weights}
use Rattle.ledger.proofs.Bounds.{busy, quarters_small, done_within, done_small, posted_size, wrote_small, divide_size, allocated_within, advanced_within, counted_within, signed_size, one_of_four}
use Rattle.ledger.proofs.Rows.{ledger_row, row_bare}
use Rattle.ledger.proofs.Settle.{month_row, real_row, totals_small}
use Rattle.ledger.proofs.Turns.{Weighted, weighted, shown, rows_divide}

-- faults that own tables give too
abbrev tame_fault : Fault → Bool
tame_fault ForeignTables = false
tame_fault (LimitPassed Volume) = false
tame_fault f = true

abbrev Tame : Check → Type 0
Tame None = Unit {0}
Tame (Some f) = tame_fault f ≡ true

domestic : (c : Check) → Tame c → NotForeign c
domestic c t = record { not_foreign = λ e. both_ways _ refl (subst Tame e t); not_large = λ e. both_ways _ refl (subst Tame e t) }

tame_when : (b : Bool) (f : Fault) → tame_fault f ≡ true → Tame (when b f)
tame_when b f e = cond_both b _ _ Tame (λ _. e) (λ _. tt)

tame_quiet : (b : Bool) (f : Fault) → b ≡ false → Tame (when b f)
tame_quiet b f e = rw e tt

tame_or : (c d : Check) → Tame c → Tame d → Tame (or_else c d)
tame_or None d x y = y
tame_or (Some f) d x y = x

abbrev AllTame : List Check → Type 0
AllTame [] = Unit {0}
AllTame (c ∷ cs) = Tame c × AllTame cs

tame_first : (cs : List Check) → AllTame cs → Tame (first cs)
tame_first [] t = tt
tame_first (c ∷ cs) t = tame_or c (first cs) t.0 (tame_first cs t.1)

-- a check that speaks only where the one before it does
tame_after : (b c : Bool) (f g : Fault) (cs : List Check) → tame_fault f ≡ true → (b ≡ false → c ≡ false) → AllTame cs → Tame (first (when b f ∷ when c g ∷ cs))
tame_after true c f g cs e next t = e
tame_after false c f g cs e next t = tame_or (when c g) (first cs) (tame_quiet c g (next refl)) (tame_first cs t)

-- the row of a group, made or blank
pub group_look : (s : Start) (h : History) → Admitted s h → (g : Group) → look group_rules (groups h) g ≡ cond (listed group_rules g (known h)) (Some (ledger_row h g)) None
group_look s h a g = ap (λ rows. look group_rules rows g) (shown s h a) ∙ look_made group_rules group_order (ledger_row h) (λ k. refl) g (known h)

pub group_is : (s : Start) (h : History) → Admitted s h → (g : Group) → group_at (groups h) g ≡ ledger_row h g
group_is s h a g =
    let e = group_look s h a g in
    either_way (listed group_rules g (known h)) (group_at (groups h) g ≡ ledger_row h g)
    (λ t. rw (e, t))
    (λ u. rw (e, u) (sym (row_bare s h a g u)))

small_volume : (z : ℤ) → nat_abs z ≤ most_volume → too_large z ≡ false
small_volume z l = le-ltb most_volume (nat_abs z) l

-- what a row says of the standing sums
pub standing_is : (s : Start) (h : History) → Admitted s h → (g : Group) (r : ℕ) → r < 4 → get_or (group_at (groups h) g).standing r 0 ≡ standing_sum h g r
standing_is s h a g r l = ap (λ row. get_or row.standing r 0) (group_is s h a g) ∙ four_read (standing_sum h g) 0 r l

-- the group of an enrolled connection has its row, with sums no less than its own
own_connection : (s : Start) (h : History) (c : ℕ) → Admitted s h → listed connection_rules c (codes h) ≡ true → foreign (groups h) (row_at h c) ≡ false
own_connection s h c a l =
    let g = group_of h c in
    let here = (members s h a).in_known c l in
    let there : missing (groups h) g ≡ false = ap (λ o. not (is_some o)) (group_look s h a g ∙ ap (λ b. cond b (Some (ledger_row h g)) None) here) in
    rw there (all_registers (λ r. ltb (get_or (group_at (groups h) g).standing r 0) (get_or (connection h c).volumes r 0))
    (λ r k. le-ltb _ _ (rw (standing_is s h a g r k) (standing_own h c r l))))

-- the checks of a connection that is looked for
tame_found : (s : Start) (h : History) (c : ℕ) (checks : ConnectionRow → List Check) → Admitted s h → (listed connection_rules c (codes h) ≡ true → Tame (first (checks (row_at h c)))) → Tame (first (of_connection (connections h) c checks))
tame_found s h c checks a there =
    let says = λ (o : Option ConnectionRow). Tame (first (elim o [ Some conn ↦ checks conn | None ↦ Some (NotEnrolled (code c)) ∷ [] ])) in
    subst says (sym (looked h c (members s h a))) (cond_both (listed connection_rules c (codes h)) _ _ says there (λ _. refl))

-- real volumes stay small where all advances do
read_small : (s : Start) (h : History) (c : ℕ) (st : List ℕ) → Admitted s h → ltb most_advanced (advanced h + all_advances (row_at h c) st) ≡ false → any_register (λ r. too_large (get_or (group_at (groups h) (group_of h c)).real r (pos 0) +ℤ signed_in r (row_advance (row_at h c) st r))) ≡ false
read_small s h c st a e =
    let g = group_of h c in
    let l = ltb-false _ _ e in
    all_registers (λ r. too_large (get_or (group_at (groups h) g).real r (pos 0) +ℤ signed_in r (row_advance (row_at h c) st r)))
    (λ r k.
    let is : get_or (group_at (groups h) g).real r (pos 0) ≡ counted h g r = ap (λ row. get_or row.real r (pos 0)) (group_is s h a g) ∙ four_read (counted h g) (pos 0) r k in
    let x = counted_within h g r k in
    let y = advanced_within s h a in
    let z = signed_size r (advance_of h c st r) in
    let o = one_of_four (advance_of h c st) r k in
    let t = sum_size (counted h g r) (signed_in r (advance_of h c st r)) in
    ap (λ v. too_large (v +ℤ signed_in r (advance_of h c st r))) is ∙ small_volume (counted h g r +ℤ signed_in r (advance_of h c st r)) (omega arith))

tame_front : (xs ys : List Check) → AllTame xs → Tame (first ys) → Tame (first (xs ++ ys))
tame_front [] ys t y = y
tame_front (x ∷ xs) ys t y = tame_or x (first (xs ++ ys)) t.0 (tame_front xs ys t.1 y)

read_tame : (s : Start) (h : History) (c : ℕ) (st : List ℕ) → Admitted s h → Tame (first (move_checks s h (reads c st)))
read_tame s h c st a =
    tame_found s h c (reading_checks (month_at s h) (groups h) st) a
    (λ l. tame_front (stand_checks (span (connection h c).digits) st) (booking_checks (month_at s h) (groups h) st (row_at h c)) (search (rules, tame_when)) (tame_or (when (foreign (groups h) (row_at h c)) ForeignTables) _ (tame_quiet _ _ (own_connection s h c a l)) (tame_after _ _ (LimitPassed Advances) (LimitPassed Volume) [] refl (read_small s h c st a) tt)))

move_tame : (s : Start) (h : History) → Admitted s h → (m : Move) → Tame (first (move_checks s h m))
move_tame s h a (enrols x) = tame_first (move_checks s h (enrols x)) (search (rules, tame_when))
move_tame s h a (reads c st) = read_tame s h c st a
move_tame s h a (switches c b p) =
    tame_front (pair_checks b p) (of_connection (connections h) c (moving_checks s.rooms (month_at s h) (groups h) b p)) (search (rules, tame_when))
    (tame_found s h c (moving_checks s.rooms (month_at s h) (groups h) b p) a (λ l. tame_first (moving_checks s.rooms (month_at s h) (groups h) b p (row_at h c)) (search (rules, tame_when, tame_quiet _ ForeignTables (own_connection s h c a l)))))
move_tame s h a (leaves c) = tame_found s h c (leaving_checks (month_at s h) (groups h)) a (λ l. tame_first (leaving_checks (month_at s h) (groups h) (row_at h c)) (search (rules, tame_when, tame_quiet _ ForeignTables (own_connection s h c a l))))

-- what is posted stays small where all postings do
post_small : (s : Start) (h : History) (k b p w : ℕ) → Admitted s h → ltb most_posted (gross (posted h) + w) ≡ false → (measured k && too_large (get_or (group_at (groups h) (group_named b p 0)).quarter (kind_direction k) (pos 0) +ℤ measured_volume k w)) ≡ false
post_small s h k b p w a e =
    let g = group_named b p 0 in
    let l = ltb-false _ _ e in
    let d = direction in
    let is : get_or (group_at (groups h) g).quarter (kind_direction k) (pos 0) ≡ posted_to h g (kind_direction k) = ap (λ row. get_or row.quarter (kind_direction k) (pos 0)) (group_is s h a g) ∙ two_read (holds h g) (pos 0) (kind_direction k) d ∙ holds_posted h g (kind_direction k) refl in
    let x = posted_size h g (kind_direction k) d in
    let y = sign_size (eqb k 3) w in
    let t = sum_size (posted_to h g (kind_direction k)) (measured_volume k w) in
    ap (λ v. measured k && too_large (v +ℤ measured_volume k w)) is ∙ and_right (measured k) _ (small_volume (posted_to h g (kind_direction k) +ℤ measured_volume k w) (omega arith))
  where
    direction : kind_direction k < 2
    direction = cond_both (eqb k 3) _ _ (λ d. d < 2) (λ _. omega arith) (λ _. omega arith)

absent_tame : (row : GroupRow) (d : ℕ) (q : Quarter) (o : Option ℕ) → Tame (absent row d q o)
absent_tame row d q (Some w) = tt
absent_tame row d q None = refl

line_tame : (m : Meaning) (q : Quarter) (p : ℕ) (rows : List GroupRow) → Tame (first_absent m q p rows)
line_tame m q p [] = tt
line_tame m q p (row ∷ rows) =
    tame_or (row_absent m q p row) (first_absent m q p rows)
    (cond_both (has_profile row) _ _ Tame (λ _. tame_or _ _ (absent_tame row 0 q (row_weight m q p row 0)) (absent_tame row 1 q (row_weight m q p row 1))) (λ _. tt))
    (line_tame m q p rows)

-- while a slip is out, the rows hold weights that add up to T
rows_unsigned : (s : Start) (h : History) → Admitted s h → phase h ≡ slip → (ks : List Group) → all_unsigned (map (ledger_row h) ks) ≡ true
rows_unsigned s h a out [] = refl
rows_unsigned s h a out (g ∷ gs) = grind (arith, holds_weights s h a out g 0, holds_weights s h a out g 1, rows_unsigned s h a out gs)

rows_held : (row : Group → GroupRow) (w : Group → ℕ → ℕ) (q : Group → ℕ → ℤ) → Weighted row w q → (ks : List Group) → held_total (map row ks) ≡ total (λ g. w g 0 + w g 1) ks
rows_held row w q ok [] = refl
rows_held row w q ok (g ∷ gs) = λ i. (ok.weight_is g 0 (omega arith) i + ok.weight_is g 1 (omega arith) i) + rows_held row w q ok gs i

pub own_weights : (s : Start) (h : History) → Admitted s h → phase h ≡ slip → adds_to (weights h) (groups h) ≡ true
own_weights s h a out =
    ap (adds_to (weights h)) (shown s h a)
    ∙ ap (λ b. b && eqb (held_total (map (ledger_row h) (known h))) (weights h)) (rows_unsigned s h a out (known h))
    ∙ eq-eqb _ _ (rows_held (ledger_row h) (weight h) (holds h) (weighted s h a out) (known h))

-- some month volume of a row beyond its limit
abbrev row_passed : ℕ → GroupRow → Bool
row_passed p row = any_register (λ r. cond (eqb (r % 2) p) (too_large (get_or row.month r (pos 0))) false)

abbrev rows_passed : ℕ → List GroupRow → Bool
rows_passed p [] = false
rows_passed p (row ∷ rows) = cond (row_passed p row) true (rows_passed p rows)

passed_after : (t : ℕ) (r : ℤ) (p before : ℕ) (rows : List GroupRow) → month_passed t r p before rows ≡ rows_passed p (divided_rows t r p before rows)
passed_after t r p before [] = refl
passed_after t r p before (row ∷ rows) = ap (cond (row_passed p (divided_row t r p before row)) true) (passed_after t r p (before + both_held row) rows)

months_small : (h : History) (p : ℕ) → ((g : Group) (r : ℕ) → r < 4 → nat_abs (allocated h g r) ≤ most_volume) → (ks : List Group) → rows_passed p (map (ledger_row h) ks) ≡ false
months_small h p small [] = refl
months_small h p small (g ∷ gs) =
    ap (λ b. cond b true (rows_passed p (map (ledger_row h) gs)))
    (all_registers (λ r. cond (eqb (r % 2) p) (too_large (get_or (ledger_row h g).month r (pos 0))) false)
    (λ r l. cond_const (eqb (r % 2) p) _ _ _ (ap too_large (month_row h g r l) ∙ small_volume (allocated h g r) (small g r l)) refl))
    ∙ months_small h p small gs

pub own_months : (s : Start) (h : History) → Admitted s h → phase h ≡ slip → month_passed (weights h) (residual h) (period_now h) 0 (groups h) ≡ false
own_months s h a out =
    passed_after (weights h) (residual h) (period_now h) 0 (groups h)
    ∙ ap (rows_passed (period_now h)) (rows_divide s h a out (shown s h a))
    ∙ months_small (turned divides ∷ h) (period_now h)
    (λ g r l.
    let x = divide_size (eqb (r % 2) (period_now h)) (allocated h g r) (wrote h g (r / 2)) (done h) (allocated_within s h a g r l) (wrote_small s h a out g (r / 2) (omega arith)) in
    let y = subst (λ (p : Phase). done h + busy p ≤ s.quarters) out (done_within s h a) in
    let z = quarters_small s h a in
    omega arith)
    (known h)

pub real_small : (s : Start) (h : History) → Admitted s h → (g : Group) (r : ℕ) → r < 4 → nat_abs (real h g r) ≤ most_volume
real_small s h a g r l =
    let x = allocated_within s h a g r l in
    let d = done_small s h a in
    let y = counted_within h g r l in
    let z = advanced_within s h a in
    either_way (eqb g.class 0) (nat_abs (real h g r) ≤ most_volume) (λ t. rw t (omega arith)) (λ f. rw f (omega arith))

pub allocated_small : (s : Start) (h : History) → Admitted s h → (g : Group) (r : ℕ) → r < 4 → nat_abs (allocated h g r) ≤ most_volume
allocated_small s h a g r l = let x = allocated_within s h a g r l in let d = done_small s h a in omega arith

volumes_small : (s : Start) (h : History) → Admitted s h → (ks : List Group) → volume_passed (map (ledger_row h) ks) ≡ false
volumes_small s h a [] = refl
volumes_small s h a (g ∷ gs) =
    ap (λ b. cond b true (volume_passed (map (ledger_row h) gs)))
    (all_registers (λ r. cond (too_large (month_in (ledger_row h g) r)) true (too_large (real_in (ledger_row h g) r)))
    (λ r l.
    ap (λ b. cond b true (too_large (real_in (ledger_row h g) r))) (ap too_large (month_row h g r l) ∙ small_volume (allocated h g r) (allocated_small s h a g r l))
    ∙ ap too_large (real_row h g r l) ∙ small_volume (real h g r) (real_small s h a g r l)))
    ∙ volumes_small s h a gs

unread_tame : (q : ℕ) (conns : List ConnectionRow) → Tame (first_unread q conns)
unread_tame q [] = tt
unread_tame q (conn ∷ conns) = cond_both (eqb conn.mark q) _ _ Tame (λ _. unread_tame q conns) (λ _. refl)

none_tame : (c : Check) → c ≡ None → Tame c
none_tame c e = subst Tame (sym e) tt

volume_tame : (s : Start) (h : History) → Admitted s h → AllTame (volume_checks (month_at s h) (groups h))
volume_tame s h a = (tame_quiet _ _ (ap volume_passed (shown s h a) ∙ volumes_small s h a (known h)), (none_tame _ (totals_small s h a 0 (omega arith)), (none_tame _ (totals_small s h a 1 (omega arith)), tt)))

post_tame : (s : Start) (h : History) (k b p w : ℕ) → Admitted s h → Tame (first (turn_checks s h (posts k b p w)))
post_tame s h k b p w a =
    tame_front (naming_checks k b p w) (gathering_checks s.rooms (opened_at h) (groups h) k b p w) (search (rules, tame_when))
    (tame_or (when (measured k && (missing (groups h) (group_named b p 0) && full group_rules s.rooms.groups (groups h))) (NoPlace Groups)) _ (tame_when _ _ refl) (tame_after _ _ (LimitPassed Postings) (LimitPassed Volume) [] refl (post_small s h k b p w a) tt))

turn_tame : (s : Start) (h : History) → Admitted s h → (t : Turn) → phase h ≡ wants t → Tame (first (turn_checks s h t))
turn_tame s h a (opens p c) ok = tame_first (turn_checks s h (opens p c)) (search (rules, tame_when))
turn_tame s h a (posts k b p w) ok = post_tame s h k b p w a
turn_tame s h a (weighs m) ok = tame_first (turn_checks s h (weighs m)) (line_tame m (quarter (done h)) (period_now h) (groups h), search (rules, tame_when))
turn_tame s h a puts_back ok = tt
turn_tame s h a divides ok = tame_first (turn_checks s h divides) (tame_quiet _ _ (ap not (own_weights s h a ok)), (tame_quiet _ _ (own_months s h a ok), tt))
turn_tame s h a withdraws ok = tt
turn_tame s h a settles ok = tame_first (turn_checks s h settles) (tame_when _ _ refl, (unread_tame (done h) (connections h), volume_tame s h a))

pub own_tables : (s : Start) (h : History) → Admitted s h → Own s h
own_tables s h a = record {
  moves = λ _ m. domestic _ (move_tame s h a m);
  turns = λ t ok. domestic _ (turn_tame s h a t ok);
  pages = λ _ memory. domestic _ (tame_front (volume_checks (month_at s h) (groups h)) (memory_checks (groups h) memory) (volume_tame s h a) (tame_first (memory_checks (groups h) memory) (search (rules, tame_when))));
}
