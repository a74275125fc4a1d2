-- Own tables hold no more rows than they may, and name only parties and classes in range. Assumes nothing.
use Rattle.std.proofs.Common.{◌≡◌, ℕ, ◌+◌, ◌≤◌, min, Bool, true, false, cond, not, ◌&&◌, ltb, List, [], ◌∷◌, length, is_some, Some, None, refl, ap, ◌∙◌, subst, arith}
use Rattle.std.proofs.lemmas.Bool.{both_ways, cond_both}
use Rattle.std.proofs.lemmas.List.{length-map}
use Rattle.std.proofs.lemmas.Bool.Decides.{nat_tests}
use Rattle.record.specs.declared.entry.Enrolment.{Enrolment}
use Rattle.rows.specs.declared.connection.ConnectionRow.{ConnectionRow}
use Rattle.rows.specs.declared.group.Group.{Group}
use Rattle.rows.specs.Groups.{group_named}
use Rattle.tables.specs.BookRows.{connection_rules, group_rules}
use Rattle.tables.specs.Rules.{Rules, same}
use Rattle.ledger.specs.Checks.{first, full, missing, outside, elsewhere, largest_party, of_connection, pair_checks, moving_checks, wrong_party}
use Rattle.ledger.specs.Events.{History, enrols, switches, leaves, posts, moved, turned}
use Rattle.ledger.specs.Histories.{Start, Admitted, connections, groups, month_at, move_checks, turn_checks}
use Rattle.ledger.specs.Keys.{listed, listing, unlisting}
use Rattle.ledger.specs.Model.{new_group}
use Rattle.ledger.specs.Postings.{measured}
use Rattle.ledger.specs.Quantities.{connection, codes, known, group_of}
use Rattle.ledger.proofs.Basics.{inside, group_order, all_quiet, quiet, both_quiet, found, either_way}
use Rattle.ledger.proofs.Keyed.{same_is, listing_listed, listed_listing}
use Rattle.ledger.proofs.Members.{members, row_at, is_enrolled, listed_switch}
use Rattle.ledger.proofs.Own.{group_look}
use Rattle.ledger.proofs.Rows.{ledger_row}
use Rattle.ledger.proofs.Turns.{shown}

-- parties and class of a group in range
pub record Named (g : Group) : Type 0 where
  pub brp : g.brp ≤ 65535
  pub supplier : g.supplier ≤ 65535
  pub class : g.class ≤ 16

-- a key that joins, or was there
joins : (j : Group) (ks : List Group) → Named j → ((g : Group) → listed group_rules g ks ≡ true → Named g) → (g : Group) → listed group_rules g (listing group_rules j ks) ≡ true → Named g
joins j ks new old g l =
    either_way (same group_rules j g) (Named g)
    (λ t. subst Named (same_is group_rules group_order j g t) new)
    (λ f. old g (rw (listed_listing group_rules group_order j g ks, f) at l))

abbrev AllNamed : History → Type 0
AllNamed h = (g : Group) → listed group_rules g (known h) ≡ true → Named g

enrol_named : (s : Start) (h : History) (x : Enrolment) → first (move_checks s h (enrols x)) ≡ None → Named (group_named x.brp x.supplier x.class)
enrol_named s h x none =
    let q = all_quiet (move_checks s h (enrols x)) none in
    record { brp = inside _ _ _ (quiet _ _ q.0); supplier = inside _ _ _ (quiet _ _ q.1.0); class = inside _ _ _ (quiet _ _ q.1.1.0) }

switch_named : (s : Start) (h : History) (c b p : ℕ) → Admitted s h → AllNamed h → first (move_checks s h (switches c b p)) ≡ None → Named (group_named b p (connection h c).class)
switch_named s h c b p a ih none =
    let m = members s h a in
    let old = ih (group_of h c) (m.in_known c (listed_switch s h c b p m none)) in
    let q = all_quiet (pair_checks b p) (both_quiet (pair_checks b p) (of_connection (connections h) c (moving_checks s.rooms (month_at s h) (groups h) b p)) none).0 in
    record { brp = inside _ _ _ (quiet _ _ q.0); supplier = inside _ _ _ (quiet _ _ q.1.0); class = old.class }

post_named : (s : Start) (h : History) (k b p w : ℕ) → first (turn_checks s h (posts k b p w)) ≡ None → measured k ≡ true → Named (group_named b p 0)
post_named s h k b p w none m =
    let q = all_quiet (turn_checks s h (posts k b p w)) none in
    record { brp = inside 1 _ b (party b (quiet _ _ q.1.0)); supplier = inside 1 _ p (party p (quiet _ _ q.1.1.0)); class = omega arith }
  where
    party : (n : ℕ) → wrong_party k n ≡ false → outside 1 largest_party n ≡ false
    party n e = rw m at e

post_all : (s : Start) (h : History) (k b p w : ℕ) → AllNamed h → first (turn_checks s h (posts k b p w)) ≡ None → AllNamed (turned (posts k b p w) ∷ h)
post_all s h k b p w ih none g =
    cond_both (measured k) _ _ (λ ks. listed group_rules g ks ≡ true → Named g)
    (λ e. joins (group_named b p 0) (known h) (post_named s h k b p w none e) ih g)
    (λ _. ih g)

pub all_named : (s : Start) (h : History) → Admitted s h → AllNamed h
all_named s [] a g l = absurd (both_ways _ refl l)
all_named s (moved (enrols x) ∷ h) a g l = joins _ (known h) (enrol_named s h x a.2) (all_named s h a.0) g l
all_named s (moved (switches c b p) ∷ h) a g l = joins _ (known h) (switch_named s h c b p a.0 (all_named s h a.0) a.2) (all_named s h a.0) g l
all_named s (turned (posts k b p w) ∷ h) a g l = post_all s h k b p w (all_named s h a.0) a.2 g l
all_named s (e ∷ h) a g l = all_named s h a.0 g l

-- how many keys there are
length_listing : {R K : Type 0} (rules : Rules R K) (k : K) (ks : List K) → length (listing rules k ks) ≤ length ks + 1
length_listing rules k [] = omega arith
length_listing rules k (j ∷ js) = grind (arith, length_listing rules k js)

length_unlisting : {R K : Type 0} (rules : Rules R K) (k : K) (ks : List K) → length (unlisting rules k ks) ≤ length ks
length_unlisting rules k [] = omega arith
length_unlisting rules k (j ∷ js) = grind (arith, length_unlisting rules k js)

pub groups_long : (s : Start) (h : History) → Admitted s h → length (groups h) ≡ length (known h)
groups_long s h a = ap length (shown s h a) ∙ length-map (known h) (ledger_row h)

room_left : (n most room : ℕ) → not (ltb n (min most room)) ≡ false → n + 1 ≤ most
room_left n most room e = grind (arith, nat_tests)

-- a group that is missing joins only where there is place
group_joins : (s : Start) (h : History) (g : Group) → Admitted s h → length (known h) ≤ 1024 → (missing (groups h) g ≡ true → full group_rules s.rooms.groups (groups h) ≡ false) → length (listing group_rules g (known h)) ≤ 1024
group_joins s h g a few place =
    either_way (listed group_rules g (known h)) (length (listing group_rules g (known h)) ≤ 1024)
    (λ t. rw (listing_listed group_rules group_order g (known h) (members s h a).groups_ordered t) few)
    (λ u.
    let gone : missing (groups h) g ≡ true = ap (λ o. not (is_some o)) (group_look s h a g ∙ ap (λ b. cond b (Some (ledger_row h g)) None) u) in
    let r = room_left _ _ _ (place gone) in
    let e = groups_long s h a in
    let l = length_listing group_rules g (known h) in
    omega arith)

and_false : (a b : Bool) → (a && b) ≡ false → a ≡ true → b ≡ false
and_false a b e t = rw t at e

switch_place : (s : Start) (h : History) (c b p : ℕ) → Admitted s h → length (known h) ≤ 1024 → first (move_checks s h (switches c b p)) ≡ None → length (known (moved (switches c b p) ∷ h)) ≤ 1024
switch_place s h c b p a few none =
    let m = members s h a in
    let n = group_named b p (connection h c).class in
    let f = found (connections h) c (moving_checks s.rooms (month_at s h) (groups h) b p) (both_quiet (pair_checks b p) (of_connection (connections h) c (moving_checks s.rooms (month_at s h) (groups h) b p)) none).1 in
    let is = is_enrolled h c f.0 m f.1 in
    let q = quiet _ _ (all_quiet (moving_checks s.rooms (month_at s h) (groups h) b p f.0) f.2).0 in
    let at : (elsewhere (row_at h c) b p && (missing (groups h) n && full group_rules s.rooms.groups (groups h))) ≡ false = subst (λ (conn : ConnectionRow). (elsewhere conn b p && (missing (groups h) (new_group conn b p) && full group_rules s.rooms.groups (groups h))) ≡ false) is.1 q in
    either_way (same group_rules (group_of h c) n) (length (listing group_rules n (known h)) ≤ 1024)
    (λ t. rw (listing_listed group_rules group_order n (known h) m.groups_ordered (subst (λ (q : Group). listed group_rules q (known h) ≡ true) (same_is group_rules group_order (group_of h c) n t) (m.in_known c is.0))) few)
    (λ e. group_joins s h n a few (and_false _ _ (and_false _ _ at (ap not e))))

post_place : (s : Start) (h : History) (k b p w : ℕ) → Admitted s h → length (known h) ≤ 1024 → first (turn_checks s h (posts k b p w)) ≡ None → length (known (turned (posts k b p w) ∷ h)) ≤ 1024
post_place s h k b p w a few none =
    cond_both (measured k) _ _ (λ ks. length ks ≤ 1024)
    (λ e. group_joins s h (group_named b p 0) a few (and_false _ _ (and_false _ _ (quiet _ _ (all_quiet (turn_checks s h (posts k b p w)) none).1.1.1.1.0) e)))
    (λ _. few)

pub groups_few : (s : Start) (h : History) → Admitted s h → length (known h) ≤ 1024
groups_few s [] a = omega arith
groups_few s (moved (enrols x) ∷ h) a = group_joins s h _ a.0 (groups_few s h a.0) (and_false _ _ (quiet _ _ (all_quiet (move_checks s h (enrols x)) a.2).1.1.1.1.1.1.1.1.1.1.1.1.0))
groups_few s (moved (switches c b p) ∷ h) a = switch_place s h c b p a.0 (groups_few s h a.0) a.2
groups_few s (turned (posts k b p w) ∷ h) a = post_place s h k b p w a.0 (groups_few s h a.0) a.2
groups_few s (e ∷ h) a = groups_few s h a.0

connections_long : (s : Start) (h : History) → Admitted s h → length (connections h) ≡ length (codes h)
connections_long s h a = ap length (members s h a).rows ∙ length-map (codes h) (row_at h)

pub codes_few : (s : Start) (h : History) → Admitted s h → length (codes h) ≤ 1000000
codes_few s [] a = omega arith
codes_few s (moved (enrols x) ∷ h) a =
    let r = room_left _ _ _ (quiet _ _ (all_quiet (move_checks s h (enrols x)) a.2).1.1.1.1.1.1.1.1.1.1.1.0) in
    let e = connections_long s h a.0 in
    let l = length_listing connection_rules x.code (codes h) in
    omega arith
codes_few s (moved (leaves c) ∷ h) a = let ih = codes_few s h a.0 in let l = length_unlisting connection_rules c (codes h) in omega arith
codes_few s (e ∷ h) a = codes_few s h a.0
