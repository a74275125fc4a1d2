-- Who is enrolled: the table of connections is the history's. Assumes nothing.
use Rattle.std.proofs.Common.{◌≡◌, ℕ, Bool, true, false, cond, List, [], ◌∷◌, map, ℤ, pos, is_some, Some, None, sym, refl, ap, ◌∙◌, arith}
use Rattle.std.proofs.lemmas.Bool.{both_ways, cond_both, false_from_ne_true}
use Rattle.std.proofs.lemmas.Option.{cond_some}
use Rattle.record.specs.declared.entry.Enrolment.{Enrolment}
use Rattle.rows.specs.declared.connection.ConnectionRow.{ConnectionRow}
use Rattle.rows.specs.declared.group.Group.{Group}
use Rattle.rows.specs.Groups.{group_named}
use Rattle.tables.specs.BookRows.{connection_rules, group_rules}
use Rattle.tables.specs.Rules.{Rules, look, same, with_row, without, exchanged}
use Rattle.tables.proofs.Finding.{same_equal}
use Rattle.ledger.specs.Checks.{first, of_connection, pair_checks, moving_checks}
use Rattle.ledger.specs.Events.{Event, History, enrols, reads, switches, leaves, posts, moved, turned}
use Rattle.ledger.specs.Histories.{Start, Admitted, connections, groups, month_at, move_checks}
use Rattle.ledger.specs.Keys.{listed, listing, Ordered, total, net}
use Rattle.ledger.specs.Laws.{connection_row}
use Rattle.ledger.specs.Model.{connection_at, enrolled_row, read_row, moved_row}
use Rattle.ledger.specs.Postings.{measured}
use Rattle.ledger.specs.Quantities.{connection, codes, known, group_of, done}
use Rattle.ledger.proofs.Basics.{connection_order, group_order, either_way, all_quiet, quiet, both_quiet, found}
use Rattle.ledger.proofs.Keyed.{same_is, look_made, without_made, with_row_made, exchanged_rows, ordered_listing, ordered_unlisting, listed_listing, listed_unlisting, total_grows, net_listing}

pub cond_const : {A : Type 0} (b : Bool) (x y z : A) → x ≡ z → y ≡ z → cond b x y ≡ z
cond_const b x y z e f = cond_both b x y (λ v. v ≡ z) (λ _. e) (λ _. f)

pub same_comm : {R K : Type 0} (rules : Rules R K) (a b : K) → same rules a b ≡ same rules b a
same_comm rules a b = grind arith

-- the row of a connection after a history
abbrev pub row_at : History → ℕ → ConnectionRow
row_at h c = connection_row c (connection h c)

pub listed_more : (j g : Group) (ks : List Group) → listed group_rules g ks ≡ true → listed group_rules g (listing group_rules j ks) ≡ true
listed_more j g ks l = listed_listing group_rules group_order j g ks ∙ rw l (cond_const (same group_rules j g) true true true refl refl)

pub listed_self : (g : Group) (ks : List Group) → listed group_rules g (listing group_rules g ks) ≡ true
listed_self g ks = listed_listing group_rules group_order g g ks ∙ rw (same_equal group_rules group_order g g refl)

-- an entry adds at most one to the groups that are known
known_grows : (e : Event) (h : History) (P : List Group → Type 0) → P (known h) → ((g : Group) → P (listing group_rules g (known h))) → P (known (e ∷ h))
known_grows (moved (enrols x)) h P same more = more _
known_grows (moved (switches c b p)) h P same more = more _
known_grows (turned (posts k b p w)) h P same more = cond_both (measured k) _ _ P (λ _. more _) (λ _. same)
known_grows e h P same more = same

-- a group that was known stays known
pub known_stays : (e : Event) (h : History) (g : Group) → listed group_rules g (known h) ≡ true → listed group_rules g (known (e ∷ h)) ≡ true
known_stays e h g l = known_grows e h (λ ks. listed group_rules g ks ≡ true) l (λ j. listed_more j g (known h) l)

ordered_stays : (e : Event) (h : History) → Ordered group_rules (known h) → Ordered group_rules (known (e ∷ h))
ordered_stays e h o = known_grows e h (Ordered group_rules) o (λ j. ordered_listing group_rules group_order j (known h) o)

-- where nothing counts for a group that is not known, one more known group changes no total
pub total_known : (f : Group → ℕ) (e : Event) (h : History) → Ordered group_rules (known h) → ((g : Group) → listed group_rules g (known h) ≡ false → f g ≡ 0) → total f (known (e ∷ h)) ≡ total f (known h)
total_known f e h o bare = known_grows e h (λ ks. total f ks ≡ total f (known h)) refl (λ j. total_grows group_rules group_order f j (known h) o (bare j))

pub net_known : (f : Group → ℤ) (e : Event) (h : History) → Ordered group_rules (known h) → ((g : Group) → listed group_rules g (known h) ≡ false → f g ≡ pos 0) → net f (known (e ∷ h)) ≡ net f (known h)
net_known f e h o bare = known_grows e h (λ ks. net f ks ≡ net f (known h)) refl (λ j. net_listing group_rules group_order f j (known h) o (bare j))

pub record Members (h : History) : Type 0 where
  pub rows : connections h ≡ map (row_at h) (codes h)
  pub ordered : Ordered connection_rules (codes h)
  pub groups_ordered : Ordered group_rules (known h)
  pub in_known : (c : ℕ) → listed connection_rules c (codes h) ≡ true → listed group_rules (group_of h c) (known h) ≡ true

pub looked : (h : History) (c : ℕ) → Members h → look connection_rules (connections h) c ≡ cond (listed connection_rules c (codes h)) (Some (row_at h c)) None
looked h c m = ap (λ l. look connection_rules l c) m.rows ∙ look_made connection_rules connection_order (row_at h) (λ k. refl) c (codes h)

-- a connection that was found is enrolled, and is the history's
pub is_enrolled : (h : History) (c : ℕ) (conn : ConnectionRow) → Members h → look connection_rules (connections h) c ≡ Some conn → (listed connection_rules c (codes h) ≡ true) × (conn ≡ row_at h c)
is_enrolled h c conn m e = let q = cond_some _ _ _ (sym (looked h c m) ∙ e) in (q.0, sym q.1)

pub not_enrolled : (h : History) (c : ℕ) → Members h → is_some (look connection_rules (connections h) c) ≡ false → listed connection_rules c (codes h) ≡ false
not_enrolled h c m e = false_from_ne_true _ (λ t. both_ways _ e (rw (looked h c m, t)))

pub at_enrolled : (h : History) (c : ℕ) → Members h → listed connection_rules c (codes h) ≡ true → connection_at (connections h) c ≡ row_at h c
at_enrolled h c m l = let e = looked h c m in rw (e, l)

-- a connection is another one, or this one
pub other_way : (a b : ℕ) → same connection_rules a b ≡ false → same connection_rules b a ≡ false
other_way a b e = same_comm connection_rules b a ∙ e

pub self : (c : ℕ) → same connection_rules c c ≡ true
self c = same_equal connection_rules connection_order c c refl

-- what an accepted entry says of the connection it names
pub unlisted_enrol : (s : Start) (h : History) (x : Enrolment) → Members h → first (move_checks s h (enrols x)) ≡ None → listed connection_rules x.code (codes h) ≡ false
unlisted_enrol s h x m a = not_enrolled h x.code m (quiet _ _ (all_quiet (move_checks s h (enrols x)) a).1.1.1.1.1.1.0)

pub listed_read : (s : Start) (h : History) (c : ℕ) (st : List ℕ) → Members h → first (move_checks s h (reads c st)) ≡ None → listed connection_rules c (codes h) ≡ true
listed_read s h c st m a = let f = found (connections h) c _ a in (is_enrolled h c f.0 m f.1).0

pub listed_switch : (s : Start) (h : History) (c b p : ℕ) → Members h → first (move_checks s h (switches c b p)) ≡ None → listed connection_rules c (codes h) ≡ true
listed_switch s h c b p m a = let f = found (connections h) c (moving_checks s.rooms (month_at s h) (groups h) b p) (both_quiet (pair_checks b p) (of_connection (connections h) c (moving_checks s.rooms (month_at s h) (groups h) b p)) a).1 in (is_enrolled h c f.0 m f.1).0

pub listed_leave : (s : Start) (h : History) (c : ℕ) → Members h → first (move_checks s h (leaves c)) ≡ None → listed connection_rules c (codes h) ≡ true
listed_leave s h c m a = let f = found (connections h) c _ a in (is_enrolled h c f.0 m f.1).0

enrol_members : (s : Start) (h : History) (x : Enrolment) → Members h → first (move_checks s h (enrols x)) ≡ None → Members (moved (enrols x) ∷ h)
enrol_members s h x ih a =
    let new = unlisted_enrol s h x ih a in
    let h' = moved (enrols x) ∷ h in
    record {
      rows = ap (with_row connection_rules (enrolled_row (done h) x)) ih.rows ∙ with_row_made connection_rules connection_order (row_at h) (row_at h') (λ k. refl) x.code (λ j ne. rw (other_way j x.code ne)) _ (rw (self x.code)) refl (codes h) new ih.ordered;
      ordered = ordered_listing connection_rules connection_order x.code (codes h) ih.ordered;
      groups_ordered = ordered_listing group_rules group_order _ (known h) ih.groups_ordered;
      in_known = λ c l. either_way (same connection_rules x.code c) (listed group_rules (group_of h' c) (known h') ≡ true) (λ t. rw t (listed_self (group_named x.brp x.supplier x.class) (known h))) (λ f. rw f (listed_more (group_named x.brp x.supplier x.class) (group_of h c) (known h) (ih.in_known c (rw (listed_listing connection_rules connection_order x.code c (codes h), f) at l))));
    }

read_members : (s : Start) (h : History) (c : ℕ) (st : List ℕ) → Members h → first (move_checks s h (reads c st)) ≡ None → Members (moved (reads c st) ∷ h)
read_members s h c st ih a =
    let here = listed_read s h c st ih a in
    let h' = moved (reads c st) ∷ h in
    record {
      rows = ap (exchanged connection_rules (read_row (done h) st (connection_at (connections h) c))) ih.rows ∙ exchanged_rows connection_rules connection_order (row_at h) (row_at h') (λ k. refl) c (λ j ne. rw (other_way j c ne)) _ (rw (at_enrolled h c ih here, self c)) refl (codes h) ih.ordered;
      ordered = ih.ordered;
      groups_ordered = ih.groups_ordered;
      in_known = λ k l. grind (arith, ih.in_known k l);
    }

switch_members : (s : Start) (h : History) (c b p : ℕ) → Members h → first (move_checks s h (switches c b p)) ≡ None → Members (moved (switches c b p) ∷ h)
switch_members s h c b p ih a =
    let here = listed_switch s h c b p ih a in
    let h' = moved (switches c b p) ∷ h in
    record {
      rows = ap (exchanged connection_rules (moved_row b p (connection_at (connections h) c))) ih.rows ∙ exchanged_rows connection_rules connection_order (row_at h) (row_at h') (λ k. refl) c (λ j ne. rw (other_way j c ne)) _ (rw (at_enrolled h c ih here, self c)) refl (codes h) ih.ordered;
      ordered = ih.ordered;
      groups_ordered = ordered_listing group_rules group_order _ (known h) ih.groups_ordered;
      in_known = λ k l. either_way (same connection_rules c k) (listed group_rules (group_of h' k) (known h') ≡ true) (λ t. rw (t, sym (same_is connection_rules connection_order c k t)) (listed_self (group_named b p (connection h c).class) (known h))) (λ f. rw f (listed_more (group_named b p (connection h c).class) (group_of h k) (known h) (ih.in_known k l)));
    }

leave_members : (h : History) (c : ℕ) → Members h → Members (moved (leaves c) ∷ h)
leave_members h c ih =
    record {
      rows = ap (without connection_rules c) ih.rows ∙ without_made connection_rules connection_order (row_at h) (λ k. refl) c (codes h);
      ordered = ordered_unlisting connection_rules connection_order c (codes h) ih.ordered;
      groups_ordered = ih.groups_ordered;
      in_known = λ k l. ih.in_known k (listed_unlisting connection_rules connection_order c k (codes h) l);
    }

pub members : (s : Start) (h : History) → Admitted s h → Members h
members s [] a = record { rows = refl; ordered = tt; groups_ordered = tt; in_known = λ c l. absurd (both_ways _ refl l) }
members s (moved (enrols x) ∷ h) a = enrol_members s h x (members s h a.0) a.2
members s (moved (reads c st) ∷ h) a = read_members s h c st (members s h a.0) a.2
members s (moved (switches c b p) ∷ h) a = switch_members s h c b p (members s h a.0) a.2
members s (moved (leaves c) ∷ h) a = leave_members h c (members s h a.0)
members s (e ∷ h) a = let ih = members s h a.0 in record { rows = ih.rows; ordered = ih.ordered; groups_ordered = ordered_stays e h ih.groups_ordered; in_known = λ c l. known_stays e h (group_of h c) (ih.in_known c l) }
