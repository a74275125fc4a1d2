-- Rows in their order, and the first of them that breaks it. Assumes nothing.
use Rattle.std.proofs.Common.{◌≡◌, ℕ, ◌+◌, ◌<◌, ◌≤◌, true, false, List, length, get_or, Option, Some, None, Bor, sym, ap, ◌∙◌, subst, add-zero, cond, nat_lt, ◌==◌, ◌⊎◌, inl, inr, ⊎_elim, is_lt, nat_cmp, Ordering, arith}
use Rattle.std.specs.List.{IsSubsliceAt}
use Rattle.std.specs.List.Sorted.{IsPermutation, IsSorted}
use Rattle.std.specs.Ordering.{ordering_then}
use Rattle.std.proofs.lemmas.Bool.{false≢true}
use Rattle.std.proofs.lemmas.Bool.Decides.{nat_tests}
use Rattle.std.specs.Option.{IfSome, IsSomeAnd}
use Rattle.fault.specs.declared.cause.Fault.{Fault}
use Rattle.allocation.specs.Lines.{quarter_refusal}
use Rattle.quarter.specs.declared.input.Row.{Row}
use Rattle.quarter.specs.declared.refusal.Reason.TheVariants.{GroupTwice, Quarter}
use Rattle.quarter.specs.declared.refusal.Refusal.{Refusal}
use Rattle.quarter.specs.Meaning.{Described}
use Rattle.quarter.specs.Reports.{posted, Breaks, InOrder, Precedes, Refuses}
use Rattle.quarter.specs.Rows.{before, blank, line_of, Rising}

-- a window of two rows, at its place
abbrev pub IsPair : ℕ → List Row → ℕ → Bor (List Row) → Type 0
IsPair n rows k y = (length y.now ≡ n) × (k + n ≤ length rows) × IsSubsliceAt n rows k y.now

-- the two rows of a window
pair_is : (rows : List Row) (k : ℕ) (y : Bor (List Row)) → IsPair 2 rows k y → before (get_or y.now 0 blank) (get_or y.now 1 blank) ≡ before (get_or rows k blank) (get_or rows (k + 1) blank)
pair_is rows k y p =
    let a = p.2.2 0 blank (omega arith) ∙ ap (λ n. get_or rows n blank) (add-zero k) in
    let b = p.2.2 1 blank (omega arith) in
    λ i. before (a i) (b i)

rising_at : {P : Bor (List Row) → Type 0} (rows : List Row) (k : ℕ) (o : Option (Bor (List Row))) → ((y : Bor (List Row)) → P y → before (get_or y.now 0 blank) (get_or y.now 1 blank) ≡ true) → IfSome o (IsPair 2 rows k) → IsSomeAnd o P → before (get_or rows k blank) (get_or rows (k + 1) blank) ≡ true
rising_at rows k (Some y) tells p q = sym (pair_is rows k y p) ∙ tells y q
rising_at rows k None tells p q = absurd q

-- the first window whose second row does not come after its first
pub breaks_at : {P : Bor (List Row) → Type 0} (rows : List Row) (at : ℕ → Option (Bor (List Row))) (i : ℕ) (x : Bor (List Row)) (r : Refusal) → ((k : ℕ) → IfSome (at k) (IsPair 2 rows k)) → at i ≡ Some x
    → before (get_or x.now 0 blank) (get_or x.now 1 blank) ≡ false → ((k : ℕ) → k < i → IsSomeAnd (at k) P) → ((y : Bor (List Row)) → P y → before (get_or y.now 0 blank) (get_or y.now 1 blank) ≡ true)
    → r ≡ record { line = (get_or x.now 1 blank).line; reason = GroupTwice } → Breaks rows r
breaks_at rows at i x r w e here before_it tells is =
    let p : IsPair 2 rows i x = subst (λ o. IfSome o (IsPair 2 rows i)) e (w i) in
    record {
      place = i;
      within = omega (arith, p.1);
      first = λ k l. rising_at rows k (at k) tells (w k) (before_it k l);
      here = sym (pair_is rows i x p) ∙ here;
      is = is ∙ ap (λ (row : Row). record { line = row.line; reason = GroupTwice }) (p.2.2 1 blank (omega arith));
    }

-- ---- rows that are sorted

-- what the derived order of rows compares: the group, then the line, then the weights
abbrev pub compared : Row → Row → Ordering
compared a b =
    ordering_then (ordering_then (nat_cmp a.group.brp b.group.brp) (ordering_then (nat_cmp a.group.supplier b.group.supplier) (nat_cmp a.group.class b.group.class)))
    (ordering_then (nat_cmp a.line b.line) (ordering_then (nat_cmp a.offtake b.offtake) (nat_cmp a.feed_in b.feed_in)))

group_of : (a b : Row) → a.group.brp ≡ b.group.brp → a.group.supplier ≡ b.group.supplier → a.group.class ≡ b.group.class → a.group ≡ b.group
group_of a b p q r = λ i. record { brp = p i; supplier = q i; class = r i }

-- by numbers alone
ordered_by : (b1 s1 c1 l1 b2 s2 c2 l2 : ℕ) (rest : Ordering)
    → is_lt (ordering_then (ordering_then (nat_cmp b2 b1) (ordering_then (nat_cmp s2 s1) (nat_cmp c2 c1))) (ordering_then (nat_cmp l2 l1) rest)) ≡ false
    → (cond (b1 == b2) (cond (s1 == s2) (nat_lt c1 c2) (nat_lt s1 s2)) (nat_lt b1 b2) ≡ true) ⊎ ((b1 ≡ b2) × (s1 ≡ s2) × (c1 ≡ c2) × (l1 ≤ l2))
ordered_by b1 s1 c1 l1 b2 s2 c2 l2 rest h = grind (arith, nat_tests)

precedes : (a b : Row) → is_lt (compared b a) ≡ false → Precedes a b
precedes a b h = ⊎_elim inl (λ e. inr (group_of a b e.0 e.1 e.2, e.3)) (ordered_by a.group.brp a.group.supplier a.group.class a.line b.group.brp b.group.supplier b.group.class b.line _ h)

pub in_order : (given s : List Row) → IsPermutation given s → IsSorted compared s → InOrder given s
in_order given s all sorted = record { all = all; order = λ k l. precedes (get_or s k blank) (get_or s (k + 1) blank) (sorted k blank (omega arith) l) }

same_group : (a b : Row) → Precedes a b → before a b ≡ false → a.group ≡ b.group
same_group a b (inl t) f = absurd (false≢true (sym f ∙ t))
same_group a b (inr e) f = e.0

-- rows in order that do not rise have a group twice
pub twice : (last : ℕ) (q : Described) (s : List Row) (r : Refusal) → InOrder q.rows s → Breaks s r → Refuses last q r
twice last q s r ordered breaks =
    record {
      rows = s;
      ordered = ordered;
      why = inl (
        ap (λ x. x.reason) breaks.is,
        record {
          place = breaks.place;
          within = breaks.within;
          first = breaks.first;
          again = same_group (get_or s breaks.place blank) (get_or s (breaks.place + 1) blank) (ordered.order breaks.place breaks.within) breaks.here;
          line_is = ap (λ x. x.line) breaks.is;
        },
      );
    }

-- rows in order that rise, and that cannot be divided
pub not_divided : (last : ℕ) (q : Described) (s : List Row) (r : Refusal) → InOrder q.rows s → Rising s → (fault : Fault) × (quarter_refusal (posted q) (line_of s) (record { 0 = 0 }) ≡ Some fault) × (r ≡ record { line = last; reason = Quarter fault }) → Refuses last q r
not_divided last q s r ordered order h = record { rows = s; ordered = ordered; why = inr (record { order = order; fault = h.0; refused = h.1; is = h.2 }) }
