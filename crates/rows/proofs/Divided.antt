-- The rows of a quarter that is divided, from the first row on. Assumes nothing.
use Rattle.std.proofs.Common.{◌≡◌, ℕ, ◌+◌, true, false, List, ◌∷◌, ◌++◌, take, drop, ℤ, ◌+ℤ◌, sym, ap, ◌∙◌, subst, arith}
use Rattle.std.proofs.lemmas.Bool.{and_parts, cond-false}
use Rattle.std.proofs.lemmas.Int.{ints}
use Rattle.allocation.specs.declared.split.Running.{Running}
use Rattle.allocation.specs.declared.split.Split.{Split}
use Rattle.rows.specs.declared.group.GroupRow.{GroupRow}
use Rattle.rows.specs.Dividing.{held_total, unsigned, all_unsigned, divided_rows, month_passed, got_in}
use Rattle.rows.specs.Steps.{row_passed, gained, RowStepped}

-- the rows that are left hold what is left of T
pub record Ahead (q : Split) (rest : List GroupRow) (n : Running) : Type 0 where
  pub split : n.split ≡ q
  pub signs : all_unsigned rest ≡ true
  pub left : n.passed + held_total rest ≡ q.total

module _ (q : Split) (rest : List GroupRow) (row : GroupRow) (rows : List GroupRow) (cut : rest ≡ row ∷ rows) (p : Running) (h : Ahead q rest p) where
  signs_ahead : (unsigned row ≡ true) × (all_unsigned rows ≡ true)
  signs_ahead = and_parts _ _ (sym (ap all_unsigned cut) ∙ h.signs)

  pub ahead_more : (n : Running) → RowStepped p row n → Ahead q rows n
  ahead_more n step = record {
    split = step.split ∙ h.split;
    signs = signs_ahead.1;
    left = omega (arith, h.left, ap held_total cut, step.passed);
  }

gathered : (out gain next part whole rest : ℤ) → out +ℤ part ≡ whole → part ≡ gain +ℤ rest → next ≡ out +ℤ gain → next +ℤ rest ≡ whole
gathered out gain next part whole rest h cut e = omega (arith, ints)

-- n is where the split has come to, with the rows that are left
pub record Checking (q : Split) (period : ℕ) (rows rest : List GroupRow) (n : Running) : Type 0 where
  pub ahead : Ahead q rest n
  pub months : month_passed q.total q.residual period n.passed rest ≡ month_passed q.total q.residual period 0 rows
  pub offtake : n.offtake +ℤ got_in q.total q.residual 0 n.passed rest ≡ got_in q.total q.residual 0 0 rows
  pub feed_in : n.feed_in +ℤ got_in q.total q.residual 1 n.passed rest ≡ got_in q.total q.residual 1 0 rows

module _ (q : Split) (period : ℕ) (rows : List GroupRow) where
  module _ (rest : List GroupRow) (row : GroupRow) (more : List GroupRow) (cut : rest ≡ row ∷ more) (p : Running) (h : Checking q period rows rest p) where
    pub checking_more : (n : Running) → row_passed p.split.total p.split.residual period p.passed row ≡ false → RowStepped p row n → Checking q period rows more n
    checking_more n within step =
        let here : row_passed q.total q.residual period p.passed row ≡ false = subst (λ (s : Split). row_passed s.total s.residual period p.passed row ≡ false) h.ahead.split within in
        record {
          ahead = ahead_more q rest row more cut p h.ahead n step;
          months =
              ap (λ b. month_passed q.total q.residual period b more) step.passed
              ∙ sym (cond-false (row_passed q.total q.residual period p.passed row) _ _ here)
              ∙ sym (ap (month_passed q.total q.residual period p.passed) cut)
              ∙ h.months;
          offtake =
              ap (λ b. n.offtake +ℤ got_in q.total q.residual 0 b more) step.passed
              ∙ gathered _ _ _ _ _ _ h.offtake (ap (got_in q.total q.residual 0 p.passed) cut) (step.offtake ∙ ap (λ (s : Split). p.offtake +ℤ gained s.total s.residual p.passed row 0) h.ahead.split);
          feed_in =
              ap (λ b. n.feed_in +ℤ got_in q.total q.residual 1 b more) step.passed
              ∙ gathered _ _ _ _ _ _ h.feed_in (ap (got_in q.total q.residual 1 p.passed) cut) (step.feed_in ∙ ap (λ (s : Split). p.feed_in +ℤ gained s.total s.residual p.passed row 1) h.ahead.split);
        }

-- the first i rows are divided
pub record Writing (q : Split) (period : ℕ) (start rows : List GroupRow) (i : ℕ) (n : Running) : Type 0 where
  pub ahead : Ahead q (drop i rows) n
  pub within : month_passed q.total q.residual period n.passed (drop i rows) ≡ false
  pub written : take i rows ++ divided_rows q.total q.residual period n.passed (drop i rows) ≡ divided_rows q.total q.residual period 0 start
