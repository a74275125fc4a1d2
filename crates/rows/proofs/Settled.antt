-- The rows of a month that is settled, from the first row on. Assumes nothing.
use Rattle.std.proofs.Common.{◌≡◌, ℕ, ◌+◌, ◌*◌, ◌^◌, ◌<◌, ◌≤◌, Bool, true, false, cond, ◌||◌, List, [], ◌∷◌, length, get_or, drop, ℤ, pos, ◌+ℤ◌, nat_abs, SFits, sym, refl, ap, ◌∙◌, arith, ltb-false}
use mir.Syntax.{w128}
use Rattle.std.specs.List.{list_any}
use Rattle.std.proofs.lemmas.Bool.{cond-false, cond_both, or_parts}
use Rattle.std.proofs.lemmas.List.{drop_more}
use Rattle.std.proofs.lemmas.Int.{ints}
use Rattle.fault.specs.declared.cause.Period.{Period}
use Rattle.fault.specs.declared.cause.Period.TheVariants.{Normal, Low}
use Rattle.fault.specs.Values.{period_number}
use Rattle.allocation.specs.Scale.{most_volume}
use Rattle.rows.specs.Dividing.{too_large}
use Rattle.rows.specs.Groups.{has_profile}
use Rattle.rows.specs.Registers.{any_register}
use Rattle.rows.specs.declared.group.GroupRow.{GroupRow}
use Rattle.rows.specs.Settling.{volume_passed, month_in, real_in, profiled_real}
use Rattle.rows.specs.RowAmounts.{register_passed, row_volume_passed, row_real}

either : (a b : Bool) → (a || b) ≡ cond a true b
either true b = refl
either false b = refl

pub some_volume_passed : (rows : List GroupRow) → list_any row_volume_passed rows ≡ volume_passed rows
some_volume_passed [] = refl
some_volume_passed (row ∷ rows) = either (row_volume_passed row) _ ∙ ap (cond (row_volume_passed row) true) (some_volume_passed rows)

module _ (rows : List GroupRow) (i : ℕ) (d : GroupRow) (h : volume_passed (drop i rows) ≡ volume_passed rows) (l : i < length rows) where
  pub one_within : row_volume_passed (get_or rows i d) ≡ false → volume_passed (drop (i + 1) rows) ≡ volume_passed rows
  one_within within = sym (cond-false (row_volume_passed (get_or rows i d)) _ _ within) ∙ sym (ap volume_passed (drop_more rows i d l)) ∙ h

both_within : (a b : Bool) → cond a true b ≡ false → (a ≡ false) × (b ≡ false)
both_within a b h = or_parts a b (either a b ∙ h)

all_within : (f : ℕ → Bool) → any_register f ≡ false → (f 0 ≡ false) × ((f 1 ≡ false) × ((f 2 ≡ false) × (f 3 ≡ false)))
all_within f h =
    let first = both_within (f 0) _ h in
    let second = both_within (f 1) _ first.1 in
    (first.0, (second.0, both_within (f 2) _ second.1))

real_within : (row : GroupRow) (r : ℕ) → register_passed row r ≡ false → nat_abs (real_in row r) ≤ most_volume
real_within row r h = ltb-false _ _ (both_within (too_large (month_in row r)) _ h).1

two_small : (b : Bool) (x y : ℤ) → nat_abs x ≤ most_volume → nat_abs y ≤ most_volume → nat_abs (cond b (x +ℤ y) (pos 0)) ≤ 26000000000000
two_small b x y h k = cond_both b (x +ℤ y) (pos 0) (λ z. nat_abs z ≤ 26000000000000) (λ _. omega (arith, ints)) (λ _. omega arith)

pub real_small : (row : GroupRow) (period : Period) → row_volume_passed row ≡ false → nat_abs (row_real (period_number period) row) ≤ 26000000000000
real_small row Normal h = let within = all_within (register_passed row) h in two_small (has_profile row) (real_in row 0) (real_in row 2) (real_within row 0 within.0) (real_within row 2 within.1.1.0)
real_small row Low h = let within = all_within (register_passed row) h in two_small (has_profile row) (real_in row 1) (real_in row 3) (real_within row 1 within.1.0) (real_within row 3 within.1.1.1)

-- sum is what the first i rows come to
pub record RealSummed (rows : List GroupRow) (period : ℕ) (i : ℕ) (sum : ℤ) : Type 0 where
  pub total : sum +ℤ profiled_real period (drop i rows) ≡ profiled_real period rows
  pub small : nat_abs sum ≤ i * 26000000000000
  pub within : volume_passed (drop i rows) ≡ volume_passed rows

more_summed : (sum part whole x rest : ℤ) → sum +ℤ part ≡ whole → part ≡ x +ℤ rest → (sum +ℤ x) +ℤ rest ≡ whole
more_summed sum part whole x rest h cut = omega (arith, ints)

more_small : (i : ℕ) (sum x : ℤ) → nat_abs sum ≤ i * 26000000000000 → nat_abs x ≤ 26000000000000 → nat_abs (sum +ℤ x) ≤ (i + 1) * 26000000000000
more_small i sum x h k = omega (arith, ints)

module _ (rows : List GroupRow) (period : Period) (i : ℕ) (sum x : ℤ) (d : GroupRow) (h : RealSummed rows (period_number period) i sum) (l : i < length rows) (e : x ≡ row_real (period_number period) (get_or rows i d)) (within : row_volume_passed (get_or rows i d) ≡ false) where
  x_small : nat_abs x ≤ 26000000000000
  x_small = rw e (real_small (get_or rows i d) period within)

  pub sum_fits : length rows < 2 ^ 64 → SFits w128 (sum +ℤ x)
  sum_fits few = omega (arith, ints, h.small, x_small)

  pub one_summed : RealSummed rows (period_number period) (i + 1) (sum +ℤ x)
  one_summed = record {
    total = more_summed sum _ _ _ _ h.total (ap (profiled_real (period_number period)) (drop_more rows i d l) ∙ ap (λ z. z +ℤ profiled_real (period_number period) (drop (i + 1) rows)) (sym e));
    small = more_small i sum x h.small x_small;
    within = one_within rows i d h.within l within;
  }
