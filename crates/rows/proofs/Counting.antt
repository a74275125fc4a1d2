-- T and V, from the first row on. Assumes nothing.
use Rattle.std.proofs.Common.{◌≡◌, ℕ, zero, suc, ◌+◌, ◌-◌, ◌^◌, ◌<◌, ◌≤◌, List, [], ◌∷◌, length, get_or, drop, min, ℤ, pos, ◌+ℤ◌, ◌-ℤ◌, Some, None, Option, sym, refl, ap, ◌∙◌, ⊎_elim, arith}
use Rattle.std.proofs.lemmas.Bool.{cases_lt}
use Rattle.std.proofs.lemmas.List.{drop_more}
use Rattle.std.proofs.lemmas.Int.{ints}
use Rattle.fault.specs.declared.cause.Fault.{Fault}
use Rattle.fault.specs.declared.cause.Quarter.{Quarter}
use Rattle.allocation.specs.Scale.{most_weights}
use Rattle.profile.specs.Meanings.{Meaning}
use Rattle.rows.specs.declared.group.GroupRow.{GroupRow}
use Rattle.rows.specs.Weighing.{or_else, row_absent, first_absent, weight_in, weights_total, weights_net}
use Rattle.allocation.specs.Lines.{weights_refusal}
use Rattle.rows.specs.declared.direction.ByDirection.{ByDirection}
use Rattle.rows.specs.Counting.{weigh_refusal, RowWeighed}

-- sums that stay at the largest number are exact where they are small
both_exact : (o f a b n m : ℕ) → n ≡ min (o + a) (2 ^ 128 - 1) → m ≡ min (f + b) (2 ^ 128 - 1) → n + m ≤ most_weights → (n ≡ o + a) × ((m ≡ f + b) × (o + f ≤ most_weights))
both_exact o f a b n m ne me small = (omega arith, (omega arith, omega arith))

more_total : (o f a b n m part whole wa wb rest : ℕ) → o + f + part ≡ whole → part ≡ wa + wb + rest → a ≡ wa → b ≡ wb → n ≡ o + a → m ≡ f + b → n + m + rest ≡ whole
more_total o f a b n m part whole wa wb rest h cut ae be ne me = omega arith

more_net : (o f a b n m wa wb : ℕ) (part whole rest : ℤ) → (pos f -ℤ pos o) +ℤ part ≡ whole → part ≡ (pos wb -ℤ pos wa) +ℤ rest → a ≡ wa → b ≡ wb → n ≡ o + a → m ≡ f + b → (pos m -ℤ pos n) +ℤ rest ≡ whole
more_net o f a b n m wa wb part whole rest h cut ae be ne me = omega (arith, ints)

more_past : (o f a b n m part whole wa wb rest : ℕ) → o + f + part ≡ whole → part ≡ wa + wb + rest → a ≡ wa → b ≡ wb → n ≡ min (o + a) (2 ^ 128 - 1) → m ≡ min (f + b) (2 ^ 128 - 1) → most_weights < n + m → most_weights < whole
more_past o f a b n m part whole wa wb rest h cut ae be ne me past = omega arith

module _ (meaning : Meaning) (quarter : Quarter) (period : ℕ) (rows : List GroupRow) where
  -- o and f are what the first i rows weigh in each direction, as far as it matters
  pub record Summed (i o f : ℕ) : Type 0 where
    pub absent : first_absent meaning quarter period (drop i rows) ≡ first_absent meaning quarter period rows
    pub totals : o + f ≤ most_weights → o + f + weights_total meaning quarter period (drop i rows) ≡ weights_total meaning quarter period rows
    pub nets : o + f ≤ most_weights → (pos f -ℤ pos o) +ℤ weights_net meaning quarter period (drop i rows) ≡ weights_net meaning quarter period rows
    pub passed : most_weights < o + f → most_weights < weights_total meaning quarter period rows

  first : (o r : Option Fault) → o ≡ None → or_else o r ≡ r
  first o r e = rw e

  pub one_summed : (i o f : ℕ) (d : GroupRow) (w : ByDirection ℕ) (n m : ℕ) → Summed i o f → i < length rows → row_absent meaning quarter period (get_or rows i d) ≡ None
      → RowWeighed meaning quarter period (get_or rows i d) w → n ≡ min (o + w.offtake) (2 ^ 128 - 1) → m ≡ min (f + w.feed_in) (2 ^ 128 - 1) → Summed (i + 1) n m
  one_summed i o f d w n m h l none told ne me =
      let cut = drop_more rows i d l in
      let total = ap (weights_total meaning quarter period) cut in
      let net = ap (weights_net meaning quarter period) cut in
      let exact = both_exact o f w.offtake w.feed_in n m ne me in
      record {
        absent = sym (first _ _ none) ∙ sym (ap (first_absent meaning quarter period) cut) ∙ h.absent;
        totals = λ small. let e = exact small in more_total o f _ _ n m _ _ _ _ _ (h.totals e.1.1) total told.0 told.1 e.0 e.1.0;
        nets = λ small. let e = exact small in more_net o f _ _ n m _ _ _ _ _ (h.nets e.1.1) net told.0 told.1 e.0 e.1.0;
        passed = λ past. ⊎_elim {C = most_weights < weights_total meaning quarter period rows} h.passed (λ (le : o + f ≤ most_weights). more_past o f _ _ n m _ _ _ _ _ (h.totals le) total told.0 told.1 ne me past) (cases_lt most_weights (o + f));
      }

module _ (meaning : Meaning) (quarter : Quarter) (period : ℕ) where
  or_else_none : (o r : Option Fault) → or_else o r ≡ None → (o ≡ None) × (r ≡ None)
  or_else_none None r h = (refl, h)
  or_else_none (Some e) r h = cc

  within_limit : (t : ℕ) → weights_refusal t ≡ None → t ≤ most_weights
  within_limit t h = grind arith

  none_absent : (rows : List GroupRow) (i : ℕ) (d : GroupRow) → i < length rows → first_absent meaning quarter period rows ≡ None → row_absent meaning quarter period (get_or rows i d) ≡ None
  none_absent [] i d l h = absurd (omega arith)
  none_absent (row ∷ rows) zero d l h = (or_else_none _ _ h).0
  none_absent (row ∷ rows) (suc i) d l h = none_absent rows i d (omega arith) (or_else_none _ _ h).1

  part_of_total : (rows : List GroupRow) (i : ℕ) (d : GroupRow) → i < length rows → weight_in meaning quarter period (get_or rows i d) 0 + weight_in meaning quarter period (get_or rows i d) 1 ≤ weights_total meaning quarter period rows
  part_of_total [] i d l = absurd (omega arith)
  part_of_total (row ∷ rows) zero d l = omega arith
  part_of_total (row ∷ rows) (suc i) d l = let ih = part_of_total rows i d (omega arith) in omega arith

  pub row_present : (rows : List GroupRow) (i : ℕ) (d row : GroupRow) → row ≡ get_or rows i d → i < length rows → weigh_refusal meaning quarter period rows ≡ None → row_absent meaning quarter period row ≡ None
  row_present rows i d row e l h = rw e (none_absent rows i d l (or_else_none _ _ h).0)

  pub row_few : (rows : List GroupRow) (i : ℕ) (d row : GroupRow) → row ≡ get_or rows i d → i < length rows → weigh_refusal meaning quarter period rows ≡ None → weight_in meaning quarter period row 0 + weight_in meaning quarter period row 1 ≤ most_weights
  row_few rows i d row e l h =
      let few : weights_total meaning quarter period rows ≤ most_weights = within_limit (weights_total meaning quarter period rows) (or_else_none (first_absent meaning quarter period rows) _ h).1 in
      rw e (omega (arith, part_of_total rows i d l))
