-- A line of volumes, from its head on, and what its amounts come to. Assumes nothing.
use Rattle.std.proofs.Common.{◌≡◌, ℕ, ◌≤◌, List, [], ◌∷◌, ◌++◌, length, take, drop, ℤ, pos, ◌+ℤ◌, ◌-ℤ◌, None, sym, ap, ◌∙◌, subst, arith}
use lib.IntN.{+ℤ_assoc, +ℤ_idr, +ℤ_idl, zero-*ℤ}
use Rattle.std.proofs.lemmas.Int.{ints}
use Rattle.std.specs.List.{AllByRecursion}
use Rattle.allocation.specs.declared.sums.Reconciled.{Reconciled}
use Rattle.allocation.specs.Scale.{per_mwh}
use Rattle.allocation.specs.Settling.{floor, value_at, amount_of, Cent}
use Rattle.allocation.specs.Amounts.{priced_at, settled, totals_refusal, all_volumes, all_amounts, Settles}
use Rattle.allocation.proofs.Floors.{amount_near}
use Rattle.allocation.proofs.Along.{along_end}

-- the first i volumes of the line have their amounts, and s is their total
pub record Halfway (p : ℤ) (start line : List Reconciled) (i : ℕ) (s : ℤ) : Type 0 where
  pub written : take i line ++ settled p s (drop i line) ≡ settled p (pos 0) start
  pub within : totals_refusal s (drop i line) ≡ None

pub halfway_end : (p : ℤ) (start line : List Reconciled) (i : ℕ) (s : ℤ) → Halfway p start line i s → length line ≤ i → line ≡ settled p (pos 0) start
halfway_end p start line i s h l = along_end (λ t x. t +ℤ x.volume) (priced_at p) _ line i s h.written l

-- the amounts of a line are what G gains along it
amounts_settled : (p s : ℤ) (xs : List Reconciled) → all_amounts (settled p s xs) ≡ value_at p (s +ℤ all_volumes xs) -ℤ value_at p s
unfolding amount_of
amounts_settled p s [] = omega (arith, ints, ap (value_at p) (+ℤ_idr s))
amounts_settled p s (x ∷ xs) =
    let ih = amounts_settled p (s +ℤ x.volume) xs in
    let seam = ap (value_at p) (+ℤ_assoc s x.volume (all_volumes xs)) in
    omega (arith, ints)

all_near : (p s : ℤ) (xs : List Reconciled) → AllByRecursion (λ y. Cent p y.volume y.amount) (settled p s xs)
all_near p s [] = tt
all_near p s (x ∷ xs) = (amount_near p s x.volume, all_near p (s +ℤ x.volume) xs)

-- G of nothing is nothing
value_none : (p : ℤ) → value_at p (pos 0) ≡ pos 0
unfolding value_at
value_none p = ap (λ z. floor z per_mwh) (zero-*ℤ p)

pub settles : (p : ℤ) (xs ys : List Reconciled) → ys ≡ settled p (pos 0) xs → Settles p xs ys
settles p xs ys e =
    let total : all_amounts ys ≡ value_at p (all_volumes xs) = ap all_amounts e ∙ amounts_settled p (pos 0) xs ∙ omega (arith, ints, value_none p, ap (value_at p) (+ℤ_idl (all_volumes xs))) in
    record {
      line = e;
      total = total;
      balance = λ none. total ∙ ap (value_at p) none ∙ value_none p;
      near = subst (AllByRecursion (λ y. Cent p y.volume y.amount)) (sym e) (all_near p (pos 0) xs);
    }
