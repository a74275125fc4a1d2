-- Each source of this crate keeps the laws. These proofs stand here, since an impl gives them for the law `lawful`.
-- A source of your own, whose meaning is made by `within_month`, has them from `within_month_lawful`. Assumes nothing.
use Rattle.std.specs.Prelude.{◌≡◌, ℕ, ◌≤◌, min, Bool, cond, List, Some, None, Option, ◌==◌, nat_le, nat_lt, slice_index, refl}
use Rattle.std.proofs.Common.{arith}
use Rattle.std.proofs.lemmas.Bool.{cond_both, cond-false, leb-true}
use Rattle.allocation.specs.Scale.{whole, most_standing, most_quarters}
use Rattle.profile.specs.Places.{covered, line_of, place_of, number_at}
use Rattle.profile.specs.Meanings.{Meaning, Lawful, Bounded}
use Rattle.profile.specs.Sources.{within_month, as_fraction, published_fraction, published, not_metered, metered_fraction, reference, or_else, fallback, nothing}

pub nothing_bounded : Bounded None
nothing_bounded parts e = let no : ◌≡◌ {A = ℕ} 0 1 = cc in omega arith

pub as_fraction_bounded : (n : ℕ) → Bounded (as_fraction n)
as_fraction_bounded n =
    cond_both (nat_le n whole) (Some n) None Bounded
    (λ within parts e. let same : n ≡ parts = cc in omega (arith, leb-true n whole within))
    (λ _. nothing_bounded)

none_or_bounded : (b : Bool) (o : Option ℕ) → Bounded o → Bounded (cond b None o)
none_or_bounded b o bounded = cond_both b None o Bounded (λ _. nothing_bounded) (λ _. bounded)

-- bounded fractions, and nothing outside the month
pub within_month_lawful : (count : ℕ) (meaning : Meaning) → count ≤ most_quarters → ((class direction quarter : ℕ) → Bounded (meaning class direction quarter)) → Lawful count (within_month count meaning)
within_month_lawful count meaning month bounded = record {
  month = month;
  outside = λ class direction quarter out. cond-false _ _ _ out;
  bounded = λ class direction quarter. cond_both (covered count class direction quarter) (meaning class direction quarter) None Bounded (λ _. bounded class direction quarter) (λ _. nothing_bounded);
}

published_bounded : (o : Option ℕ) → Bounded (published_fraction o)
published_bounded None = nothing_bounded
published_bounded (Some n) = as_fraction_bounded n

pub published_lawful : (count : ℕ) (numbers : List ℕ) → count ≤ most_quarters → Lawful count (published count numbers)
published_lawful count numbers month = within_month_lawful count _ month (λ class direction quarter. published_bounded (number_at numbers (place_of count class direction quarter)))

metered_bounded : (sum : ℕ) (o : Option ℕ) → Bounded (metered_fraction sum o)
metered_bounded sum None = nothing_bounded
metered_bounded sum (Some wh) =
    none_or_bounded (sum == 0) _ (none_or_bounded (nat_lt most_standing sum) _ (none_or_bounded (wh == not_metered) _ (as_fraction_bounded _)))

pub reference_lawful : (count : ℕ) (sums metered : List ℕ) → count ≤ most_quarters → Lawful count (reference count sums metered)
reference_lawful count sums metered month =
    within_month_lawful count _ month (λ class direction quarter. metered_bounded (slice_index sums (line_of class direction)) (number_at metered (place_of count class direction quarter)))

or_else_bounded : (first second : Option ℕ) → Bounded first → Bounded second → Bounded (or_else first second)
or_else_bounded (Some parts) second bounded _ = bounded
or_else_bounded None second _ bounded = bounded

pub fallback_lawful : (count : ℕ) (first : Meaning) (count' : ℕ) (second : Meaning) → Lawful count first → Lawful count' second → Lawful (min count count') (fallback count first count' second)
fallback_lawful count first count' second one other =
    let month : min count count' ≤ most_quarters = omega (arith, one.month) in
    within_month_lawful (min count count') _ month (λ class direction quarter. or_else_bounded (first class direction quarter) (second class direction quarter) (one.bounded class direction quarter) (other.bounded class direction quarter))

pub nothing_lawful : (count : ℕ) → count ≤ most_quarters → Lawful count nothing
nothing_lawful count month = record {
  month = month;
  outside = λ _ _ _ _. refl;
  bounded = λ _ _ _. nothing_bounded;
}
