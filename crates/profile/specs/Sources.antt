-- What each source of this crate means. Assumes nothing.
use Rattle.std.specs.Prelude.{ℕ, ◌*◌, ◌/◌, min, cond, List, Some, None, Option, ◌==◌, nat_le, nat_lt, slice_index}
use Rattle.allocation.specs.Scale.{unit, whole, most_standing}
use Rattle.profile.specs.Places.{covered, line_of, place_of, number_at}
use Rattle.profile.specs.Meanings.{Meaning}

-- a meaning, and nothing outside a month of so many quarters
abbrev pub within_month : ℕ → Meaning → Meaning
within_month count meaning class direction quarter = cond (covered count class direction quarter) (meaning class direction quarter) None

-- nothing above the largest fraction
abbrev pub as_fraction : ℕ → Option ℕ
as_fraction parts = cond (nat_le parts whole) (Some parts) None

abbrev pub published_fraction : Option ℕ → Option ℕ
published_fraction None = None
published_fraction (Some number) = as_fraction number

-- a published table: the number at its place, nothing past the end
abbrev pub published : ℕ → List ℕ → Meaning
published count numbers = within_month count (λ class direction quarter. published_fraction (number_at numbers (place_of count class direction quarter)))

-- the Wh that stand for a quarter that nobody metered
abbrev pub not_metered : ℕ
not_metered = 4294967295

-- the part of the sum of standard year volumes, kWh, that the metered Wh are
abbrev pub metered_fraction : ℕ → Option ℕ → Option ℕ
metered_fraction sum None = None
metered_fraction sum (Some wh) = cond (sum == 0) None (cond (nat_lt most_standing sum) None (cond (wh == not_metered) None (as_fraction (wh * unit / sum))))

-- a reference group: sums by line, metered Wh at the places of a published table
abbrev pub reference : ℕ → List ℕ → List ℕ → Meaning
reference count sums metered = within_month count (λ class direction quarter. metered_fraction (slice_index sums (line_of class direction)) (number_at metered (place_of count class direction quarter)))

abbrev pub or_else : Option ℕ → Option ℕ → Option ℕ
or_else (Some parts) second = Some parts
or_else None second = second

-- a fallback: the first's fraction where it has one, otherwise the second's, in the shorter of their months
abbrev pub fallback : ℕ → Meaning → ℕ → Meaning → Meaning
fallback count first count' second = within_month (min count count') (λ class direction quarter. or_else (first class direction quarter) (second class direction quarter))

-- a source that has nothing
abbrev pub nothing : Meaning
nothing class direction quarter = None
