-- The demonstration's own source. Assumes nothing.
use Rattle.std.specs.Prelude.{◌≡◌, ℕ, ◌≤◌, Some}
use Rattle.std.proofs.Common.{arith}
use Rattle.allocation.specs.Scale.{whole, most_quarters}
use Rattle.profile.specs.Meanings.{Meaning, Lawful, Bounded}
use Rattle.profile.specs.Sources.{within_month}
use Rattle.profile.specs.Laws.{within_month_lawful}

-- the same fraction all month
abbrev pub flat : ℕ → ℕ → Meaning
flat count parts = within_month count (λ _ _ _. Some parts)

some_bounded : (parts : ℕ) → parts ≤ whole → Bounded (Some parts)
some_bounded parts small other e = let same : parts ≡ other = cc in omega arith

pub flat_lawful : (count parts : ℕ) → count ≤ most_quarters → parts ≤ whole → Lawful count (flat count parts)
flat_lawful count parts month small = within_month_lawful count _ month (λ _ _ _. some_bounded parts small)
