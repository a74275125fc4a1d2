-- What a profile source means, which laws it keeps, and how it answers. Assumes nothing.
use Rattle.std.specs.Prelude.{◌≡◌, ℕ, ◌≤◌, false, Some, None, Ok, Err, Option, Result}
use Rattle.fault.specs.declared.cause.Fault.{Fault}
use Rattle.fault.specs.declared.cause.Fault.TheVariants.{FractionAbsent}
use Rattle.fault.specs.declared.cause.Question.{Question}
use Rattle.allocation.specs.declared.fraction.Fraction.{Fraction}
use Rattle.allocation.specs.Scale.{whole, most_quarters}
use Rattle.profile.specs.Places.{covered}

-- class, direction and quarter to the parts of a fraction, or to nothing
abbrev pub Meaning : Type 0
Meaning = ℕ → ℕ → ℕ → Option ℕ

-- what a meaning says of a question
abbrev pub meant : Meaning → Question → Option ℕ
meant meaning q = meaning q.class q.direction q.quarter.0

-- no fraction passes the largest
abbrev pub Bounded : Option ℕ → Type 0
Bounded meant = (parts : ℕ) → meant ≡ Some parts → parts ≤ whole

-- what holds of every source of so many quarters
pub record Lawful (count : ℕ) (meaning : Meaning) : Type 0 where
  -- they are no more than the longest month has
  pub month : count ≤ most_quarters
  -- nothing is meant for another class, direction or quarter
  pub outside : (class direction quarter : ℕ) → covered count class direction quarter ≡ false → meaning class direction quarter ≡ None
  pub bounded : (class direction quarter : ℕ) → Bounded (meaning class direction quarter)

-- a call answers with the value that is meant, or with this fault where none is
abbrev pub Answers : {A : Type 0} → (A → ℕ) → Option ℕ → Fault → Result A Fault → Type 0
Answers value meant fault (Ok x) = meant ≡ Some (value x)
Answers value meant fault (Err e) = (meant ≡ None) × (e ≡ fault)

-- a question is answered with the fraction that is meant, or with the fault that names what was asked
abbrev pub Answered : Meaning → Question → Result Fraction Fault → Type 0
Answered meaning q = Answers (λ f. f.parts) (meant meaning q) (FractionAbsent q)

-- the fraction that was found is the one that is meant, and none is meant where none was found
abbrev pub Finds : Option ℕ → Option Fraction → Type 0
Finds meant (Some fraction) = meant ≡ Some fraction.parts
Finds meant None = meant ≡ None
