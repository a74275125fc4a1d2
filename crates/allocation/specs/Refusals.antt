-- When a quarter cannot be divided. Assumes nothing.
use Rattle.std.specs.Prelude.{◌≡◌, ℕ, ◌+◌, cond, ℤ, Some, None, Ok, Err, Option, Result, ◌==◌, nat_lt, unsigned_abs}
use Rattle.fault.specs.declared.cause.Fault.{Fault}
use Rattle.fault.specs.declared.cause.Fault.TheVariants.{LimitPassed, NothingToShare, ForeignTables}
use Rattle.fault.specs.declared.cause.Limit.TheVariants.{Weights, Residual}
use Rattle.fault.specs.declared.cause.Quarter.{Quarter}
use Rattle.allocation.specs.Scale.{most_weights, most_residual}

-- a call answers with the fault that o names, and where it names none, with a value of which P holds
abbrev pub Decided : {A : Type 0} → Option Fault → Result A Fault → (A → Type 0) → Type 0
Decided o (Ok x) P = (o ≡ None) × P x
Decided o (Err e) P = o ≡ Some e

-- T too large, then R too large, then a residual that no weight carries
abbrev pub split_refusal : ℕ → ℤ → Quarter → Option Fault
split_refusal t r q = cond (nat_lt most_weights t) (Some (LimitPassed Weights)) (cond (nat_lt most_residual (unsigned_abs r)) (Some (LimitPassed Residual)) (cond (t == 0) (cond (unsigned_abs r == 0) None (Some (NothingToShare q))) None))

-- a weight that leads past T is not of the line that T was taken from
abbrev pub step_refusal : ℕ → ℕ → ℕ → Option Fault
step_refusal t passed w = cond (nat_lt t (passed + w)) (Some ForeignTables) None

-- and so is a line that ends before T
abbrev pub end_refusal : ℕ → ℕ → Option Fault
end_refusal t passed = cond (passed == t) None (Some ForeignTables)
