-- Registers and directions by their numbers. Assumes nothing.
use Rattle.std.specs.Prelude.{ℕ, ◌+◌, ◌*◌, Bool, true, cond, List, [], ◌∷◌, ℤ, pos, neg_ℤ, ◌==◌, nat_lt}
use Rattle.fault.specs.declared.cause.Direction.{Direction}
use Rattle.fault.specs.declared.cause.Direction.TheVariants.{Offtake, FeedIn}

-- something for each register, and for each direction
abbrev pub four : {A : Type 0} → (ℕ → A) → List A
four f = f 0 ∷ f 1 ∷ f 2 ∷ f 3 ∷ []

abbrev pub two : {A : Type 0} → (ℕ → A) → List A
two f = f 0 ∷ f 1 ∷ []

-- some register of which the test holds
abbrev pub any_register : (ℕ → Bool) → Bool
any_register f = cond (f 0) true (cond (f 1) true (cond (f 2) true (f 3)))

-- the register of a direction and a period
abbrev pub register : ℕ → ℕ → ℕ
register direction period = 2 * direction + period

abbrev pub way : ℕ → Direction
way direction = cond (direction == 0) Offtake FeedIn

-- a size in a register: offtake is negative
abbrev pub signed_in : ℕ → ℕ → ℤ
signed_in register size = cond (nat_lt register 2) (neg_ℤ (pos size)) (pos size)
