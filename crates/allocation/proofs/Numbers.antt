-- Bounds of products and quotients. Assumes nothing.
use Rattle.std.proofs.Common.{ℕ, zero, suc, ◌+◌, ◌*◌, ◌/◌, ◌<◌, ◌≤◌, mul_comm, div-lt_iff_lt-mul, mul-le-mul_left, arith}
use native.Mathlib.Nat.{div-le_of_le-mul, div-zero, lt-mul-div-succ}

-- the part w of t, times n, is at most n
pub part_within : (n w t : ℕ) → w ≤ t → n * w / t ≤ n
part_within n w t h = div-le_of_le-mul t (omega (arith, mul-le-mul_left n h, mul_comm n t))

-- a dividend that grows does not lower the quotient
pub quotient_grows : (t a b : ℕ) → a ≤ b → a / t ≤ b / t
quotient_grows zero a b h = omega (arith, div-zero a, div-zero b)
quotient_grows (suc t) a b h =
    let past : b < suc t * (b / suc t + 1) = lt-mul-div-succ b (omega arith) in
    let below : a / suc t < b / suc t + 1 = (div-lt_iff_lt-mul {k = suc t} {x = a} {y = b / suc t + 1} (omega arith)).1 (omega (arith, mul_comm (suc t) (b / suc t + 1))) in
    omega arith
