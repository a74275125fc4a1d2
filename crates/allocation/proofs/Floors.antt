-- Division rounded down. Assumes nothing.
use Rattle.std.proofs.Common.{◌≡◌, ℕ, ◌*◌, ◌/◌, ◌<◌, ◌≤◌, ℤ, pos, negsuc, ◌+ℤ◌, ◌-ℤ◌, ◌*ℤ◌, nat_abs, ◌≤ℤ◌, ◌<ℤ◌, ◌∙◌, mod-lt, mul_comm, div-lt_iff_lt-mul, mul-suc, arith, lit<}
use native.Mathlib.Nat.{div-add-mod, div-le_of_le-mul}
use lib.IntN.{*ℤ_comm}
use Rattle.std.proofs.lemmas.Int.{ints}
use Rattle.allocation.specs.Scale.{per_mwh}
use Rattle.allocation.specs.Settling.{floor, Floor, value_at, amount_of, Cent}
use Rattle.allocation.proofs.Integers.{times_sum, times_difference}

pub floors : (z : ℤ) (n : ℕ) → 0 < n → Floor z n (floor z n)
floors (pos a) n h =
    let e = div-add-mod a n in
    let k = mod-lt a h in
    record { low = omega (arith, ints); high = omega (arith, ints) }
floors (negsuc a) n h =
    let e = div-add-mod a n in
    let k = mod-lt a h in
    let m = mul-suc n (a / n) in
    record { low = omega (arith, ints); high = omega (arith, ints) }

pub floor_within : (z : ℤ) (n m : ℕ) → 0 < n → nat_abs z ≤ n * m → nat_abs (floor z n) ≤ m
floor_within (pos a) n m h k = div-le_of_le-mul n k
floor_within (negsuc a) n m h k = let below : a / n < m = (div-lt_iff_lt-mul {k = n} {x = a} {y = m} h).1 (omega (arith, mul_comm n m)) in omega arith

pub sum_times : (a b p : ℤ) → (a +ℤ b) *ℤ p ≡ (a *ℤ p) +ℤ (b *ℤ p)
sum_times a b p = *ℤ_comm (a +ℤ b) p ∙ times_sum p a b ∙ (λ i. *ℤ_comm p a i +ℤ *ℤ_comm p b i)

between : (m : ℕ) (ga gb sp vp tp : ℤ) → ga ≤ℤ tp → tp <ℤ (ga +ℤ pos m) → gb ≤ℤ sp → sp <ℤ (gb +ℤ pos m) → tp ≡ sp +ℤ vp → ((ga -ℤ gb) <ℤ (vp +ℤ pos m)) × (vp <ℤ ((ga -ℤ gb) +ℤ pos m))
between m ga gb sp vp tp h1 h2 h3 h4 e = (omega (arith, ints), omega (arith, ints))

pub amount_near : (p s v : ℤ) → Cent p v (amount_of p s v)
unfolding amount_of value_at
amount_near p s v =
    let after = floors ((s +ℤ v) *ℤ p) per_mwh (lit< tt) in
    let before = floors (s *ℤ p) per_mwh (lit< tt) in
    let both = between per_mwh (pos per_mwh *ℤ value_at p (s +ℤ v)) (pos per_mwh *ℤ value_at p s) (s *ℤ p) (v *ℤ p) ((s +ℤ v) *ℤ p) after.low after.high before.low before.high (sum_times s v p) in
    let apart = times_difference (pos per_mwh) (value_at p (s +ℤ v)) (value_at p s) in
    record { above = rw apart both.0; below = rw apart both.1 }
