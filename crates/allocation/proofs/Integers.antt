-- Products of integers, spread over sums. Assumes nothing.
use Rattle.std.proofs.Common.{◌≡◌, ℕ, zero, suc, ◌+◌, ◌*◌, ◌≤◌, ℤ, pos, negsuc, ◌+ℤ◌, ◌-ℤ◌, ◌*ℤ◌, neg_ℤ, nat_abs, sym, ap, ◌∙◌, mul-add, mul-le-mul, arith}
use lib.IntN.{*ℤ-zero, *ℤ-negsuc, neg_ℤ-neg_ℤ}
use borrow.Author.Differences.{up, down, sum_is_lem, same_in, product_is}
use Rattle.std.proofs.lemmas.Int.{unsigned_abs-mul}

spread : (t x y z : ℕ) → t * (x + y + z) ≡ t * x + t * y + t * z
spread t x y z = omega (arith, mul-add t (x + y) z, mul-add t x y)

spread_equal : (t x y z u v w : ℕ) → x + y + z ≡ u + v + w → t * x + t * y + t * z ≡ t * u + t * v + t * w
spread_equal t x y z u v w e = omega (arith, spread t x y z, spread t u v w, ap (λ n. t * n) e)

pub times_sum : (t a b : ℤ) → t *ℤ (a +ℤ b) ≡ (t *ℤ a) +ℤ (t *ℤ b)
times_sum t a b =
    let e = sum_is_lem a b in
    let p = spread_equal (up t) _ _ _ _ _ _ e in
    let q = spread_equal (down t) _ _ _ _ _ _ e in
    same_in _ _ (omega (arith, product_is t (a +ℤ b), product_is t a, product_is t b, sum_is_lem (t *ℤ a) (t *ℤ b)))

pub times_neg : (t a : ℤ) → t *ℤ neg_ℤ a ≡ neg_ℤ (t *ℤ a)
times_neg t (pos zero) = *ℤ-zero t ∙ sym (ap neg_ℤ (*ℤ-zero t))
times_neg t (pos (suc n)) = *ℤ-negsuc t n
times_neg t (negsuc n) = sym (neg_ℤ-neg_ℤ _) ∙ ap neg_ℤ (sym (*ℤ-negsuc t n))

pub times_difference : (t a b : ℤ) → t *ℤ (a -ℤ b) ≡ (t *ℤ a) -ℤ (t *ℤ b)
times_difference t a b = times_sum t a (neg_ℤ b) ∙ ap (λ z. (t *ℤ a) +ℤ z) (times_neg t b)

-- for the crates above
pub product_size : (a b : ℤ) → nat_abs (a *ℤ b) ≡ nat_abs a * nat_abs b
product_size a b = unsigned_abs-mul a b

pub product_bounded : (a b : ℤ) (m n : ℕ) → nat_abs a ≤ m → nat_abs b ≤ n → nat_abs (a *ℤ b) ≤ m * n
product_bounded a b m n h k = rw (unsigned_abs-mul a b) (mul-le-mul h k)
