-- What the running split gives. Assumes nothing.
use Rattle.std.proofs.Common.{◌≡◌, ℕ, zero, suc, ◌+◌, ◌*◌, ◌/◌, ◌%◌, ◌<◌, ◌≤◌, ℤ, pos, negsuc, ◌+ℤ◌, ◌-ℤ◌, ◌*ℤ◌, neg_ℤ, nat_abs, ◌<ℤ◌, int_div, refl, ap, ◌∙◌, mod-lt, mul_comm, mul-le-mul_left, mul-zero, mul-div_cancel, arith}
use native.Mathlib.Nat.{div-zero, zero-div, div-add-mod}
use lib.IntN.{*ℤ_comm, zero-*ℤ}
use Rattle.std.proofs.lemmas.Int.{ints}
use Rattle.fault.specs.declared.cause.Direction.{Direction}
use Rattle.fault.specs.declared.cause.Direction.TheVariants.{Offtake, FeedIn}
use Rattle.allocation.specs.declared.split.Running.{Running}
use Rattle.allocation.specs.Correction.{signed, share, correction_of, profiled, corrected, rcf, exact, Near}
use Rattle.allocation.specs.Steps.{part}
use Rattle.allocation.proofs.Integers.{times_sum, times_neg, times_difference}
use Rattle.allocation.proofs.Numbers.{part_within, quotient_grows}

signed_size : (r : ℤ) (n : ℕ) → nat_abs (signed r n) ≡ n
signed_size (pos m) n = refl
signed_size (negsuc m) n = omega (arith, ints)

signed_self : (r : ℤ) → signed r (nat_abs r) ≡ r
signed_self (pos n) = refl
signed_self (negsuc n) = refl

signed_none : (r : ℤ) → signed r 0 ≡ pos 0
signed_none (pos n) = refl
signed_none (negsuc n) = refl

pub share_within : (t w : ℕ) (r : ℤ) → w ≤ t → nat_abs (share t r w) ≤ nat_abs r
unfolding share
share_within t w r h = omega (arith, signed_size r (nat_abs r * w / t), part_within (nat_abs r) w t h)

pub share_start : (t : ℕ) (r : ℤ) → share t r 0 ≡ pos 0
unfolding share
share_start t r = ap (signed r) (ap (λ n. n / t) (mul-zero (nat_abs r)) ∙ zero-div t) ∙ signed_none r

pub share_none : (w : ℕ) (r : ℤ) → share 0 r w ≡ pos 0
unfolding share
share_none w r = ap (signed r) (div-zero (nat_abs r * w)) ∙ signed_none r

pub share_whole : (t : ℕ) (r : ℤ) → 0 < t → share t r t ≡ r
unfolding share
share_whole t r h = ap (signed r) (mul-div_cancel (nat_abs r) h) ∙ signed_self r

quotient_below : (m t : ℕ) → int_div (neg_ℤ (pos m)) (pos t) ≡ neg_ℤ (pos (m / t))
quotient_below zero t = rw (zero-div t) refl
quotient_below (suc m) t = refl

-- F(W) is the quotient of R × W by T that drops the remainder
pub share_quotient : (t w : ℕ) (r : ℤ) → int_div (r *ℤ pos w) (pos t) ≡ share t r w
unfolding share
share_quotient t w (pos n) = refl
share_quotient t w (negsuc n) = quotient_below (suc n * w) t

rest_below : (t q x p : ℕ) → t * q + x ≡ p → (pos t *ℤ neg_ℤ (pos q)) +ℤ neg_ℤ (pos x) ≡ neg_ℤ (pos p)
rest_below t q x p e = ap (λ z. z +ℤ neg_ℤ (pos x)) (times_neg (pos t) (pos q)) ∙ omega (arith, ints)

-- T times F(W), and what the division dropped, come to R × W
share_rest : (t w : ℕ) (r : ℤ) → (pos t *ℤ share t r w) +ℤ signed r (nat_abs r * w % t) ≡ r *ℤ pos w
unfolding share
share_rest t w (pos n) = ap pos (div-add-mod (n * w) t)
share_rest t w (negsuc n) = rest_below t _ _ _ (div-add-mod (nat_abs (negsuc n) * w) t)

-- the exact share is the weight, times T, and its part of R
exact_is : (t w : ℕ) (r : ℤ) (d : Direction) → exact t r d w ≡ (pos t *ℤ profiled d w) +ℤ (r *ℤ pos w)
exact_is t w r Offtake = omega (arith, ints, times_difference (pos w) (pos t) r, times_neg (pos t) (pos w), *ℤ_comm r (pos w), mul_comm w t)
exact_is t w r FeedIn =
    let twice : pos (2 * t) -ℤ rcf t r ≡ pos t +ℤ r = omega (arith, ints) in
    ap (λ z. pos w *ℤ z) twice ∙ omega (arith, ints, times_sum (pos w) (pos t) r, *ℤ_comm r (pos w), mul_comm w t)

-- two rests of the same sign differ by less than T
rests_near : (r : ℤ) (t x y : ℕ) (v e : ℤ) → x < t → y < t → v +ℤ signed r x ≡ e +ℤ signed r y → (v <ℤ (e +ℤ pos t)) × (e <ℤ (v +ℤ pos t))
rests_near (pos n) t x y v e h k s = (omega (arith, ints), omega (arith, ints))
rests_near (negsuc n) t x y v e h k s = (omega (arith, ints), omega (arith, ints))

joined : (tv tp tc tF tG s u rb rw rbw e : ℤ) → tv ≡ tp +ℤ tc → tc ≡ tG -ℤ tF → tF +ℤ s ≡ rb → tG +ℤ u ≡ rbw → rbw ≡ rb +ℤ rw → e ≡ tp +ℤ rw → tv +ℤ u ≡ e +ℤ s
joined tv tp tc tF tG s u rb rw rbw e h1 h2 h3 h4 h5 h6 = omega (arith, ints)

-- the volume times T, and the rest after it, come to the exact share and the rest before it
volume_rest : (t before w : ℕ) (r : ℤ) (d : Direction) → (pos t *ℤ corrected t r before d w) +ℤ signed r (nat_abs r * (before + w) % t) ≡ exact t r d w +ℤ signed r (nat_abs r * before % t)
unfolding correction_of
volume_rest t before w r d =
    joined _ _ _ _ _ _ _ _ _ _ _
    (times_sum (pos t) (profiled d w) (share t r (before + w) -ℤ share t r before))
    (times_difference (pos t) (share t r (before + w)) (share t r before))
    (share_rest t before r)
    (share_rest t (before + w) r)
    (times_sum r (pos before) (pos w))
    (exact_is t w r d)

nothing : (r : ℤ) (d : Direction) → (corrected 0 r 0 d 0 ≡ pos 0) × (exact 0 r d 0 ≡ pos 0)
unfolding correction_of
nothing r Offtake = (omega (arith, ints, share_none 0 r), ap neg_ℤ (zero-*ℤ (rcf 0 r)))
nothing r FeedIn = (omega (arith, ints, share_none 0 r), zero-*ℤ (pos 0 -ℤ rcf 0 r))

pub near : (t before w : ℕ) (r : ℤ) (d : Direction) → before + w ≤ t → Near t (corrected t r before d w) (exact t r d w)
near t before w r d h =
    let both : 0 < t → ((pos t *ℤ corrected t r before d w) <ℤ (exact t r d w +ℤ pos t)) × (exact t r d w <ℤ ((pos t *ℤ corrected t r before d w) +ℤ pos t)) =
    λ (p : 0 < t). rests_near r t _ _ _ _ (mod-lt _ p) (mod-lt _ p) (volume_rest t before w r d) in
    record {
      above = λ p. (both p).0;
      below = λ p. (both p).1;
      none = λ e.
          let P : ℕ → ℕ → ℕ → Type 0 = λ t a w. (corrected t r a d w ≡ pos 0) × (exact t r d w ≡ pos 0) in
          let no-before : before ≡ 0 = omega arith in
          let no_weight : w ≡ 0 = omega arith in
          rw (e, no-before, no_weight) (nothing r d);
    }

-- the size of F grows by the size of the correction
pub size_grows : (t before w : ℕ) (r : ℤ) → nat_abs (correction_of t r before w) + nat_abs (share t r before) ≡ nat_abs (share t r (before + w))
unfolding correction_of share
size_grows t before w (pos n) = let h : n * before / t ≤ n * (before + w) / t = quotient_grows t _ _ (mul-le-mul_left n (omega arith)) in omega (arith, ints)
size_grows t before w (negsuc n) = let h : suc n * before / t ≤ suc n * (before + w) / t = quotient_grows t _ _ (mul-le-mul_left (suc n) (omega arith)) in omega (arith, ints)

-- what a running split has given out stays within T and |R|
pub given_within : (t passed : ℕ) (r o f : ℤ) → passed ≤ t → nat_abs o + nat_abs f ≤ passed + nat_abs (share t r passed) → nat_abs o + nat_abs f ≤ t + nat_abs r
given_within t passed r o f h b = omega (arith, share_within t passed r h)

-- and so within their limits
pub given_limited : (p : Running) → nat_abs p.offtake + nat_abs p.feed_in ≤ 4000000000
given_limited p = omega (arith, given_within p.split.total p.passed p.split.residual p.offtake p.feed_in p.within p.bounded, p.split.few, p.split.small)

pub given_grows : (t passed w : ℕ) (r o f v : ℤ) (d : Direction) → nat_abs o + nat_abs f ≤ passed + nat_abs (share t r passed) → nat_abs v ≤ w + nat_abs (correction_of t r passed w) → nat_abs (o +ℤ part Offtake d v) + nat_abs (f +ℤ part FeedIn d v) ≤ passed + w + nat_abs (share t r (passed + w))
given_grows t passed w r o f v Offtake h k = omega (arith, ints, size_grows t passed w r)
given_grows t passed w r o f v FeedIn h k = omega (arith, ints, size_grows t passed w r)
