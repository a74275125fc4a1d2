-- How a residual is shared out along a line of weights, and the exact shares that it follows. Assumes nothing.
use Rattle.std.specs.Prelude.{◌≡◌, ℕ, ◌+◌, ◌*◌, ◌/◌, ◌<◌, ℤ, pos, negsuc, ◌+ℤ◌, ◌-ℤ◌, ◌*ℤ◌, neg_ℤ, ◌<ℤ◌, unsigned_abs}
use Rattle.fault.specs.declared.cause.Direction.{Direction}
use Rattle.fault.specs.declared.cause.Direction.TheVariants.{Offtake, FeedIn}

-- R = -(X + M + V + L)
abbrev pub residual_of : ℤ → ℤ → ℤ → ℤ → ℤ
residual_of x m v l = neg_ℤ (x +ℤ m +ℤ v +ℤ l)

-- n with the sign of z
abbrev pub signed : ℤ → ℕ → ℤ
signed (pos _) n = pos n
signed (negsuc _) n = neg_ℤ (pos n)

-- F(W): |R| × W / T, remainder dropped, with the sign of R; 0 where T is 0
unfoldable pub share : ℕ → ℤ → ℕ → ℤ
share t r w = signed r (unsigned_abs r * w / t)

-- what weight w gains after the weights before it in the line
unfoldable pub correction_of : ℕ → ℤ → ℕ → ℕ → ℤ
correction_of t r before w = share t r (before + w) -ℤ share t r before

-- a weight as a volume: offtake is negative
abbrev pub profiled : Direction → ℕ → ℤ
profiled Offtake w = neg_ℤ (pos w)
profiled FeedIn w = pos w

abbrev pub corrected : ℕ → ℤ → ℕ → Direction → ℕ → ℤ
corrected t r before d w = profiled d w +ℤ correction_of t r before w

-- the correction factor RCF = 1 - R / T, times T
abbrev pub rcf : ℕ → ℤ → ℤ
rcf t r = pos t -ℤ r

-- the exact corrected share, times T: offtake is multiplied by RCF, feed-in by 2 - RCF
abbrev pub exact : ℕ → ℤ → Direction → ℕ → ℤ
exact t r Offtake w = neg_ℤ (pos w *ℤ rcf t r)
exact t r FeedIn w = pos w *ℤ (pos (2 * t) -ℤ rcf t r)

-- a volume is less than one watt-hour from its exact share: both times T, they are less than T apart; where T is 0, both are 0
pub record Near (t : ℕ) (volume exact : ℤ) : Type 0 where
  pub above : 0 < t → (pos t *ℤ volume) <ℤ (exact +ℤ pos t)
  pub below : 0 < t → exact <ℤ ((pos t *ℤ volume) +ℤ pos t)
  pub none : t ≡ 0 → (volume ≡ pos 0) × (exact ≡ pos 0)
