-- One weight of the line. Assumes nothing.
use Rattle.std.specs.Prelude.{◌≡◌, ℕ, ◌+◌, ℤ, pos, ◌+ℤ◌}
use Rattle.fault.specs.declared.cause.Direction.{Direction}
use Rattle.fault.specs.declared.cause.Direction.TheVariants.{Offtake, FeedIn}
use Rattle.allocation.specs.declared.split.Corrected.{Corrected}
use Rattle.allocation.specs.declared.split.Running.{Running}
use Rattle.allocation.specs.Correction.{correction_of, corrected}

-- a volume where it is of the direction asked for, else 0
abbrev pub part : Direction → Direction → ℤ → ℤ
part Offtake Offtake v = v
part Offtake FeedIn v = pos 0
part FeedIn Offtake v = pos 0
part FeedIn FeedIn v = v

-- c is what the weight w gets where the split has come to p, and n is the split after it
pub record Stepped (p : Running) (d : Direction) (w : ℕ) (c : Corrected) (n : Running) : Type 0 where
  pub correction : c.correction ≡ correction_of p.split.total p.split.residual p.passed w
  pub volume : c.volume ≡ corrected p.split.total p.split.residual p.passed d w
  pub split : n.split ≡ p.split
  pub passed : n.passed ≡ p.passed + w
  pub offtake : n.offtake ≡ p.offtake +ℤ part Offtake d c.volume
  pub feed_in : n.feed_in ≡ p.feed_in +ℤ part FeedIn d c.volume
