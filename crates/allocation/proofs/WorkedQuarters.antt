-- The worked quarters, by computation. Assumes nothing.
use Rattle.std.proofs.Common.{refl}
use Rattle.allocation.specs.Correction.{share, correction_of}
use Rattle.allocation.specs.Scale.{weight_of}
use Rattle.allocation.specs.Settling.{value_at, amount_of}
use Rattle.allocation.specs.Worked.{Worked}

pub worked_quarters : Worked
unfolding weight_of share correction_of value_at amount_of
worked_quarters = record {
  half_up = refl;
  less_dropped = refl;
  two_total = refl;
  two_net = refl;
  two_residual = refl;
  two_volumes = refl;
  ones_up = refl;
  ones_down = refl;
  turned = refl;
  nothing_left = λ q. refl;
  nothing_to_share = λ q. refl;
  thirteen = λ q. refl;
  price = refl;
  price_down = refl;
  money = refl;
}
