use Rattle.std.proofs.Common.{◌≡◌, ◌*◌, ◌≤◌, ◌*ℤ◌, nat_abs, arith, lit<, w64, SFits, rules}
use Rattle.std.proofs.lemmas.Int.{to_z-of_z, fits_signed_from_abs}
use Rattle.allocation.specs.Settling.{value_at}
use Rattle.allocation.proofs.Floors.{floor_within}
use Rattle.allocation.proofs.Integers.{product_bounded}
use Rattle.allocation.proofs.amount.value_of.Goals as goal

pub returns : goal.returns
unfolding value_at
returns c =
    let p = c.args.price.cents in
    let s = c.args.total in
    let cents : SFits w64 p = search rules in
    let fits : SFits w64 c.floored.result = search rules in
    let small : nat_abs (s *ℤ p) ≤ 1000000 * 6500000000000 = product_bounded s p 13000000000000 500000 c.requires c.args.price.within in
    let product : SFits w64 (s *ℤ p) = fits_signed_from_abs w64 _ (omega (arith, small)) in
    let value : ◌≡◌ c.floored.result (value_at p s) = rw (to_z-of_z w64 _ c.ranges.total, to_z-of_z w64 _ cents, to_z-of_z w64 _ product) at c.floored.ensures in
    rw (to_z-of_z w64 _ fits) (record { value = value; bound = rw value (floor_within (s *ℤ p) 1000000 6500000000000 (lit< tt) small) })
