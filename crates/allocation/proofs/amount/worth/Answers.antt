use Rattle.std.proofs.Common.{pos, ◌*ℤ◌, refl, ◌^◌, ◌<◌, arith, w64, SFits, rules}
use Rattle.std.proofs.lemmas.Int.{to_z-of_z, to_z_pos, fits_signed_from_abs}
use Rattle.allocation.proofs.Integers.{product_bounded}
use Rattle.allocation.proofs.amount.worth.Goals as goal

pub returns : goal.returns
returns c =
    let d = c.args.priced in
    let p = c.args.price.cents in
    let less : d.wh < 2 ^ 63 = omega (arith, d.within) in
    let cents : SFits w64 p = search rules in
    let bound = product_bounded (pos d.wh) p d.wh 500000 (omega arith) c.args.price.within in
    let product : SFits w64 (pos d.wh *ℤ p) = fits_signed_from_abs w64 _ (omega (arith, bound, d.within)) in
    rw (to_z_pos w64 _ less, to_z-of_z w64 _ cents, to_z-of_z w64 _ product) (record { value = refl; bound = bound })
