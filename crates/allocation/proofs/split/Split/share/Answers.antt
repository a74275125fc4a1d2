use Rattle.std.proofs.Common.{◌^◌, ◌<◌, pos, ◌*ℤ◌, sym, refl, arith, w64, SFits, rules}
use Rattle.std.proofs.lemmas.Int.{to_z-of_z, to_z_pos, fits_signed_from_abs}
use Rattle.allocation.specs.Correction.{share}
use Rattle.allocation.proofs.Integers.{product_bounded}
use Rattle.allocation.proofs.Shares.{share_within, share_none, share_quotient}
use Rattle.allocation.proofs.split.Split.share.Goals as goal

pub returns-then-self-eq0-clause-value : goal.returns-then-self-eq0-clause-value
returns-then-self-eq0-clause-value c = rw c.if-self-eq0.true (sym (share_none c.args.passed c.args.self.residual))

pub returns : goal.returns
returns c =
    let t = c.args.self.total in
    let r = c.args.self.residual in
    let w = c.args.passed in
    let few : t < 2 ^ 63 = omega (arith, c.args.self.few) in
    let less : w < 2 ^ 63 = omega (arith, c.requires, c.args.self.few) in
    let fits : SFits w64 r = search rules in
    let product : SFits w64 (r *ℤ pos w) = fits_signed_from_abs w64 _ (omega (arith, product_bounded r (pos w) 2000000000 2000000000 c.args.self.small (omega (arith, c.requires, c.args.self.few)))) in
    let small = share_within t w r c.requires in
    let quotient : SFits w64 (share t r w) = fits_signed_from_abs w64 _ (omega (arith, small, c.args.self.small)) in
    rw (to_z-of_z w64 _ fits, to_z_pos w64 _ less, to_z_pos w64 _ few, to_z-of_z w64 _ product, share_quotient t w r, to_z-of_z w64 _ quotient) (record { value = refl; bound = omega (arith, small, c.args.self.small) })
