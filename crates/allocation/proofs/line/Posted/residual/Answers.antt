use Rattle.std.proofs.Common.{◌≡◌, ◌^◌, ◌≤◌, ℤ, pos, negsuc, ◌+ℤ◌, nat_abs, arith, w64, SFits, to_z, of_z, rules}
use mir.Syntax.{w128}
use Rattle.std.proofs.lemmas.Int.{ints, to_z-of_z, fits_signed_from_abs}
use Rattle.allocation.proofs.line.Posted.residual.Goals as goal

size : (z : ℤ) → SFits w64 z → nat_abs z ≤ 2 ^ 63
size (pos n) f = omega (arith, f.sfits)
size (negsuc n) f = omega (arith, f.sfits)

-- three sums in 128 bits of numbers of 64 bits, and a fourth that fits
module _ (x m v l : ℤ) (f : SFits w64 x) (g : SFits w64 m) (h : SFits w64 v) (k : SFits w64 l) where
  three : to_z w128 (of_z w128 (to_z w128 (of_z w128 (to_z w128 (of_z w128 x) +ℤ to_z w128 (of_z w128 m))) +ℤ to_z w128 (of_z w128 v))) ≡ x +ℤ m +ℤ v
  three =
      let a : SFits w128 x = fits_signed_from_abs w128 _ (omega (arith, size x f)) in
      let b : SFits w128 m = fits_signed_from_abs w128 _ (omega (arith, size m g)) in
      let c : SFits w128 v = fits_signed_from_abs w128 _ (omega (arith, size v h)) in
      let two : SFits w128 (x +ℤ m) = fits_signed_from_abs w128 _ (omega (arith, ints, size x f, size m g)) in
      let all : SFits w128 (x +ℤ m +ℤ v) = fits_signed_from_abs w128 _ (omega (arith, ints, size x f, size m g, size v h)) in
      rw (to_z-of_z w128 _ a, to_z-of_z w128 _ b, to_z-of_z w128 _ two, to_z-of_z w128 _ c) (to_z-of_z w128 _ all)

  last : to_z w128 (of_z w128 l) ≡ l
  last = to_z-of_z w128 l (fits_signed_from_abs w128 _ (omega (arith, size l k)))

  four : SFits w128 (x +ℤ m +ℤ v +ℤ l)
  four = fits_signed_from_abs w128 _ (omega (arith, ints, size x f, size m g, size v h, size l k))

pub overflow_add-from-3 : goal.overflow_add-from-3
overflow_add-from-3 c =
    let p = c.args.self in
    let x : SFits w64 p.exchange = search rules in
    let m : SFits w64 p.measured = search rules in
    let v = c.ranges.net in
    let l : SFits w64 p.losses = search rules in
    rw (c.from.ensures, c.from-2.ensures, c.from-3.ensures, c.from-4.ensures, to_z-of_z w64 _ x, to_z-of_z w64 _ m, to_z-of_z w64 _ v, to_z-of_z w64 _ l, three _ _ _ _ x m v l, last _ _ _ _ x m v l) (four _ _ _ _ x m v l)

pub returns : goal.returns
returns c =
    let p = c.args.self in
    let x : SFits w64 p.exchange = search rules in
    let m : SFits w64 p.measured = search rules in
    let v = c.ranges.net in
    let l : SFits w64 p.losses = search rules in
    rw (c.from.ensures, c.from-2.ensures, c.from-3.ensures, c.from-4.ensures, to_z-of_z w64 _ x, to_z-of_z w64 _ m, to_z-of_z w64 _ v, to_z-of_z w64 _ l, three _ _ _ _ x m v l, last _ _ _ _ x m v l, to_z-of_z w128 _ (four _ _ _ _ x m v l)) at c.opposite.ensures
