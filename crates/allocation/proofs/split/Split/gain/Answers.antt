use Rattle.std.proofs.Common.{arith}
use Rattle.std.proofs.lemmas.Int.{ints}
use Rattle.allocation.specs.Correction.{correction_of}
use Rattle.allocation.proofs.Shares.{size_grows}
use Rattle.allocation.proofs.split.Split.gain.Goals as goal

pub returns : goal.returns
unfolding correction_of
returns c =
    let t = c.args.self.total in
    let r = c.args.self.residual in
    let w = c.args.weight in
    record {
      value = omega (arith, ints, c.share.ensures.value, c.share-2.ensures.value);
      bound = omega (arith, ints, c.share.ensures.value, c.share-2.ensures.value, size_grows t c.args.passed w r, c.share.ensures.bound);
    }
