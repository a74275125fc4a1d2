use Rattle.std.proofs.Common.{arith}
use Rattle.quarter.proofs.Reading.{posted_within}
use Rattle.quarter.proofs.input.Postings.with.Goals as goal

pub invariant_of-result : goal.invariant_of-result
invariant_of-result c =
    let self = c.args.self in
    record { few = omega arith; within = posted_within c.counted.result self.nets c.args.posting self.gross c.counted.ensures self.within }
