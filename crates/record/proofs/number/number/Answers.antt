use Rattle.std.proofs.Common.{refl, arith, rules}
use Rattle.record.specs.Number.{big}
use Rattle.record.proofs.Big.{turn, room, part_length}
use Rattle.record.proofs.number.number.Goals as goal

pub loop-b-init : goal.loop-b-init
unfolding big
loop-b-init c = (refl, omega arith)

pub overflow_mul-n : goal.overflow_mul-n
overflow_mul-n c =
    let part = part_length c.args.body.now c.args.at c.args.width c.requires.0 in
    record { fits = omega (arith, room c.loop-b.b-index c.loop-b.n 0 (omega arith) c.loop-b.invariant.1 (omega arith)) }

pub loop-b-preserved : goal.loop-b-preserved
loop-b-preserved c = turn _ c.loop-b.b-index c.loop-b.n _ c.loop-b-test.true c.from.ensures (search rules) c.loop-b.invariant.0 c.loop-b.invariant.1
