use Rattle.std.proofs.Common.{◌^◌, ◌<◌, length, sym, arith, SFits, rules}
use mir.Syntax.{w128}
use Rattle.std.proofs.lemmas.Int.{to_z-of_z}
use Rattle.rows.proofs.Settled.{one_summed, sum_fits}
use Rattle.rows.proofs.settle.profiled_real.Goals as goal

pub overflow_add-sum : goal.overflow_add-sum
overflow_add-sum c =
    let fits : SFits w128 c.real_net-sum.result = search rules in
    let few : length c.args.rows.now < 2 ^ 64 = omega arith in
    rw (to_z-of_z w128 _ fits) (sum_fits _ c.args.period _ _ _ _ c.loop-row.invariant c.loop-row-test.true c.real_net-sum.ensures (sym c.if-row_passed.ensures) few)

pub loop-row-preserved : goal.loop-row-preserved
loop-row-preserved c =
    let fits : SFits w128 c.real_net-sum.result = search rules in
    let few : length c.args.rows.now < 2 ^ 64 = omega arith in
    rw (to_z-of_z w128 _ fits, to_z-of_z w128 _ (sum_fits _ c.args.period _ _ _ _ c.loop-row.invariant c.loop-row-test.true c.real_net-sum.ensures (sym c.if-row_passed.ensures) few)) (one_summed _ c.args.period _ _ _ _ c.loop-row.invariant c.loop-row-test.true c.real_net-sum.ensures (sym c.if-row_passed.ensures))
