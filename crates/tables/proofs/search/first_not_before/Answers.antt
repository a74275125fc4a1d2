use Rattle.std.proofs.Common.{arith}
use Rattle.tables.proofs.Finding.{before_up_to, none_before_from}
use Rattle.tables.proofs.search.first_not_before.Goals as goal

pub loop-low-preserved-then-before : goal.loop-low-preserved-then-before
loop-low-preserved-then-before g c =
    let inv = c.loop-low.invariant in
    (omega arith, inv.1, λ rising. before_up_to g.R.Row.rules g.met.R.Row.ordered c.args.rows.now c.args.wanted.now _ c.index-rows-middle.result rising (omega arith) c.index-rows-middle.is (cc), inv.3)

pub loop-low-preserved : goal.loop-low-preserved
loop-low-preserved g c =
    let inv = c.loop-low.invariant in
    (omega arith, omega arith, inv.2, λ rising. none_before_from g.R.Row.rules g.met.R.Row.ordered c.args.rows.now c.args.wanted.now _ c.index-rows-middle.result rising (omega arith) c.index-rows-middle.is (cc))
