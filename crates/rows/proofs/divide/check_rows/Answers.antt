use Rattle.std.proofs.Common.{◌≡◌, Some, arith}
use Rattle.std.proofs.lemmas.List.{drop_more}
use Rattle.rows.proofs.Divided.{checking_more}
use Rattle.rows.proofs.divide.check_rows.Goals as goal

pub loop-row-preserved : goal.loop-row-preserved
loop-row-preserved c =
    let some : c.divide_row.result ≡ Some c.in_ok-ok_or.field-0 = grind arith in
    let after = rw some at c.divide_row.ensures.after in
    let cut = drop_more c.args.rows.now c.loop-row.row-index _ c.loop-row-test.true in
    checking_more _ _ _ _ _ _ cut _ c.loop-row.invariant _ after.0 c.divide_row.ensures.stepped
