use Rattle.std.proofs.Common.{ap, ◌∙◌}
use mir.Syntax.{w128}
use Rattle.std.proofs.lemmas.List.{drop_more, drop_all}
use Rattle.std.proofs.lemmas.Result.{err_from_is_err_and}
use Rattle.std.proofs.lemmas.Int.{to_z-of_z}
use Rattle.rows.proofs.RowLine.{walked_start, walked_refused, walked_more, walked_end}
use Rattle.rows.proofs.amounts.settle_rows.Goals as goal

pub loop-row-init : goal.loop-row-init
loop-row-init c = (c.new-settling.ensures.price, walked_start _ _ _ _ _ c.new-settling.ensures.total)

pub loop-row-preserved : goal.loop-row-preserved
loop-row-preserved c =
    let cut = drop_more c.args.rows.now c.loop-row.row-index _ c.loop-row-test.true in
    let told = c.in_ok-pass_row.ensures in
    (told.1.1 ∙ c.loop-row.invariant.0, walked_more _ _ _ _ _ _ _ cut _ c.loop-row.invariant.1 _ told.0 told.1.0)

pub returns-in_err-pass_row : goal.returns-in_err-pass_row
returns-in_err-pass_row c =
    let p = err_from_is_err_and c.from_residual.result c.from_residual.ensures.1 in
    let cut = drop_more c.args.rows.now c.loop-row.row-index _ c.loop-row-test.true in
    let told = rw (to_z-of_z w128 _ c.ranges.loss) at c.loop-row.invariant.1 in
    rw (p.1, p.2) (walked_refused _ _ c.args.loss _ _ _ _ cut _ told _ c.in_err-pass_row.ensures)

pub returns : goal.returns
returns c =
    let none = drop_all c.loop-row.row-index c.args.rows.now c.loop-row-test.false in
    let walked = rw (to_z-of_z w128 _ c.ranges.loss) at c.loop-row.invariant.1 in
    let told = rw (to_z-of_z w128 _ c.ranges.loss) at c.wide_amount.ensures in
    walked_end _ _ c.args.loss _ _ _ _ c.wide_amount.result _ _ (ap (λ p. p.cents) c.loop-row.invariant.0) none walked told
