use Rattle.std.proofs.Common.{◌≤◌, length, pos, ap, ◌∙◌, arith}
use Rattle.allocation.specs.Amounts.{settled}
use Rattle.allocation.proofs.Money.{halfway_end, settles}
use Rattle.allocation.proofs.amount.price_line.Goals as goal

pub returns : goal.returns
returns c =
    let l : length c.loop-one.line ≤ c.loop-one.one-index = omega arith in
    settles _ _ _ (halfway_end _ _ _ _ _ c.loop-one.invariant.1 l ∙ ap (λ p. settled p.cents (pos 0) c.args.line.now) c.new-settling.ensures.price)
