use Rattle.std.proofs.Common.{◌≡◌}
use Rattle.allocation.proofs.Money.{Halfway}
use Rattle.allocation.proofs.amount.price_line.Given as goal

abbrev pub invariant-loop-one : goal.invariant-loop-one
invariant-loop-one l =
    let price = l.initial.settling.price in
    (l.settling.price ≡ price) × Halfway price.cents l.initial.line l.line l.one-index l.settling.total
