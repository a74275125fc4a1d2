use Rattle.std.proofs.Common.{◌≡◌, drop, pos}
use Rattle.allocation.specs.Amounts.{totals_refusal}
use Rattle.allocation.proofs.amount.totals_within.Given as goal

abbrev pub invariant-loop-one : goal.invariant-loop-one
invariant-loop-one l = totals_refusal l.settling.total (drop l.one-index l.line) ≡ totals_refusal (pos 0) l.line
