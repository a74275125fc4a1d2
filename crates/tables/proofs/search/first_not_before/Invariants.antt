use Rattle.std.proofs.Common.{◌-◌, ◌≤◌, length}
use Rattle.tables.specs.Rules.{Rising, AllBefore, NoneBefore}
use Rattle.tables.proofs.search.first_not_before.Given as goal

abbrev pub invariant-loop-low : goal.invariant-loop-low
invariant-loop-low g l =
    let rules = g.R.Row.rules in
    (l.low ≤ l.high) × (l.high ≤ length l.rows) × (Rising rules l.rows → AllBefore rules l.rows l.wanted l.low)
    × (Rising rules l.rows → NoneBefore rules l.rows l.wanted l.high)

abbrev pub decreases-loop-low : goal.decreases-loop-low
decreases-loop-low g l = l.high - l.low
