use Rattle.rows.specs.Counting.{under}
use Rattle.rows.proofs.Counting.{Summed}
use Rattle.rows.proofs.weigh.Weighing.tally.Given as goal

abbrev pub invariant-loop-row : goal.invariant-loop-row
invariant-loop-row g l = under g.S.ProfileSource.means l.self Summed l.rows l.row-index l.offtake l.feed_in
