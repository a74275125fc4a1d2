use Rattle.std.proofs.Common.{refl}
use Rattle.fault.specs.Values.{period_number}
use Rattle.tables.specs.BookRows.{group_rules}
use Rattle.tables.proofs.Fronts.{ends, map_keys, stays}
use Rattle.tables.proofs.Weighed.{weighed_group}
use Rattle.tables.proofs.group_rows.Table+GroupRow.write_weights.Goals as goal

pub returns-clause-rows : goal.returns-clause-rows
returns-clause-rows g c =
    let w = c.args.weighing.now in
    let keys = map_keys group_rules _ (weighed_group (g.S.ProfileSource.means w.source.now) w.quarter (period_number w.period)) in
    ends group_rules _ keys c.args.self.now _ _ c.len-len.ensures.rows _ refl refl c.write_front.result c.write_front.ensures.rows

pub returns-clause-stays : goal.returns-clause-stays
returns-clause-stays g c =
    let w = c.args.weighing.now in
    let keys = map_keys group_rules _ (weighed_group (g.S.ProfileSource.means w.source.now) w.quarter (period_number w.period)) in
    stays group_rules _ keys c.args.self.now _ _ c.len-len.ensures.rows _ refl refl c.write_front.result c.write_front.ensures.rows
