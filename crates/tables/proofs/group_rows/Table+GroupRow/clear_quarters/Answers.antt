use Rattle.std.proofs.Common.{map, refl}
use Rattle.rows.specs.Groups.{cleared}
use Rattle.tables.specs.BookRows.{group_rules}
use Rattle.tables.proofs.Fronts.{done, ends, map_keys, stays}
use Rattle.tables.proofs.group_rows.Table+GroupRow.clear_quarters.Goals as goal

pub returns-clause-rows : goal.returns-clause-rows
returns-clause-rows c = ends group_rules (map cleared) (map_keys group_rules cleared (λ x. refl)) c.args.self.now _ _ c.len-len.ensures.rows _ refl refl done c.clear_front.ensures

pub returns-clause-stays : goal.returns-clause-stays
returns-clause-stays c = stays group_rules (map cleared) (map_keys group_rules cleared (λ x. refl)) c.args.self.now _ _ c.len-len.ensures.rows _ refl refl done c.clear_front.ensures
