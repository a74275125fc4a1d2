use Rattle.tables.proofs.Outcomes.{front_removed, removed_outcome, sound_removed}
use Rattle.tables.proofs.keyed.Table.take_at.Goals as goal

pub returns-clause-sound : goal.returns-clause-sound
returns-clause-sound g c sound =
    let t = c.args.self.now in
    sound_removed g.R.Row.rules g.met.R.Row.ordered t _ c.args.place sound (front_removed t _ _ c.args.place c.len-len.ensures.rows c.requires c.close_at.ensures.after) c.requires

pub returns-clause-removed : goal.returns-clause-removed
returns-clause-removed g c sound =
    let t = c.args.self.now in
    removed_outcome g.R.Row.rules g.met.R.Row.ordered t _ c.args.place sound _ (front_removed t _ _ c.args.place c.len-len.ensures.rows c.requires c.close_at.ensures.after) c.close_at.ensures.row
