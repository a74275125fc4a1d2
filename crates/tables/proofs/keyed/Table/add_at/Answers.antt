use Rattle.tables.proofs.Outcomes.{front_inserted, inserted_outcome, sound_inserted}
use Rattle.tables.proofs.keyed.Table.add_at.Goals as goal

pub returns-clause-sound : goal.returns-clause-sound
returns-clause-sound g c sound places =
    let t = c.args.self.now in
    sound_inserted g.R.Row.rules g.met.R.Row.ordered t _ c.args.place sound c.args.row (front_inserted t _ _ c.args.place c.len-len.ensures.rows c.args.row c.requires.among c.open_at.ensures) places c.requires.below_most

pub returns-clause-inserted : goal.returns-clause-inserted
returns-clause-inserted g c sound places =
    let t = c.args.self.now in
    inserted_outcome g.R.Row.rules g.met.R.Row.ordered t _ c.args.place sound c.args.row (front_inserted t _ _ c.args.place c.len-len.ensures.rows c.args.row c.requires.among c.open_at.ensures) places
