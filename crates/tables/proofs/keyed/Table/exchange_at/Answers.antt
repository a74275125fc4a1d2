use Rattle.tables.proofs.Outcomes.{front_set, replaced_outcome, sound_set}
use Rattle.tables.proofs.keyed.Table.exchange_at.Goals as goal

pub returns-clause-sound : goal.returns-clause-sound
returns-clause-sound g c sound seeks =
    let t = c.args.self.now in
    sound_set g.R.Row.rules g.met.R.Row.ordered t _ c.args.place sound _ (front_set t _ c.args.place c.args.row c.requires c.put_at.ensures.after) seeks

pub returns-clause-replaced : goal.returns-clause-replaced
returns-clause-replaced g c sound seeks =
    let t = c.args.self.now in
    replaced_outcome g.R.Row.rules g.met.R.Row.ordered t _ c.args.place sound _ _ (front_set t _ c.args.place c.args.row c.requires c.put_at.ensures.after) c.put_at.ensures.row seeks
