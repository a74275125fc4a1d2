use Rattle.ledger.proofs.Going.{steps}
use Rattle.ledger.proofs.laws.entries_are_events.Goals as goal

pub returns : goal.returns
returns c = steps
