use Rattle.ledger.proofs.Lawfulness.{lawful}
use Rattle.ledger.proofs.laws.all_laws.Goals as goal

pub returns : goal.returns
returns c = lawful
