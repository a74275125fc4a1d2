use Rattle.ledger.proofs.Lawfulness.{history_lawful}
use Rattle.ledger.proofs.laws.readings.Goals as goal

pub returns : goal.returns
returns c = λ s h a. record { volumes = (history_lawful s h a).readings; latest = (history_lawful s h a).counts }
