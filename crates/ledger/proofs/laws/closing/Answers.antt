use Rattle.ledger.proofs.Lawfulness.{history_lawful}
use Rattle.ledger.proofs.laws.closing.Goals as goal

pub returns : goal.returns
returns c = λ s h a. let l = history_lawful s h a in record { allocations = l.closes; rows = l.closing }
