use Rattle.ledger.proofs.Lawfulness.{history_lawful}
use Rattle.ledger.proofs.laws.enrolments.Goals as goal

pub returns : goal.returns
returns c = λ s h a. let l = history_lawful s h a in record { table = l.enrolled; codes_rise = l.codes_rise; groups_are = l.named; groups_rise = l.groups_rise }
