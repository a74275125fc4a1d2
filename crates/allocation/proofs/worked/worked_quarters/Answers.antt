use Rattle.allocation.proofs.WorkedQuarters.{worked_quarters}
use Rattle.allocation.proofs.worked.worked_quarters.Goals as goal

pub returns : goal.returns
returns c = worked_quarters
