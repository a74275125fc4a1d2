use Rattle.allocation.specs.Scale.{weight_of}
use Rattle.allocation.proofs.fraction.weight.Goals as goal

pub returns-clause-value : goal.returns-clause-value
unfolding weight_of
returns-clause-value c = rw (c.from.ensures, c.parts.ensures, c.kwh.ensures) at c.rounded_wh.ensures.value
