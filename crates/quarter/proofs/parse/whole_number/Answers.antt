use Rattle.std.proofs.Common.{rules}
use Rattle.quarter.proofs.Numerals.{whole_from_parse}
use Rattle.quarter.proofs.parse.whole_number.Goals as goal

pub returns : goal.returns
returns c =
    whole_from_parse c.args.place c.args.text.now _ _ c.parse.ensures.value.0 c.map_err.ensures.cases (λ e x h. search rules)
