use Rattle.std.proofs.Common.{sym, ◌∙◌, w64, SFits, rules}
use Rattle.std.proofs.lemmas.Int.{to_z-of_z}
use Rattle.allocation.proofs.Laws.{divides}
use Rattle.allocation.proofs.quarter.correct_quarter.Goals as goal

pub returns : goal.returns
returns c p net_is residual_is =
    let fits : SFits w64 c.args.weights.net = search rules in
    divides p _ _ _ (sym c.requires) (to_z-of_z w64 _ fits ∙ net_is) residual_is c.correct_line-priced.ensures.after c.correct_line-priced.ensures.value
