use Rattle.std.proofs.Common.{arith, ap, sym, ◌∙◌, is_some}
use Rattle.std.proofs.lemmas.Bool.{ltb-false}
use Rattle.tables.proofs.Finding.{after_from, belongs, stands}
use Rattle.tables.proofs.search.find_row.Goals as goal

pub returns-in-Some-clause-found : goal.returns-in-Some-clause-found
returns-in-Some-clause-found g c rising =
    let first = c.first_not_before-place.ensures in
    let here = c.in-Some.ensures.lookup.3 in
    stands g.R.Row.rules g.met.R.Row.ordered _ _ _ here.0 (first.split rising).0 (λ d.
    let row = here.1 d in
    g.met.R.Row.ordered.total _ _ ((first.split rising).1 _ d (omega arith) here.0) (cc))

pub returns-in_default-clause-found : goal.returns-in_default-clause-found
returns-in_default-clause-found g c rising =
    let first = c.first_not_before-place.ensures in
    let here = c.in-Some.ensures.lookup in
    belongs g.R.Row.rules g.met.R.Row.ordered _ _ _ first.within (first.split rising).0
    (after_from g.R.Row.rules g.met.R.Row.ordered _ c.args.wanted.now _ c.in-Some.row.now rising here.3.0 here.1 (cc))

pub returns-in_default-2-clause-found : goal.returns-in_default-2-clause-found
returns-in_default-2-clause-found g c rising =
    let first = c.first_not_before-place.ensures in
    belongs g.R.Row.rules g.met.R.Row.ordered _ _ _ first.within (first.split rising).0 (λ i d le lt. absurd (omega (arith, ltb-false _ _ (sym c.get.ensures.lookup.0 ∙ ap is_some c.in_default.is))))
