use Rattle.std.proofs.Common.{◌∙◌, ap, rules}
use Rattle.std.proofs.lemmas.Iterator.Consumers.{map_from_collect}
use Rattle.std.proofs.lemmas.Result.{IfOk-at_ok, err_from_is_err_and}
use Rattle.quarter.specs.Words.{texts}
use Rattle.quarter.proofs.Meant.{said_is}
use Rattle.quarter.proofs.Pieces.{YieldsList-from_split_whitespace}
use Rattle.quarter.proofs.parse.parse.Goals as goal

pub returns : goal.returns
returns c =
    let text = c.args.text.now in
    let cut = ap texts c.as_slice.ensures.value ∙ IfOk-at_ok _ c.in_ok-words.was (map_from_collect _ c.collect.ensures.ran (YieldsList-from_split_whitespace text c.split_whitespace.ensures.rest)) in
    said_is c.args.line text _ _ _ cut c.said.ensures c.map_err.ensures.cases (λ e x h. search rules) ∙ c.in_ok-map_err.was

pub returns-in_err-map_err : goal.returns-in_err-map_err
returns-in_err-map_err c =
    let text = c.args.text.now in
    let cut = ap texts c.as_slice.ensures.value ∙ IfOk-at_ok _ c.in_ok-words.was (map_from_collect _ c.collect.ensures.ran (YieldsList-from_split_whitespace text c.split_whitespace.ensures.rest)) in
    let p = err_from_is_err_and c.from_residual-in_err-map_err.result c.from_residual-in_err-map_err.ensures.1 in
    rw (p.1, p.2) (said_is c.args.line text _ _ _ cut c.said.ensures c.map_err.ensures.cases (λ e x h. search rules) ∙ c.in_err-map_err.was)
