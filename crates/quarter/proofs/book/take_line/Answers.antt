use Rattle.std.proofs.Common.{◌+◌, sym}
use Rattle.std.proofs.lemmas.Result.{err_from_is_err_and}
use Rattle.quarter.specs.Reports.{read_so_far}
use Rattle.quarter.proofs.Meant.{line_stops, line_says}
use Rattle.quarter.proofs.book.take_line.Goals as goal

pub returns-in_err-item-clause-answer : goal.returns-in_err-item-clause-answer
returns-in_err-item-clause-answer c =
    let input = c.args.input.now in
    let p = err_from_is_err_and c.from_residual.result c.from_residual.ensures.1 in
    rw (p.1, p.2) (line_stops (input.lines + 1) (read_so_far input) c.args.line.now c.in_err-item.field-0.0 c.in_err-item.ensures)

pub returns-clause-answer : goal.returns-clause-answer
returns-clause-answer c =
    let input = c.args.input.now in
    rw (sym (line_says (input.lines + 1) (read_so_far input) c.args.line.now c.in_ok-item.item c.in_ok-item.ensures)) c.note.ensures.answer
