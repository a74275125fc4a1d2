use Rattle.std.proofs.Common.{◌≡◌, ◌+◌, ◌∙◌, length, drop, Ok, sym, subst, ap, arith}
use Rattle.std.specs.Str.Lines.{lines}
use Rattle.std.specs.Str.Iter.{lines_rest}
use Rattle.std.proofs.lemmas.Iterator.Consumers.{YieldsList-end}
use Rattle.std.proofs.lemmas.Iterator.Splits.{YieldsList-from_lines}
use Rattle.std.proofs.lemmas.List.{length_push}
use Rattle.std.proofs.lemmas.Result.{err_from_is_err_and}
use Rattle.quarter.specs.Meaning.{described, with_line, with_lines}
use Rattle.quarter.specs.Reports.{read_so_far, Stops}
use Rattle.quarter.proofs.Meant.{nothing_is, line_turn, lines_start, lines_more, lines_stop, lines_end, lines_fit}
use Rattle.quarter.proofs.book.read.Goals as goal

pub loop-line-init : goal.loop-line-init
loop-line-init c = record { count = omega arith; so_far = lines_start _ c.args.text.now (nothing_is c.none.result _ c.none.ensures c.new.ensures.items) }

pub take_line-requires : goal.take_line-requires
take_line-requires c =
    let text = c.args.text.now in
    let t = line_turn text c.into_iter-line-iterator.ensures.into_iter_gives c.lines-line-items.ensures.rest c.loop-line.yielded _ c.loop-line.yielded_by _ _ c.in-Some.line c.in-Some.is c.next.ensures.steps in
    omega (arith, t.0, lines_fit text, c.loop-line.invariant.count)

pub loop-line-preserved : goal.loop-line-preserved
loop-line-preserved c =
    let text = c.args.text.now in
    let all = lines text in
    let before = read_so_far c.loop-line.input in
    let after = read_so_far c.take_line.new.input in
    let t = line_turn text c.into_iter-line-iterator.ensures.into_iter_gives c.lines-line-items.ensures.rest c.loop-line.yielded _ c.loop-line.yielded_by _ _ c.in-Some.line c.in-Some.is c.next.ensures.steps in
    let said = subst (λ k. with_line (k + 1) before c.in-Some.line.now ≡ Ok after) c.loop-line.invariant.count c.in_ok-take_line.ensures.answer in
    let more = length_push c.loop-line.yielded c.in-Some.line in
    record {
      count = c.in_ok-take_line.ensures.count ∙ ap (λ k. k + 1) c.loop-line.invariant.count ∙ sym more;
      so_far = subst (λ k. with_lines k after (drop k all) ≡ described text) (sym more) (sym (lines_more _ before after all c.in-Some.line.now t said) ∙ c.loop-line.invariant.so_far);
    }

pub returns : goal.returns
returns c =
    let text = c.args.text.now in
    let rest = ap lines_rest c.into_iter-line-iterator.ensures.into_iter_gives ∙ c.lines-line-items.ensures.rest in
    let t = YieldsList-end (YieldsList-from_lines text rest) c.loop-line.yielded _ c.loop-line.yielded_by _ _ c.in-None.is c.next.ensures.steps in
    record {
      all = sym c.loop-line.invariant.so_far ∙ lines_end (length c.loop-line.yielded) (read_so_far c.loop-line.input) (lines text) (omega (arith, t.1));
      count = c.loop-line.invariant.count ∙ t.1;
    }

pub returns-in_err-take_line : goal.returns-in_err-take_line
returns-in_err-take_line c =
    let text = c.args.text.now in
    let before = read_so_far c.loop-line.input in
    let stop = c.in_err-take_line.field-0.0 in
    let t = line_turn text c.into_iter-line-iterator.ensures.into_iter_gives c.lines-line-items.ensures.rest c.loop-line.yielded _ c.loop-line.yielded_by _ _ c.in-Some.line c.in-Some.is c.next.ensures.steps in
    let said = subst (λ k. Stops (with_line (k + 1) before c.in-Some.line.now) stop) c.loop-line.invariant.count c.in_err-take_line.ensures.answer in
    let p = err_from_is_err_and c.from_residual.result c.from_residual.ensures.1 in
    rw (p.1, p.2) (subst (λ m. Stops m stop) c.loop-line.invariant.so_far (lines_stop _ before (lines text) c.in-Some.line.now stop t said))
