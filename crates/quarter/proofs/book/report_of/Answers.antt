use Rattle.std.proofs.Common.{◌≡◌, length, vec_len, refl, sym, ap, ◌∙◌, subst, arith, rules}
use Rattle.std.proofs.lemmas.List.{with_items_is}
use Rattle.std.proofs.lemmas.Result.{err_from_is_err_and}
use Rattle.allocation.specs.Lines.{quarter_refusal}
use Rattle.quarter.specs.Reports.{read_so_far, Breaks}
use Rattle.quarter.specs.Rows.{line_of, Rising}
use Rattle.quarter.proofs.Order.{in_order, not_divided, twice}
use Rattle.quarter.proofs.Reading.{booked, decided_err, decided_ok}
use Rattle.quarter.proofs.book.report_of.Goals as goal

pub returns-in_err-check_rising : goal.returns-in_err-check_rising
returns-in_err-check_rising c =
    let rows = c.sort_unstable.new.self.items in
    let p = err_from_is_err_and c.from_residual.result c.from_residual.ensures.1 in
    let breaks = subst (λ xs. Breaks xs c.in_err-check_rising.field-0.0) c.as_slice.ensures.value c.in_err-check_rising.ensures in
    let ordered = in_order c.args.input.rows.items rows c.sort_unstable.ensures.permutation c.sort_unstable.ensures.sorted in
    rw (p.1, p.2) (twice c.args.input.lines (read_so_far c.args.input) rows c.in_err-check_rising.field-0.0 ordered breaks)

pub returns-in_err-allocated : goal.returns-in_err-allocated
returns-in_err-allocated c =
    let input = c.args.input in
    let rows = c.sort_unstable.new.self.items in
    let p = err_from_is_err_and c.from_residual-in_err-allocated.result c.from_residual-in_err-allocated.ensures.1 in
    let ordered = in_order input.rows.items rows c.sort_unstable.ensures.permutation c.sort_unstable.ensures.sorted in
    let line = c.as_mut_slice.ensures.value ∙ c.in_ok-line.ensures ∙ ap line_of c.as_slice-2.ensures.value in
    let fault = decided_err input.lines _ _ c.allocate.result c.allocate.ensures.answer c.map_err.ensures.cases (λ e x h. search rules) c.in_err-allocated.was in
    let refused = (λ i. quarter_refusal (sym c.nets.ensures i) (sym line i) (record { 0 = 0 })) ∙ fault.1 in
    rw (p.1, p.2) (not_divided input.lines (read_so_far input) rows c.in_err-allocated.field-0.0 ordered (subst Rising c.as_slice.ensures.value c.in_ok-check_rising.ensures) (fault.0, refused, fault.2))

pub returns : goal.returns
returns c =
    let rows = c.sort_unstable.new.self.items in
    let long : length c.allocate.new.line ≡ vec_len c.in_ok-line.line = omega (arith, c.allocate.auto.line, c.as_mut_slice.ensures.len) in (
      record { postings = refl; groups = in_order c.args.input.rows.items rows c.sort_unstable.ensures.permutation c.sort_unstable.ensures.sorted },
      booked _ _ _ _
          (subst Rising c.as_slice.ensures.value c.in_ok-check_rising.ensures)
          c.nets.ensures
          (c.as_mut_slice.ensures.value ∙ c.in_ok-line.ensures ∙ ap line_of c.as_slice-2.ensures.value)
          (with_items_is c.in_ok-line.line c.allocate.new.line long)
          (decided_ok _ _ _ c.allocate.result c.allocate.ensures.answer c.map_err.ensures.cases c.map_err.ensures.variant c.in_ok-allocated.was),
    )
