use Rattle.std.proofs.Common.{◌<◌, ◌∙◌, ap, subst, sym, refl, arith, rules, tests}
use Rattle.std.specs.Slice.Iter.{windows_size, windows_rest}
use Rattle.std.specs.Slice.ArrayWindows.{array_windows_parts}
use Rattle.std.specs.Option.{IfSome}
use Rattle.quarter.proofs.Order.{IsPair, breaks_at}
use Rattle.quarter.proofs.book.check_rising.Goals as goal

pub returns-in-Some : goal.returns-in-Some
returns-in-Some c =
    let rows = c.args.rows.now in
    let h = c.in-Some.ensures.runs in
    let run = h.0 in
    let size = ap (λ s. windows_size (array_windows_parts s)) h.1 ∙ c.array_windows.ensures.size in
    let rest = ap (λ s. windows_rest (array_windows_parts s)) h.1 ∙ c.array_windows.ensures.rest in
    let some : 0 < windows_size (array_windows_parts run.from) = subst (λ n. 0 < n) (sym size) (omega arith) in
    let w = c.array_windows.ensures.runs run run.seen some in
    let calls = h.2.3 (λ a r f q. refl) in
    breaks_at rows (λ k. run.at k) h.2.0 c.in-Some.field-0 _
    (λ k. subst (λ n. IfSome (run.at k) (IsPair n rows k)) size (subst (λ xs. IfSome (run.at k) (IsPair (windows_size (array_windows_parts run.from)) xs k)) rest (w.2 k)))
    h.2.2 (let q = calls.0 in search rules) calls.1 (λ y q. search (rules, tests)) c.at.ensures
