use Rattle.std.proofs.Common.{◌≡◌, length, drop}
use Rattle.std.specs.Str.Lines.{lines}
use Rattle.quarter.specs.Meaning.{described, with_lines}
use Rattle.quarter.specs.Reports.{read_so_far}
use Rattle.quarter.proofs.book.read.Given as goal

abbrev pub invariant-loop-line : goal.invariant-loop-line
invariant-loop-line l =
    record {
      count : l.input.lines ≡ length l.yielded;
      so_far : with_lines (length l.yielded) (read_so_far l.input) (drop (length l.yielded) (lines l.text)) ≡ described l.text;
    }
