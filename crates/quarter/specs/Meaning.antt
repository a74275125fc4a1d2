-- What the lines of a text say: the quarter that they describe, or why it is refused. Assumes nothing.
use Rattle.std.specs.Prelude.{ℕ, ◌+◌, cond, List, [], ◌∷◌, ◌++◌, ℤ, pos, ◌+ℤ◌, Result, Ok, Err, Option, Some, None, nat_lt}
use Rattle.std.specs.Str.Lines.{lines}
use Rattle.fault.specs.declared.cause.Fault.TheVariants.{LimitPassed}
use Rattle.fault.specs.declared.cause.Limit.TheVariants.{Postings as PostingLimit}
use Rattle.quarter.specs.declared.input.Item.{Item}
use Rattle.quarter.specs.declared.input.Item.TheVariants.{Posting, Group}
use Rattle.quarter.specs.declared.input.Net.TheVariants.{Exchange, Measured, Losses}
use Rattle.quarter.specs.declared.input.Row.{Row}
use Rattle.quarter.specs.declared.refusal.Reason.{Reason}
use Rattle.quarter.specs.declared.refusal.Reason.TheVariants.{Quarter}
use Rattle.quarter.specs.declared.refusal.Refusal.{Refusal}
use Rattle.quarter.specs.Bounds.{most_posted}
use Rattle.quarter.specs.Postings.{signed, counts}
use Rattle.quarter.specs.Texts.{words}
use Rattle.quarter.specs.Words.{and_then, says}

-- a quarter as lines describe it: X, M and L, all watt-hours posted, and the groups as they were given
pub record Described : Type 0 where
  pub exchange : ℤ
  pub measured : ℤ
  pub losses : ℤ
  pub gross : ℕ
  pub rows : List Row

abbrev pub nothing_yet : Described
nothing_yet = record { exchange = pos 0; measured = pos 0; losses = pos 0; gross = 0; rows = [] }

-- what a line says, added: a posting while all together stay within their limit
abbrev pub with_item : Described → Option Item → Result Described Reason
with_item q None = Ok q
with_item q (Some (Posting o)) =
    cond (nat_lt most_posted (q.gross + o.wh)) (Err (Quarter (LimitPassed PostingLimit)))
    (Ok (record {
      exchange = q.exchange +ℤ counts Exchange o.net (signed o.way o.wh);
      measured = q.measured +ℤ counts Measured o.net (signed o.way o.wh);
      losses = q.losses +ℤ counts Losses o.net (signed o.way o.wh);
      gross = q.gross + o.wh;
      rows = q.rows;
    }))
with_item q (Some (Group row)) = Ok (record { exchange = q.exchange; measured = q.measured; losses = q.losses; gross = q.gross; rows = q.rows ++ row ∷ [] })

-- a reason, at the line that gave it
abbrev pub at_line : {A : Type 0} → ℕ → Result A Reason → Result A Refusal
at_line n (Ok x) = Ok x
at_line n (Err reason) = Err (record { line = n; reason = reason })

-- what the n-th line says
unfoldable pub said : ℕ → List ℕ → Result (Option Item) Refusal
said n line = at_line n (says n (words line))

-- one line more, the n-th
unfoldable pub with_line : ℕ → Described → List ℕ → Result Described Refusal
with_line n q line = and_then (said n line) (λ item. at_line n (with_item q item))

-- more lines, after n of them; the first that is wrong ends them
abbrev pub with_lines : ℕ → Described → List (List ℕ) → Result Described Refusal
with_lines n q [] = Ok q
with_lines n q (line ∷ more) = and_then (with_line (n + 1) q line) (λ next. with_lines (n + 1) next more)

-- what all lines of a text describe
unfoldable pub described : List ℕ → Result Described Refusal
described text = with_lines 0 nothing_yet (lines text)
