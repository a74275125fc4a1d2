-- What a report says, and why there is none. Assumes nothing.
use Rattle.std.specs.Prelude.{◌≡◌, ℕ, ◌+◌, ◌<◌, ◌≤◌, ◌⊎◌, true, false, Result, Ok, Err, Some, List, length, vec_items, slice_index_or}
use Rattle.std.specs.List.Sorted.{IsPermutation}
use Rattle.std.specs.Str.Lines.{lines}
use Rattle.fault.specs.declared.cause.Fault.{Fault}
use Rattle.allocation.specs.declared.line.Posted.{Posted}
use Rattle.allocation.specs.Lines.{Divides, quarter_refusal}
use Rattle.quarter.specs.declared.input.Input.{Input}
use Rattle.quarter.specs.declared.input.Postings.{Postings}
use Rattle.quarter.specs.declared.input.Row.{Row}
use Rattle.quarter.specs.declared.refusal.Reason.TheVariants.{GroupTwice, Quarter}
use Rattle.quarter.specs.declared.refusal.Refusal.{Refusal}
use Rattle.quarter.specs.declared.refusal.Stop.{Stop}
use Rattle.quarter.specs.declared.refusal.Stop.TheVariants.{Refused, Memory}
use Rattle.quarter.specs.declared.report.Report.{Report}
use Rattle.quarter.specs.Meaning.{Described, described}
use Rattle.quarter.specs.Postings.{nets}
use Rattle.quarter.specs.Rows.{before, blank, Rising, line_of}

-- what was read, as lines describe it
abbrev pub of_parts : Postings → List Row → Described
of_parts p rows = record { exchange = p.nets.exchange; measured = p.nets.measured; losses = p.nets.losses; gross = p.gross; rows = rows }

abbrev pub read_so_far : Input → Described
read_so_far i = of_parts i.postings (vec_items i.rows)

abbrev pub posted : Described → Posted
posted q = record { exchange = q.exchange; measured = q.measured; losses = q.losses }

-- a call stops with the refusal that is meant, or for want of memory
abbrev pub Stops : {A : Type 0} → Result A Refusal → Stop → Type 0
Stops meant (Refused refusal) = meant ≡ Err refusal
Stops meant Memory = Unit {0}

-- a call answers what is meant
abbrev pub Answers : {A B : Type 0} → Result A Refusal → Result B Stop → (B → A) → Type 0
Answers meant (Ok x) shows = meant ≡ Ok (shows x)
Answers meant (Err stop) shows = Stops meant stop

-- an input has what the whole text says
pub record Holds (text : List ℕ) (i : Input) : Type 0 where
  pub all : described text ≡ Ok (read_so_far i)
  pub count : i.lines ≡ length (lines text)

-- a stands before b in the order of rows: by group, and of one group by line
abbrev pub Precedes : Row → Row → Type 0
Precedes a b = (before a b ≡ true) ⊎ ((a.group ≡ b.group) × (a.line ≤ b.line))

-- s has the rows that were given, each as often, in their order
pub record InOrder (given s : List Row) : Type 0 where
  pub all : IsPermutation given s
  pub order : (k : ℕ) → k + 1 < length s → Precedes (slice_index_or s k blank) (slice_index_or s (k + 1) blank)

-- the first two neighbours of which one does not come before the other, and the refusal that names the second
pub record Breaks (s : List Row) (r : Refusal) : Type 0 where
  pub place : ℕ
  pub within : place + 1 < length s
  pub first : (k : ℕ) → k < place → before (slice_index_or s k blank) (slice_index_or s (k + 1) blank) ≡ true
  pub here : before (slice_index_or s place blank) (slice_index_or s (place + 1) blank) ≡ false
  pub is : r ≡ record { line = (slice_index_or s (place + 1) blank).line; reason = GroupTwice }

-- of rows in their order, the first two neighbours of one group; the line is that of the second
pub record GivenTwice (s : List Row) (line : ℕ) : Type 0 where
  pub place : ℕ
  pub within : place + 1 < length s
  pub first : (k : ℕ) → k < place → before (slice_index_or s k blank) (slice_index_or s (k + 1) blank) ≡ true
  pub again : (slice_index_or s place blank).group ≡ (slice_index_or s (place + 1) blank).group
  pub line_is : line ≡ (slice_index_or s (place + 1) blank).line

-- the quarter cannot be divided, for which its last line answers
pub record NotDivided (last : ℕ) (q : Described) (s : List Row) (r : Refusal) : Type 0 where
  pub order : Rising s
  pub fault : Fault
  pub refused : quarter_refusal (posted q) (line_of s) (record { 0 = 0 }) ≡ Some fault
  pub is : r ≡ record { line = last; reason = Quarter fault }

-- why a quarter that lines describe is refused: a group is given twice, or else it cannot be divided
pub record Refuses (last : ℕ) (q : Described) (r : Refusal) : Type 0 where
  pub rows : List Row
  pub ordered : InOrder q.rows rows
  pub why : ((r.reason ≡ GroupTwice) × GivenTwice rows r.line) ⊎ NotDivided last q rows r

-- no group twice, in order; and the reported line is the line of the groups' weights, divided: it closes, and each share is near its exact one
pub record Booked (r : Report) : Type 0 where
  pub order : Rising (vec_items r.rows)
  pub split : Divides (nets r.postings) (line_of (vec_items r.rows)) (vec_items r.line) r.allocated

-- the report has the postings that lines describe, and all groups, each as often as it was given
pub record Of (q : Described) (r : Report) : Type 0 where
  pub postings : of_parts r.postings q.rows ≡ q
  pub groups : InOrder q.rows (vec_items r.rows)

-- a quarter is divided, or refused; `last` is the number of its lines
abbrev pub Divided : ℕ → Described → Result Report Stop → Type 0
Divided last q (Ok report) = Of q report × Booked report
Divided last q (Err (Refused refusal)) = Refuses last q refusal
Divided last q (Err Memory) = Unit {0}

-- a text is booked as it means: the quarter that its lines describe is divided or refused, or the first wrong line is refused
abbrev pub Reports : List ℕ → Result Report Stop → Type 0
Reports text (Ok report) = (q : Described) × (described text ≡ Ok q) × Of q report × Booked report
Reports text (Err (Refused refusal)) = (described text ≡ Err refusal) ⊎ ((q : Described) × (described text ≡ Ok q) × Refuses (length (lines text)) q refusal)
Reports text (Err Memory) = Unit {0}
