-- Whom a profile is asked about, and where a table keeps the answers. Assumes nothing.
use Rattle.std.specs.Prelude.{ℕ, ◌+◌, ◌-◌, ◌*◌, Bool, cond, ◌&&◌, List, length, Some, None, Option, nat_le, nat_lt, slice_index}
use Rattle.fault.specs.declared.cause.Question.{Question}

-- the classes that have a profile are 1 to this
abbrev pub last_class : ℕ
last_class = 16

-- offtake and feed-in
abbrev pub directions : ℕ
directions = 2

-- a class from 1 to the last, one of the directions, and a quarter of a month that has so many
abbrev pub covered : ℕ → ℕ → ℕ → ℕ → Bool
covered count class direction quarter = (nat_le 1 class && nat_le class last_class) && (nat_lt direction directions && nat_lt quarter count)

-- the same of a question
abbrev pub covers : ℕ → Question → Bool
covers count q = covered count q.class q.direction q.quarter.0

-- the lines of a table: for each class offtake, then feed-in
abbrev pub line_of : ℕ → ℕ → ℕ
line_of class direction = (class - 1) * directions + direction

-- the place of a number: line after line, each with a number for every quarter
abbrev pub place_of : ℕ → ℕ → ℕ → ℕ → ℕ
place_of count class direction quarter = line_of class direction * count + quarter

-- the number at a place, and none past the end
abbrev pub number_at : List ℕ → ℕ → Option ℕ
number_at numbers place = cond (nat_lt place (length numbers)) (Some (slice_index numbers place)) None
