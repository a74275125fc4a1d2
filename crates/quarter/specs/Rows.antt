-- Groups in their order, and the line of their weights. Assumes nothing.
use Rattle.std.specs.Prelude.{◌≡◌, ℕ, ◌+◌, ◌<◌, Bool, true, cond, List, [], ◌∷◌, length, pos, ◌==◌, nat_lt, slice_index_or}
use Rattle.fault.specs.declared.cause.Direction.{Direction}
use Rattle.fault.specs.declared.cause.Direction.TheVariants.{Offtake, FeedIn}
use Rattle.allocation.specs.declared.line.Share.{Share}
use Rattle.quarter.specs.declared.input.Row.{Row}

-- by BRP, then supplier, then class
abbrev pub before : Row → Row → Bool
before a b = cond (a.group.brp == b.group.brp) (cond (a.group.supplier == b.group.supplier) (nat_lt a.group.class b.group.class) (nat_lt a.group.supplier b.group.supplier)) (nat_lt a.group.brp b.group.brp)

abbrev pub blank : Row
blank = record { group = record { brp = 0; supplier = 0; class = 0 }; line = 0; offtake = 0; feed_in = 0 }

-- each row comes before the next, so no group is there twice
abbrev pub Rising : List Row → Type 0
Rising rows = (k : ℕ) → k + 1 < length rows → before (slice_index_or rows k blank) (slice_index_or rows (k + 1) blank) ≡ true

-- a weight that has got nothing yet
abbrev pub fresh : Direction → ℕ → Share
fresh d w = record { direction = d; weight = w; correction = pos 0; volume = pos 0 }

-- row by row, offtake before feed-in
abbrev pub line_of : List Row → List Share
line_of [] = []
line_of (r ∷ rs) = fresh Offtake r.offtake ∷ fresh FeedIn r.feed_in ∷ line_of rs
