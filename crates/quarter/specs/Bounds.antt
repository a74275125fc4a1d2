-- The bounds of what a text may hold. Assumes nothing.
use Rattle.std.specs.Prelude.{ℕ}

-- a BRP or a supplier
abbrev pub largest_party : ℕ
largest_party = 65535

-- the last profiled class
abbrev pub last_class : ℕ
last_class = 16

-- one posting, Wh
abbrev pub most_posting : ℕ
most_posting = 2000000000

-- all postings of a quarter, Wh
abbrev pub most_posted : ℕ
most_posted = 4000000000

-- the largest weight that a fraction and a standing sum can give, Wh
abbrev pub most_weight : ℕ
most_weight = 100000000000
