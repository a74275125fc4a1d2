-- Cases worked by hand, as one table. Assumes nothing.
use Rattle.std.specs.Prelude.{◌≡◌, ℕ, ◌*◌, List, [], ◌∷◌, map, ℤ, pos, neg_ℤ, Some, None}
use Rattle.fault.specs.declared.cause.Fault.TheVariants.{BadCode, NothingToShare, OutOfRange}
use Rattle.fault.specs.declared.notice.Layer.TheVariants.{Book}
use Rattle.fault.specs.Notices.{notice}
use Rattle.allocation.specs.Worked as quarters
use Rattle.profile.specs.Sources.{published, nothing}
use Rattle.record.specs.declared.entry.Enrolment.{Enrolment}
use Rattle.rows.specs.declared.connection.Digits.TheVariants.{Five}
use Rattle.rows.specs.declared.group.GroupRow.{GroupRow}
use Rattle.rows.specs.Connections.{advance}
use Rattle.rows.specs.Dividing.{divided_rows}
use Rattle.rows.specs.Registers.{four, two}
use Rattle.rows.specs.Weighing.{weight_in}
use Rattle.rows.specs.Groups.{group_named}
use Rattle.tables.specs.BookRows.{code}
use Rattle.record.specs.declared.page.PageRecord.{PageRecord}
use Rattle.record.specs.declared.page.PageRecord.TheVariants.{Head, Group, Period, Register}
use Rattle.ledger.specs.Checks.{first, begin_checks, enrol_checks, weigh_checks, divide_checks}
use Rattle.ledger.specs.Events.{Turn, History, enrols, reads, opens, posts, weighs, divides, settles, moved, turned}
use Rattle.ledger.specs.Histories.{Start, Admitted, groups, month_at}
use Rattle.ledger.specs.Pages.{page_records}
use Rattle.ledger.specs.Model.{quarter, opened, post_opened}
use Rattle.ledger.specs.States.{Month, Sums}
use Rattle.ledger.specs.Postings.{each_kind}

-- an enrolment of a code, five digits, with nothing used in a year
abbrev enrolment : ℕ → Enrolment
enrolment c = record { code = c; brp = 1; supplier = 1; class = 1; digits = 5; factor = 1; volumes = four (λ _. 0); stands = four (λ _. 0) }

abbrev nothing_yet : Sums
nothing_yet = record { posted = each_kind (λ _. 0); volume = 0; value = pos 0 }

-- a month of five quarters, of which some are divided
abbrev month : ℕ → Month
month done = record { quarters = 5; loss_party = 7; done = done; advanced = 0; normal = nothing_yet; low = nothing_yet }

-- a row of a profiled group with a standing sum for offtake
abbrev row_with : ℕ → GroupRow
row_with sum = record { group = group_named 1 1 1; standing = sum ∷ 0 ∷ 0 ∷ 0 ∷ []; quarter = two (λ _. pos 0); month = four (λ _. pos 0); real = four (λ _. pos 0) }

-- a row of which the weights are written
abbrev weighing : ℕ → ℕ → ℕ → GroupRow
weighing b offtake feed_in = record { group = group_named b 1 1; standing = four (λ _. 0); quarter = pos offtake ∷ pos feed_in ∷ []; month = four (λ _. pos 0); real = four (λ _. pos 0) }

-- a whole month by hand: three quarters, loss party 7, two connections, one of them with a meter that rolls over
abbrev minus : ℕ → ℤ
minus n = neg_ℤ (pos n)

abbrev small_start : Start
small_start = record { quarters = 3; loss_party = 7; rooms = record { connections = 2; groups = 3 } }

abbrev connection_a : Enrolment
connection_a = record { code = 871600000000000017; brp = 11; supplier = 21; class = 1; digits = 6; factor = 1; volumes = 3000000 ∷ 1400000 ∷ 0 ∷ 0 ∷ []; stands = 120000 ∷ 80000 ∷ 0 ∷ 0 ∷ [] }

abbrev connection_b : Enrolment
connection_b = record { code = 871600000000000024; brp = 12; supplier = 22; class = 2; digits = 5; factor = 1; volumes = 1500000 ∷ 600000 ∷ 500000 ∷ 200000 ∷ []; stands = 99990 ∷ 41007 ∷ 3000 ∷ 1500 ∷ [] }

-- class 1 offtake and feed-in, class 2 offtake and feed-in, a fraction for each quarter
abbrev fractions : List ℕ
fractions = 1000 ∷ 400 ∷ 500 ∷ 0 ∷ 0 ∷ 0 ∷ 1000 ∷ 400 ∷ 500 ∷ 1000 ∷ 600 ∷ 500 ∷ []

abbrev weigh : Turn
weigh = weighs (published 3 fractions)

-- the latest entry first
abbrev small_month : History
small_month =
    turned settles
    ∷ moved (reads 871600000000000024 (10 ∷ 41010 ∷ 3008 ∷ 1501 ∷ []))
    ∷ moved (reads 871600000000000017 (120043 ∷ 80006 ∷ 0 ∷ 0 ∷ []))
    ∷ turned divides ∷ turned weigh
    ∷ turned (posts 5 0 0 500) ∷ turned (posts 3 11 21 8000) ∷ turned (posts 1 0 0 16266)
    ∷ turned (opens 1 (minus 1500))
    ∷ turned divides ∷ turned weigh
    ∷ turned (posts 5 0 0 1200) ∷ turned (posts 4 11 21 2000) ∷ turned (posts 3 11 21 22000) ∷ turned (posts 2 0 0 3000) ∷ turned (posts 1 0 0 35000)
    ∷ turned (opens 0 (pos 2000))
    ∷ turned divides ∷ turned weigh
    ∷ turned (posts 5 0 0 4000) ∷ turned (posts 3 11 21 41000) ∷ turned (posts 1 0 0 90000)
    ∷ turned (opens 0 (pos 8000))
    ∷ moved (enrols connection_b) ∷ moved (enrols connection_a)
    ∷ []

abbrev small_page : List PageRecord
small_page =
    Head 3 7 3
    ∷ Group (record { brp = 11; supplier = 21; class = 0; month = minus 63000 ∷ minus 8000 ∷ pos 2000 ∷ pos 0 ∷ []; real = minus 63000 ∷ minus 8000 ∷ pos 2000 ∷ pos 0 ∷ [] })
    ∷ Register 11 21 0 0 (pos 0) (pos 0) ∷ Register 11 21 0 1 (pos 0) (pos 0) ∷ Register 11 21 0 2 (pos 0) (pos 0) ∷ Register 11 21 0 3 (pos 0) (pos 0)
    ∷ Group (record { brp = 11; supplier = 21; class = 1; month = minus 42600 ∷ minus 6215 ∷ pos 0 ∷ pos 0 ∷ []; real = minus 43000 ∷ minus 6000 ∷ pos 0 ∷ pos 0 ∷ [] })
    ∷ Register 11 21 1 0 (minus 400) (minus 3) ∷ Register 11 21 1 1 (pos 215) (minus 1) ∷ Register 11 21 1 2 (pos 0) (pos 0) ∷ Register 11 21 1 3 (pos 0) (pos 0)
    ∷ Group (record { brp = 12; supplier = 22; class = 2; month = minus 21300 ∷ minus 2664 ∷ pos 8100 ∷ pos 1113 ∷ []; real = minus 20000 ∷ minus 3000 ∷ pos 8000 ∷ pos 1000 ∷ [] })
    ∷ Register 12 22 2 0 (pos 1300) (pos 8) ∷ Register 12 22 2 1 (minus 336) (pos 1) ∷ Register 12 22 2 2 (minus 100) (pos 0) ∷ Register 12 22 2 3 (minus 113) (pos 0)
    ∷ Period 0 (pos 6500) (minus 6000) (minus 5200) (minus 800) (minus 5)
    ∷ Period 1 (minus 1500) (minus 266) (minus 500) (pos 234) (pos 0)
    ∷ []

pub record Worked : Type 0 where
  -- the worked quarters of the arithmetic
  pub arithmetic : quarters.Worked
  -- the same through rows: fraction 1 with a sum of 50,000 kWh weighs 1 Wh, with 49,999 kWh nothing
  pub half_up : weight_in (published 1 (1 ∷ [])) (quarter 0) 0 (row_with 50000) 0 ≡ 1
  pub less_dropped : weight_in (published 1 (1 ∷ [])) (quarter 0) 0 (row_with 49999) 0 ≡ 0
  -- the quarter of two groups, row by row
  pub two_groups : map (λ row. row.quarter) (divided_rows 50000 (neg_ℤ (pos 5000)) 0 0 (weighing 1 30000 0 ∷ weighing 2 15000 5000 ∷ [])) ≡ (neg_ℤ (pos 33000) ∷ pos 0 ∷ []) ∷ (neg_ℤ (pos 16500) ∷ pos 4500 ∷ []) ∷ []
  -- offtake before feed-in in the line: what no share can have alone goes to the later ones
  pub in_line : map (λ row. row.quarter) (divided_rows 3 (pos 2) 0 0 (weighing 1 1 1 ∷ weighing 2 1 0 ∷ [])) ≡ (minus 1 ∷ pos 2 ∷ []) ∷ (pos 0 ∷ pos 0 ∷ []) ∷ []
  -- a meter of five digits that has rolled over, from 99,990 to 10 with factor 40: 800 kWh
  pub rolled_over : advance Five 40 99990 10 ≡ 800 * 1000
  -- a code is taken, its neighbour has a wrong check digit
  pub code_taken : first (enrol_checks (record { connections = 1; groups = 1 }) [] [] (enrolment 871600000000000017)) ≡ None
  pub code_refused : first (enrol_checks (record { connections = 1; groups = 1 }) [] [] (enrolment 871600000000000018)) ≡ Some (BadCode (code 871600000000000018))
  pub code_notice : notice (BadCode (code 871600000000000018)) ≡ record { number = 2; layer = Book; first = 871600000000000018; second = 0; third = 0 }
  -- without weights a residual of 0 is weighed, and one of 1 refused
  pub nothing_left : first (weigh_checks (month 0) (opened 0 (pos 0)) nothing []) ≡ None
  pub nothing_divided : first (divide_checks (opened 0 (pos 0)) (record { total = 0; residual = pos 0 }) []) ≡ None
  pub nothing_booked : map (λ row. row.quarter) (divided_rows 0 (pos 0) 0 0 (weighing 1 0 0 ∷ [])) ≡ (pos 0 ∷ pos 0 ∷ []) ∷ []
  pub nothing_to_share : first (weigh_checks (month 4) (post_opened 2 1 (opened 0 (pos 0))) nothing []) ≡ Some (NothingToShare (quarter 4))
  pub thirteen : notice (NothingToShare (quarter 4)) ≡ record { number = 13; layer = Book; first = 4; second = 0; third = 0 }
  -- the longest month, and one quarter more
  pub longest : first (begin_checks 2980 7) ≡ None
  pub too_long : first (begin_checks 2981 7) ≡ Some (OutOfRange (record { 0 = 1 }))
  -- a whole month, entry by entry: every entry is accepted, and its page is the one worked by hand
  pub month_accepted : Admitted small_start small_month
  pub month_page : page_records (month_at small_start small_month) (groups small_month) ≡ small_page
