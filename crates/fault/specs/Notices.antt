-- The refusal table: each cause with its number, its layer and its three places. Assumes nothing.
use Rattle.std.specs.Prelude.{ℕ}
use Rattle.fault.specs.declared.cause.Fault.{Fault}
use Rattle.fault.specs.declared.cause.Fault.TheVariants.{OutOfRange, BadCode, CodePresent, NotEnrolled, StandTooLarge, NoPlace, MonthFull, MonthUnfinished, NotRead, FractionAbsent, ForeignTables, LimitPassed, NothingToShare, PageTooShort, NotAdmitted, UnknownKind, CutEntry}
use Rattle.fault.specs.declared.notice.Layer.{Layer}
use Rattle.fault.specs.declared.notice.Layer.TheVariants.{Table, Source, Book, Stream}
use Rattle.fault.specs.declared.notice.Notice.{Notice}
use Rattle.fault.specs.Values.{register_number, table_number, limit_number}

abbrev pub layer_number : Layer → ℕ
layer_number Table = 1
layer_number Source = 2
layer_number Book = 3
layer_number Stream = 4

-- number, layer, places
abbrev line : ℕ → Layer → ℕ → ℕ → ℕ → Notice
line n l a b c = record { number = n; layer = l; first = a; second = b; third = c }

abbrev pub notice : Fault → Notice
notice (OutOfRange position) = line 1 Book position.0 0 0
notice (BadCode code) = line 2 Book code.0 0 0
notice (CodePresent code) = line 3 Table code.0 0 0
notice (NotEnrolled code) = line 4 Table code.0 0 0
notice (StandTooLarge register) = line 5 Book (register_number register) 0 0
notice (NoPlace table) = line 6 Table (table_number table) 0 0
notice (MonthFull quarter) = line 7 Book quarter.0 0 0
notice (MonthUnfinished quarter) = line 8 Book quarter.0 0 0
notice (NotRead code) = line 9 Book code.0 0 0
notice (FractionAbsent q) = line 10 Source q.class q.direction q.quarter.0
notice ForeignTables = line 11 Book 0 0 0
notice (LimitPassed limit) = line 12 Book (limit_number limit) 0 0
notice (NothingToShare quarter) = line 13 Book quarter.0 0 0
notice (PageTooShort length) = line 14 Book length.0 0 0
notice (NotAdmitted place) = line 15 Stream place.0 0 0
notice (UnknownKind place) = line 16 Stream place.0 0 0
notice (CutEntry place) = line 17 Stream place.0 0 0
