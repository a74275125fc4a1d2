-- What `Display` writes of a fault. Assumes nothing.
use Rattle.std.specs.Prelude.{ℕ, List, ◌++◌, codes, decimal}
use Rattle.fault.specs.declared.cause.Fault.{Fault}
use Rattle.fault.specs.declared.cause.Fault.TheVariants.{OutOfRange, BadCode, CodePresent, NotEnrolled, StandTooLarge, NoPlace, MonthFull, MonthUnfinished, NotRead, FractionAbsent, ForeignTables, LimitPassed, NothingToShare, PageTooShort, NotAdmitted, UnknownKind, CutEntry}
use Rattle.fault.specs.declared.cause.Limit.{Limit}
use Rattle.fault.specs.declared.cause.Limit.TheVariants.{Weights, Residual, Postings, StandingSum, Advances, Volume}
use Rattle.fault.specs.declared.cause.Direction.{Direction}
use Rattle.fault.specs.declared.cause.Direction.TheVariants.{Offtake, FeedIn}
use Rattle.fault.specs.declared.cause.Question.{Question}
use Rattle.fault.specs.declared.cause.TableKind.{TableKind}
use Rattle.fault.specs.declared.cause.TableKind.TheVariants.{Connections, Groups}
use Rattle.fault.specs.Values.{register_number}

abbrev pub table_words : TableKind → List ℕ
table_words Connections = codes "connection"
table_words Groups = codes "group"

abbrev pub direction_words : Direction → List ℕ
direction_words Offtake = codes "offtake"
direction_words FeedIn = codes "feed-in"

abbrev pub limit_words : Limit → List ℕ
limit_words Weights = codes "1: weights"
limit_words Residual = codes "2: residual"
limit_words Postings = codes "3: postings"
limit_words StandingSum = codes "4: standing sum"
limit_words Advances = codes "5: advances"
limit_words Volume = codes "6: volume"

abbrev pub question_words : Question → List ℕ
question_words q = codes "class " ++ (decimal q.class ++ (codes ", direction " ++ (decimal q.direction ++ (codes ", quarter " ++ decimal q.quarter.0))))

abbrev pub fault_words : Fault → List ℕ
fault_words (OutOfRange position) = codes "argument " ++ (decimal position.0 ++ codes " is outside its range")
fault_words (BadCode code) = decimal code.0 ++ codes " is no connection code"
fault_words (CodePresent code) = codes "connection " ++ (decimal code.0 ++ codes " is enrolled already")
fault_words (NotEnrolled code) = codes "connection " ++ (decimal code.0 ++ codes " is not enrolled")
fault_words (StandTooLarge register) = codes "the stand of register " ++ (decimal (register_number register) ++ codes " has more digits than the meter")
fault_words (NoPlace table) = codes "there is no place for another " ++ table_words table
fault_words (MonthFull quarter) = codes "the month is full after " ++ (decimal quarter.0 ++ codes " quarters")
fault_words (MonthUnfinished quarter) = codes "the month has only " ++ (decimal quarter.0 ++ codes " divided quarters")
fault_words (NotRead code) = codes "connection " ++ (decimal code.0 ++ codes " is not read this quarter")
fault_words (FractionAbsent q) = codes "no fraction for " ++ question_words q
fault_words ForeignTables = codes "the tables do not belong to this book"
fault_words (LimitPassed limit) = codes "limit " ++ limit_words limit
fault_words (NothingToShare quarter) = codes "quarter " ++ (decimal quarter.0 ++ codes " has a residual, no weights")
fault_words (PageTooShort length) = codes "the page needs " ++ (decimal length.0 ++ codes " bytes of memory")
fault_words (NotAdmitted place) = codes "the entry at byte " ++ (decimal place.0 ++ codes " is not admitted now")
fault_words (UnknownKind place) = codes "the entry at byte " ++ (decimal place.0 ++ codes " is of unknown kind")
fault_words (CutEntry place) = codes "the entry at byte " ++ (decimal place.0 ++ codes " is cut off")
