-- Bytes that are no text. Assumes nothing.
use Rattle.std.specs.Prelude.{◌≡◌, ℕ, ◌+◌, ◌==◌, ◌⊎◌, List, Result, Err, take}
use Rattle.std.specs.List.{count_by}
use Rattle.std.specs.Str.{IsUtf8}
use Rattle.std.specs.Str.Lossy.{utf8_valid_len}
use Rattle.quarter.specs.declared.refusal.Reason.TheVariants.{NotText}
use Rattle.quarter.specs.declared.refusal.Stop.{Stop}
use Rattle.quarter.specs.declared.refusal.Stop.TheVariants.{Refused}
use Rattle.quarter.specs.declared.report.Report.{Report}
use Rattle.quarter.specs.Reports.{Reports}

-- how many lines end in the bytes
abbrev pub line_ends : List ℕ → ℕ
line_ends bytes = count_by (λ b. b == 10) bytes

-- the line of the first bytes that are no text, counted from 1
abbrev pub line_of_no_text : List ℕ → ℕ
line_of_no_text bytes = line_ends (take (utf8_valid_len bytes) bytes) + 1

-- bytes are booked as the text that they are, or refused as none
abbrev pub ReportsBytes : List ℕ → Result Report Stop → Type 0
ReportsBytes bytes r = (IsUtf8 bytes × Reports bytes r) ⊎ (¬ (IsUtf8 bytes) × (r ≡ Err (Refused (record { line = line_of_no_text bytes; reason = NotText }))))
