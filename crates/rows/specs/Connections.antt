-- Codes and meters. Assumes nothing.
use Rattle.std.specs.Prelude.{ℕ, ◌+◌, ◌-◌, ◌*◌, ◌/◌, ◌%◌, ◌^◌, Bool, true, cond, not, List, [], ◌∷◌, length, ◌==◌, nat_le, slice_index}
use Rattle.rows.specs.declared.connection.Digits.{Digits}
use Rattle.rows.specs.declared.connection.Digits.TheVariants.{Five, Six}
use Rattle.rows.specs.declared.connection.ConnectionRow.{ConnectionRow}

-- the weights of a code's first seventeen digits, from the left
abbrev pub digit_weights : List ℕ
digit_weights = 3 ∷ 1 ∷ 3 ∷ 1 ∷ 3 ∷ 1 ∷ 3 ∷ 1 ∷ 3 ∷ 1 ∷ 3 ∷ 1 ∷ 3 ∷ 1 ∷ 3 ∷ 1 ∷ 3 ∷ []

-- the digits of a code times their weights, and behind them the last digit as it is
abbrev pub weighted_digits : List ℕ → ℕ → ℕ
weighted_digits [] code = code % 10
weighted_digits (w ∷ ws) code = w * (code / 10 ^ (length ws + 1) % 10) + weighted_digits ws code

-- the largest code has eighteen digits
abbrev pub codes_end : ℕ
codes_end = 10 ^ 18

-- 0, too long, or its check digit wrong
abbrev pub bad_code : ℕ → Bool
bad_code code = cond (code == 0) true (cond (nat_le codes_end code) true (not (weighted_digits digit_weights code % 10 == 0)))

-- the stands that a meter can show are below this
abbrev pub span : Digits → ℕ
span Five = 100000
span Six = 1000000

-- the meter of so many digits, 5 or 6
abbrev pub digits_of : ℕ → Digits
digits_of n = cond (n == 5) Five Six

-- what a register counted from the old stand to the new, in Wh: a meter that has rolled over counts on
unfoldable pub advance : Digits → ℕ → ℕ → ℕ → ℕ
advance digits factor old new = (new + span digits - old % span digits) % span digits * factor * 1000

-- the advance of a register of a connection, to the new stands
abbrev pub row_advance : ConnectionRow → List ℕ → ℕ → ℕ
row_advance row stands r = advance row.digits row.factor (slice_index row.stands r) (slice_index stands r)

abbrev pub all_advances : ConnectionRow → List ℕ → ℕ
all_advances row stands = row_advance row stands 0 + row_advance row stands 1 + row_advance row stands 2 + row_advance row stands 3
