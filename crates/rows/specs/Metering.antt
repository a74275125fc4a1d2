-- Helpers for codes and meters. Assumes nothing.
use Rattle.std.specs.Prelude.{◌≡◌, ℕ, Bool, true, cond, ◌&&◌, List, [], ◌∷◌, Some, None, Ok, Err, Option, Result, ◌==◌, nat_le}
use Rattle.rows.specs.declared.connection.Digits.{Digits}
use Rattle.rows.specs.declared.connection.Digits.TheVariants.{Five, Six}
use Rattle.rows.specs.declared.meter.NoMeter.{NoMeter}

-- no weight of a digit is larger than 3
abbrev pub small_weights : List ℕ → Bool
small_weights [] = true
small_weights (w ∷ ws) = nat_le w 3 && small_weights ws

-- the meter of so many digits, if there is one
abbrev pub meter_of : ℕ → Option Digits
meter_of n = cond (n == 5) (Some Five) (cond (n == 6) (Some Six) None)

-- the answer is the meter of so many digits, or the number of which there is none
abbrev pub MeterFound : ℕ → Result Digits NoMeter → Type 0
MeterFound n (Ok digits) = meter_of n ≡ Some digits
MeterFound n (Err e) = (meter_of n ≡ None) × (e.0 ≡ n)
