-- Numbers as bytes, highest byte first, and signed numbers in two's complement. Assumes nothing.
use Rattle.std.specs.Prelude.{ℕ, zero, suc, ◌-◌, ◌/◌, ◌%◌, ◌^◌, ◌<◌, List, [], ◌∷◌, ℤ, pos, negsuc}

-- the w low bytes of n, the highest first
unfoldable pub big : ℕ → ℕ → List ℕ
big zero n = []
big (suc w) n = (n / 256 ^ w % 256) ∷ big w n

-- z in two's complement over w bytes; negsuc n is -1 - n
abbrev pub twos : ℕ → ℤ → ℕ
twos w (pos n) = n
twos w (negsuc n) = 256 ^ w - suc n

-- w bytes hold z in two's complement: it lies from -(256 ^ w / 2) up to, and without, 256 ^ w / 2
abbrev pub Within : ℕ → ℤ → Type 0
Within w (pos n) = n < 256 ^ w / 2
Within w (negsuc n) = n < 256 ^ w / 2
