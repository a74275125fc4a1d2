-- Values taken out of a list by their place. Assumes nothing.
use Rattle.std.proofs.Common.{◌≡◌, ℕ, zero, suc, ◌+◌, List, [], ◌∷◌, length, get_or, ℤ, pos, negsuc, refl, arith}

-- the value at a place where none is negative
abbrev pub count : List ℤ → ℕ → ℕ
count [] n = 0
count (pos m ∷ zs) zero = m
count (negsuc m ∷ zs) zero = 0
count (z ∷ zs) (suc n) = count zs n

-- four values from the place n on
abbrev pub four_from : {X : Type 0} → (List ℤ → ℕ → X) → List ℤ → ℕ → List X
four_from get zs n = get zs n ∷ get zs (n + 1) ∷ get zs (n + 2) ∷ get zs (n + 3) ∷ []

-- four of a list that has four
pub four_are : {X : Type 0} (d : X) (xs : List X) → length xs ≡ 4 → get_or xs 0 d ∷ get_or xs 1 d ∷ get_or xs 2 d ∷ get_or xs 3 d ∷ [] ≡ xs
four_are o (a ∷ b ∷ c ∷ d ∷ []) h = refl
four_are o [] h = absurd (omega arith)
four_are o (a ∷ []) h = absurd (omega arith)
four_are o (a ∷ b ∷ []) h = absurd (omega arith)
four_are o (a ∷ b ∷ c ∷ []) h = absurd (omega arith)
four_are o (a ∷ b ∷ c ∷ d ∷ e ∷ xs) h = absurd (omega arith)
