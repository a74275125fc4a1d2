-- Keys in their order, and totals over lists. Assumes nothing.
use Rattle.std.specs.Prelude.{◌≡◌, ℕ, ◌+◌, Bool, true, false, cond, List, [], ◌∷◌, ℤ, pos, ◌+ℤ◌}
use Rattle.tables.specs.Rules.{Rules, same}

module _ {R K : Type 0} (rules : Rules R K) where
  -- the key is among them
  abbrev pub listed : K → List K → Bool
  listed k [] = false
  listed k (j ∷ js) = cond (same rules j k) true (listed k js)

  -- the keys with one more, which stands before the first that comes after it; once, if it is among them
  abbrev pub listing : K → List K → List K
  listing k [] = k ∷ []
  listing k (j ∷ js) = cond (rules.less k j) (k ∷ j ∷ js) (cond (same rules j k) (j ∷ js) (j ∷ listing k js))

  -- the keys without one
  abbrev pub unlisting : K → List K → List K
  unlisting k [] = []
  unlisting k (j ∷ js) = cond (same rules j k) js (j ∷ unlisting k js)

  -- the key comes before each of them
  abbrev pub Ahead : K → List K → Type 0
  Ahead k [] = Unit {0}
  Ahead k (j ∷ js) = (rules.less k j ≡ true) × Ahead k js

  -- the keys rise, so none stands twice
  abbrev pub Ordered : List K → Type 0
  Ordered [] = Unit {0}
  Ordered (k ∷ ks) = Ahead k ks × Ordered ks

  -- the row with the key changed, where a missing row is made from a blank one first
  abbrev pub at_key : (K → R) → K → (R → R) → List R → List R
  at_key blank k f [] = f (blank k) ∷ []
  at_key blank k f (row ∷ rows) = cond (rules.less k (rules.key row)) (f (blank k) ∷ row ∷ rows) (cond (same rules (rules.key row) k) (f row ∷ rows) (row ∷ at_key blank k f rows))

-- a total over a list, and one with signs
abbrev pub total : {A : Type 0} → (A → ℕ) → List A → ℕ
total f [] = 0
total f (x ∷ xs) = f x + total f xs

abbrev pub net : {A : Type 0} → (A → ℤ) → List A → ℤ
net f [] = pos 0
net f (x ∷ xs) = f x +ℤ net f xs
