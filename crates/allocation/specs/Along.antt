-- A list rewritten from its head on, with a state. Assumes nothing.
use Rattle.std.specs.Prelude.{List, [], ◌∷◌}

-- each element as out makes it at the state that next has come to
abbrev pub along : {S X : Type 0} → (S → X → S) → (S → X → X) → S → List X → List X
along next out s [] = []
along next out s (x ∷ xs) = out s x ∷ along next out (next s x) xs
