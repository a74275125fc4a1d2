-- A loop that rewrites each row of a list, one after the other. Assumes nothing.
use Rattle.std.proofs.Common.{◌≡◌, ℕ, ◌+◌, ◌<◌, List, ◌++◌, map, length, get_or, take, drop, set, ap, ◌∙◌, arith}
use Rattle.std.proofs.lemmas.List.Edits.{map_over_more}
use Rattle.std.proofs.lemmas.List.{get_or_default, drop_more, get_or_at, length-map, length-take-le}

module _ {X : Type 0} (f : X → X) (xs ys : List X) (i : ℕ) (same : length ys ≡ length xs) (front : ys ≡ map f (take i xs) ++ drop i xs) where
  -- one row more
  pub map_turn : (d y : X) → i < length xs → y ≡ f (get_or ys i d) → set ys i y ≡ map f (take (i + 1) xs) ++ drop (i + 1) xs
  map_turn d y l e = ap (set ys i) e ∙ map_over_more f xs ys i (get_or ys i d) l front (get_or_default ys i d (get_or ys i d) (omega arith))

  -- a row that is not yet written
  pub map_left : (d : X) → i < length xs → get_or ys i d ≡ get_or xs i d
  map_left d l =
      let cut = drop_more xs i d l in
      let long : length (map f (take i xs)) ≡ i = length-map (take i xs) f ∙ length-take-le i xs (omega arith) in
      let here = get_or_at (map f (take i xs)) (get_or xs i d) (drop (i + 1) xs) d i long in
      ap (λ zs. get_or zs i d) front ∙ ap (λ zs. get_or (map f (take i xs) ++ zs) i d) cut ∙ here
