-- A loop that rewrites a list in place, with a state. Assumes nothing.
use Rattle.std.proofs.Common.{◌≡◌, ℕ, ◌+◌, ◌<◌, ◌≤◌, List, [], ◌∷◌, ◌++◌, length, get_or, take, drop, set, ap, append_assoc, append-nil, length-set}
use Rattle.std.proofs.lemmas.List.{drop_more, drop_all, take_all, take_more_set, drop-set}
use Rattle.allocation.specs.Along.{along}

pub drop_past_set : {X : Type 0} (xs : List X) (i : ℕ) (d y : X) → i < length xs → drop (i + 1) (set xs i y) ≡ drop (i + 1) xs
drop_past_set xs i d y l =
    let more = drop_more (set xs i y) i d (simp length-set l) in
    let here = drop-set xs i y l in
    cc

module _ {S X : Type 0} (next : S → X → S) (out : S → X → X) (all : List X) where
  -- one element more
  pub along_more : (xs : List X) (i : ℕ) (s : S) (d : X) → take i xs ++ along next out s (drop i xs) ≡ all → i < length xs
      → take (i + 1) (set xs i (out s (get_or xs i d))) ++ along next out (next s (get_or xs i d)) (drop (i + 1) (set xs i (out s (get_or xs i d)))) ≡ all
  along_more xs i s d h l =
      let y = out s (get_or xs i d) in
      let front = take_more_set xs i y l in
      let back : along next out (next s (get_or xs i d)) (drop (i + 1) (set xs i y)) ≡ along next out (next s (get_or xs i d)) (drop (i + 1) xs) = ap (along next out (next s (get_or xs i d))) (drop_past_set xs i d y l) in
      let whole : along next out s (drop i xs) ≡ y ∷ along next out (next s (get_or xs i d)) (drop (i + 1) xs) = ap (along next out s) (drop_more xs i d l) in
      let joins = append_assoc (take i xs) (y ∷ []) (along next out (next s (get_or xs i d)) (drop (i + 1) xs)) in
      cc h

  -- none left
  pub along_end : (xs : List X) (i : ℕ) (s : S) → take i xs ++ along next out s (drop i xs) ≡ all → length xs ≤ i → xs ≡ all
  along_end xs i s h l =
      let none : along next out s (drop i xs) ≡ [] = ap (along next out s) (drop_all i xs l) in
      let front = take_all i xs l in
      let bare = append-nil xs in
      cc h
