-- Live rows at the front of memory, and rows moved by one place. Assumes nothing.
use Rattle.std.proofs.Common.{◌≡◌, ℕ, zero, suc, ◌+◌, ◌-◌, ◌<◌, ◌≤◌, min, List, [], ◌∷◌, ◌++◌, length, take, drop, set, sym, refl, ap, ◌∙◌, add-one, arith, length-take}
use lib.Seq.{paste}
use Rattle.std.specs.List.{insert, remove}
use Rattle.std.proofs.lemmas.List.{append_assoc, drop_all, drop-take, length-append, length-take-le, set-append_left, set_split, take-take}

-- the front of memory that is live, by its own length
pub take_live : {R : Type 0} (n : ℕ) (mem : List R) → take (length (take n mem)) mem ≡ take n mem
take_live zero mem = refl
take_live (suc n) [] = refl
take_live (suc n) (row ∷ mem) = ap (λ rows. row ∷ rows) (take_live n mem)

-- as many rows as the count says and the memory has
pub take_clamped : {R : Type 0} (n : ℕ) (mem : List R) → take (min n (length mem)) mem ≡ take n mem
take_clamped n mem = ap (λ m. take m mem) (sym (length-take n mem)) ∙ take_live n mem

module _ {R : Type 0} (mem : List R) (len place : ℕ) where
  pub opened : (row : R) → place ≤ len → len < length mem → set (paste mem (place + 1) (drop place mem) (len - place)) place row ≡ insert (take len mem) place row ++ drop (len + 1) mem
  opened row among room =
      let whole : place + (len - place) ≡ len = omega arith in
      let above : place + 1 + (len - place) ≡ len + 1 = omega arith in
      let front : length (take (place + 1) mem) ≡ place + 1 = length-take-le (place + 1) mem (omega arith) in
      let here : place < length (take (place + 1) mem) = omega arith in
      let wide : place < length (take (place + 1) mem ++ take (len - place) (drop place mem)) = omega (arith, length-append (take (place + 1) mem) (take (len - place) (drop place mem))) in
      let one : set (take (place + 1) mem) place row ≡ take place mem ++ row ∷ [] =
      set_split (take (place + 1) mem) place row here ∙ simp (take-take place (place + 1) mem (omega arith), drop_all (suc place) (take (place + 1) mem) (omega arith)) in
      let shifted : drop place (take len mem) ≡ take (len - place) (drop place mem) = ap (λ n. drop place (take n mem)) (sym whole) ∙ drop-take place (len - place) mem in
      rw (
        set-append_left (take (place + 1) mem ++ take (len - place) (drop place mem)) (drop (place + 1 + (len - place)) mem) place row wide,
        set-append_left (take (place + 1) mem) (take (len - place) (drop place mem)) place row here,
        one,
        above,
        append_assoc (take place mem) (row ∷ []) (take (len - place) (drop place mem)),
        take-take place len mem among,
        shifted,
      )

  pub closed : place < len → len ≤ length mem → paste mem place (drop (place + 1) mem) (len - (place + 1)) ≡ remove (take len mem) place ++ drop (len - 1) mem
  closed among within =
      let whole : place + 1 + (len - (place + 1)) ≡ len = omega arith in
      let last : place + (len - (place + 1)) ≡ len - 1 = omega arith in
      let shifted : drop (place + 1) (take len mem) ≡ take (len - (place + 1)) (drop (place + 1) mem) =
      ap (λ n. drop (place + 1) (take n mem)) (sym whole) ∙ drop-take (place + 1) (len - (place + 1)) mem in
      rw (last, take-take place len mem (omega arith), ← add-one place, shifted)
