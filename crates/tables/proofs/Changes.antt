-- Rows in the order of their keys, with one put in, taken out or exchanged. Assumes nothing.
use Rattle.std.proofs.Common.{◌≡◌, ℕ, zero, suc, ◌+◌, ◌-◌, ◌<◌, ◌≤◌, true, false, cond, List, [], ◌∷◌, ◌++◌, length, get_or, take, drop, set, Some, None, sym, refl, ap, ◌∙◌, ⊎_elim, add-one, arith, take-append-drop}
use Rattle.std.specs.List.{insert, remove}
use Rattle.std.proofs.lemmas.List.Edits.{get_or-insert_above, get_or-insert_at, get_or-insert_below, get_or-remove_above, get_or-remove_below, length-insert, length-remove}
use Rattle.std.proofs.lemmas.List.{drop_more, get_or-set_other, get_or-set_same, length-set, set_split}
use Rattle.std.proofs.lemmas.Option.{slice_get-get_or}
use Rattle.std.proofs.lemmas.Bool.{cases_eq, cases_lt, cases_order}
use Rattle.tables.specs.Rules.{Rules, TotalOrder, same, look, with_row, without, exchanged, Rising, AllBefore, AllAfter, Stands, Belongs}
use Rattle.tables.proofs.Finding.{belongs, not_after, not_same, not_same_before, same_equal, stands}

-- past the new row each row stands one place higher
above_new : {R : Type 0} (rows : List R) (place : ℕ) (new d : R) (i : ℕ) → place < i → place ≤ length rows → get_or (insert rows place new) i d ≡ get_or rows (i - 1) d
above_new rows place new d i lt within =
    let back : i - 1 + 1 ≡ i = omega arith in
    ap (λ n. get_or (insert rows place new) n d) (sym back) ∙ get_or-insert_above rows place new d (i - 1) (omega arith) within

module _ {R K : Type 0} (rules : Rules R K) (order : TotalOrder rules.less) where
  abbrev Before : List R → ℕ → ℕ → R → Type 0
  Before rows i j d = rules.less (rules.key (get_or rows i d)) (rules.key (get_or rows j d)) ≡ true

  pub rising_inserted : (rows : List R) (new : R) (place : ℕ) → Rising rules rows → Belongs rules rows (rules.key new) place → Rising rules (insert rows place new)
  rising_inserted rows new place rising b i j d lt within =
      let long = length-insert rows place new b.within in
      let after = insert rows place new in
      ⊎_elim {C = Before after i j d}
      (λ (e : j ≡ place).
      rw (e, get_or-insert_at rows place new d b.within, get_or-insert_below rows place new d i (omega arith) b.within) (b.below i d (omega arith)))
      (⊎_elim {C = Before after i j d}
      (λ (l : j < place).
      rw (get_or-insert_below rows place new d i (omega arith) b.within, get_or-insert_below rows place new d j l b.within) (rising i j d lt (omega (arith, b.within))))
      (λ (l : place < j).
      rw (above_new rows place new d j l b.within)
      (⊎_elim {C = rules.less (rules.key (get_or after i d)) (rules.key (get_or rows (j - 1) d)) ≡ true}
      (λ (e : i ≡ place). rw (e, get_or-insert_at rows place new d b.within) (b.above (j - 1) d (omega arith) (omega arith)))
      (⊎_elim {C = rules.less (rules.key (get_or after i d)) (rules.key (get_or rows (j - 1) d)) ≡ true}
      (λ (m : i < place). rw (get_or-insert_below rows place new d i m b.within) (rising i (j - 1) d (omega arith) (omega arith)))
      (λ (m : place < i). rw (above_new rows place new d i m b.within) (rising (i - 1) (j - 1) d (omega arith) (omega arith))))
      (cases_order i place))))
      (cases_order j place)

  pub rising_removed : (rows : List R) (place : ℕ) → Rising rules rows → place < length rows → Rising rules (remove rows place)
  rising_removed rows place rising here i j d lt within =
      let long = length-remove rows place here in
      ⊎_elim {C = Before (remove rows place) i j d}
      (λ (l : j < place).
      rw (get_or-remove_below rows place d i (omega arith) here, get_or-remove_below rows place d j l here) (rising i j d lt (omega arith)))
      (λ (l : place ≤ j).
      rw (get_or-remove_above rows place d j l here)
      (⊎_elim {C = rules.less (rules.key (get_or (remove rows place) i d)) (rules.key (get_or rows (j + 1) d)) ≡ true}
      (λ (m : i < place). rw (get_or-remove_below rows place d i m here) (rising i (j + 1) d (omega arith) (omega arith)))
      (λ (m : place ≤ i). rw (get_or-remove_above rows place d i m here) (rising (i + 1) (j + 1) d (omega arith) (omega arith)))
      (cases_lt i place)))
      (cases_lt j place)

  -- the keys stay when a row is exchanged for one with its key
  keyed_set : (rows : List R) (new : R) (place : ℕ) → Stands rules rows (rules.key new) place → (i : ℕ) (d : R) → rules.key (get_or (set rows place new) i d) ≡ rules.key (get_or rows i d)
  keyed_set rows new place s i d =
      ⊎_elim {C = rules.key (get_or (set rows place new) i d) ≡ rules.key (get_or rows i d)}
      (λ (e : i ≡ place). rw (e, get_or-set_same rows place new d s.within) (sym (s.keyed d)))
      (λ (ne : i ≡ place → ⊥). ap rules.key (get_or-set_other rows place i new d ne))
      (cases_eq i place)

  pub rising_set : (rows : List R) (new : R) (place : ℕ) → Rising rules rows → Stands rules rows (rules.key new) place → Rising rules (set rows place new)
  rising_set rows new place rising s i j d lt within =
      rw (keyed_set rows new place s i d, keyed_set rows new place s j d) (rising i j d lt (omega (arith, length-set rows place new)))

  -- the rows below a row's place come before its key
  before_row : (rows : List R) (k : K) (place : ℕ) → Rising rules rows → Stands rules rows k place → AllBefore rules rows k place
  before_row rows k place rising s i d lt = rw (s.keyed d) at (rising i place d lt s.within)

  with_row_at : (rows : List R) (new : R) (place : ℕ) → place ≤ length rows → AllBefore rules rows (rules.key new) place → AllAfter rules rows (rules.key new) place → with_row rules new rows ≡ insert rows place new
  with_row_at [] new zero within below above = refl
  with_row_at [] new (suc place) within below above = absurd (omega arith)
  with_row_at (row ∷ rows) new zero within below above = rw (above 0 row (omega arith) (omega arith))
  with_row_at (row ∷ rows) new (suc place) within below above =
      rw (not_after rules order _ _ (below 0 row (omega arith)))
      (ap (λ l. row ∷ l) (with_row_at rows new place (omega arith) (λ i d l. below (suc i) d (omega arith)) (λ i d l m. above (suc i) d (omega arith) (omega arith))))

  without_at : (rows : List R) (k : K) (place : ℕ) → place < length rows → AllBefore rules rows k place → ((d : R) → rules.key (get_or rows place d) ≡ k) → without rules k rows ≡ remove rows place
  without_at [] k place within below keyed = absurd (omega arith)
  without_at (row ∷ rows) k zero within below keyed = rw (same_equal rules order _ k (keyed row))
  without_at (row ∷ rows) k (suc place) within below keyed =
      rw (not_same_before rules order _ k (below 0 row (omega arith)))
      (ap (λ l. row ∷ l) (without_at rows k place (omega arith) (λ i d l. below (suc i) d (omega arith)) keyed))

  exchanged_at : (rows : List R) (new : R) (place : ℕ) → place < length rows → AllBefore rules rows (rules.key new) place → ((d : R) → rules.key (get_or rows place d) ≡ rules.key new) → exchanged rules new rows ≡ set rows place new
  exchanged_at [] new place within below keyed = absurd (omega arith)
  exchanged_at (row ∷ rows) new zero within below keyed = rw (same_equal rules order _ _ (keyed row))
  exchanged_at (row ∷ rows) new (suc place) within below keyed =
      rw (not_same_before rules order _ _ (below 0 row (omega arith)))
      (ap (λ l. row ∷ l) (exchanged_at rows new place (omega arith) (λ i d l. below (suc i) d (omega arith)) keyed))

  -- a row with another key does not matter to a look-up
  look_past : (front rest : List R) (row : R) (q : K) → same rules (rules.key row) q ≡ false → look rules (front ++ row ∷ rest) q ≡ look rules (front ++ rest) q
  look_past [] rest row q other = rw other
  look_past (x ∷ front) rest row q other = ap (cond (same rules (rules.key x) q) (Some x)) (look_past front rest row q other)

  look_removed : (rows : List R) (place : ℕ) (d : R) (q : K) → place < length rows → same rules (rules.key (get_or rows place d)) q ≡ false → look rules (remove rows place) q ≡ look rules rows q
  look_removed rows place d q within other =
      let split : take place rows ++ get_or rows place d ∷ drop (suc place) rows ≡ rows =
      ap (λ n. take place rows ++ get_or rows place d ∷ drop n rows) (sym (add-one place)) ∙ ap (λ l. take place rows ++ l) (sym (drop_more rows place d within)) ∙ take-append-drop place rows in
      sym (look_past (take place rows) (drop (suc place) rows) (get_or rows place d) q other) ∙ ap (λ l. look rules l q) split

  -- what becomes of the rows and of look-ups
  module _ (rows : List R) (new : R) (place : ℕ) (rising : Rising rules rows) (b : Belongs rules rows (rules.key new) place) where
    pub inserted_rows : insert rows place new ≡ with_row rules new rows
    inserted_rows = sym (with_row_at rows new place b.within b.below b.above)

    pub inserted_stands : Stands rules (insert rows place new) (rules.key new) place
    inserted_stands =
        stands rules order (insert rows place new) (rules.key new) place (omega (arith, length-insert rows place new b.within, b.within))
        (λ i d l. rw (get_or-insert_below rows place new d i l b.within) (b.below i d l))
        (λ d. ap rules.key (get_or-insert_at rows place new d b.within))

    pub inserted_at : look rules (insert rows place new) (rules.key new) ≡ Some new
    inserted_at = inserted_stands.looked ∙ slice_get-get_or (insert rows place new) place new inserted_stands.within ∙ ap Some (get_or-insert_at rows place new new b.within)

    pub inserted_other : (q : K) → (q ≡ rules.key new → ⊥) → look rules (insert rows place new) q ≡ look rules rows q
    inserted_other q other =
        look_past (take place rows) (drop place rows) new q (not_same rules order _ q other) ∙ ap (λ l. look rules l q) (take-append-drop place rows)

  module _ (rows : List R) (k : K) (place : ℕ) (rising : Rising rules rows) (s : Stands rules rows k place) where
    pub removed_rows : remove rows place ≡ without rules k rows
    removed_rows = sym (without_at rows k place s.within (before_row rows k place rising s) s.keyed)

    pub removed_at : look rules (remove rows place) k ≡ None
    removed_at =
        let long = length-remove rows place s.within in
        (belongs rules order (remove rows place) k place (omega (arith, s.within))
        (λ i d l. rw (get_or-remove_below rows place d i l s.within) (before_row rows k place rising s i d l))
        (λ i d l m. rw (get_or-remove_above rows place d i l s.within, ← s.keyed d) (rising place (i + 1) d (omega arith) (omega arith)))
        ).looked

    pub removed_other : R → (q : K) → (q ≡ k → ⊥) → look rules (remove rows place) q ≡ look rules rows q
    removed_other d q other = look_removed rows place d q s.within (not_same rules order _ q (λ e. other (e ∙ s.keyed d)))

  module _ (rows : List R) (new : R) (place : ℕ) (rising : Rising rules rows) (s : Stands rules rows (rules.key new) place) where
    pub set_rows : set rows place new ≡ exchanged rules new rows
    set_rows = sym (exchanged_at rows new place s.within (before_row rows _ place rising s) s.keyed)

    pub set_at : look rules (set rows place new) (rules.key new) ≡ Some new
    set_at =
        let within : place < length (set rows place new) = omega (arith, length-set rows place new, s.within) in
        (stands rules order (set rows place new) (rules.key new) place within
        (λ i d l. rw (keyed_set rows new place s i d) (before_row rows _ place rising s i d l))
        (λ d. keyed_set rows new place s place d ∙ s.keyed d)
        ).looked
        ∙ slice_get-get_or (set rows place new) place new within
        ∙ ap Some (get_or-set_same rows place new new s.within)

    pub set_other : (q : K) → (q ≡ rules.key new → ⊥) → look rules (set rows place new) q ≡ look rules rows q
    set_other q other =
        ap (λ l. look rules l q) (set_split rows place new s.within) ∙ look_past (take place rows) (drop (suc place) rows) new q (not_same rules order _ q other) ∙ removed_other rows (rules.key new) place rising s new q other
