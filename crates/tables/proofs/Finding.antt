-- What a total order gives of a search and of look-ups. Assumes nothing.
use Rattle.std.proofs.Common.{◌≡◌, ℕ, zero, suc, ◌+◌, ◌<◌, ◌≤◌, true, false, List, [], ◌∷◌, length, get_or, None, sym, refl, ⊎_elim, arith}
use Rattle.std.specs.List.{slice_get}
use Rattle.std.proofs.lemmas.List.{get_or_read}
use Rattle.std.proofs.lemmas.Bool.{and_parts, both_ways, cases_Bool, cases_lt, cases_order, not-true}
use Rattle.tables.specs.Rules.{Rules, TotalOrder, same, look, Rising, AllBefore, NoneBefore, AllAfter, Stands, Belongs}

module _ {R K : Type 0} (rules : Rules R K) (order : TotalOrder rules.less) where
  pub not_after : (a b : K) → rules.less a b ≡ true → rules.less b a ≡ false
  not_after a b h =
      ⊎_elim {C = rules.less b a ≡ false}
      (λ (back : rules.less b a ≡ true). absurd (both_ways _ (order.irreflexive a) (order.transitive a b a h back)))
      (λ (e : rules.less b a ≡ false). e)
      (cases_Bool (rules.less b a))

  pub not_same_before : (a b : K) → rules.less a b ≡ true → same rules a b ≡ false
  not_same_before a b h = rw h

  pub not_same_after : (a b : K) → rules.less b a ≡ true → same rules a b ≡ false
  not_same_after a b h = rw (h, not_after b a h)

  pub same_equal : (a b : K) → a ≡ b → same rules a b ≡ true
  same_equal a b e = rw (e, order.irreflexive b)

  pub not_same : (a b : K) → (b ≡ a → ⊥) → same rules a b ≡ false
  not_same a b other =
      ⊎_elim {C = same rules a b ≡ false}
      (λ (t : same rules a b ≡ true).
      let parts = and_parts _ _ t in
      absurd (other (sym (order.total a b (not-true _ parts.0) (not-true _ parts.1)))))
      (λ (f : same rules a b ≡ false). f)
      (cases_Bool _)

  -- one row at m decides for all rows on one side of it
  module _ (rows : List R) (k : K) (m : ℕ) (x : R) (rising : Rising rules rows) (within : m < length rows) (is : x ≡ get_or rows m x) where
    pub before_up_to : rules.less (rules.key x) k ≡ true → AllBefore rules rows k (m + 1)
    before_up_to h i d lt =
        let here : x ≡ get_or rows m d = get_or_read rows m x within is d in
        ⊎_elim {C = rules.less (rules.key (get_or rows i d)) k ≡ true}
        (λ (e : i ≡ m). rw (e, ← here) h)
        (⊎_elim {C = rules.less (rules.key (get_or rows i d)) k ≡ true}
        (λ (l : i < m). order.transitive _ (rules.key x) k (rw here (rising i m d l within)) h)
        (λ (l : m < i). absurd (omega arith)))
        (cases_order i m)

    pub none_before_from : rules.less (rules.key x) k ≡ false → NoneBefore rules rows k m
    none_before_from h i d le lt =
        let here : x ≡ get_or rows m d = get_or_read rows m x within is d in
        ⊎_elim {C = rules.less (rules.key (get_or rows i d)) k ≡ false}
        (λ (e : i ≡ m). rw (e, ← here) h)
        (⊎_elim {C = rules.less (rules.key (get_or rows i d)) k ≡ false}
        (λ (l : i < m). absurd (omega arith))
        (λ (l : m < i).
        ⊎_elim {C = rules.less (rules.key (get_or rows i d)) k ≡ false}
        (λ (t : rules.less (rules.key (get_or rows i d)) k ≡ true). absurd (both_ways _ h (order.transitive (rules.key x) _ k (rw here (rising m i d l lt)) t)))
        (λ (f : rules.less (rules.key (get_or rows i d)) k ≡ false). f)
        (cases_Bool _)))
        (cases_order i m)

    pub after_from : rules.less k (rules.key x) ≡ true → AllAfter rules rows k m
    after_from h i d le lt =
        let here : x ≡ get_or rows m d = get_or_read rows m x within is d in
        ⊎_elim {C = rules.less k (rules.key (get_or rows i d)) ≡ true}
        (λ (e : i ≡ m). rw (e, ← here) h)
        (⊎_elim {C = rules.less k (rules.key (get_or rows i d)) ≡ true}
        (λ (l : i < m). absurd (omega arith))
        (λ (l : m < i). order.transitive k (rules.key x) _ h (rw here (rising m i d l lt))))
        (cases_order i m)

  look_none : (rows : List R) (k : K) → ((i : ℕ) (d : R) → i < length rows → same rules (rules.key (get_or rows i d)) k ≡ false) → look rules rows k ≡ None
  look_none [] k other = refl
  look_none (x ∷ rows) k other = rw (other 0 x (omega arith)) (look_none rows k (λ i d lt. other (suc i) d (omega arith)))

  look_at : (rows : List R) (k : K) (place : ℕ) → place < length rows → ((i : ℕ) (d : R) → i < place → same rules (rules.key (get_or rows i d)) k ≡ false) → ((d : R) → same rules (rules.key (get_or rows place d)) k ≡ true) → look rules rows k ≡ slice_get rows place
  look_at [] k place lt other here = absurd (omega arith)
  look_at (row ∷ rows) k zero lt other here = rw (here row)
  look_at (row ∷ rows) k (suc place) lt other here =
      rw (other 0 row (omega arith)) (look_at rows k place (omega arith) (λ i d l. other (suc i) d (omega arith)) here)

  pub belongs : (rows : List R) (k : K) (place : ℕ) → place ≤ length rows → AllBefore rules rows k place → AllAfter rules rows k place → Belongs rules rows k place
  belongs rows k place within below above = record {
    within = within;
    below = below;
    above = above;
    looked = look_none rows k (λ i d lt.
        ⊎_elim {C = same rules (rules.key (get_or rows i d)) k ≡ false}
        (λ (l : i < place). not_same_before _ k (below i d l))
        (λ (l : place ≤ i). not_same_after _ k (above i d l lt))
        (cases_lt i place));
  }

  pub stands : (rows : List R) (k : K) (place : ℕ) → place < length rows → AllBefore rules rows k place → ((d : R) → rules.key (get_or rows place d) ≡ k) → Stands rules rows k place
  stands rows k place within below keyed = record {
    within = within;
    keyed = keyed;
    looked = look_at rows k place within (λ i d l. not_same_before _ k (below i d l)) (λ d. same_equal _ k (keyed d));
  }
