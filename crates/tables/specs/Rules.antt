-- What rows say of themselves, and lists of rows in the order of their keys. Assumes nothing.
use Rattle.std.specs.Prelude.{◌≡◌, ℕ, ◌<◌, ◌≤◌, Bool, true, false, cond, not, ◌&&◌, List, [], ◌∷◌, length, Some, None, Ok, Err, Option, Result, slice_index_or}
use Rattle.std.specs.List.{slice_get}
use Rattle.fault.specs.declared.cause.Fault.{Fault}

-- Rows of type R with keys of type K.
pub record Rules (R K : Type 0) : Type 0 where
  -- the key of a row
  pub key : R → K
  -- whether one key comes before another
  pub less : K → K → Bool
  -- the most rows that a table may hold, however much memory it is lent
  pub most : ℕ
  -- the fault of a key that a row has already
  pub present : K → Fault
  -- the fault of a key that no row has
  pub absent : K → Fault
  -- the fault of a key for whose row there is no place
  pub full : K → Fault

pub record TotalOrder {K : Type 0} (less : K → K → Bool) : Type 0 where
  pub irreflexive : (a : K) → less a a ≡ false
  pub transitive : (a b c : K) → less a b ≡ true → less b c ≡ true → less a c ≡ true
  pub total : (a b : K) → less a b ≡ false → less b a ≡ false → a ≡ b

-- a place of a row, or at most one past the last
abbrev pub PlaceWithin : {R : Type 0} → List R → Result ℕ ℕ → Type 0
PlaceWithin rows (Ok place) = place < length rows
PlaceWithin rows (Err place) = place ≤ length rows

module _ {R K : Type 0} (rules : Rules R K) where
  -- neither of two keys comes before the other
  abbrev pub same : K → K → Bool
  same a b = not (rules.less a b) && not (rules.less b a)

  -- the row with a key
  abbrev pub look : List R → K → Option R
  look [] k = None
  look (row ∷ rows) k = cond (same (rules.key row) k) (Some row) (look rows k)

  -- the rows with one more, which stands before the first row whose key comes after its own
  abbrev pub with_row : R → List R → List R
  with_row new [] = new ∷ []
  with_row new (row ∷ rows) = cond (rules.less (rules.key new) (rules.key row)) (new ∷ row ∷ rows) (row ∷ with_row new rows)

  -- the rows without the one with a key
  abbrev pub without : K → List R → List R
  without k [] = []
  without k (row ∷ rows) = cond (same (rules.key row) k) rows (row ∷ without k rows)

  -- the rows with a new one in place of the one with its key
  abbrev pub exchanged : R → List R → List R
  exchanged new [] = []
  exchanged new (row ∷ rows) = cond (same (rules.key row) (rules.key new)) (new ∷ rows) (row ∷ exchanged new rows)

  -- the keys rise, so that each stands once
  abbrev pub Rising : List R → Type 0
  Rising rows = (i j : ℕ) (d : R) → i < j → j < length rows → rules.less (rules.key (slice_index_or rows i d)) (rules.key (slice_index_or rows j d)) ≡ true

  -- the keys below the place come before k
  abbrev pub AllBefore : List R → K → ℕ → Type 0
  AllBefore rows k place = (i : ℕ) (d : R) → i < place → rules.less (rules.key (slice_index_or rows i d)) k ≡ true

  -- no key from the place on comes before k
  abbrev pub NoneBefore : List R → K → ℕ → Type 0
  NoneBefore rows k place = (i : ℕ) (d : R) → place ≤ i → i < length rows → rules.less (rules.key (slice_index_or rows i d)) k ≡ false

  -- the keys from the place on come after k
  abbrev pub AllAfter : List R → K → ℕ → Type 0
  AllAfter rows k place = (i : ℕ) (d : R) → place ≤ i → i < length rows → rules.less k (rules.key (slice_index_or rows i d)) ≡ true

  -- a row with key k stands at the place
  pub record Stands (rows : List R) (k : K) (place : ℕ) : Type 0 where
    pub within : place < length rows
    pub keyed : (d : R) → rules.key (slice_index_or rows place d) ≡ k
    pub looked : look rows k ≡ slice_get rows place

  -- no row has key k, and such a row would go to the place
  pub record Belongs (rows : List R) (k : K) (place : ℕ) : Type 0 where
    pub within : place ≤ length rows
    pub below : AllBefore rows k place
    pub above : AllAfter rows k place
    pub looked : look rows k ≡ None

  -- what a search answers
  abbrev pub Found : List R → K → Result ℕ ℕ → Type 0
  Found rows k (Ok place) = Stands rows k place
  Found rows k (Err place) = Belongs rows k place
