-- Tables: what they hold, when they are sound, when they refuse and what a change leaves. Assumes nothing.
use Rattle.std.specs.Prelude.{◌≡◌, ℕ, ◌+◌, ◌<◌, ◌≤◌, min, Bool, cond, List, length, take, drop, is_some, Some, None, Ok, Err, Option, Result, ◌≢◌, nat_lt}
use Rattle.std.specs.List.{insert}
use Rattle.fault.specs.declared.cause.Fault.{Fault}
use Rattle.tables.specs.Rules.{Rules, look, with_row, without, exchanged, Rising, Stands, Belongs}
use Rattle.tables.specs.declared.keyed.Table.{Table}

module _ {R K : Type 0} where
  -- all of the lent memory
  abbrev pub memory : Table R K → List R
  memory t = t.rows.now

  -- the live rows
  abbrev pub live : Table R K → List R
  live t = take t.len (memory t)

  -- the memory past the live rows is as it was
  pub record Keeps (t t' : Table R K) : Type 0 where
    pub size : length (memory t') ≡ length (memory t)
    pub beyond : drop (length (live t')) (memory t') ≡ drop (length (live t')) (memory t)

  module _ (rules : Rules R K) where
    -- every table that a caller can hold is sound: `new` and `empty` make it so, and every method keeps it
    pub record Sound (t : Table R K) : Type 0 where
      pub rising : Rising rules (live t)
      pub within : length (live t) ≤ rules.most

    -- what every change leaves: the same memory, in which only live rows were touched, and a sound table if it was one
    pub record Stays (t t' : Table R K) : Type 0 where
      pub kept : Keeps t t'
      pub sound : Sound t → Sound t'
      pub lent : t'.rows.ghost_name ≡ t.rows.ghost_name

    -- the row with a key
    abbrev pub row_with : Table R K → K → Option R
    row_with t k = look rules (live t) k

    -- whether there is place for one row more
    abbrev pub has_place : Table R K → Bool
    has_place t = nat_lt (length (live t)) (min rules.most (length (memory t)))

    -- why no row with key k goes in: the first cause that holds
    abbrev pub insert_refusal : Table R K → K → Option Fault
    insert_refusal t k = cond (is_some (row_with t k)) (Some (rules.present k)) (cond (has_place t) None (Some (rules.full k)))

    -- why the row with key k is not to be had
    abbrev pub absence : Table R K → K → Option Fault
    absence t k = cond (is_some (row_with t k)) None (Some (rules.absent k))

    -- a look-up of k answers w now, and of every other key what it answered before
    pub record Sets (t t' : Table R K) (k : K) (w : Option R) : Type 0 where
      pub at : row_with t' k ≡ w
      pub other : (q : K) → (q ≢ k) → row_with t' q ≡ row_with t q

    -- the place of the row with key k, or the fault that no row has it
    abbrev pub Seeks : Table R K → K → Result ℕ Fault → Type 0
    Seeks t k (Ok place) = (absence t k ≡ None) × Stands rules (live t) k place
    Seeks t k (Err e) = absence t k ≡ Some e

    -- a place of the live rows, with room for one row more
    pub record Free (t : Table R K) (place : ℕ) : Type 0 where
      pub among : place ≤ length (live t)
      pub room : length (live t) < length (memory t)
      pub below_most : length (live t) < rules.most

    -- the place for a row with key k, or why none goes in
    abbrev pub Places : Table R K → K → Result ℕ Fault → Type 0
    Places t k (Ok place) = (insert_refusal t k ≡ None) × Belongs rules (live t) k place
    Places t k (Err e) = insert_refusal t k ≡ Some e

    pub record Inserted (t : Table R K) (row : R) (place : ℕ) (t' : Table R K) : Type 0 where
      pub accepted : insert_refusal t (rules.key row) ≡ None
      pub rows : live t' ≡ with_row rules row (live t)
      pub count : length (live t') ≡ length (live t) + 1
      pub placed : live t' ≡ insert (live t) place row
      pub stands : Stands rules (live t') (rules.key row) place
      pub looks : Sets t t' (rules.key row) (Some row)

    abbrev pub Inserts : Table R K → R → Result ℕ Fault → Table R K → Type 0
    Inserts t row (Ok place) t' = Inserted t row place t'
    Inserts t row (Err e) t' = insert_refusal t (rules.key row) ≡ Some e

    pub record Removed (t : Table R K) (k : K) (row : R) (t' : Table R K) : Type 0 where
      pub accepted : absence t k ≡ None
      pub was : row_with t k ≡ Some row
      pub rows : live t' ≡ without rules k (live t)
      pub count : length (live t') + 1 ≡ length (live t)
      pub looks : Sets t t' k None

    abbrev pub Removes : Table R K → K → Result R Fault → Table R K → Type 0
    Removes t k (Ok row) t' = Removed t k row t'
    Removes t k (Err e) t' = absence t k ≡ Some e

    pub record Replaced (t : Table R K) (row : R) (old : R) (t' : Table R K) : Type 0 where
      pub accepted : absence t (rules.key row) ≡ None
      pub was : row_with t (rules.key row) ≡ Some old
      pub rows : live t' ≡ exchanged rules row (live t)
      pub count : length (live t') ≡ length (live t)
      pub looks : Sets t t' (rules.key row) (Some row)

    abbrev pub Replaces : Table R K → R → Result R Fault → Table R K → Type 0
    Replaces t row (Ok old) t' = Replaced t row old t'
    Replaces t row (Err e) t' = absence t (rules.key row) ≡ Some e
