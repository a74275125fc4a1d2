-- All live rows rewritten where they stand, under the keys that they have. Assumes nothing.
use Rattle.std.proofs.Common.{◌≡◌, ℕ, zero, suc, List, [], ◌∷◌, ◌++◌, map, length, get_or, take, drop, Ok, Err, Result, sym, refl, ap, ◌∙◌, subst, arith, length-append, length-drop, take-append-drop, length-take}
use Rattle.std.proofs.lemmas.List.{drop_at, length-map}
use Rattle.fault.specs.declared.cause.Fault.{Fault}
use Rattle.allocation.specs.Along.{along}
use Rattle.tables.specs.declared.keyed.Table.{Table}
use Rattle.tables.specs.Rules.{Rules}
use Rattle.tables.specs.Tables.{Keeps, Sound, Stays, live, memory}
use Rattle.tables.proofs.Outcomes.{front_live}

-- the memory after a change: its first rows rewritten by F, or, after a refusal, as they were
abbrev pub Fronted : {R A : Type 0} → (List R → List R) → List R → List R → List R → Result A Fault → Type 0
Fronted F front rest new (Ok _) = new ≡ F front ++ rest
Fronted F front rest new (Err _) = new ≡ front ++ rest

-- a change that is never refused
abbrev pub done : Result ℕ Fault
done = Ok 0

take_front : {R : Type 0} (n : ℕ) (mem rows : List R) → length rows ≡ length (take n mem) → take n (rows ++ drop (length (take n mem)) mem) ≡ rows
take_front zero mem [] long = refl
take_front zero mem (row ∷ rows) long = absurd (omega arith)
take_front (suc n) [] [] long = refl
take_front (suc n) [] (row ∷ rows) long = absurd (omega arith)
take_front (suc n) (x ∷ mem) [] long = absurd (omega arith)
take_front (suc n) (x ∷ mem) (row ∷ rows) long = ap (λ l. row ∷ l) (take_front n mem rows (omega arith))

-- a table is its memory and its length
same_table : {R K : Type 0} (t t' : Table R K) → t'.rows ≡ t.rows → t'.len ≡ t.len → t' ≡ t
same_table t t' r l = λ i. record { rows = r i; len = l i }

-- memory that was written anew at the front holds those rows, and past them what it held
record Wrote {R K : Type 0} (t t' : Table R K) (rows : List R) : Type 0 where
  live_rows : live t' ≡ rows
  kept : Keeps t t'

wrote_front : {R K : Type 0} (t t' : Table R K) (rows : List R) → length rows ≡ length (live t) → memory t' ≡ rows ++ drop (length (live t)) (memory t) → t'.len ≡ t.len → Wrote t t' rows
wrote_front t t' rows long is counted =
    let n = length (live t) in
    let front : live t' ≡ rows = rw (counted, is) (take_front t.len (memory t) rows long) in
    let count : length (live t') ≡ n = ap length front ∙ long in
    record {
      live_rows = front;
      kept = record {
        size = ap length is ∙ length-append rows (drop n (memory t)) ∙ omega (arith, long, length-drop n (memory t), length-take t.len (memory t));
        beyond = rw (count, is) (drop_at rows (drop n (memory t)) n long);
      };
    }

module _ {R K : Type 0} (rules : Rules R K) where
  -- at each place the key that the row there had
  pub record SameKeys (xs ys : List R) : Type 0 where
    pub long : length ys ≡ length xs
    pub keys : (i : ℕ) (d : R) → rules.key (get_or ys i d) ≡ rules.key (get_or xs i d)

  sound_same : (t t' : Table R K) (rows : List R) → live t' ≡ rows → SameKeys (live t) rows → Sound rules t → Sound rules t'
  sound_same t t' rows is same sound = record {
    rising = rw is (λ i j d lt within. rw (same.keys i d, same.keys j d) (sound.rising i j d lt (omega (arith, same.long))));
    within = rw is (omega (arith, same.long, sound.within));
  }

  pub map_keys : (f : R → R) → ((x : R) → rules.key (f x) ≡ rules.key x) → (xs : List R) → SameKeys xs (map f xs)
  map_keys f same xs = record { long = length-map xs f; keys = at xs }
    where
      at : (xs : List R) (i : ℕ) (d : R) → rules.key (get_or (map f xs) i d) ≡ rules.key (get_or xs i d)
      at [] i d = refl
      at (x ∷ xs) zero d = same x
      at (x ∷ xs) (suc i) d = at xs i d

  pub along_keys : {S : Type 0} (next : S → R → S) (out : S → R → R) → ((s : S) (x : R) → rules.key (out s x) ≡ rules.key x) → (s : S) (xs : List R) → SameKeys xs (along next out s xs)
  along_keys {S} next out same s xs = record { long = long_as s xs; keys = at s xs }
    where
      long_as : (s : S) (xs : List R) → length (along next out s xs) ≡ length xs
      long_as s [] = refl
      long_as s (x ∷ xs) = ap suc (long_as (next s x) xs)

      at : (s : S) (xs : List R) (i : ℕ) (d : R) → rules.key (get_or (along next out s xs) i d) ≡ rules.key (get_or xs i d)
      at s [] i d = refl
      at s (x ∷ xs) zero d = same s x
      at s (x ∷ xs) (suc i) d = at (next s x) xs i d

  -- the first n rows of the memory, which are the live ones, rewritten by F
  module _ (F : List R → List R) (same : (xs : List R) → SameKeys xs (F xs)) (t t' : Table R K) (n : ℕ) (n-is : n ≡ length (live t)) (new : List R)
      (r : t'.rows ≡ record { ref_ptr = t.rows.ref_ptr; ghost_name = t.rows.ghost_name; now = new }) (l : t'.len ≡ t.len) where
    rewrote : new ≡ F (take n (memory t)) ++ drop n (memory t) → Wrote t t' (F (live t))
    rewrote is =
        let front = front_live t n n-is in
        wrote_front t t' (F (live t)) (same (live t)).long (ap (λ (m : _). m.now) r ∙ is ∙ ap (λ l. F l ++ drop n (memory t)) front ∙ ap (λ m. F (live t) ++ drop m (memory t)) n-is) l

    module _ {A : Type 0} where
      -- or, after a refusal, nothing changed
      pub ends : (result : Result A Fault) → Fronted F (take n (memory t)) (drop n (memory t)) new result → elim result as (λ _. Type 0) [ Ok _ ↦ live t' ≡ F (live t) | Err _ ↦ t' ≡ t ]
      ends (Ok a) is = (rewrote is).live_rows
      ends (Err e) is = same_table t t' (r ∙ ap (λ (m : List R). record { ref_ptr = t.rows.ref_ptr; ghost_name = t.rows.ghost_name; now = m }) (is ∙ take-append-drop n (memory t))) l

      pub stays : (result : Result A Fault) → Fronted F (take n (memory t)) (drop n (memory t)) new result → Stays rules t t'
      stays (Ok a) is = record {
        kept = (rewrote is).kept;
        sound = sound_same t t' (F (live t)) (rewrote is).live_rows (same (live t));
        lent = ap (λ (m : _). m.ghost_name) r;
      }
      stays (Err e) is = subst (Stays rules t) (sym (ends (Err e) is)) (record { kept = record { size = refl; beyond = refl }; sound = λ s. s; lent = refl })
